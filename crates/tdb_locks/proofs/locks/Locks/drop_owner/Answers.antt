use Rattle.std.proofs.Common.{arith, not, ◌==◌, rules}
use Rattle.std.proofs.lemmas.Fn.{filter_same}
use Rattle.tdb_locks.proofs.Holding.{held-dropped, held-kept}
use Rattle.tdb_locks.proofs.Tables.{IsTable-filter}
use Rattle.tdb_locks.proofs.locks.Locks.drop_owner.Goals as goal

pub returns-clause-table : goal.returns-clause-table
returns-clause-table c = rw (← c.self.view_is) (filter_same _ (λ p. not (p.owner == c.args.owner)) _ (λ x b q says. search rules) _ _ c.retain.ensures.filtered)

pub invariant_of-self : goal.invariant_of-self
invariant_of-self c =
    let kept = filter_same _ (λ p. not (p.owner == c.args.owner)) _ (λ x b q says. search rules) _ _ c.retain.ensures.filtered in
    (rw kept (IsTable-filter _ _ c.self.invariant.0), omega (arith, c.self.invariant.1, c.retain.ensures.bound))

pub returns-clause-gone : goal.returns-clause-gone
returns-clause-gone c = λ byte. rw (returns-clause-table c) (held-dropped c.args.owner byte c.args.self.now)

pub returns-clause-others : goal.returns-clause-others
returns-clause-others c = λ other byte differs. rw (returns-clause-table c) (held-kept c.args.owner other byte c.args.self.now differs)
