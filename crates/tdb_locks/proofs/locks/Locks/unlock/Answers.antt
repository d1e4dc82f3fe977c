use Rattle.tdb_locks.proofs.Finding.{whole-outside}
use Rattle.tdb_locks.proofs.Holding.{ChangesRange-without}
use Rattle.tdb_locks.proofs.Tables.{IsPiece-range, IsTable-without}
use Rattle.tdb_locks.specs.LockTable.{stop}
use Rattle.tdb_locks.specs.declared.kind.Kind.TheVariants.{Read}
use Rattle.tdb_locks.proofs.locks.Locks.unlock.Goals as goal

pub invariant_of-self-2 : goal.invariant_of-self-2
invariant_of-self-2 c = (rw (c.in_ok-take_out.ensures.ok, c.end_from-end.ensures) (IsTable-without _ _ _ _ c.requires c.self.invariant.0), c.take_out.ensures.count)

pub returns-clause-held : goal.returns-clause-held
returns-clause-held c =
    rw (c.in_ok-take_out.ensures.ok, c.end_from-end.ensures, ← c.self.view_is)
    (ChangesRange-without _ _ _ _ (IsPiece-range c.args.owner c.args.start c.args.len Read c.requires).has_bytes)

pub returns-in_err-take_out-clause-whole : goal.returns-in_err-take_out-clause-whole
returns-in_err-take_out-clause-whole c = λ p stands whole.
    let inside = rw (c.end_from-end.ensures, c.self.view_is) at c.in_err-take_out.ensures.memory in
    absurd (whole-outside c.args.self.now c.args.owner c.args.start (stop c.args.start c.args.len) p inside.0 (rw (← c.self.view_is) c.self.invariant.0) stands whole inside.1)
