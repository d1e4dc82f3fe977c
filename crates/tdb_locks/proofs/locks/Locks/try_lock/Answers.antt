use Rattle.tdb_locks.proofs.Holding.{ChangesRange-with_piece}
use Rattle.tdb_locks.proofs.Tables.{IsPiece-range, IsTable-with_piece}
use Rattle.tdb_locks.proofs.locks.Locks.try_lock.Goals as goal

pub invariant_of-self-2 : goal.invariant_of-self-2
invariant_of-self-2 c = (rw (c.in_ok-put.ensures.ok, c.end_from-end.ensures) (IsTable-with_piece _ _ _ _ _ c.requires c.self.invariant.0), c.put.ensures.count)

pub returns-clause-held : goal.returns-clause-held
returns-clause-held c =
    rw (c.in_ok-put.ensures.ok, c.end_from-end.ensures, ← c.self.view_is)
    (ChangesRange-with_piece _ _ _ _ (IsPiece-range c.args.owner c.args.start c.args.len c.args.kind c.requires).has_bytes c.args.kind)
