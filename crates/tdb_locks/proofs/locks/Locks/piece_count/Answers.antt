use Rattle.tdb_locks.proofs.Finding.{HeldByPieces-table}
use Rattle.tdb_locks.proofs.locks.Locks.piece_count.Goals as goal

pub returns-clause-held : goal.returns-clause-held
returns-clause-held c = rw (← c.self.view_is) (HeldByPieces-table _ c.self.invariant.0)
