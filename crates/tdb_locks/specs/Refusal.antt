-- Why a lock was refused.
use Rattle.std.specs.Prelude.{List, ℕ}
use Rattle.tdb_locks.specs.LockTable.{IsFirstConflict, IsFree}
use Rattle.tdb_locks.specs.declared.kind.Kind.{Kind}
use Rattle.tdb_locks.specs.declared.locks.LockRefusal.TheVariants.{Conflict, Memory}
use Rattle.tdb_locks.specs.declared.locks.LockRefusal.{LockRefusal}
use Rattle.tdb_locks.specs.declared.piece.Piece.{Piece}

-- a conflict is named exactly where there is one, and then it is the first; for want of memory a lock is refused only
-- where there is none
abbrev pub IsRefusal : List Piece → ℕ → ℕ → ℕ → Kind → LockRefusal → Type 0
IsRefusal ps owner start end want (Conflict other byte kind) = IsFirstConflict ps owner start end want other byte kind
IsRefusal ps owner start end want Memory = IsFree ps owner start end want
