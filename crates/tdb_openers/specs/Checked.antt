-- A check that is done turn by turn.
use Rattle.std.specs.Prelude.{ℕ, ◌≡◌, ◌≤◌, ◌+◌, ◌⊎◌, List, length, Some}
use Rattle.tdb_space.specs.Form.{Form}
use Rattle.tdb_space.specs.Pairs.{order_of}
use Rattle.tdb_locks.specs.HeldLocks.{HeldLocks}
use Rattle.tdb_locks.specs.LockTable.{IsFree, IsFirstConflict}
use Rattle.tdb_locks.specs.declared.kind.Kind.{Kind}
use Rattle.tdb_locks.specs.declared.kind.Kind.TheVariants.{Read}
use Rattle.tdb_locks.specs.declared.piece.Piece.{Piece}
use Rattle.tdb_locks.specs.declared.turn.Reply.{Reply}
use Rattle.tdb_locks.specs.declared.turn.Turn.{Turn}
use Rattle.tdb_locks.specs.declared.turn.Turn.TheVariants.{Step, Blocked, Done}
use Rattle.std.specs.FinMap.{len}
use Rattle.tdb_law.specs.Openers.{Map}
use Rattle.tdb_steps.specs.LockRows.{start_of, end_of, AreLetGo}
use Rattle.tdb_steps.specs.declared.rows.LockRow.{LockRow}
use Rattle.tdb_steps.specs.declared.rows.Region.TheVariants.{AllRecords, FreeList as FreeRegion}
use Rattle.tdb_steps.specs.declared.rows.Rows.{Rows}
use Rattle.tdb_openers.specs.declared.job.Checking.{Checking}
use Rattle.tdb_openers.specs.declared.job.Checking.TheVariants.{Counted}
use Rattle.tdb_openers.specs.Openers.{CheckAfter}
use Rattle.tdb_openers.specs.Locked.{IsTaken}

-- the locks of a check: all records for reading, and then the free list
abbrev pub all_lock : LockRow
all_lock = record { turn = 0; region = AllRecords; kind = Read }

abbrev pub free_lock : LockRow
free_lock = record { turn = 1; region = FreeRegion; kind = Read }

abbrev pub check_locks : Rows
check_locks = record { first = all_lock; second = Some free_lock }

-- A turn that takes a lock of a check: it is taken or was covered; or the turn is blocked by the first conflict, and
-- nothing changes; or memory is wanting, and all is let go.
abbrev pub CheckLocks : HeldLocks → ℕ → List Piece → List Piece → LockRow → Turn → Type 0
CheckLocks held owner old new r Step = IsTaken held owner old new r
CheckLocks held owner old new r (Blocked other byte) = (new ≡ old) × ((kind : Kind) × IsFirstConflict old owner (start_of r.region) (end_of r.region) r.kind other byte kind)
CheckLocks held owner old new r (Done reply) = (reply ≡ Reply.Memory) × IsFree old owner (start_of r.region) (end_of r.region) r.kind × AreLetGo held owner old new check_locks

-- what a turn leaves of a check, and that its reply is the number that it has counted, or that memory is wanting
abbrev pub CheckLeaves : Checking → Checking → Turn → Type 0
CheckLeaves old new Step = (n : ℕ) → CheckAfter old n → (n + 1 ≤ 3) × CheckAfter new (n + 1)
CheckLeaves old new (Blocked other byte) = new ≡ old
CheckLeaves old new (Done reply) = (reply ≡ Reply.Memory) ⊎ ((keys : ℕ) × (old ≡ Counted keys) × (reply ≡ Reply.Number keys))

-- a check that has counted has as many keys as the image has pairs
abbrev pub HasCounted : Form → List ℕ → Checking → Type 0
HasCounted f img (Counted keys) = keys ≡ length (order_of f img)
HasCounted f img checking = Unit {0}

-- and as many as a map
abbrev pub HasKeys : Checking → Map → Type 0
HasKeys (Counted keys) m = keys ≡ len m
HasKeys checking m = Unit {0}

-- a turn that takes a lock leads a check on
abbrev pub MovesOn : Checking → Checking → Checking → Turn → Type 0
MovesOn old next new Step = new ≡ next
MovesOn old next new (Blocked other byte) = new ≡ old
MovesOn old next new (Done reply) = Unit {0}
