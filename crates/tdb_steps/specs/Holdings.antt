-- What an opener holds at each lock byte while it has a command: what the command has locked of its row, and what it
-- keeps besides.
use Rattle.std.specs.Prelude.{ℕ, ◌+◌, ◌≡◌, ◌≢◌, ◌≤◌, ◌<◌, max, List, true, false, Option, None, Some, IfSome}
use Rattle.tdb_locks.specs.HeldLocks.{HeldLocks}
use Rattle.tdb_locks.specs.LockTable.{held}
use Rattle.tdb_locks.specs.declared.kind.Kind.{Kind}
use Rattle.tdb_locks.specs.declared.piece.Piece.{Piece}
use Rattle.tdb_law.specs.Commands.{Turn}
use Rattle.tdb_law.specs.Commands.Turn.{Step, Blocked, Ends}
use Rattle.tdb_law.specs.Rows.{Lock}
use Rattle.tdb_law.specs.Held.{locked, locked_next}
use Rattle.tdb_law.specs.Effects.{IsFirstConflict, IsFree}
use Rattle.tdb_steps.specs.LockRows.{strength_of, start_of, end_of, is_covered, locks_in}
use Rattle.tdb_steps.specs.declared.rows.LockRow.{LockRow}
use Rattle.tdb_steps.specs.declared.rows.Rows.{Rows}

-- the strength with which an owner holds a byte: 0 for none
abbrev pub strength : Option Kind → ℕ
strength None = 0
strength (Some kind) = strength_of kind

abbrev pub table_of : List Piece → ℕ → ℕ → ℕ
table_of ps owner b = strength (held ps owner b)

-- What an opener keeps beside its command, at the bytes of a lock of its row: where its explicit locks cover that, it
-- keeps at least as much there, and else nothing.
pub record KeptBeside (locks : HeldLocks) (kept : ℕ → ℕ) (r : LockRow) : Type 0 where
  pub covered : is_covered locks r ≡ true → (b : ℕ) → start_of r.region ≤ b → b < end_of r.region → strength_of r.kind ≤ kept b
  pub bare : is_covered locks r ≡ false → (b : ℕ) → start_of r.region ≤ b → b < end_of r.region → kept b ≡ 0

-- Before a turn of a command that has had n steps: its opener holds what these steps have locked and what it keeps, and
-- no other opener's locks conflict with that.
pub record HoldsBefore (locks : HeldLocks) (kept : ℕ → ℕ) (owner n : ℕ) (ps : List Piece) (rows : Rows) : Type 0 where
  pub holds : (b : ℕ) → table_of ps owner b ≡ max (locked (locks_in rows) n b) (kept b)
  pub apart : (o b : ℕ) → o ≢ owner → table_of ps owner b + table_of ps o b ≤ 2
  pub first : KeptBeside locks kept rows.first
  pub second : IfSome rows.second (KeptBeside locks kept)

-- what the command has locked after a turn: one step more, the same, or nothing
abbrev pub locked_after : List Lock → ℕ → Turn → ℕ → ℕ
locked_after ls n Step b = locked ls (n + 1) b
locked_after ls n (Blocked o byte) b = locked ls n b
locked_after ls n (Ends r) b = 0

-- a turn is blocked by the first conflict of what it wants, and isn't where nothing conflicts
abbrev pub GoesRightly : List Piece → ℕ → (ℕ → ℕ) → Turn → Type 0
GoesRightly ps owner want Step = IsFree (table_of ps) owner want
GoesRightly ps owner want (Blocked o byte) = IsFirstConflict (table_of ps) owner want o byte
GoesRightly ps owner want (Ends r) = IsFree (table_of ps) owner want

-- What a turn does to the lock table: the opener holds what the command has locked after it and what it keeps, and
-- others hold what they held.
pub record LocksTurned (ls : List Lock) (kept : ℕ → ℕ) (owner n : ℕ) (old new : List Piece) (turn : Turn) : Type 0 where
  pub holds : (b : ℕ) → table_of new owner b ≡ max (locked_after ls n turn b) (kept b)
  pub others : (o b : ℕ) → o ≢ owner → table_of new o b ≡ table_of old o b
  pub rightly : GoesRightly old owner (locked_next ls n) turn
