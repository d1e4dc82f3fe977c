-- What turns leave of a world in parts, the ends by which a command changes nothing, and those by which it leaves a
-- cursor on no record.
use Rattle.std.specs.Prelude.{ℕ, List, ◌≡◌, ◌⊎◌, false, Option, Some, None}
use Rattle.tdb_space.specs.Form.{Form}
use Rattle.tdb_law.specs.Commands.{WalkCommand, Command, Reply, Turn}
use Rattle.tdb_law.specs.Commands.LockCommand.{ChainLockNb}
use Rattle.tdb_law.specs.Commands.WalkCommand.{Next, EndWalk, Close}
use Rattle.tdb_law.specs.Commands.Command.{OnGroup, OnLocks, Seqnum, OnWalk}
use Rattle.tdb_law.specs.Commands.Reply.{Busy, Done, End, Number}
use Rattle.tdb_law.specs.Openers.{Task}
use Rattle.tdb_law.specs.Refusals.{Refusal, refusal, says}
use Rattle.tdb_law.specs.Outcomes.{moves, own_refused, own_walked}
use Rattle.tdb_law.specs.Counting.{settled_after}
use Rattle.tdb_law.specs.World.{State}
use Rattle.tdb_law.specs.Effects.{IsFree, IsFirstConflict}
use Rattle.tdb_law.specs.Turned.{want}
use Rattle.tdb_law.specs.OneAside.Sides.{Past, Side, but_at}

-- a command that is on no transaction
abbrev pub IsUngrouped : Command → Type 0
IsUngrouped (OnGroup g) = ⊥
IsUngrouped c = Unit {0}

-- A command that begins and ends no transaction: it is on none, or its opener's own state refuses it.
abbrev pub IsApart : Option Refusal → Command → Type 0
IsApart None c = IsUngrouped c
IsApart (Some why) c = Unit {0}

-- what a plain state doesn't have, after a turn: the images keep their numbers, and the turn may unsettle the world
abbrev pub past_after : Form → State → ℕ → Task → Turn → Past → Past
past_after f p who t turn past = record past { settled = settled_after f t.command (p.own who) t.steps turn past.settled }

-- The opener aside is no matter to the next turn of a command: it doesn't shut the others out, or the command neither
-- moves a cursor nor has a dead record to purge; and it doesn't hold the byte of the sequence number, or the command
-- doesn't want that.
pub record IsClear (f : Form) (p : State) (s : Side) (who : ℕ) (t : Task) : Type 0 where
  pub sight : (s.shuts ≡ false) ⊎ ((moves f t.command (p.own who) ≡ false) × ((p.view who).must ≡ false))
  pub number : (s.table 48 ≡ 0) ⊎ (want f p who t 48 ≡ 0)

-- the world where an opener's command has ended, and nothing else has changed
abbrev pub without_task : State → ℕ → State
without_task w who = record w { task = but_at who None w.task }

-- A command ends at its first turn with a reply, and changes nothing. It is refused, where it is no Commit or Prepare
-- of a transaction, which would end that; its lock is held by another, and it doesn't wait; it tells the file's
-- sequence number outside a transaction; or it is a Next of an opener without a cursor.
pub data EndsAtOnce (f : Form) (w : State) (who : ℕ) (t : Task) (r : Reply) : Type 0 where
  ends_refused : (why : Refusal) → refusal f t.command (w.own who) ≡ Some why → own_refused t.command (w.own who) ≡ w.own who → r ≡ says (w.own who) why → EndsAtOnce f w who t r
  ends_busy : (k : List ℕ) (owner byte : ℕ) → t.command ≡ OnLocks (ChainLockNb k) → refusal f t.command (w.own who) ≡ None → IsFirstConflict w.table who (want f w who t) owner byte → r ≡ Busy owner byte
      → EndsAtOnce f w who t r
  ends_numbered : t.command ≡ Seqnum → refusal f t.command (w.own who) ≡ None → (w.own who).txn ≡ None → IsFree w.table who (want f w who t) → r ≡ Number w.number → EndsAtOnce f w who t r
  ends_past : t.command ≡ OnWalk Next → refusal f t.command (w.own who) ≡ None → (w.own who).txn ≡ None → (w.own who).cursor ≡ None → r ≡ End → EndsAtOnce f w who t r

-- Nothing is left to do when an opener's cursor ends: it is outside a transaction, its cursor stands on no record, none
-- has to be purged, and no block has let go of its locks.
pub record LeavesNothing (w : State) (who : ℕ) : Type 0 where
  pub outside : (w.own who).txn ≡ None
  pub stands : (w.spot who).stands ≡ None
  pub near : (w.spot who).gone ≡ false
  pub clean : (w.view who).must ≡ false

-- the commands that end a cursor
abbrev pub IsLeave : WalkCommand → Type 0
IsLeave EndWalk = Unit {0}
IsLeave Close = Unit {0}
IsLeave w = ⊥

-- what an opener that holds so much still holds after one of them: after a Close nothing
abbrev pub held_after : WalkCommand → (ℕ → ℕ) → ℕ → ℕ
held_after Close held b = 0
held_after w held b = held b

-- the world where the command has ended that ended an opener's cursor, and by a Close the opener
abbrev pub without_cursor : WalkCommand → State → ℕ → State
without_cursor c w who = record (without_task w who) { own = but_at who (own_walked c (w.own who) Done) w.own; table = but_at who (held_after c (w.table who)) w.table }
