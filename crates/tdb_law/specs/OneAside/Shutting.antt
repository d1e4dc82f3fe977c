-- What an opener aside holds of the records, and what that leaves to the others.
use Rattle.std.specs.Prelude.{ℕ, ◌≡◌, ◌≤◌, ◌<◌, ◌^◌, true, false, Some, None, All}
use Rattle.tdb_space.specs.Form.{Form}
use Rattle.tdb_law.specs.Commands.{MapCommand}
use Rattle.tdb_law.specs.Commands.GroupCommand.{Start}
use Rattle.tdb_law.specs.Commands.Command.{OnMap, OnGroup}
use Rattle.tdb_law.specs.Openers.{Txn, Task}
use Rattle.tdb_law.specs.Refusals.{refusal}
use Rattle.tdb_law.specs.Rows.{Lock, locks}
use Rattle.tdb_law.specs.Held.{covers, is_gone}
use Rattle.tdb_law.specs.World.{State}
use Rattle.tdb_law.specs.OneAside.Sides.{Side}

-- It has a transaction, or has had two steps of the Start of one, the second of which takes all records.
pub data HasRecords (f : Form) (s : Side) : Type 0 where
  by_transaction : (txn : Txn) → s.own.txn ≡ Some txn → HasRecords f s
  by_start : (n : ℕ) → s.task ≡ Some (record { command = OnGroup Start; steps = n }) → 2 ≤ n → refusal f (OnGroup Start) s.own ≡ None → s.own.txn ≡ None → HasRecords f s

-- after so many steps a lock that covers a record is still to be taken
abbrev pub IsToCome : ℕ → Lock → Type 0
IsToCome n l = (b : ℕ) → 168 ≤ b → b < 2 ^ 63 → covers l b ≡ true → 1 ≤ l.strength → n ≤ l.turn

-- An opener that is shut out holds no record, and its cursor stands on none that a lock byte can be for. Of its command
-- each lock of records is still to come, unless a block has let go of them; and a command on the map that isn't refused
-- has had no step.
pub record IsShutOut (f : Form) (p : State) (who : ℕ) : Type 0 where
  pub holds : (b : ℕ) → 168 ≤ b → b < 2 ^ 63 → p.table who b ≡ 0
  pub stands : (place : ℕ) → (p.spot who).stands ≡ Some place → 2 ^ 63 ≤ place
  pub row : (t : Task) → p.task who ≡ Some t → is_gone t.command (p.spot who) ≡ false → All (IsToCome t.steps) (locks f t.command (p.own who) (p.spot who).purging)
  pub new : (c : MapCommand) (n : ℕ) → p.task who ≡ Some (record { command = OnMap c; steps = n }) → (p.own who).txn ≡ None → refusal f (OnMap c) (p.own who) ≡ None → n ≡ 0
