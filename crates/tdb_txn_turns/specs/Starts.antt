-- The turns of an outer Start.
use Rattle.std.specs.Prelude.{ℕ, ◌+◌, ◌≡◌, ◌<◌, [], false}
use Rattle.tdb_disk.specs.History.{History, seen}
use Rattle.tdb_disk.specs.Stop.{Quiet}
use Rattle.tdb_space.specs.Form.{Form}
use Rattle.tdb_law.specs.Commands.{Reply, Turn}
use Rattle.tdb_txn.specs.Txn.{txn_pages, txn_start, txn_size, txn_form, txn_depth, txn_doomed, txn_image}
use Rattle.tdb_txn.specs.declared.txn.Txn.{Txn}
use Rattle.tdb_txn_turns.specs.declared.starting.Starting.{Starting}
use Rattle.tdb_txn_turns.specs.declared.starting.Starting.TheVariants.{Begun, Claimed, Reading}
use Rattle.tdb_txn_turns.specs.declared.starting.StartTurn.{StartTurn}
use Rattle.tdb_txn_turns.specs.declared.starting.StartTurn.TheVariants.{Step, Blocked, Memory, Done}

-- how many steps a Start has had
abbrev pub start_steps : Starting → ℕ
start_steps Begun = 0
start_steps Claimed = 1
start_steps Reading = 2

-- a turn of it, as a turn of a world
abbrev pub start_turn : StartTurn → Turn
start_turn (Step next) = Turn.Step
start_turn (Blocked owner byte) = Turn.Blocked owner byte
start_turn Memory = Turn.Ends Reply.Memory
start_turn (Done txn) = Turn.Ends Reply.Done

-- a transaction that has just begun on a file of this form and length
pub record IsNewTxn (f : Form) (len : ℕ) (txn : Txn) : Type 0 where
  pub pages : txn_pages txn ≡ []
  pub start : txn_start txn ≡ len
  pub size : txn_size txn ≡ len
  pub form : txn_form txn ≡ f
  pub depth : txn_depth txn ≡ 0
  pub doomed : txn_doomed txn ≡ false

-- The turns in their order: the first two lock, and step, are blocked, or end for want of memory; the third ends with
-- the transaction.
abbrev pub StartLeads : Form → ℕ → Starting → StartTurn → Type 0
StartLeads f len s (Step next) = start_steps next ≡ start_steps s + 1
StartLeads f len s (Blocked owner byte) = start_steps s < 2
StartLeads f len s Memory = start_steps s < 2
StartLeads f len s (Done txn) = (start_steps s ≡ 2) × IsNewTxn f len txn

-- a file with a transaction that has just begun: a stop leaves what a read gives, which is what it gave before, and
-- what the transaction shows
pub record BegunOn (old new : History) (txn : Txn) : Type 0 where
  pub quiet : Quiet new
  pub same : seen new ≡ seen old
  pub image : txn_image txn (seen new) ≡ seen new

-- what a turn does to the file: only the last makes a call
abbrev pub StartMade : History → History → StartTurn → Type 0
StartMade old new (Done txn) = BegunOn old new txn
StartMade old new _ = new ≡ old
