-- What a call leads to, from each state that the world may have to one that it has afterwards.
use Rattle.std.specs.Prelude.{ℕ, ◌≡◌, ◌≢◌, ◌<◌, Some, None, true, false}
use Rattle.tdb_disk.specs.History.{History}
use Rattle.tdb_law.specs.Commands.{Command, Turn}
use Rattle.tdb_law.specs.Commands.Turn.{Blocked}
use Rattle.tdb_law.specs.Events.{Joins, Dies, Given, Undoes}
use Rattle.tdb_law.specs.OneAside.Starts.{new_start}
use Rattle.tdb_law.specs.Openers.{Task}
use Rattle.tdb_law.specs.Turned.{Turned}
use Rattle.tdb_law.specs.World.{State}
use Rattle.tdb_steps.specs.Holdings.{table_of}
use Rattle.tdb_txn_owner.specs.Holders.{stage_depth, HolderState}
use Rattle.tdb_txn_owner.specs.Stages.{stage_task, MayBeGiven}
use Rattle.tdb_commands.specs.InLaw.{law_opener}
use Rattle.tdb_commands.specs.declared.command.Command.{Command as Asked}
use Rattle.tdb_openers.specs.Worlds.{law_of_task, IsFree, IsBusy}
use Rattle.tdb_openers.specs.declared.job.Task.{Task as JobTask}
use Rattle.tdb_openers.specs.declared.opener.Opener.{Opener}
use Rattle.tdb_world.specs.Whole.{Whole, form_at, is_starting}
use Rattle.tdb_world.specs.States.{IsStateOf}

-- the opener with this number, from 1 on, isn't aside
pub data IsAmong (w : Whole) (who : ℕ) : Type 0 where
  among_all : w.aside ≡ None → IsAmong w who
  among_others : (h : HolderState) → w.aside ≡ Some h → who ≢ h.owner → IsAmong w who

-- The opener has a command that isn't done: it is aside with one, has a Start without a turn, or another command.
pub data HasCommand (w : Whole) (who : ℕ) : Type 0 where
  by_aside : (h : HolderState) (t : Task) → w.aside ≡ Some h → who ≡ h.owner → stage_task h.stage ≡ Some t → HasCommand w who
  by_start : is_starting w.starts (law_opener who) ≡ true → IsAmong w who → HasCommand w who
  by_job : (x : Opener) (t : JobTask) → IsBusy w.openers who x t → is_starting w.starts (law_opener who) ≡ false → IsAmong w who → HasCommand w who

-- the command that it has so
abbrev pub command_had : {w : Whole} {who : ℕ} → HasCommand w who → Command
command_had (by_aside h t e owner busy) = t.command
command_had (by_start begun among) = new_start.command
command_had (by_job x t busy none among) = (law_of_task t).command

-- The opener has this command, and it isn't done.
abbrev pub HasThis : Whole → ℕ → Command → Type 0
HasThis w who c = (has : HasCommand w who) × (c ≡ command_had has)

-- It is live, and has none.
pub data HasNoCommand (w : Whole) (who : ℕ) : Type 0 where
  idle_aside : (h : HolderState) → w.aside ≡ Some h → who ≡ h.owner → stage_task h.stage ≡ None → HasNoCommand w who
  idle_among : (x : Opener) → IsFree w.openers who x → is_starting w.starts (law_opener who) ≡ false → IsAmong w who → HasNoCommand w who

-- a Start of the one aside finds room in the count of the transactions within another
abbrev pub HasRoom : Whole → ℕ → Asked → Type 0
HasRoom w who c = (h : HolderState) → w.aside ≡ Some h → who ≡ h.owner → MayBeGiven c (stage_depth h.stage)

-- a turn of an opener, in the law's words
abbrev pub TurnLeads : Whole → Whole → History → History → ℕ → Turn → Type 0
TurnLeads old new h later who turn =
    (state : State) → IsStateOf old h state → (after : State) × (task : Task) × IsStateOf new later after × Turned (form_at old) state (law_opener who) task turn after

-- The first turn of a Start is blocked by the one aside, where that holds the lock byte of transactions: so it never
-- ends for want of memory there.
abbrev pub StartWaits : Whole → ℕ → Turn → Type 0
StartWaits w who turn =
    is_starting w.starts (law_opener who) ≡ true → IsAmong w who → (h : HolderState) → w.aside ≡ Some h → 0 < table_of h.locks h.owner 8 → turn ≡ Blocked (law_opener h.owner) 8

-- an opener joins, and one is given a command
abbrev pub JoinLeads : Whole → Whole → History → ℕ → Type 0
JoinLeads old new h who = (state : State) → IsStateOf old h state → (after : State) × IsStateOf new h after × Joins (form_at old) state (law_opener who) after

abbrev pub GiftLeads : Whole → Whole → History → ℕ → Command → Type 0
GiftLeads old new h who c = (state : State) → IsStateOf old h state → (after : State) × IsStateOf new h after × Given state (law_opener who) c after

-- one dies, and the gate that a dead one left open is undone
abbrev pub DeathLeads : Whole → Whole → History → ℕ → Type 0
DeathLeads old new h who = (state : State) → IsStateOf old h state → (after : State) × IsStateOf new h after × Dies (form_at old) state (law_opener who) after

abbrev pub UndoLeads : Whole → Whole → History → History → Type 0
UndoLeads old new h later = (state : State) → IsStateOf old h state → (after : State) × IsStateOf new later after × Undoes (form_at old) state after

-- the world with this opener aside
abbrev pub with_aside : Whole → HolderState → Whole
with_aside w h = record w { aside = Some h }
