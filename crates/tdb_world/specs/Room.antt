-- Full and want of memory, said of a turn of a world.
use Rattle.std.specs.Prelude.{ℕ, ◌≡◌, List, true, false, Some}
use Rattle.tdb_disk.specs.History.{History, seen}
use Rattle.tdb_locks.specs.declared.kind.Kind.TheVariants.{Write}
use Rattle.tdb_law.specs.Commands.{Turn}
use Rattle.tdb_law.specs.OneAside.Sides.{Past, Side}
use Rattle.tdb_law.specs.World.{State}
use Rattle.tdb_steps.specs.Memory.{StarvesOutside}
use Rattle.tdb_steps.specs.Room.{FullOutside}
use Rattle.tdb_txn_turns.specs.Room.{NeverFull}
use Rattle.tdb_commands.specs.InLaw.{law_opener}
use Rattle.tdb_txn_owner.specs.Holders.{HolderState}
use Rattle.tdb_txn_owner.specs.Room.{StageFull}
use Rattle.tdb_txn_owner.specs.Stages.{stage_records}
use Rattle.tdb_openers.specs.Worlds.{law_of_task, IsBusy}
use Rattle.tdb_openers.specs.declared.opener.Opener.{Opener}
use Rattle.tdb_openers.specs.declared.job.Task.{Task}
use Rattle.tdb_world.specs.Whole.{Whole, form_at, options_at, is_starting}
use Rattle.tdb_world.specs.States.{IsAside, IsStateOf}
use Rattle.tdb_world.specs.Shut.{IsOpen}
use Rattle.tdb_world.specs.Steps.{IsAmong}

-- The opener with this number has this task outside a transaction, and nobody shuts it out of the file.
pub record HasFile (w : Whole) (who : ℕ) (x : Opener) (t : Task) : Type 0 where
  pub busy : IsBusy w.openers who x t
  pub among : IsAmong w who
  pub begun : is_starting w.starts (law_opener who) ≡ false
  pub open_to : IsOpen w

-- Nothing is stored by its next turn: it has a Start that has had no turn, or another one shuts it out of the file.
pub data StoresNothing (w : Whole) (who : ℕ) : Type 0 where
  has_start : IsAmong w who → is_starting w.starts (law_opener who) ≡ true → StoresNothing w who
  is_shut_out : IsAmong w who → (holder : HolderState) → w.aside ≡ Some holder → stage_records holder.stage ≡ Some Write → StoresNothing w who

-- The one aside, by its stage, in the images that are known of the file and of its transaction.
abbrev pub FullAside : Whole → HolderState → History → Turn → Type 0
FullAside w holder h turn =
    (image : List ℕ) (past : Past) (s : Side) (A : IsAside w holder h image past s) → StageFull (form_at w) (options_at w).limit holder.stage A.known s.own turn

-- A turn of an opener ends with Full exactly where the image that its opener sees has no room for what the command
-- stores, up to the limit, with those numbers. Outside a transaction that image is the file before the turn, and inside
-- one that of the transaction, where it may be that memory is wanting. Of a Commit and a Prepare it is said of their
-- plan. One that stores nothing never ends so.
pub data EndsFullRightly (w : Whole) (h : History) (who : ℕ) (turn : Turn) : Type 0 where
  full_in_file : (x : Opener) (t : Task) → HasFile w who x t → FullOutside (form_at w) (seen h) (options_at w).limit (law_of_task t) turn → EndsFullRightly w h who turn
  full_aside : (holder : HolderState) → w.aside ≡ Some holder → who ≡ holder.owner → FullAside w holder h turn → EndsFullRightly w h who turn
  full_never : StoresNothing w who → NeverFull turn → EndsFullRightly w h who turn

-- So it is in a world that has a state over this history of its file.
abbrev pub FullOfTurn : Whole → History → ℕ → Turn → Type 0
FullOfTurn w h who turn = (state : State) → IsStateOf w h state → EndsFullRightly w h who turn

-- The turn of an opener outside a transaction, whom nobody shuts out of the file, ends a command on the map for want of
-- memory only where it takes a lock, or the value that a fetch tells or an append joins, or counts for a check.
abbrev pub StarvesInFile : Whole → ℕ → Turn → Type 0
StarvesInFile w who turn = (x : Opener) (t : Task) → HasFile w who x t → StarvesOutside (form_at w) (law_of_task t) turn
