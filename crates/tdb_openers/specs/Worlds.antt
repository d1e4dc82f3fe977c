-- What contracts see of a world: the header of its file, its options, its openers, and its lock table.
use Rattle.std.specs.Prelude.{ℕ, ◌≡◌, ◌+◌, List, Some, None, true, slice_get}
use Rattle.tdb_words.specs.declared.header.Header.{Header}
use Rattle.tdb_space.specs.Form.{form_in}
use Rattle.tdb_locks.specs.HeldLocks.{nothing_held}
use Rattle.tdb_locks.specs.declared.piece.Piece.{Piece}
use Rattle.tdb_law.specs.Openers.{Task as LawTask}
use Rattle.tdb_law.specs.World.{State}
use Rattle.tdb_commands.specs.declared.command.Command.{Command}
use Rattle.tdb_commands.specs.InLaw.{law_command}
use Rattle.tdb_commands.specs.declared.options.Options.{Options}
use Rattle.tdb_openers.specs.declared.opener.Opener.{Opener}
use Rattle.tdb_openers.specs.declared.job.Task.{Task}
use Rattle.tdb_openers.specs.Openers.{no_walk, own_of, command_in, JobStands}
use Rattle.tdb_openers.specs.States.{state_of, WorldStands, FileStands}
use Rattle.tdb_openers.specs.Laws.{IsPut}

pub record World : Type 0 where
  pub header : Header
  pub options : Options
  pub openers : List Opener
  pub table : List Piece

-- its state in the law's words, where its file has these bytes
abbrev pub state_in : World → List ℕ → State
state_in w img = state_of (form_in w.header) w.options w.openers w.table img

-- what holds of it between any two calls, where its file has these bytes and this length: whatever the bytes are, and
-- of them
abbrev pub Stands : World → List ℕ → ℕ → Type 0
Stands w img size = WorldStands (form_in w.header) w.options w.openers w.table img size

abbrev pub BytesStand : World → List ℕ → Type 0
BytesStand w img = FileStands (form_in w.header) w.openers img

-- an opener that has just joined
abbrev pub fresh : Opener
fresh = record { live = true; held = nothing_held; task = None; walk = no_walk }

-- The opener with this number, counted from 1, is there.
pub record IsNumber (w : World) (who : ℕ) (x : Opener) : Type 0 where
  pub place : ℕ
  pub counted : who ≡ place + 1
  pub there : slice_get w.openers place ≡ Some x

-- it is live, and has no command
pub record IsFree (w : World) (who : ℕ) (x : Opener) : Type 0 where
  pub number : IsNumber w who x
  pub live : x.live ≡ true
  pub idle : x.task ≡ None

-- it has this task
pub record IsBusy (w : World) (who : ℕ) (x : Opener) (t : Task) : Type 0 where
  pub number : IsNumber w who x
  pub busy : x.task ≡ Some t

-- a task in the law's words
abbrev pub law_of_task : Task → LawTask
law_of_task t = record { command = command_in t.job; steps = t.steps }

-- The opener has this command now, of which it has had no step.
pub record IsAssigned (old : World) (who : ℕ) (x : Opener) (c : Command) (size : ℕ) (new : World) : Type 0 where
  pub task : Task
  pub command : command_in task.job ≡ law_command c
  pub steps : task.steps ≡ 0
  pub stands : JobStands (form_in old.header) (own_of old.options x) task.job 0 size
  pub place : ℕ
  pub counted : who ≡ place + 1
  pub put : IsPut old.openers place (record x { task = Some task }) new.openers
  pub rest : record new { openers = old.openers } ≡ old
