-- What a stop may leave of a world's file while nobody changes it outside a transaction.
use Rattle.std.specs.Prelude.{ℕ, ◌≡◌, ◌+◌, ◌⊎◌, List, true, false, Some}
use Rattle.tdb_disk.specs.History.{History, seen}
use Rattle.tdb_disk.specs.Stop.{Leaves}
use Rattle.tdb_space.specs.Form.{Form}
use Rattle.tdb_space.specs.Opening.{restored}
use Rattle.tdb_space.specs.Undoing.{Reopens}
use Rattle.tdb_law.specs.Commands.GroupCommand.{Commit}
use Rattle.tdb_law.specs.Commands.Command.{OnGroup}
use Rattle.tdb_law.specs.Images.{image_map}
use Rattle.tdb_law.specs.Openers.{Task, Txn}
use Rattle.tdb_law.specs.Rows.{is_changed}
use Rattle.tdb_law.specs.World.{State}
use Rattle.tdb_steps.specs.Turns.{number_of}
use Rattle.tdb_openers.specs.Calm.{IsMidway}
use Rattle.tdb_world.specs.Whole.{Whole, form_at}
use Rattle.tdb_world.specs.States.{IsStateOf}

-- A stop now leaves only files that open to the map and the sequence number that the file has, an open gate undone; and
-- so does each stop of their undo.
abbrev pub IsSafe : Form → History → Type 0
IsSafe f h = (c : List ℕ) → Leaves h c → Reopens (restored f (seen h)) c

-- An image opens to the map and the sequence number of a state.
pub record OpensToState (f : Form) (state : State) (c : List ℕ) : Type 0 where
  pub image : List ℕ
  pub reopens : Reopens image c
  pub file : state.file ≡ image_map f image
  pub number : state.number ≡ number_of f image

-- It opens to those of an opener's transaction.
pub record OpensToTxn (f : Form) (state : State) (o : ℕ) (c : List ℕ) : Type 0 where
  pub txn : Txn
  pub has : (state.own o).txn ≡ Some txn
  pub image : List ℕ
  pub reopens : Reopens image c
  pub map : txn.image ≡ image_map f image
  pub number : state.image_number o ≡ number_of f image

-- The next turn of an opener shuts the gate of its Commit.
pub record IsShutting (f : Form) (state : State) (o : ℕ) : Type 0 where
  pub task : Task
  pub has : state.task o ≡ Some task
  pub commits : task.command ≡ OnGroup Commit
  pub not_yet : is_changed f task.command (state.own o) task.steps ≡ false
  pub shut : is_changed f task.command (state.own o) (task.steps + 1) ≡ true

-- What a stop in the next turn of an opener may leave: a file with the map that it has; or, in the turn that shuts the
-- gate of a Commit, with that of the transaction.
abbrev pub TurnMayLeave : Form → State → ℕ → List ℕ → Type 0
TurnMayLeave f state o c = OpensToState f state c ⊎ (IsShutting f state o × OpensToTxn f state o c)

-- An opener is in the middle of a change outside a transaction.
pub record IsChanging (f : Form) (state : State) (o : ℕ) : Type 0 where
  pub task : Task
  pub has : state.task o ≡ Some task
  pub midway : IsMidway f (state.own o) task

-- While an opener has a transaction the file of a world is safe: from the end of its Start to that of its Commit.
abbrev pub TransactionsAreSafe : Type 0
TransactionsAreSafe =
    (w : Whole) (h : History) (state : State) (o : ℕ) (txn : Txn) → IsStateOf w h state → (state.own o).txn ≡ Some txn → IsSafe (form_at w) h
