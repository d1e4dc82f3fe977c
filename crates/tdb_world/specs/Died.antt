-- Which openers may die, and what a file holds whose gate may stand open.
use Rattle.std.specs.Prelude.{ℕ, ◌≡◌, List, Some, false}
use Rattle.tdb_disk.specs.History.{History, seen}
use Rattle.tdb_space.specs.Form.{Form}
use Rattle.tdb_space.specs.Opening.{restored}
use Rattle.tdb_law.specs.Images.{image_map}
use Rattle.tdb_law.specs.Lines.{MayDie}
use Rattle.tdb_law.specs.World.{State}
use Rattle.tdb_steps.specs.Turns.{number_of}
use Rattle.tdb_txn_owner.specs.Holders.{HolderState}
use Rattle.tdb_txn_owner.specs.Stages.{stage_task}
use Rattle.tdb_commands.specs.InLaw.{law_opener}
use Rattle.tdb_openers.specs.Died.{CanDie as CanDieAmong}
use Rattle.tdb_openers.specs.declared.opener.Opener.{Opener}
use Rattle.tdb_world.specs.States.{IsStateOf}
use Rattle.tdb_world.specs.Whole.{form_at, is_starting, Whole}
use Rattle.tdb_world.specs.Steps.{IsAmong}

-- The opener with this number, from 1 on, is live and may die: it has no command, or a Commit or a Prepare.
pub data CanDie (w : Whole) (who : ℕ) : Type 0 where
  dies_aside : (h : HolderState) → w.aside ≡ Some h → who ≡ h.owner → MayDie (stage_task h.stage) → CanDie w who
  dies_among : (x : Opener) → CanDieAmong w.openers who x → is_starting w.starts (law_opener who) ≡ false → IsAmong w who → CanDie w who

-- An image is read as a file with the map and the number of a state, an open gate undone.
pub record IsReadAs (f : Form) (img : List ℕ) (state : State) : Type 0 where
  pub file : state.file ≡ image_map f (restored f img)
  pub number : state.number ≡ number_of f (restored f img)

-- The file of a world is read so as each state says that the world has.
abbrev pub StatesAreRead : Type 0
StatesAreRead = (w : Whole) (h : History) (state : State) → IsStateOf w h state → IsReadAs (form_at w) (seen h) state
