-- What the call leaves of the file at which plays break off.
use Rattle.std.specs.Prelude.{ℕ, ◌≡◌, length, true}
use Rattle.tdb_disk.specs.History.{History, seen}
use Rattle.tdb_disk.specs.Stop.{LeavesOnly}
use Rattle.tdb_law.specs.Commands.{Turn}
use Rattle.tdb_law.specs.World.{State}
use Rattle.tdb_world.specs.Looks.{StaysUnwritten}
use Rattle.tdb_world.specs.Room.{FullOfTurn}
use Rattle.tdb_world.specs.States.{IsStateOf}
use Rattle.tdb_world.specs.Steps.{TurnLeads}
use Rattle.tdb_world.specs.Stopped.{StoppedTurn}
use Rattle.tdb_world.specs.Stops.{IsSafe, OpensToState}
use Rattle.tdb_world.specs.Whole.{Whole, form_at}

-- The undo of an open gate failed: each stop in it and behind it leaves a file that opens to the map and the number of
-- the state before, where the file was safe.
abbrev pub StoppedUndo : Whole → History → History → Type 0
StoppedUndo w h g = (state : State) → IsStateOf w h state → IsSafe (form_at w) h → LeavesOnly h g (OpensToState (form_at w) state)

-- What the call leaves that failed, in a world and over its file, which has this length by the lines in front: nothing
-- has changed, as where the length couldn't be had; a turn failed, or the undo of an open gate; or a turn was taken
-- that no line tells, since the length of the file couldn't be had behind it. A turn that writes nothing leaves the
-- file as it is also where it fails.
pub data StoppedCall (w : Whole) (h : History) (size : ℕ) (g : History) : Type 0 where
  stopped_still : g ≡ h → StoppedCall w h size g
  stopped_turn : (who : ℕ) → length (seen h) ≡ size → StoppedTurn w h g who → StaysUnwritten w who h g → StoppedCall w h size g
  stopped_undo : length (seen h) ≡ size → w.stale ≡ true → StoppedUndo w h g → StoppedCall w h size g
  stopped_untold : (who : ℕ) (turn : Turn) (v : Whole) → length (seen h) ≡ size → TurnLeads w v h g who turn → FullOfTurn w h who turn → StaysUnwritten w who h g → StoppedCall w h size g
