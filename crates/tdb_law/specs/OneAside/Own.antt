-- What one turn of the opener aside does, by itself: the law's words for a turn, of this opener alone.
use Rattle.std.specs.Prelude.{ℕ, ◌≡◌, ◌≢◌, false, Some}
use Rattle.tdb_space.specs.Form.{Form}
use Rattle.tdb_law.specs.Commands.{Turn}
use Rattle.tdb_law.specs.Openers.{Map, Task, nowhere, seen}
use Rattle.tdb_law.specs.Ends.{IsRow}
use Rattle.tdb_law.specs.Counting.{number_seen, image_number_after, settled_after}
use Rattle.tdb_law.specs.Held.{holding, wanted}
use Rattle.tdb_law.specs.World.{State}
use Rattle.tdb_law.specs.Effects.{Effect, IsFree, IsFirstConflict, Finds, task_left}
use Rattle.tdb_law.specs.Turned.{number_next}
use Rattle.tdb_law.specs.Walks.{Walked}
use Rattle.tdb_law.specs.OneAside.Sides.{Past, Side}

-- what its next turn wants
abbrev pub side_wants : Form → Side → Task → ℕ → ℕ
side_wants f s t b = wanted f t.command s.own nowhere s.view t.steps b

-- in this state the opener is as this side says, and the file has this map
pub record ShowsSide (w : State) (s : Side) (m : Map) : Type 0 where
  pub own : w.own s.here ≡ s.own
  pub mark : w.mark s.here ≡ s.mark
  pub spot : w.spot s.here ≡ nowhere
  pub table : (b : ℕ) → w.table s.here b ≡ s.table b
  pub file : w.file ≡ m

-- A turn of the opener aside with this task, from side s to side z, where all openers hold what the table says. The
-- file has map m before and mm after it, and number q before and qq after it. The turn is one of the command's row, its
-- effect is one of the law's kinds, and what is left, the locks, the walk and the numbers are those after it.
pub record OwnTurned (f : Form) (table : ℕ → ℕ → ℕ) (m mm : Map) (q qq : ℕ) (old new : Past) (s z : Side) (t : Task) (turn : Turn) : Type 0 where
  pub mine : s.task ≡ Some t
  pub here : z.here ≡ s.here
  pub keeps : s.view.must ≡ false
  pub row : IsRow f t.command s.own t.steps turn
  pub leaves : z.task ≡ task_left t.command t.steps turn
  pub effect : Effect f (IsFree table s.here (side_wants f s t)) (IsFirstConflict table s.here (side_wants f s t))
      (Finds f (table s.here) (side_wants f s t) (seen s.own m)) (number_seen s.own q (old.numbers s.here)) t.command t.steps s.own m turn z.own mm
  pub holds : (b : ℕ) → z.table b ≡ holding f z.own nowhere z.task b
  pub walks : (w v : State) → ShowsSide w s m → ShowsSide v z mm → Walked f w v s.here t.command t.steps turn
  pub settled : new.settled ≡ settled_after f t.command s.own t.steps turn old.settled
  pub number : qq ≡ number_next f t.command t.steps s.own turn q (old.numbers s.here)
  pub image_number : new.numbers s.here ≡ image_number_after f t.command s.own turn q (old.numbers s.here)
  pub other_numbers : (o : ℕ) → o ≢ s.here → new.numbers o ≡ old.numbers o
