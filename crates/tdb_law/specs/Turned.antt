-- What one turn of an opener does to the world.
use Rattle.std.specs.Prelude.{ℕ, ◌+◌, ◌≡◌, ◌≢◌, false, ◌&&◌, Some, if◌then◌else◌}
use Rattle.tdb_space.specs.Form.{Form}
use Rattle.tdb_law.specs.Commands.{Command, Turn}
use Rattle.tdb_law.specs.Commands.Turn.{Step}
use Rattle.tdb_law.specs.Openers.{Own, Task, seen}
use Rattle.tdb_law.specs.Rows.{is_changed}
use Rattle.tdb_law.specs.Ends.{IsRow}
use Rattle.tdb_law.specs.Counting.{brings, number_seen, number_after, image_number_after, settled_after}
use Rattle.tdb_law.specs.Held.{holding, wanted, decided}
use Rattle.tdb_law.specs.World.{State}
use Rattle.tdb_law.specs.Effects.{Effect, IsFree, IsFirstConflict, Finds, SpotLeft, task_left}
use Rattle.tdb_law.specs.Walks.{Shift, Lost, Walked}

-- what the next turn of an opener's command wants
abbrev pub want : Form → State → ℕ → Task → ℕ → ℕ
want f w who task b = wanted f task.command (w.own who) (decided (w.spot who) (w.view who) task.steps) (w.view who) task.steps b

-- The number of the file after a turn: that of the image from the step on that shuts the gate of a commit which brings
-- it.
abbrev pub number_next : Form → Command → ℕ → Own → Turn → ℕ → ℕ → ℕ
number_next f c n x Step q p = if brings f c x && is_changed f c x (n + 1) then p else q
number_next f c n x turn q p = number_after f c x turn q p

-- A turn of an opener with this task: the turn is one of the command's row, its effect is one of the ten kinds, the
-- task, the locks, the number and whether the world is settled are those after it, and of other openers all stays but
-- their walks' marks.
pub record Turned (f : Form) (old : State) (who : ℕ) (task : Task) (turn : Turn) (new : State) : Type 0 where
  pub mine : old.task who ≡ Some task
  pub joined : new.joined ≡ old.joined
  pub others : (o : ℕ) → o ≢ who → new.task o ≡ old.task o
  pub others_own : (o : ℕ) → o ≢ who → new.own o ≡ old.own o
  pub others_spot : (o : ℕ) → o ≢ who → new.spot o ≡ old.spot o
  pub others_hold : (o b : ℕ) → o ≢ who → new.table o b ≡ old.table o b
  pub others_number : (o : ℕ) → o ≢ who → new.image_number o ≡ old.image_number o
  pub others_walk : (o : ℕ) → o ≢ who → Shift f (Lost f task.command task.steps (old.own who) turn false (old.mark o)) (old.mark o) (new.mark o)
  pub row : IsRow f task.command (old.own who) task.steps turn
  pub leaves : new.task who ≡ task_left task.command task.steps turn
  pub leaves_spot : SpotLeft f (old.table who) (want f old who task) task.command task.steps (old.own who) (new.own who) (old.spot who) (old.view who) (new.spot who) turn
  pub effect : Effect f (IsFree old.table who (want f old who task)) (IsFirstConflict old.table who (want f old who task))
      (Finds f (old.table who) (want f old who task) (seen (old.own who) old.file)) (number_seen (old.own who) old.number (old.image_number who))
      task.command task.steps (old.own who) old.file turn (new.own who) new.file
  pub holds : (b : ℕ) → new.table who b ≡ holding f (new.own who) (new.spot who) (new.task who) b
  pub walks : Walked f old new who task.command task.steps turn
  pub ready : old.stale ≡ false
  pub stale : new.stale ≡ false
  pub settled : new.settled ≡ settled_after f task.command (old.own who) task.steps turn old.settled
  pub number : new.number ≡ number_next f task.command task.steps (old.own who) turn old.number (old.image_number who)
  pub image_number : new.image_number who ≡ image_number_after f task.command (old.own who) turn old.number (old.image_number who)
