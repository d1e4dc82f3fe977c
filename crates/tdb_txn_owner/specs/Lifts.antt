-- A turn of the opener aside is a turn of the whole state, where it leaves the others as a turn does.
use Rattle.std.specs.Prelude.{ℕ, ◌≡◌, ◌≢◌, false}
use Rattle.tdb_space.specs.Form.{Form}
use Rattle.tdb_law.specs.Commands.{Turn}
use Rattle.tdb_law.specs.Openers.{Task, nowhere}
use Rattle.tdb_law.specs.World.{State}
use Rattle.tdb_law.specs.Turned.{Turned}
use Rattle.tdb_law.specs.Walks.{Lost, Shift}
use Rattle.tdb_law.specs.OneAside.Sides.{Past, Side, alone, beside}
use Rattle.tdb_law.specs.OneAside.Own.{OwnTurned, ShowsSide}

-- In this state the opener is as this side says, with its command too, and all else that is seen of the opener aside is
-- so.
pub record Shows (w : State) (past : Past) (s : Side) : Type 0 where
  pub side : ShowsSide w s w.file
  pub task : w.task s.here ≡ s.task
  pub settled : w.settled ≡ past.settled
  pub numbers : (o : ℕ) → w.image_number o ≡ past.numbers o

-- From one state to the next every other opener keeps what it has, but for the marks of the walks, which shift by this
-- turn; and no gate stands open that somebody left by dying.
pub record OthersKeep (f : Form) (old new : State) (s : Side) (t : Task) (turn : Turn) : Type 0 where
  pub joined : new.joined ≡ old.joined
  pub task : (o : ℕ) → o ≢ s.here → new.task o ≡ old.task o
  pub own : (o : ℕ) → o ≢ s.here → new.own o ≡ old.own o
  pub spot : (o : ℕ) → o ≢ s.here → new.spot o ≡ old.spot o
  pub table : (o b : ℕ) → o ≢ s.here → new.table o b ≡ old.table o b
  pub mark : (o : ℕ) → o ≢ s.here → Shift f (Lost f t.command t.steps s.own turn false (old.mark o)) (old.mark o) (new.mark o)
  pub ready : old.stale ≡ false
  pub stale : new.stale ≡ false

-- Whatever the two states are, if the opener is as the sides say.
abbrev pub ShownTurns : Type 0
ShownTurns = (f : Form) (old new : State) (past later : Past) (s z : Side) (t : Task) (turn : Turn)
    → Shows old past s → old.view s.here ≡ s.view → Shows new later z → OthersKeep f old new s t turn
    → OwnTurned f old.table old.file new.file old.number new.number past later s z t turn → Turned f old s.here t turn new

-- in a plain state the opener of this side has just what the side says
pub record IsBack (p : State) (s : Side) : Type 0 where
  pub table : (b : ℕ) → p.table s.here b ≡ s.table b
  pub task : p.task s.here ≡ s.task
  pub own : p.own s.here ≡ s.own
  pub spot : p.spot s.here ≡ nowhere
  pub mark : p.mark s.here ≡ s.mark

-- The opener is aside before the turn and after it.
abbrev pub BesideTurns : Type 0
BesideTurns = (f : Form) (p q : State) (past later : Past) (s z : Side) (t : Task) (turn : Turn)
    → OwnTurned f (beside p past s).table p.file q.file p.number q.number past later s z t turn → OthersKeep f p q s t turn
    → Turned f (beside p past s) s.here t turn (beside q later z)

-- It comes back by the turn, which ends its transaction or its Start.
abbrev pub BesideEnds : Type 0
BesideEnds = (f : Form) (p q : State) (past later : Past) (s z : Side) (t : Task) (turn : Turn)
    → OwnTurned f (beside p past s).table p.file q.file p.number q.number past later s z t turn → OthersKeep f p q s t turn → IsBack q z
    → Turned f (beside p past s) s.here t turn (alone q later)

-- It goes aside by the turn, the first of its Start.
abbrev pub BesideBegins : Type 0
BesideBegins = (f : Form) (p q : State) (past later : Past) (s z : Side) (t : Task) (turn : Turn)
    → OwnTurned f p.table p.file q.file p.number q.number past later s z t turn → OthersKeep f p q s t turn → IsBack p s → p.view s.here ≡ s.view
    → Turned f (alone p past) s.here t turn (beside q later z)
