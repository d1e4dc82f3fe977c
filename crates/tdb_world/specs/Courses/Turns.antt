-- What turns of an opener come to where the disk failed, in a world whose gate may stand open.
use Rattle.std.specs.Prelude.{ℕ, ◌≡◌, ◌⊎◌, List, Some}
use Rattle.tdb_space.specs.Form.{Form}
use Rattle.tdb_law.specs.Commands.{Command}
use Rattle.tdb_law.specs.Openers.{Task}
use Rattle.tdb_law.specs.World.{State}
use Rattle.tdb_law.specs.Lines.{Line as LawLine}
use Rattle.tdb_law.specs.Plays.{Clears, Goes, most_turns}
use Rattle.tdb_openers.specs.Played.{TakesLast, StepsThenClears}

-- what never comes
abbrev pub Never : State → List LawLine → State → Type 0
Never old lines new = ⊥

-- this is the command of an opener, where it has one
abbrev pub IsToldOf : State → ℕ → Command → Type 0
IsToldOf w who c = (t : Task) → w.task who ≡ Some t → c ≡ t.command

-- one turn where the disk failed: nothing was done, or the turn was taken, or only an open gate was undone
abbrev pub TakesOrClears : Form → State → ℕ → List LawLine → State → Type 0
TakesOrClears f old who lines new = TakesLast f old who lines new ⊎ Clears f old lines new

-- turns up to the first that isn't a step, where the disk failed: some were taken, all of them steps, and then an open
-- gate may have been undone; or all were taken
abbrev pub GoesOrClears : Form → State → ℕ → List LawLine → State → Type 0
GoesOrClears f old who lines new = ((n : ℕ) × StepsThenClears f n old who lines new) ⊎ Goes f most_turns old who lines new
