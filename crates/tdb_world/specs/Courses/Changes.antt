-- How a report shows that nothing was changed outside a transaction.
use Rattle.std.specs.Prelude.{◌≡◌, List, [], ◌∷◌, false}
use Rattle.tdb_space.specs.Form.{Form}
use Rattle.tdb_law.specs.Beginning.{IsLoaded}
use Rattle.tdb_law.specs.Commands.Command.{OnMap, OnWalk}
use Rattle.tdb_law.specs.Commands.Turn.{Step}
use Rattle.tdb_law.specs.Lines.{Line}
use Rattle.tdb_law.specs.Lines.Line.{Took}
use Rattle.tdb_law.specs.MapCommands.{map_changes}
use Rattle.tdb_law.specs.Openers.{Options}
use Rattle.tdb_law.specs.World.{State}
use Rattle.tdb_world.specs.Courses.Stops.{IsTransacted}

-- A line tells no step of a change, nor one of a command on a cursor. Inside a transaction such a command has no step.
abbrev pub IsStepless : Line → Type 0
IsStepless (Took who (OnMap c) Step) = map_changes c ≡ false
IsStepless (Took who (OnWalk w) Step) = ⊥
IsStepless line = Unit {0}

abbrev pub AreStepless : List Line → Type 0
AreStepless [] = Unit {0}
AreStepless (line ∷ lines) = IsStepless line × AreStepless lines

-- a report of such lines, from a world just loaded on, passes no state in which an opener is in the middle of a change
-- outside a transaction
abbrev pub StepsTellChanges : Type 0
StepsTellChanges = (f : Form) (options : Options) (old : State) (lines : List Line) → IsLoaded f old options → AreStepless lines → IsTransacted f old lines
