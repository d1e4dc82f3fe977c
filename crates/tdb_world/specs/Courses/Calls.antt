-- The calls of which the lines of a report tell, each from the world and the file that the one before it left.
use Rattle.std.specs.Prelude.{ℕ, ◌≡◌, List, [], ◌∷◌, length, if◌then◌else◌}
use Rattle.tdb_disk.specs.History.{History, seen}
use Rattle.tdb_space.specs.Opening.{entries, is_open}
use Rattle.tdb_undo.specs.Entries.{lengths}
use Rattle.tdb_law.specs.Plays.{Play, Gives}
use Rattle.tdb_law.specs.World.{State}
use Rattle.tdb_locks.specs.declared.turn.Turn.{Turn}
use Rattle.tdb_commands.specs.InLaw.{law_command, law_lines, law_turn}
use Rattle.tdb_commands.specs.declared.command.Command.{Command}
use Rattle.tdb_commands.specs.declared.line.Line.{Line}
use Rattle.tdb_commands.specs.declared.line.Line.TheVariants.{Grew, Took, Undone}
use Rattle.tdb_openers.specs.Played.{growth}
use Rattle.tdb_world.specs.Whole.{Whole, form_at}
use Rattle.tdb_world.specs.States.{IsStateOf}
use Rattle.tdb_world.specs.Looks.{StaysUnwritten}
use Rattle.tdb_world.specs.Room.{FullOfTurn}
use Rattle.tdb_world.specs.Steps.{HasThis, TurnLeads, UndoLeads}

-- a line that tells of no turn, of no growth and of no undo
abbrev pub TellsNoCall : Line → Type 0
TellsNoCall (Took who command turn) = ⊥
TellsNoCall (Grew from to) = ⊥
TellsNoCall (Undone bytes to) = ⊥
TellsNoCall line = Unit {0}

abbrev pub TellNoCall : List Line → Type 0
TellNoCall [] = Unit {0}
TellNoCall (line ∷ lines) = TellsNoCall line × TellNoCall lines

-- a play leads with these lines from each state of one world to one of another, over the same file
abbrev pub PlayLeads : Whole → Whole → History → Play → List Line → Type 0
PlayLeads w v h play lines = (state : State) → IsStateOf w h state → (after : State) × IsStateOf v h after × Gives (form_at w) state play (law_lines lines) after

-- The file keeps its form, and the openers their options.
pub record StaysFormed (w v : Whole) : Type 0 where
  pub header : v.openers.header ≡ w.openers.header
  pub options : v.openers.options ≡ w.openers.options

-- A turn of the command that is told, over a file of this length. It ends with Full exactly where there is no room, and
-- leaves the file as it is where it writes nothing.
pub record TurnMade (w : Whole) (h : History) (size who : ℕ) (command : Command) (turn : Turn) (v : Whole) (g : History) : Type 0 where
  pub has : HasThis w who (law_command command)
  pub before : length (seen h) ≡ size
  pub leads : TurnLeads w v h g who (law_turn turn)
  pub full : FullOfTurn w h who (law_turn turn)
  pub still : StaysUnwritten w who h g

-- The undo of an open gate: so many bytes were put back, and the file, which had the first length, has the other now.
pub record UndoMade (w : Whole) (h : History) (size bytes to : ℕ) (v : Whole) (g : History) : Type 0 where
  pub before : length (seen h) ≡ size
  pub after : length (seen g) ≡ to
  pub bytes_back : bytes ≡ (if is_open (form_at w) (seen h) then lengths (entries (form_at w) (seen h)) else 0)
  pub leads : UndoLeads w v h g

-- What one call does to a world and to its file, which has the one length by the lines in front and the other by the
-- lines that tell the call: a turn, behind which a growth is told where the file grew, from its length before to that
-- afterwards; a turn behind which the length couldn't be had, and no growth is told; the undo of an open gate; or a
-- play by which nothing is done to the file, and no growth is told.
pub data Calls (w : Whole) (h : History) (size : ℕ) (lines : List Line) (v : Whole) (g : History) (next : ℕ) : Type 0 where
  calls_turn : (who : ℕ) (command : Command) (turn : Turn) → lines ≡ Took who command turn ∷ growth size next → TurnMade w h size who command turn v g → length (seen g) ≡ next
      → Calls w h size lines v g next
  calls_unmeasured : (who : ℕ) (command : Command) (turn : Turn) → lines ≡ Took who command turn ∷ [] → TurnMade w h size who command turn v g → Calls w h size lines v g next
  calls_undo : (bytes to : ℕ) → lines ≡ Undone bytes to ∷ [] → UndoMade w h size bytes to v g → Calls w h size lines v g next
  calls_nothing : (play : Play) → TellNoCall lines → g ≡ h → PlayLeads w v h play lines → Calls w h size lines v g next
