-- The laws of the report of plays.
use Rattle.std.specs.Prelude.{ℕ, ◌≡◌, List, [], ◌++◌, true}
use Rattle.tdb_disk.specs.History.{History, seen}
use Rattle.tdb_space.specs.Form.{Form}
use Rattle.tdb_space.specs.Opening.{Opens}
use Rattle.tdb_law.specs.Beginning.{IsLoaded, beginning}
use Rattle.tdb_law.specs.Lines.{Line as LawLine, IsLawful}
use Rattle.tdb_law.specs.Openers.{Options as LawOptions}
use Rattle.tdb_law.specs.Plays.{Play, Course}
use Rattle.tdb_law.specs.World.{State}
use Rattle.tdb_commands.specs.InLaw.{law_lines}
use Rattle.tdb_commands.specs.declared.line.Line.{Line}
use Rattle.tdb_world.specs.Whole.{options_at, Whole, WorldFits}
use Rattle.tdb_world.specs.States.{IsStateOf}
use Rattle.tdb_world.specs.Loaded.{IsJustLoaded}
use Rattle.tdb_world.specs.Courses.Led.{CallsTell}
use Rattle.tdb_world.specs.Courses.Stopped.{StoppedCall}
use Rattle.tdb_world.specs.Courses.Unfinished.{IsEnd, EndsWith}

-- The report of plays that lead on from a state just loaded, with the lines of all that isn't done behind it, is lawful
-- from the replay that begins with the map and the number of its file.
abbrev pub ReportIsLawful : Type 0
ReportIsLawful = (f : Form) (options : LawOptions) (old new : State) (plays : List Play) (lines : List LawLine) (more : List Line) → IsLoaded f old options
    → Course f old plays lines new → EndsWith new more → IsLawful f (beginning options old.file old.number) (lines ++ law_lines more)

-- what isn't done in a world isn't done in its states
abbrev pub EndsAlike : Type 0
EndsAlike = (w : Whole) (img : List ℕ) (size : ℕ) (h : History) (state : State) (lines : List Line) → WorldFits w img size → IsStateOf w h state → IsEnd w lines → EndsWith state lines

-- the file of a world in which no opener has a command that isn't done can be opened
abbrev pub EndedFileOpens : Type 0
EndedFileOpens = (w : Whole) (h : History) (state : State) → IsStateOf w h state → EndsWith state [] → Opens (seen h)

-- In a world just loaded over a file that is read-only, no call that lines tell changes the file, and neither does the
-- one that failed behind them: its history is that of the beginning.
abbrev pub ReadOnlyFilesStay : Type 0
ReadOnlyFilesStay = (n : ℕ) (w v : Whole) (h g now : History) (size to : ℕ) (lines : List Line) (state : State) → IsJustLoaded w h state → (options_at w).read_only ≡ true
    → CallsTell n w h size lines v g to → StoppedCall v g to now → now ≡ h
