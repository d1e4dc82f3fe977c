-- The command that takes the plays of a script over a file, and prints their report.
use Rattle.std.specs.Prelude.{◌≡◌, ◌⊎◌, ℕ, Bool, IsTrue, false, Option, None, Some, Ok, Err, List, [], ◌++◌, take}
use Rattle.tdb_disk.specs.Count.{Rose}
use Rattle.tdb_disk.specs.History.{History, seen}
use Rattle.tdb_space.specs.Form.{Form, form_of}
use Rattle.tdb_law.specs.Beginning.{IsLoaded}
use Rattle.tdb_law.specs.Lines.{IsLawful}
use Rattle.tdb_law.specs.Plays.{Course}
use Rattle.tdb_law.specs.World.{State}
use Rattle.tdb_commands.specs.InLaw.{law_plays, law_lines, options_of}
use Rattle.tdb_commands.specs.declared.line.Line.{Line}
use Rattle.tdb_commands.specs.declared.play.Play.{Play}
use Rattle.tdb_script.specs.Script.{Script, BadAt}
use Rattle.tdb_script.specs.Text.{report_text}
use Rattle.tdb_openers.specs.Played.{ComesTo}
use Rattle.tdb_world.specs.Died.{IsReadAs}
use Rattle.tdb_world.specs.Courses.Hearing.{Heard, HeardUpTo}
use Rattle.tdb_check.specs.Report.{Counted}
use Rattle.tdb_world.specs.Courses.Unfinished.{EndsWith}
use Rattle.tdb_log.specs.Logs.{Logged}
use Rattle.tdb_log.specs.declared.log.LogRefusal.TheVariants as Unlogged
use Rattle.tdb_commands.specs.declared.options.Options.{Options}
use Rattle.tdb_tool.specs.Serving.{HeardOrRefused}
use Rattle.tdb_tool.specs.Whole.{beginning_over}
use Rattle.tdb_open.specs.Loading.{OpensToTurn, IsRefusedToTurn, TurnOpened, IsOpened, TurnOpeningHeard}
use Rattle.tdb_world.specs.Loaded.{IsOver}
use Rattle.tdb_answer.specs.declared.ending.Ending.{Ending}
use Rattle.tdb_answer.specs.declared.ending.Ending.TheVariants.{Replied, Refused, Missing, There, Usage, DeviceFault, InputFault, Malformed, NoMemory, LogFault}
use Rattle.tdb_answer.specs.declared.ending.Reply.TheVariants.{Played}
use Rattle.tdb_open.specs.declared.halt.Refusal.{Refusal}
use Rattle.tdb_answer.specs.Input.{Input}
use Rattle.tdb_open.specs.declared.halt.Halt.{Halt}
use Rattle.tdb_open.specs.declared.opening.Opened.{Opened}
use Rattle.tdb_answer.specs.Ending.{of_halt, NothingHeard}
use Rattle.tdb_open.specs.Opening.{opened_bytes, SameOrUndone}
use Rattle.tdb_answer.specs.Output.{Output}

-- the plays are those of the script on the input, where that tells its text
abbrev pub HasScript : Input → List Play → Type 0
HasScript input plays = IsTrue input.tells → Script input.text plays

-- the input has some script
abbrev pub IsScript : Input → Type 0
IsScript input = IsTrue input.tells → (plays : List Play) × Script input.text plays

-- why a run of turns ends so, but for a failed call of the files or want of memory: a read of the script failed, or it
-- stops to be one at a place; it is one, and there is no file, or that is refused, or it is opened
pub data PlaysSo (input : Input) (options : Options) (name : List ℕ) (held : Option History) : Ending → Type 0 where
  script_unread : Rose input.faults_before input.faults_after → PlaysSo input options name held InputFault
  script_bad : (at : ℕ) → (IsTrue input.tells → BadAt input.text at) → PlaysSo input options name held (Malformed at)
  no_file : IsScript input → held ≡ None → PlaysSo input options name held (Missing name)
  file_refused : (h : History) (refusal : Refusal) → IsScript input → held ≡ Some h → IsRefusedToTurn options (seen h) refusal
      → PlaysSo input options name held (Refused refusal)
  file_opened : (h : History) → IsScript input → held ≡ Some h → OpensToTurn options (seen h) → PlaysSo input options name held (Replied Played)

-- These plays lead, with these lines, from a world just loaded over an image to a state; and they came to one, where
-- they broke off.
pub record LeadsTo (f : Form) (options : Options) (img : List ℕ) (plays : List Play) (lines : List Line) (new : State) : Type 0 where
  pub old : State
  pub loaded : IsLoaded f old (options_of options)
  pub over : IsOver f img old
  pub course : Course f old (law_plays plays) (law_lines lines) new

pub record CameTo (f : Form) (options : Options) (img : List ℕ) (plays : List Play) (lines : List Line) (new : State) : Type 0 where
  pub old : State
  pub loaded : IsLoaded f old (options_of options)
  pub over : IsOver f img old
  pub came : ComesTo f old (law_plays plays) (law_lines lines) new

-- All plays were taken over the image a, and b is read after them as the file of the state that they led to. Their
-- report was printed: its lines, and behind them one for each opener with an unfinished command. Where there is none
-- such, b can be opened as a was, unless that was to be read alone. The whole report is lawful from the map of a on.
-- The logs heard of the lines of the plays.
pub record PlayedWhole (f : Form) (options : Options) (a : List ℕ) (plays : List Play) (b : List ℕ) (told : Bool) (before now : List ℕ) (logs later : List Logged) : Type 0 where
  pub lines : List Line
  pub left : State
  pub leads : LeadsTo f options a plays lines left
  pub over : IsReadAs f b left
  pub more : List Line
  pub ends : EndsWith left more
  pub again : more ≡ [] → options.read_only ≡ false → OpensToTurn options b
  pub lawful : IsLawful f (beginning_over f options a) (law_lines (lines ++ more))
  pub printed : IsTrue told → now ≡ before ++ report_text (lines ++ more)
  pub heard : Heard logs lines later

-- Plays were taken over the image a as far as they came, and b is read after them as the file of the state that they
-- led to.
abbrev pub CameOver : Form → Options → List ℕ → List ℕ → Type 0
CameOver f options a b = (plays : List Play) × (lines : List Line) × (new : State) × CameTo f options a plays lines new × IsReadAs f b new

-- The lines of a report over an opened image: those of plays as far as they came, or of all that were to be taken and
-- behind them those of unfinished commands.
pub data IsReport (f : Form) (options : Options) (img : List ℕ) : List Line → Type 0 where
  report_so_far : (plays : List Play) (lines : List Line) (new : State) → CameTo f options img plays lines new → IsReport f options img lines
  report_whole : (plays : List Play) (lines more : List Line) (new : State) → LeadsTo f options img plays lines new → EndsWith new more
      → IsReport f options img (lines ++ more)

-- So they heard of the lines of a report, by how its run ended: where a log failed, up to the line whose notice it
-- didn't take.
abbrev pub ReportHeard : Ending → List Logged → List Line → List Logged → Type 0
ReportHeard LogFault logs lines later = HeardUpTo Unlogged.Failed logs lines later
ReportHeard e logs lines later = HeardOrRefused logs lines later

-- a run may end so before it looks into its file
abbrev pub MayEndBefore : Ending → Type 0
MayEndBefore DeviceFault = Unit {0}
MayEndBefore InputFault = Unit {0}
MayEndBefore (Malformed at) = Unit {0}
MayEndBefore NoMemory = Unit {0}
MayEndBefore e = ⊥

-- What logs heard of turns over a file that was there, and that ended so: nothing, where the file wasn't looked into;
-- of its opening, where that failed; and else of its opening and of the lines of the report. Where all plays were
-- taken and printed, `IsPlayed` says it of the lines that are printed.
pub data FileTurned (options : Options) (img : List ℕ) (e : Ending) (logs later : List Logged) : Type 0 where
  turned_nothing : MayEndBefore e → later ≡ logs → FileTurned options img e logs later
  turned_halt : (halt : Halt) → e ≡ of_halt halt → TurnOpeningHeard options img logs later (Err halt) → FileTurned options img e logs later
  turned_report : (found : Opened) (mid : List Logged) (lines : List Line) → Counted (opened_bytes img) found.report → TurnOpeningHeard options img logs mid (Ok found)
      → IsReport (form_of (opened_bytes img)) options (opened_bytes img) lines → ReportHeard e mid lines later → FileTurned options img e logs later

-- by what was held at the name of the file
abbrev pub TurnsHeard : Options → Option History → Ending → List Logged → List Logged → Type 0
TurnsHeard options None e logs later = NothingHeard e logs later
TurnsHeard options (Some h) e logs later = FileTurned options (seen h) e logs later

-- All plays of the script on the input were taken over a file, and their report was printed. They lead from a world
-- just loaded over what the file was read as to a state as whose file what is left of it is read. The logs heard of the
-- opening of the file, and then of the lines of the report.
pub record IsPlayed (options : Options) (input : Input) (output : Output) (logs later : List Logged) (old now : History) : Type 0 where
  pub opened : History
  pub is_opened : IsOpened options old opened
  pub found : Opened
  pub mid : List Logged
  pub counted : Counted (opened_bytes (seen old)) found.report
  pub heard : TurnOpeningHeard options (seen old) logs mid (Ok found)
  pub plays : List Play
  pub script : HasScript input plays
  pub whole : PlayedWhole (form_of (seen opened)) options (seen opened) plays (seen now) output.tells output.before output.after mid later

-- Plays were taken over a file as far as they came, and what is left of it is read as they say.
pub record IsPlayedSoFar (options : Options) (old now : History) : Type 0 where
  pub opened : History
  pub is_opened : IsOpened options old opened
  pub came : CameOver (form_of (seen opened)) options (seen opened) (seen now)

-- What is printed before the line of an ending: a front of the text of a report, or nothing where no play was taken.
abbrev pub ReportFront : Options → List ℕ → List ℕ → Type 0
ReportFront options img text = (lines : List Line) × IsReport (form_of img) options img lines × (n : ℕ) × (text ≡ take n (report_text lines))

abbrev pub TurnsText : Options → Option History → Ending → List ℕ → Type 0
TurnsText options (Some h) (Replied reply) text = ReportFront options (opened_bytes (seen h)) text
TurnsText options (Some h) DeviceFault text = (text ≡ []) ⊎ ReportFront options (opened_bytes (seen h)) text
TurnsText options (Some h) NoMemory text = (text ≡ []) ⊎ ReportFront options (opened_bytes (seen h)) text
TurnsText options (Some h) LogFault text = (text ≡ []) ⊎ ReportFront options (opened_bytes (seen h)) text
TurnsText options held e text = text ≡ []

-- What is left of a file, which was there, by how its turns end: it is as it was, as an opening leaves it, or as the
-- plays say, as far as they came. Where a call failed nothing is said.
abbrev pub TurnsLeft : Options → History → Ending → History → Type 0
TurnsLeft options old (Replied reply) now = (reply ≡ Played) × IsPlayedSoFar options old now
TurnsLeft options old (Refused refusal) now = TurnOpened options old now
TurnsLeft options old DeviceFault now = Unit {0}
TurnsLeft options old NoMemory now = SameOrUndone old now ⊎ IsPlayedSoFar options old now
TurnsLeft options old LogFault now = SameOrUndone old now ⊎ IsPlayedSoFar options old now
TurnsLeft options old InputFault now = now ≡ old
TurnsLeft options old (Malformed at) now = now ≡ old
TurnsLeft options old (Missing name) now = ⊥
TurnsLeft options old (There name) now = ⊥
TurnsLeft options old Usage now = ⊥

-- what is left at the name of the file; where none was there is none
abbrev pub TurnsLeave : Options → Option History → Ending → Option History → Type 0
TurnsLeave options None e now = now ≡ None
TurnsLeave options (Some old) e now = (h : History) × (now ≡ Some h) × TurnsLeft options old e h

-- where all plays were taken and printed
abbrev pub AllPlayed : Options → Input → Output → List Logged → List Logged → Option History → Option History → Type 0
AllPlayed options input output logs later old now =
    (file : History) × (left : History) × (old ≡ Some file) × (now ≡ Some left) × IsPlayed options input output logs later file left
