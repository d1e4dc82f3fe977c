-- What logs hear of the lines of a report.
use Rattle.std.specs.Prelude.{◌≡◌, ◌⊎◌, ◌-◌, List, [], ◌∷◌, ◌++◌, Bool, IsTrue, true, false, Option, None, Some, Result, Ok, Err, length}
use Rattle.tdb_law.specs.Lines.{Line as LawLine}
use Rattle.tdb_law.specs.Lines.Line.{LogsLeft as LawLogsLeft}
use Rattle.tdb_law.specs.World.{State}
use Rattle.tdb_world.specs.Courses.Led.{Moment, IsStateAt}
use Rattle.tdb_commands.specs.declared.play.Play.{Play}
use Rattle.tdb_commands.specs.declared.play.Play.TheVariants.{SetLog}
use Rattle.tdb_log.specs.Logs.{Logged, ToldIfAny, LastRefused, but_last}
use Rattle.tdb_log.specs.declared.log.LogRefusal.{LogRefusal}
use Rattle.tdb_log.specs.declared.notice.Notice.{Notice}
use Rattle.tdb_log.specs.declared.notice.Notice.TheVariants as Note
use Rattle.tdb_commands.specs.InLaw.{law_lines}
use Rattle.tdb_commands.specs.declared.line.Line.{Line}
use Rattle.tdb_commands.specs.declared.line.Line.TheVariants.{Grew, Died, Undone, LogsLeft}
use Rattle.tdb_openers.specs.declared.fault.RunFault.{RunFault}

-- the notice that tells what a line does, if logs are told of it: that the file grew, an opener died, or a gate was
-- undone
abbrev pub notice_of : Line → Option Notice
notice_of (Grew from to) = Some (Note.Grew from to)
notice_of (Died who) = Some (Note.Died who)
notice_of (Undone bytes to) = Some (Note.Recovered bytes)
notice_of line = None

-- Logs heard of lines, one after the other: where so many logs are left the last was dropped, and of each other line
-- the last was told.
abbrev pub Heard : List Logged → List Line → List Logged → Type 0
Heard old [] new = new ≡ old
Heard old (LogsLeft count ∷ lines) new = (count ≡ length old - 1) × Heard (but_last old) lines new
Heard old (line ∷ lines) new = (mid : List Logged) × ToldIfAny (notice_of line) old mid × Heard mid lines new

-- The last log refused the notice of a line: the logs heard of the lines in front of it, and of no other.
pub record HeardUpTo (refusal : LogRefusal) (old : List Logged) (lines : List Line) (new : List Logged) : Type 0 where
  pub front : List Line
  pub line : Line
  pub rest : List Line
  pub parts : lines ≡ front ++ line ∷ rest
  pub notice : Notice
  pub tells : notice_of line ≡ Some notice
  pub mid : List Logged
  pub heard : Heard old front mid
  pub refused : LastRefused refusal mid new

-- what logs heard of the lines that a play gave, by its answer: of all, where no log refused
abbrev pub HeardBy : {V : Type 0} → List Logged → List Line → List Logged → Result (Result V LogRefusal) RunFault → Type 0
HeardBy old lines new (Ok (Ok v)) = Heard old lines new
HeardBy old lines new (Ok (Err refusal)) = HeardUpTo refusal old lines new
HeardBy old lines new (Err fault) = Heard old lines new ⊎ ((refusal : LogRefusal) × HeardUpTo refusal old lines new)

-- no line tells that a log was dropped
abbrev pub KeepsLogs : LawLine → Type 0
KeepsLogs (LawLogsLeft count) = ⊥
KeepsLogs line = Unit {0}

abbrev pub KeepLogs : List LawLine → Type 0
KeepLogs [] = Unit {0}
KeepLogs (line ∷ lines) = KeepsLogs line × KeepLogs lines

-- what logs heard of lines that drop no log, where only their notices were told: of all of them, or up to the refused
-- one, by the answer
abbrev pub HeardNotices : List Line → List Logged → List Logged → Result (Unit {0}) LogRefusal → Type 0
HeardNotices lines old new told = KeepLogs (law_lines lines) → HeardBy old lines new (Ok told)

-- So it is between two moments, for logs that were as the first and became as the second.
abbrev pub HeardLed : {V : Type 0} → Bool → Moment → Moment → List Logged → List Logged → Result (Result V LogRefusal) RunFault → Type 0
HeardLed tells old new before after answer =
    IsTrue tells → (state : State) (added : List Line) → IsStateAt old state → new.lines ≡ old.lines ++ added → HeardBy before added after answer

-- what lines tell of plays, by whether a log refused meanwhile: that all were taken, or some
abbrev pub RunsAsTold : Result (Unit {0}) LogRefusal → (List LawLine → State → Type 0) → (List LawLine → State → Type 0) → List LawLine → State → Type 0
RunsAsTold (Ok v) All Part = All
RunsAsTold (Err refusal) All Part = Part

-- whether a play drops a log
abbrev pub drops_log : Play → Bool
drops_log SetLog = true
drops_log play = false
