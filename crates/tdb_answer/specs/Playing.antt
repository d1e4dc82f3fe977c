-- How plays are taken over a file and told on an output, as far as they come.
use Rattle.std.specs.Prelude.{◌≡◌, ℕ, ◌≤◌, Bool, IsTrue, List, ◌++◌, take, Option, None, Some, Result, Ok, Err, OnOk, false}
use Rattle.tdb_disk.specs.Count.{Rose}
use Rattle.tdb_space.specs.Form.{Form, form_of}
use Rattle.tdb_backup.specs.Dump.{WroteFront}
use Rattle.tdb_law.specs.Plays.{Course}
use Rattle.tdb_law.specs.World.{State}
use Rattle.tdb_commands.specs.InLaw.{law_plays, law_lines}
use Rattle.tdb_commands.specs.declared.line.Line.{Line}
use Rattle.tdb_commands.specs.declared.play.Play.{Play}
use Rattle.tdb_script.specs.Text.{report_text}
use Rattle.tdb_openers.specs.Played.{ComesTo}
use Rattle.tdb_world.specs.Whole.{Whole, form_at}
use Rattle.tdb_world.specs.Courses.Hearing.{Heard}
use Rattle.tdb_world.specs.Courses.Scene.{Scene, IsStateAt}
use Rattle.tdb_world.specs.Courses.Unfinished.{IsEnd}
use Rattle.tdb_log.specs.Logs.{Logged}
use Rattle.tdb_log.specs.declared.log.LogRefusal.{LogRefusal}
use Rattle.tdb_tool.specs.declared.fault.SessionFault.{SessionFault}
use Rattle.tdb_tool.specs.declared.fault.SessionFault.TheVariants as Broke
use Rattle.tdb_tool.specs.Serving.{HeardSo}
use Rattle.tdb_answer.specs.declared.ending.Unprinted.{Unprinted}
use Rattle.tdb_answer.specs.declared.ending.Unprinted.TheVariants as Rest
use Rattle.tdb_disk.specs.History.{History, seen}
use Rattle.tdb_answer.specs.declared.ending.Ending.{Ending}
use Rattle.tdb_answer.specs.declared.ending.Ending.TheVariants.{Replied, Refused, Missing, DeviceFault, NoMemory, LogFault}
use Rattle.tdb_answer.specs.declared.ending.Reply.TheVariants.{Played}
use Rattle.tdb_open.specs.declared.halt.Refusal.{Refusal}
use Rattle.tdb_open.specs.declared.halt.Halt.{Halt}
use Rattle.tdb_open.specs.declared.opening.Opened.{Opened}
use Rattle.tdb_answer.specs.Ending.{of_halt}
use Rattle.tdb_check.specs.Report.{Counted}
use Rattle.tdb_open.specs.Opening.{opened_bytes, log_fault}
use Rattle.tdb_open.specs.declared.halt.Fault.{Fault}
use Rattle.tdb_open.specs.declared.halt.Fault.TheVariants as F
use Rattle.tdb_dump.specs.declared.writer.WriteRefusal.{WriteRefusal}
use Rattle.tdb_dump.specs.declared.writer.WriteRefusal.TheVariants as Untold
use Rattle.tdb_openers.specs.declared.fault.RunFault.{RunFault}
use Rattle.tdb_openers.specs.declared.fault.RunFault.TheVariants as Run
use Rattle.tdb_commands.specs.declared.options.Options.{Options}
use Rattle.tdb_open.specs.Loading.{OpensToTurn, IsRefusedToTurn, IsOpened, TurnOpeningHeard, OpenedToTurn}
use Rattle.tdb_answer.specs.Commands.Turns.{PlayedWhole, CameOver, IsReport}

-- how plays end: all were taken and told; or they broke off, since the disk or a log failed, or memory was wanting;
-- or the output failed
abbrev pub PlaysEnd : Type 0
PlaysEnd = Result (Result (Unit {0}) Fault) Unprinted

-- what holds unless the disk failed, and where it did
abbrev pub UnlessBroken : PlaysEnd → Type 0 → Type 0
UnlessBroken (Ok (Err F.Device)) p = Unit {0}
UnlessBroken (Err Rest.Fault) p = Unit {0}
UnlessBroken answer p = p

abbrev pub OnBroken : PlaysEnd → Type 0 → Type 0
OnBroken (Ok (Err F.Device)) p = p
OnBroken (Err Rest.Fault) p = p
OnBroken answer p = Unit {0}

-- an end that no failed call of the disk and no log made
abbrev pub IsUnbroken : PlaysEnd → Type 0
IsUnbroken (Ok (Err F.Device)) = ⊥
IsUnbroken (Ok (Err F.Log)) = ⊥
IsUnbroken (Err Rest.Fault) = ⊥
IsUnbroken (Err Rest.Pairs) = ⊥
IsUnbroken (Err Rest.Files) = ⊥
IsUnbroken answer = Unit {0}

-- Why plays broke off, if they did, in the words of a session: logs heard of their lines what they hear of those of a
-- session that breaks off so (`HeardSo` of `tdb_tool`).
abbrev pub broke_off : PlaysEnd → Option SessionFault
broke_off (Ok (Ok v)) = None
broke_off (Ok (Err F.Device)) = Some Broke.Device
broke_off (Ok (Err F.Memory)) = Some Broke.Memory
broke_off (Ok (Err F.Log)) = Some Broke.Log
broke_off (Err unprinted) = Some Broke.Output

-- What a world answers of plays that end so: only a failed call of the disk leaves one of which nothing is known.
abbrev pub run_answer : PlaysEnd → Result (Unit {0}) RunFault
run_answer (Ok (Err F.Device)) = Err Run.Io
run_answer (Err Rest.Fault) = Err Run.Io
run_answer answer = Ok tt

-- All plays were taken from a state to another, and their lines written behind what was there; or they came to a
-- state, and a front of the text of their lines was written. The logs heard of the same lines.
abbrev pub TellsAll : Form → State → List Play → State → Bool → List ℕ → List ℕ → List Logged → List Logged → Type 0
TellsAll f old plays new told before now logs later =
    (lines : List Line) × Course f old (law_plays plays) (law_lines lines) new × (IsTrue told → now ≡ before ++ report_text lines) × Heard logs lines later

abbrev pub TellsFront : Form → State → List Play → State → Bool → List ℕ → List ℕ → List Logged → List Logged → PlaysEnd → Type 0
TellsFront f old plays new told before now logs later answer =
    (lines : List Line) × ComesTo f old (law_plays plays) (law_lines lines) new × (IsTrue told → WroteFront before (report_text lines) now) × HeardSo (broke_off answer) logs lines later

-- by how they end; the state is one that is left, but where the disk failed, when nothing is said of it
abbrev pub RunsTo : Form → State → List Play → (State → Type 0) → Bool → List ℕ → List ℕ → List Logged → List Logged → PlaysEnd → Type 0
RunsTo f old plays IsLeft told before now logs later (Ok (Ok v)) = (new : State) × IsLeft new × TellsAll f old plays new told before now logs later
RunsTo f old plays IsLeft told before now logs later (Ok (Err F.Device)) = (new : State) × TellsFront f old plays new told before now logs later (Ok (Err F.Device))
RunsTo f old plays IsLeft told before now logs later (Ok (Err F.Memory)) = (new : State) × IsLeft new × TellsFront f old plays new told before now logs later (Ok (Err F.Memory))
RunsTo f old plays IsLeft told before now logs later (Ok (Err F.Log)) = (new : State) × IsLeft new × TellsFront f old plays new told before now logs later (Ok (Err F.Log))
RunsTo f old plays IsLeft told before now logs later (Err Rest.Report) = (new : State) × IsLeft new × TellsFront f old plays new told before now logs later (Err Rest.Report)
RunsTo f old plays IsLeft told before now logs later (Err Rest.Fault) = (new : State) × TellsFront f old plays new told before now logs later (Err Rest.Fault)
RunsTo f old plays IsLeft told before now logs later (Err Rest.Pairs) = ⊥
RunsTo f old plays IsLeft told before now logs later (Err Rest.Files) = ⊥

-- Plays led from one moment to another, and ended so, over a disk and an output that tell or don't: from each state
-- that the world may have to one that it may have afterwards. Unless the disk failed the world isn't spent, and the
-- count of faults is as it was.
pub record Ran (disk_tells output_tells : Bool) (old new : Scene) (plays : List Play) (answer : PlaysEnd) : Type 0 where
  pub header : UnlessBroken answer (new.over.world.openers.header ≡ old.over.world.openers.header)
  pub options : UnlessBroken answer (new.over.world.openers.options ≡ old.over.world.openers.options)
  pub unspent : UnlessBroken answer (new.over.spent ≡ false)
  pub rises : old.over.faults ≤ new.over.faults
  pub quiet : UnlessBroken answer (new.over.faults ≡ old.over.faults)
  pub runs : IsTrue disk_tells → (state : State) → IsStateAt old state
      → RunsTo (form_at old.over.world) state plays (IsStateAt new) output_tells old.written new.written old.logs new.logs answer
  pub rose : IsTrue disk_tells → (state : State) → IsStateAt old state → OnBroken answer (Rose old.over.faults new.over.faults)

-- whole lines were written, from the first one on
abbrev pub WroteLines : List Line → List ℕ → List ℕ → Type 0
WroteLines lines before now = (k : ℕ) × (now ≡ before ++ report_text (take k lines))

-- The lines of all commands that aren't done in a world were written, or a front of their text where that broke off:
-- whole lines, unless the output failed.
pub record EndTold (w : Whole) (told : Bool) (before now : List ℕ) (answer : PlaysEnd) : Type 0 where
  pub lines : List Line
  pub is_end : IsEnd w lines
  pub whole : answer ≡ Ok (Ok tt) → IsTrue told → now ≡ before ++ report_text lines
  pub front : IsTrue told → WroteFront before (report_text lines) now
  pub cut : OnOk answer (IsTrue told → WroteLines lines before now)

-- How all plays end, over the image a, after which b is left, on an output that tells what it holds or doesn't.
abbrev pub PlayedFront : Form → Options → List ℕ → Bool → List ℕ → List ℕ → List Logged → List Logged → PlaysEnd → Type 0
PlayedFront f options a told before now logs later answer =
    (lines : List Line) × IsReport f options a lines × (IsTrue told → WroteFront before (report_text lines) now) × HeardSo (broke_off answer) logs lines later

abbrev pub PlayedOver : Form → Options → List ℕ → List Play → List ℕ → Bool → List ℕ → List ℕ → List Logged → List Logged → PlaysEnd → Type 0
PlayedOver f options a plays b told before now logs later (Ok (Ok v)) = PlayedWhole f options a plays b told before now logs later
PlayedOver f options a plays b told before now logs later (Ok (Err F.Device)) = PlayedFront f options a told before now logs later (Ok (Err F.Device))
PlayedOver f options a plays b told before now logs later (Ok (Err F.Memory)) = PlayedFront f options a told before now logs later (Ok (Err F.Memory)) × CameOver f options a b
PlayedOver f options a plays b told before now logs later (Ok (Err F.Log)) = PlayedFront f options a told before now logs later (Ok (Err F.Log)) × CameOver f options a b
PlayedOver f options a plays b told before now logs later (Err Rest.Report) = PlayedFront f options a told before now logs later (Err Rest.Report) × CameOver f options a b
PlayedOver f options a plays b told before now logs later (Err Rest.Fault) = PlayedFront f options a told before now logs later (Err Rest.Fault)
PlayedOver f options a plays b told before now logs later (Err Rest.Pairs) = ⊥
PlayedOver f options a plays b told before now logs later (Err Rest.Files) = ⊥

-- How turns over a file end that is there: it is refused, or it is opened and the plays are taken. Nothing was written
-- where it wasn't opened. The logs heard of the opening, and then of the plays.
pub record PlayedOn (options : Options) (old now : History) (told : Bool) (before after : List ℕ) (logs later : List Logged) (answer : PlaysEnd) (plays : List Play) : Type 0 where
  pub opened : History
  pub opens : OpensToTurn options (seen old)
  pub is_opened : IsOpened options old opened
  pub found : Opened
  pub mid : List Logged
  pub counted : Counted (opened_bytes (seen old)) found.report
  pub heard : TurnOpeningHeard options (seen old) logs mid (Ok found)
  pub over : PlayedOver (form_of (seen opened)) options (seen opened) plays (seen now) told before after mid later answer

-- how they end, as a run tells it
abbrev pub end_told : PlaysEnd → Result Ending Unprinted
end_told (Ok (Ok v)) = Ok (Replied Played)
end_told (Ok (Err F.Device)) = Ok DeviceFault
end_told (Ok (Err F.Memory)) = Ok NoMemory
end_told (Ok (Err F.Log)) = Ok LogFault
end_told (Err unprinted) = Err unprinted

pub data PlayedFile (options : Options) (old now : History) (plays : List Play) (told : Bool) (before after : List ℕ) (logs later : List Logged) : Result Ending Unprinted → Type 0 where
  file_unplayed : (halt : Halt) → OpenedToTurn options old now (Err halt) → after ≡ before → TurnOpeningHeard options (seen old) logs later (Err halt)
      → PlayedFile options old now plays told before after logs later (Ok (of_halt halt))
  file_played : (answer : PlaysEnd) → PlayedOn options old now told before after logs later answer plays → PlayedFile options old now plays told before after logs later (end_told answer)

-- all plays were taken over the file that is held, and told
abbrev pub PlayedAll : Options → List Play → Option History → Option History → Bool → List ℕ → List ℕ → List Logged → List Logged → Type 0
PlayedAll options plays old now told before after logs later =
    (file : History) × (left : History) × (old ≡ Some file) × (now ≡ Some left) × PlayedOn options file left told before after logs later (Ok (Ok tt)) plays

-- Why turns over the file of this name end so that have their script: there is none, or it is refused, or it is opened;
-- or a call failed, or memory was wanting.
pub data PlaysCause (options : Options) (name : List ℕ) (held : Option History) (before after : ℕ) : Ending → Type 0 where
  plays_nowhere : held ≡ None → PlaysCause options name held before after (Missing name)
  plays_refused : (h : History) (refusal : Refusal) → held ≡ Some h → IsRefusedToTurn options (seen h) refusal → PlaysCause options name held before after (Refused refusal)
  plays_opened : (h : History) → held ≡ Some h → OpensToTurn options (seen h) → PlaysCause options name held before after (Replied Played)
  plays_failed : Rose before after → PlaysCause options name held before after DeviceFault
  plays_wanting : PlaysCause options name held before after NoMemory
  plays_unlogged : PlaysCause options name held before after LogFault

-- how plays end, by how they were taken and how they were told
abbrev pub end_of : Result (Result (Unit {0}) LogRefusal) RunFault → Result (Unit {0}) WriteRefusal → PlaysEnd
end_of (Ok (Ok v)) (Ok w) = Ok (Ok tt)
end_of (Ok (Ok v)) (Err Untold.Memory) = Ok (Err F.Memory)
end_of (Ok (Ok v)) (Err Untold.Failed) = Err Rest.Report
end_of (Ok (Err refusal)) (Ok w) = Ok (Err (log_fault refusal))
end_of (Ok (Err refusal)) (Err Untold.Memory) = Ok (Err F.Memory)
end_of (Ok (Err refusal)) (Err Untold.Failed) = Err Rest.Report
end_of (Err Run.Memory) (Ok w) = Ok (Err F.Memory)
end_of (Err Run.Memory) (Err Untold.Memory) = Ok (Err F.Memory)
end_of (Err Run.Memory) (Err Untold.Failed) = Err Rest.Report
end_of (Err Run.Io) (Ok w) = Ok (Err F.Device)
end_of (Err Run.Io) (Err Untold.Memory) = Ok (Err F.Device)
end_of (Err Run.Io) (Err Untold.Failed) = Err Rest.Fault
