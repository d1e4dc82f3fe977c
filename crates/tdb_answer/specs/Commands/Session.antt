-- The command that does what the lines of the input order over a file, and prints the replies.
use Rattle.std.specs.Prelude.{◌≡◌, ◌⊎◌, ℕ, Bool, true, false, IsTrue, Option, None, Some, List, [], ◌++◌, Result, Ok, Err}
use Rattle.tdb_disk.specs.Count.{Rose}
use Rattle.tdb_disk.specs.History.{History, seen}
use Rattle.tdb_space.specs.Form.{form_of}
use Rattle.tdb_check.specs.Report.{Counted}
use Rattle.tdb_log.specs.Logs.{Logged}
use Rattle.tdb_law.specs.Beginning.{IsLoaded}
use Rattle.tdb_law.specs.World.{State}
use Rattle.tdb_tool.specs.Asking.{Session, BeginsBy}
use Rattle.tdb_tool.specs.Parts.{AllCame}
use Rattle.tdb_tool.specs.Whole.{session_parts, SessionOver, SessionCame, CameSo, SessionRan}
use Rattle.tdb_tool.specs.declared.fault.SessionEnd.{SessionEnd}
use Rattle.tdb_tool.specs.declared.fault.SessionEnd.TheVariants as End
use Rattle.tdb_tool.specs.declared.fault.SessionFault.{SessionFault}
use Rattle.tdb_tool.specs.declared.fault.SessionFault.TheVariants as F
use Rattle.tdb_tool.specs.declared.order.Order.{Order}
use Rattle.tdb_commands.specs.declared.line.Line.{Line}
use Rattle.tdb_commands.specs.declared.options.Options.{Options}
use Rattle.tdb_world.specs.Courses.Hearing.{Heard}
use Rattle.tdb_commands.specs.InLaw.{options_of}
use Rattle.tdb_answer.specs.declared.ending.Ending.{Ending}
use Rattle.tdb_answer.specs.declared.ending.Ending.TheVariants.{Replied, Refused, Missing, DeviceFault, InputFault, Malformed, NoMemory, LogFault}
use Rattle.tdb_answer.specs.declared.ending.Reply.TheVariants.{Played}
use Rattle.tdb_answer.specs.declared.ending.Unprinted.{Unprinted}
use Rattle.tdb_answer.specs.declared.ending.Unprinted.TheVariants as Rest
use Rattle.tdb_open.specs.declared.halt.Halt.{Halt}
use Rattle.tdb_open.specs.declared.halt.Halt.TheVariants as H
use Rattle.tdb_open.specs.declared.halt.Refusal.{Refusal}
use Rattle.tdb_open.specs.declared.opening.Opened.{Opened}
use Rattle.tdb_open.specs.Notices.{BelowHeard}
use Rattle.tdb_tool.specs.Serving.{HeardOrRefused}
use Rattle.tdb_open.specs.Loading.{OpensToTurn, IsRefusedToTurn, IsOpened, OpenedToTurn}
use Rattle.tdb_world.specs.Loaded.{IsOver}
use Rattle.tdb_answer.specs.Commands.Turns.{ReportHeard}
use Rattle.tdb_answer.specs.Ending.{of_halt, text_of, NothingHeard}
use Rattle.tdb_answer.specs.Input.{Input}
use Rattle.tdb_answer.specs.Looks.{ending_of}
use Rattle.tdb_open.specs.Opening.{opened_bytes}
use Rattle.tdb_answer.specs.Output.{Output}
use Rattle.tdb_open.specs.Opening.{OpensSafely}
use Rattle.tdb_answer.specs.Safe.{StopsSince}

-- how its file is opened: so long at most, and else as turns open one without options
abbrev pub session_options : ℕ → Options
session_options limit = record { limit = limit; nesting = true; read_only = false; seqnum = false }

-- the ending of a session whose orders were all done
abbrev pub of_end : SessionEnd → Ending
of_end End.Ended = Replied Played
of_end (End.Malformed at) = Malformed at

-- Why a session ends so, but for a failed call of the files or want of memory: there is no file, or it is refused; or
-- it is opened, and all orders may be done, or a line is none, or a read of the input failed.
pub data ServesSo (input : Input) (limit : ℕ) (name : List ℕ) (held : Option History) : Ending → Type 0 where
  no_file : held ≡ None → ServesSo input limit name held (Missing name)
  file_refused : (h : History) (refusal : Refusal) → held ≡ Some h → IsRefusedToTurn (session_options limit) (seen h) refusal → ServesSo input limit name held (Refused refusal)
  file_opened : (h : History) → held ≡ Some h → OpensToTurn (session_options limit) (seen h) → ServesSo input limit name held (Replied Played)
  line_bad : (h : History) (at : ℕ) → held ≡ Some h → OpensToTurn (session_options limit) (seen h) → (IsTrue input.tells → (orders : List Order) × Session input.text orders (End.Malformed at))
      → ServesSo input limit name held (Malformed at)
  line_unread : (h : History) → held ≡ Some h → OpensToTurn (session_options limit) (seen h) → Rose input.faults_before input.faults_after → ServesSo input limit name held InputFault

-- What is printed before the line of an ending: a front of the text of a session over the opened image, or nothing
-- where none was begun.
abbrev pub RepliesFront : ℕ → List ℕ → List ℕ → Type 0
RepliesFront limit img text = (orders : List Order) × (new : State) × SessionCame (form_of img) (session_options limit) img orders new true [] text (λ start lines. Unit {0}) (λ lines. Unit {0})

abbrev pub SessionText : ℕ → Option History → Ending → List ℕ → Type 0
SessionText limit (Some h) (Replied reply) text = RepliesFront limit (opened_bytes (seen h)) text
SessionText limit (Some h) (Malformed at) text = RepliesFront limit (opened_bytes (seen h)) text
SessionText limit (Some h) InputFault text = RepliesFront limit (opened_bytes (seen h)) text
SessionText limit (Some h) DeviceFault text = (text ≡ []) ⊎ RepliesFront limit (opened_bytes (seen h)) text
SessionText limit (Some h) NoMemory text = (text ≡ []) ⊎ RepliesFront limit (opened_bytes (seen h)) text
SessionText limit (Some h) LogFault text = (text ≡ []) ⊎ RepliesFront limit (opened_bytes (seen h)) text
SessionText limit held e text = text ≡ []

-- at the name of its file there is one where one was, and none where none was
abbrev pub StaysThere : Option History → Option History → Type 0
StaysThere None now = now ≡ None
StaysThere (Some old) now = (h : History) × (now ≡ Some h)

-- What logs heard of a file with these bytes that was opened for a session: that its gate was undone, if it was open,
-- and what the check counted.
abbrev pub HeardOpened : ℕ → List ℕ → List Logged → List Logged → Type 0
HeardOpened limit img logs mid = (o : Opened) × Counted (opened_bytes img) o.report × BelowHeard limit img logs mid (Ok o)

-- What they heard of one that wasn't opened, by why: of its opening; or nothing, where a call failed or memory was
-- wanting before it.
abbrev pub HeardUnopened : ℕ → List ℕ → List Logged → List Logged → Halt → Type 0
HeardUnopened limit img logs later (H.Refused refusal) = BelowHeard limit img logs later (Err (H.Refused refusal))
HeardUnopened limit img logs later H.Device = (later ≡ logs) ⊎ BelowHeard limit img logs later (Err H.Device)
HeardUnopened limit img logs later H.Memory = (later ≡ logs) ⊎ BelowHeard limit img logs later (Err H.Memory)
HeardUnopened limit img logs later H.Log = BelowHeard limit img logs later (Err H.Log)

-- A session over a file was taken to its end: the file was opened, the orders are those that the text of the input asks
-- for before it ends so, and they were done, with a join before and a close behind them; their text was printed, and
-- the line of the ending behind it, where one tells it. Stops since it was held leave what opens on the way of their
-- lines. Logs heard of the opening, and then of each of these lines.
pub record IsServed (limit : ℕ) (input : Input) (output : Output) (end : SessionEnd) (old now : History) (logs later : List Logged) : Type 0 where
  pub opened : History
  pub is_opened : IsOpened (session_options limit) old opened
  pub mid : List Logged
  pub opening : HeardOpened limit (seen old) logs mid
  pub orders : List Order
  pub asks : IsTrue input.tells → Session input.text orders end
  pub told : List ℕ
  pub over : SessionOver (form_of (seen opened)) (session_options limit) (seen opened) orders (seen now) output.tells output.before told (StopsSince (form_of (seen opened)) old now)
      (λ lines. Heard mid lines later)
  pub line : IsTrue output.tells → output.after ≡ told ++ text_of (of_end end)

-- One was taken as far as it came: the text begins by asking for its orders, and the file is left as they say, by stops
-- too; a front of their text was printed, and maybe more behind it, of the line of the ending. Logs heard of the
-- opening, and then of the lines so.
pub record IsServedSoFar (limit : ℕ) (input : Input) (output : Output) (old now : History) (logs later : List Logged)
    (Hears : List Logged → List Line → List Logged → Type 0) : Type 0 where
  pub opened : History
  pub is_opened : IsOpened (session_options limit) old opened
  pub mid : List Logged
  pub opening : HeardOpened limit (seen old) logs mid
  pub told : List ℕ
  pub came : CameSo (form_of (seen opened)) (session_options limit) (seen opened) (seen now) input.tells input.text output.tells output.before told (StopsSince (form_of (seen opened)) old now)
      (λ lines. Hears mid lines later)
  pub rest : IsTrue output.tells → (more : List ℕ) × (output.after ≡ told ++ more)

-- A failed call of the files broke one off: the same, but that nothing is said of what is read of the file.
pub record IsServedBroken (limit : ℕ) (input : Input) (output : Output) (old now : History) (logs later : List Logged) : Type 0 where
  pub opened : History
  pub is_opened : IsOpened (session_options limit) old opened
  pub mid : List Logged
  pub opening : HeardOpened limit (seen old) logs mid
  pub orders : List Order
  pub asks : IsTrue input.tells → BeginsBy input.text orders
  pub told : List ℕ
  pub left : State
  pub came : SessionCame (form_of (seen opened)) (session_options limit) (seen opened) orders left output.tells output.before told (StopsSince (form_of (seen opened)) old now)
      (λ lines. HeardOrRefused mid lines later)
  pub rest : IsTrue output.tells → (more : List ℕ) × (output.after ≡ told ++ more)

-- how a session that ran is told to the run
abbrev pub session_told : Result SessionEnd SessionFault → Result Ending Unprinted
session_told (Ok end) = Ok (of_end end)
session_told (Err F.Input) = Ok InputFault
session_told (Err F.Output) = Err Rest.Report
session_told (Err F.Device) = Ok DeviceFault
session_told (Err F.Memory) = Ok NoMemory
session_told (Err F.Log) = Ok LogFault

-- A session ran over a file and ended so, with this written before and after it. Logs heard of the opening, and then of
-- the session.
pub record SessionOn (limit : ℕ) (input : Input) (old now : History) (told : Bool) (before after : List ℕ) (logs later : List Logged) (answer : Result SessionEnd SessionFault) : Type 0 where
  pub opened : History
  pub opens : OpensToTurn (session_options limit) (seen old)
  pub is_opened : IsOpened (session_options limit) old opened
  pub safe : OpensSafely old opened
  pub mid : List Logged
  pub opening : HeardOpened limit (seen old) logs mid
  pub ran : SessionRan (form_of (seen opened)) (session_options limit) opened now input.tells input.text told before after mid later answer

-- How a session over a file ends that is there: it isn't opened, nothing is written, and logs heard of the opening
-- alone; or the session runs over it.
pub data SessionFile (limit : ℕ) (input : Input) (old now : History) (told : Bool) (before after : List ℕ) (logs later : List Logged) : Result Ending Unprinted → Type 0 where
  file_unopened : (halt : Halt) → OpenedToTurn (session_options limit) old now (Err halt) → OpensSafely old now → after ≡ before → HeardUnopened limit (seen old) logs later halt
      → SessionFile limit input old now told before after logs later (Ok (of_halt halt))
  session_ran : (answer : Result SessionEnd SessionFault) → SessionOn limit input old now told before after logs later answer
      → SessionFile limit input old now told before after logs later (session_told answer)

-- and how one ends over what is held at the name of its file; where nothing is, logs heard nothing
abbrev pub SessionHeld : ℕ → Input → Option History → Option History → Bool → List ℕ → List ℕ → List Logged → List Logged → Result Ending Unprinted → Type 0
SessionHeld limit input None now told before after logs later r = (now ≡ None) × NothingHeard (ending_of r) logs later
SessionHeld limit input (Some old) now told before after logs later r =
    (h : History) × (now ≡ Some h) × SessionFile limit input old h told before after logs later r

-- the lines of a session over an opened image, as far as it came, from a world just loaded
abbrev pub IsSessionReport : ℕ → List ℕ → List Line → Type 0
IsSessionReport limit img lines =
    (orders : List Order) × (old : State) × (new : State) × (text : List ℕ)
    × IsLoaded (form_of img) old (options_of (session_options limit)) × IsOver (form_of img) img old × AllCame (session_parts orders) (form_of img) old lines text new

-- What logs heard of a session over a file with these bytes that ended so: of the opening, where that failed; and else
-- of it and of the lines of the session. `IsServed` and `IsServedSoFar` say it of the lines whose replies are printed.
pub data FileServed (limit : ℕ) (img : List ℕ) (e : Ending) (logs later : List Logged) : Type 0 where
  served_halt : (halt : Halt) → e ≡ of_halt halt → HeardUnopened limit img logs later halt → FileServed limit img e logs later
  served_report : (mid : List Logged) (lines : List Line) → HeardOpened limit img logs mid → IsSessionReport limit (opened_bytes img) lines → ReportHeard e mid lines later
      → FileServed limit img e logs later

-- by what was held at the name of the file
abbrev pub SessionHeard : ℕ → Option History → Ending → List Logged → List Logged → Type 0
SessionHeard limit None e logs later = NothingHeard e logs later
SessionHeard limit (Some h) e logs later = FileServed limit (seen h) e logs later
