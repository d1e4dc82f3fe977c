-- How parts of a session are done over a file, as far as they come, and their text is written.
use Rattle.std.specs.Prelude.{◌≡◌, ℕ, ◌<◌, ◌≤◌, ◌+◌, ◌⊎◌, Bool, IsTrue, List, [], ◌∷◌, ◌++◌, Option, None, Some, Result, Ok, Err, IfOk, true, false}
use Rattle.tdb_disk.specs.Count.{Rose}
use Rattle.tdb_disk.specs.Stop.{LeavesOnly}
use Rattle.tdb_space.specs.Form.{Form}
use Rattle.tdb_backup.specs.Dump.{WroteFront}
use Rattle.tdb_dump.specs.declared.listing.Listing.{Listing}
use Rattle.tdb_law.specs.Plays.{Gives}
use Rattle.tdb_law.specs.World.{State}
use Rattle.tdb_commands.specs.InLaw.{law_play, law_lines}
use Rattle.tdb_commands.specs.declared.line.Line.{Line}
use Rattle.tdb_commands.specs.declared.play.Play.{Play}
use Rattle.tdb_openers.specs.Played.{PlaysLast}
use Rattle.tdb_world.specs.Whole.{form_at}
use Rattle.tdb_world.specs.Stops.{IsSafe}
use Rattle.tdb_world.specs.Courses.Hearing.{Heard, HeardUpTo}
use Rattle.tdb_world.specs.Courses.Led.{ToldCalls}
use Rattle.tdb_world.specs.OverFile.{moment_of}
use Rattle.tdb_world.specs.Courses.Scene.{Scene, IsStateAt}
use Rattle.tdb_world.specs.Courses.Stops.{IsTransacted, OpensOnTheWay, StaysTold}
use Rattle.tdb_log.specs.Logs.{Logged}
use Rattle.tdb_log.specs.declared.log.LogRefusal.{LogRefusal}
use Rattle.tdb_log.specs.declared.log.LogRefusal.TheVariants as Unheard
use Rattle.tdb_openers.specs.declared.fault.RunFault.{RunFault}
use Rattle.tdb_openers.specs.declared.fault.RunFault.TheVariants as Run
use Rattle.tdb_tool.specs.declared.fault.SessionEnd.{SessionEnd}
use Rattle.tdb_tool.specs.declared.fault.SessionFault.{SessionFault}
use Rattle.tdb_tool.specs.declared.fault.SessionFault.TheVariants as F
use Rattle.tdb_tool.specs.declared.order.Order.{Order}
use Rattle.tdb_script.specs.Lines.{width}
use Rattle.tdb_tool.specs.Asking.{LinesAsk, EndsBefore, Session, BeginsBy}
use Rattle.tdb_tool.specs.Parts.{Part, Silent, parts_of, AllDone, AllCame}
use Rattle.tdb_tool.specs.Replies.{lines_text, tell_pair}

-- the fault of a session, by that of its plays and of its logs
abbrev pub of_run : RunFault → SessionFault
of_run Run.Io = F.Device
of_run Run.Memory = F.Memory

abbrev pub of_log : LogRefusal → SessionFault
of_log Unheard.Failed = F.Log
of_log Unheard.Memory = F.Memory

-- why plays broke off, if they did
abbrev pub fault_of : {V : Type 0} → Result V SessionFault → Option SessionFault
fault_of (Ok v) = None
fault_of (Err fault) = Some fault

-- plays broke off since the disk failed
abbrev pub is_broken : Option SessionFault → Bool
is_broken (Some F.Device) = true
is_broken answer = false

-- what holds unless the disk failed, and where it did
abbrev pub UnlessBroken : Option SessionFault → Type 0 → Type 0
UnlessBroken None p = p
UnlessBroken (Some F.Input) p = p
UnlessBroken (Some F.Output) p = p
UnlessBroken (Some F.Device) p = Unit {0}
UnlessBroken (Some F.Log) p = p
UnlessBroken (Some F.Memory) p = p

abbrev pub OnBroken : Option SessionFault → Type 0 → Type 0
OnBroken None p = Unit {0}
OnBroken (Some F.Input) p = Unit {0}
OnBroken (Some F.Output) p = Unit {0}
OnBroken (Some F.Device) p = p
OnBroken (Some F.Log) p = Unit {0}
OnBroken (Some F.Memory) p = Unit {0}

-- What may be done from a state on: the lines that it gives, the text that is printed of them, and the state to which
-- it leads.
abbrev pub Deed : Type 1
Deed = Form → State → List Line → List ℕ → State → Type 0

-- It was done from a state to another, and its text was written behind what was there; or of its text a front was.
abbrev pub TellsAll : Deed → Form → State → State → Bool → List ℕ → List ℕ → Type 0
TellsAll deed f old new told before now = (lines : List Line) × (text : List ℕ) × deed f old lines text new × (IsTrue told → now ≡ before ++ text)

abbrev pub TellsFront : Deed → Form → State → State → Bool → List ℕ → List ℕ → Type 0
TellsFront deed f old new told before now = (lines : List Line) × (text : List ℕ) × deed f old lines text new × (IsTrue told → WroteFront before text now)

-- It was done, or a part of it, from a state to one that is left.
abbrev pub LeavesAll : Deed → Form → State → (State → Type 0) → Bool → List ℕ → List ℕ → Type 0
LeavesAll deed f old IsLeft told before now = (new : State) × IsLeft new × TellsAll deed f old new told before now

abbrev pub LeavesFront : Deed → Form → State → (State → Type 0) → Bool → List ℕ → List ℕ → Type 0
LeavesFront deed f old IsLeft told before now = (new : State) × IsLeft new × TellsFront deed f old new told before now

-- What was done from a state on, by why it broke off: the whole, or a part. Where the disk failed nothing is said of
-- what is left; where the input did, the whole was done and told; and where a log did, what was done was told.
abbrev pub RunsTo : Deed → Deed → Form → State → (State → Type 0) → Bool → List ℕ → List ℕ → Option SessionFault → Type 0
RunsTo whole part f old IsLeft told before now None = LeavesAll whole f old IsLeft told before now
RunsTo whole part f old IsLeft told before now (Some F.Input) = LeavesAll whole f old IsLeft told before now
RunsTo whole part f old IsLeft told before now (Some F.Output) = LeavesFront part f old IsLeft told before now
RunsTo whole part f old IsLeft told before now (Some F.Device) = (left : State) × TellsFront part f old left told before now
RunsTo whole part f old IsLeft told before now (Some F.Log) = LeavesAll part f old IsLeft told before now
RunsTo whole part f old IsLeft told before now (Some F.Memory) = LeavesFront part f old IsLeft told before now

-- the world isn't spent at a moment
abbrev pub IsUnspent : Scene → Type 0
IsUnspent s = s.over.spent ≡ false

-- Each stop between two moments leaves a file that opens on the way that these lines, which were told in between, tell
-- from a state, and what they tell stays; and unless the disk failed the file is safe at the second.
pub record StopsBetween (old new : Scene) (answer : Option SessionFault) (f : Form) (state : State) (lines : List Line) : Type 0 where
  pub stops : LeavesOnly old.over.history new.over.history (OpensOnTheWay f state (law_lines lines))
  pub stays : StaysTold f old.over.history new.over.history state (law_lines lines)
  pub safe : UnlessBroken answer (IsSafe f new.over.history)

-- logs heard of all of these lines, or up to one whose notice the last of them refused
abbrev pub HeardOrRefused : List Logged → List Line → List Logged → Type 0
HeardOrRefused logs lines later = Heard logs lines later ⊎ ((refusal : LogRefusal) × HeardUpTo refusal logs lines later)

-- What logs heard of lines, by why it broke off: of all. Where a log failed, of those in front of the one whose notice
-- it refused; and where something else broke off, a log may have refused too.
abbrev pub HeardSo : Option SessionFault → List Logged → List Line → List Logged → Type 0
HeardSo None old lines new = Heard old lines new
HeardSo (Some F.Input) old lines new = Heard old lines new
HeardSo (Some F.Output) old lines new = HeardOrRefused old lines new
HeardSo (Some F.Device) old lines new = HeardOrRefused old lines new
HeardSo (Some F.Log) old lines new = HeardUpTo Unheard.Failed old lines new
HeardSo (Some F.Memory) old lines new = HeardOrRefused old lines new

-- What a world answers of plays that broke off so, if they did: only a failed call of the disk leaves one of which
-- nothing is known.
abbrev pub run_answer : Option SessionFault → Result (Unit {0}) RunFault
run_answer (Some F.Device) = Err Run.Io
run_answer answer = Ok tt

-- lines tell the calls that led from one moment to another; where the disk failed, those in front of the failed one
abbrev pub CallsBetween : Scene → Scene → Option SessionFault → List Line → Type 0
CallsBetween old new answer lines = ToldCalls (moment_of old.over []) (moment_of new.over []) (run_answer answer) lines

-- Something was done between two moments; logs heard of its lines, and these tell the calls that did it. Where the file
-- was safe at the first, and the lines are transacted, so it is of stops.
abbrev pub DoneBetween : Scene → Scene → Option SessionFault → Deed → Deed
DoneBetween old new answer deed f state lines text after =
    deed f state lines text after × (IsSafe f old.over.history → IsTransacted f state (law_lines lines) → StopsBetween old new answer f state lines)
    × HeardSo answer old.logs lines new.logs × CallsBetween old new answer lines

-- What was done led from one moment to another, and ended so, over a disk and an output that tell or don't: from each
-- state that the world may have had to one that it has afterwards, with what stops meanwhile leave, what logs heard and
-- which calls the lines tell.
-- Unless the disk failed the world isn't spent, and the count of faults is as it was.
pub record Led (disk_tells output_tells : Bool) (whole part : Deed) (old new : Scene) (answer : Option SessionFault) : Type 0 where
  pub header : UnlessBroken answer (new.over.world.openers.header ≡ old.over.world.openers.header)
  pub options : UnlessBroken answer (new.over.world.openers.options ≡ old.over.world.openers.options)
  pub unspent : UnlessBroken answer (IsUnspent new)
  pub rises : old.over.faults ≤ new.over.faults
  pub quiet : UnlessBroken answer (new.over.faults ≡ old.over.faults)
  pub runs : IsTrue disk_tells → (state : State) → IsStateAt old state
      → RunsTo (DoneBetween old new answer whole) (DoneBetween old new answer part) (form_at old.over.world) state (IsStateAt new) output_tells old.written new.written answer
  pub rose : IsTrue disk_tells → (state : State) → IsStateAt old state → OnBroken answer (Rose old.over.faults new.over.faults)

-- Parts of a session were done, as far as they came.
abbrev pub Ran : (disk_tells output_tells : Bool) (old new : Scene) → List Part → Option SessionFault → Type 0
Ran d o old new parts answer = Led d o (AllDone parts) (AllCame parts) old new answer

-- A play was taken, and its text printed, where pairs are listed so or aren't; the answer tells whether it gave a pair.
-- Or it was begun.
abbrev pub PlayDone : Play → Option Listing → Result Bool SessionFault → Deed
PlayDone play listing answer f old lines text new = Gives f old (law_play play) (law_lines lines) new × (text ≡ lines_text listing lines) × IfOk answer (λ pair. pair ≡ tell_pair lines)

abbrev pub PlayBegun : Play → Option Listing → Deed
PlayBegun play listing f old lines text new = PlaysLast f old (law_play play) (law_lines lines) new × (text ≡ lines_text listing lines)

abbrev pub Played : (disk_tells output_tells : Bool) (old new : Scene) → Play → Option Listing → Result Bool SessionFault → Type 0
Played d o old new play listing answer = Led d o (PlayDone play listing answer) (PlayBegun play listing) old new (fault_of answer)

-- Text that was held is held on: a front of it was written behind what was there, and the rest is held.
abbrev pub HeldBehind : (before text now left : List ℕ) → Type 0
HeldBehind before text now left = (front : List ℕ) × (now ≡ before ++ front) × (front ++ left ≡ text)

-- How a part of a session ends whose plays left this text, and broke off so, if they did: so, and the text was written
-- behind what was there, unless the disk failed; or a write failed, and of the text a front was written.
abbrev pub EndsPrinted : (output_tells : Bool) (plays : Option SessionFault) (before text now : List ℕ) (answer : Option SessionFault) → Type 0
EndsPrinted o plays before text now answer =
    ((answer ≡ plays) × (IsTrue o → UnlessBroken plays (now ≡ before ++ text) × OnBroken plays (now ≡ before)))
    ⊎ ((answer ≡ Some F.Output) × (is_broken plays ≡ false) × (IsTrue o → WroteFront before text now))

-- What the next lines ask for was done, and the others are left, of which the first begins at the next place; or the
-- session ends before them; or what was asked for broke off.
abbrev pub ServedNext : (disk_tells input_tells output_tells : Bool) (old new : Scene) (at : ℕ) (before : List (List ℕ)) (next : ℕ) (after : List (List ℕ)) → Result (Option SessionEnd) SessionFault → Type 0
ServedNext d i o old new at before next after (Ok None) =
    (orders : List Order) × (read : List (List ℕ)) × LinesAsk at read orders × (IsTrue i → before ≡ read ++ after) × (next ≡ at + width read) × (at < next)
    × Ran d o old new (parts_of orders) None
ServedNext d i o old new at before next after (Ok (Some end)) = (IsTrue i → EndsBefore at before end) × (new ≡ old)
ServedNext d i o old new at before next after (Err fault) =
    (orders : List Order) × (read : List (List ℕ)) × (left : List (List ℕ)) × LinesAsk at read orders × (IsTrue i → before ≡ read ++ left)
    × Ran d o old new (parts_of orders) (Some fault)

-- the text asks for these orders, and the session ends so; or it begins by asking for them
abbrev pub AsksFor : List ℕ → List Order → Result SessionEnd SessionFault → Type 0
AsksFor text orders (Ok end) = Session text orders end
AsksFor text orders (Err fault) = BeginsBy text orders

-- The orders that the text asks for were done, as far as they came; and so they were behind a join.
abbrev pub Served : (disk_tells input_tells output_tells : Bool) (old new : Scene) (text : List ℕ) → Result SessionEnd SessionFault → Type 0
Served d i o old new text answer = (orders : List Order) × (IsTrue i → AsksFor text orders answer) × Ran d o old new (parts_of orders) (fault_of answer)

abbrev pub ServedAll : (disk_tells input_tells output_tells : Bool) (old new : Scene) (text : List ℕ) → Result SessionEnd SessionFault → Type 0
ServedAll d i o old new text answer = (orders : List Order) × (IsTrue i → AsksFor text orders answer) × Ran d o old new (Silent Play.Join ∷ parts_of orders) (fault_of answer)
