-- How plays are taken and counted, and what logs hear of them, as far as they come.
use Rattle.std.specs.Prelude.{ℕ, ◌+◌, ◌≡◌, ◌≤◌, ◌⊎◌, Bool, IsTrue, List, [], ◌∷◌, ◌++◌, Result, Ok, Err, OnOk, false}
use Rattle.tdb_disk.specs.Count.{Rose}
use Rattle.tdb_disk.specs.History.{History}
use Rattle.tdb_space.specs.Form.{Form}
use Rattle.tdb_law.specs.World.{State}
use Rattle.tdb_law.specs.Plays.{Course}
use Rattle.tdb_log.specs.Logs.{Logged}
use Rattle.tdb_log.specs.declared.log.LogRefusal.{LogRefusal}
use Rattle.tdb_log.specs.declared.log.LogRefusal.TheVariants as Unheard
use Rattle.tdb_commands.specs.InLaw.{law_plays, law_lines}
use Rattle.tdb_commands.specs.declared.line.Line.{Line}
use Rattle.tdb_commands.specs.declared.line.Line.TheVariants.{Idle, Absent}
use Rattle.tdb_commands.specs.declared.play.Play.{Play}
use Rattle.tdb_openers.specs.declared.fault.RunFault.{RunFault}
use Rattle.tdb_openers.specs.declared.fault.RunFault.TheVariants as Run
use Rattle.tdb_openers.specs.Played.{ComesTo}
use Rattle.tdb_world.specs.OverFile.{OverFile, HasState}
use Rattle.tdb_world.specs.Whole.{Whole, form_at}
use Rattle.tdb_world.specs.States.{IsStateOf}
use Rattle.tdb_world.specs.Courses.Hearing.{Heard, HeardUpTo}
use Rattle.tdb_gen.specs.declared.counts.Counts.{Counts}
use Rattle.tdb_gen.specs.declared.fault.GenFault.{GenFault}
use Rattle.tdb_gen.specs.declared.fault.GenFault.TheVariants.{Io, Memory, Log}
use Rattle.tdb_gen.specs.Counts.{counts_of}
use Rattle.tdb_gen.specs.Plays.{joins, groups, group_list, gen_plays, together}
use Rattle.tdb_gen.specs.Rounds.{IsIdle}

-- why plays broke off, as a generation tells it
abbrev pub of_run : RunFault → GenFault
of_run Run.Io = Io
of_run Run.Memory = Memory

abbrev pub of_log : LogRefusal → GenFault
of_log Unheard.Failed = Log
of_log Unheard.Memory = Memory

-- how plays end, by how a turn ended
abbrev pub end_of : {V : Type 0} → Result (Result V LogRefusal) RunFault → Result V GenFault
end_of (Ok (Ok v)) = Ok v
end_of (Ok (Err refusal)) = Err (of_log refusal)
end_of (Err fault) = Err (of_run fault)

-- an answer without its value
abbrev pub end_only : {V : Type 0} → Result V GenFault → Result (Unit {0}) GenFault
end_only (Ok v) = Ok tt
end_only (Err e) = Err e

-- what holds unless the disk failed, and what holds where it did
abbrev pub UnlessIo : {V : Type 0} → Result V GenFault → Type 0 → Type 0
UnlessIo (Ok v) p = p
UnlessIo (Err Io) p = Unit {0}
UnlessIo (Err Memory) p = p
UnlessIo (Err Log) p = p

abbrev pub OnIo : {V : Type 0} → Result V GenFault → Type 0 → Type 0
OnIo (Ok v) p = Unit {0}
OnIo (Err Io) p = p
OnIo (Err Memory) p = Unit {0}
OnIo (Err Log) p = Unit {0}

-- Lists of plays were taken one after the other, each whole, and behind each nobody had an unfinished command.
abbrev pub Parts : Form → State → List (List Play) → List Line → State → Type 0
Parts f old [] lines new = (lines ≡ []) × (new ≡ old)
Parts f old (plays ∷ parts) lines new =
    (mid : State) × (front : List Line) × (rest : List Line) × (lines ≡ front ++ rest) × Course f old (law_plays plays) (law_lines front) mid × IsIdle mid
    × Parts f mid parts rest new

-- What logs heard of lines that broke off so: where a log failed, of those in front of the one whose notice it refused;
-- else of all, or up to one whose notice a log refused.
abbrev pub HeardSo : GenFault → List Logged → List Line → List Logged → Type 0
HeardSo Io old lines new = Heard old lines new ⊎ ((refusal : LogRefusal) × HeardUpTo refusal old lines new)
HeardSo Memory old lines new = Heard old lines new ⊎ ((refusal : LogRefusal) × HeardUpTo refusal old lines new)
HeardSo Log old lines new = HeardUpTo Unheard.Failed old lines new

-- A place between plays: the world with its disk, what was counted, and the logs.
pub record Place : Type 0 where
  pub over : OverFile
  pub counts : Counts
  pub logs : List Logged

abbrev pub place : OverFile → Counts → List Logged → Place
place over counts logs = record { over = over; counts = counts; logs = logs }

-- a state of the world at a place
abbrev pub IsStateAt : Place → State → Type 0
IsStateAt p state = HasState p.over state

-- All plays were taken from one state to another between two places: their lines were counted behind others, and the
-- logs heard of them.
pub record TookAll (f : Form) (old new : Place) (plays : List Play) (start last : State) : Type 0 where
  pub lines : List Line
  pub course : Course f start (law_plays plays) (law_lines lines) last
  pub counted : (told : List Line) → old.counts ≡ counts_of told → new.counts ≡ counts_of (told ++ lines)
  pub heard : Heard old.logs lines new.logs

-- They came to a state, and broke off there; and the logs heard of the lines so far.
pub record TookSome (f : Form) (old new : Place) (plays : List Play) (fault : GenFault) (start last : State) : Type 0 where
  pub lines : List Line
  pub came : ComesTo f start (law_plays plays) (law_lines lines) last
  pub heard : HeardSo fault old.logs lines new.logs

-- by the answer; where the disk failed nothing is said of what is left
abbrev pub LeavesSome : Form → Place → Place → List Play → GenFault → State → Type 0
LeavesSome f old new plays fault start = (last : State) × IsStateAt new last × TookSome f old new plays fault start last

abbrev pub TakesTo : Form → Place → Place → List Play → State → Result (Unit {0}) GenFault → Type 0
TakesTo f old new plays start (Ok v) = (last : State) × IsStateAt new last × TookAll f old new plays start last
TakesTo f old new plays start (Err Io) = (last : State) × TookSome f old new plays Io start last
TakesTo f old new plays start (Err Memory) = LeavesSome f old new plays Memory start
TakesTo f old new plays start (Err Log) = LeavesSome f old new plays Log start

-- Plays led from one place to another, and ended so, over a disk that tells its bytes or doesn't. What they did is said
-- from each state of the world. Unless the disk failed the world isn't spent, and the count of faults is as it was.
pub record Taken (tells : Bool) (old new : Place) (plays : List Play) (answer : Result (Unit {0}) GenFault) : Type 0 where
  pub header : UnlessIo answer (new.over.world.openers.header ≡ old.over.world.openers.header)
  pub unspent : UnlessIo answer (new.over.spent ≡ false)
  pub rises : old.over.faults ≤ new.over.faults
  pub quiet : UnlessIo answer (new.over.faults ≡ old.over.faults)
  pub told : IsTrue tells → (start : State) → IsStateAt old start → TakesTo (form_at old.over.world) old new plays start answer
  pub rose : IsTrue tells → (start : State) → IsStateAt old start → OnIo answer (Rose old.over.faults new.over.faults)

-- So it is with each count and all logs, where nothing is counted of plays, and no log hears of them.
abbrev pub TakenUncounted : Bool → OverFile → OverFile → List Play → Result (Unit {0}) GenFault → Type 0
TakenUncounted tells old new plays answer = (counts : Counts) (logs : List Logged) → Taken tells (place old counts logs) (place new counts logs) plays answer

-- So many openers more have joined in a state of one world than in a state of another.
abbrev pub HaveJoined : Whole → Whole → ℕ → Type 0
HaveJoined old new count = (h : History) (state : State) → IsStateOf old h state → (after : State) × IsStateOf new h after × (after.joined ≡ state.joined + count)

-- All plays of n commands were taken part by part: three openers joined, and then the groups were taken.
pub record TakenInParts (tells : Bool) (n seed : ℕ) (old new : Place) : Type 0 where
  pub mid : Place
  pub joined : Taken tells old mid joins (Ok tt)
  pub three : HaveJoined old.over.world mid.over.world 3
  pub done : Taken tells mid new (together (group_list n seed (groups n))) (Ok tt)

-- They were taken as far as they came; and part by part, where all of them were.
pub record AllTaken (tells : Bool) (n seed : ℕ) (old new : Place) (answer : Result (Unit {0}) GenFault) : Type 0 where
  pub taken : Taken tells old new (gen_plays n seed) answer
  pub parts : OnOk answer (TakenInParts tells n seed old new)

-- lines that only tell of openers with nothing to do
abbrev pub AreIdle : List Line → Type 0
AreIdle [] = Unit {0}
AreIdle (Idle who ∷ lines) = AreIdle lines
AreIdle (Absent who ∷ lines) = AreIdle lines
AreIdle (line ∷ lines) = ⊥

-- Plays with only such lines lead from each state of the world to that state.
abbrev pub Rests : Bool → Place → Place → List Play → Type 0
Rests tells old new plays =
    IsTrue tells → (state : State) → IsStateAt old state → IsStateAt new state × (all : TookAll (form_at old.over.world) old new plays state state) × AreIdle all.lines
