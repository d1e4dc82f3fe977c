-- What plays in a world lead to, and what their report tells.
use Rattle.std.specs.Prelude.{ℕ, zero, suc, ◌≡◌, ◌≤◌, ◌<◌, List, [], ◌∷◌, ◌++◌, Bool, IsTrue, Result, Ok, Err}
use Rattle.tdb_disk.specs.Count.{Rose}
use Rattle.tdb_disk.specs.History.{History, seen}
use Rattle.tdb_law.specs.World.{State}
use Rattle.tdb_law.specs.Lines.{Line as LawLine}
use Rattle.tdb_commands.specs.declared.line.Line.{Line}
use Rattle.tdb_commands.specs.declared.line.Line.TheVariants.{Grew, Undone}
use Rattle.tdb_commands.specs.InLaw.{law_lines}
use Rattle.tdb_openers.specs.Played.{UnlessIo, OnIo}
use Rattle.tdb_openers.specs.declared.fault.RunFault.{RunFault}
use Rattle.tdb_openers.specs.declared.fault.RunFault.TheVariants.{Io, Memory}
use Rattle.tdb_world.specs.Whole.{Whole, WorldFits}
use Rattle.tdb_world.specs.States.{IsStateOf}
use Rattle.tdb_world.specs.Courses.Calls.{Calls, StaysFormed}
use Rattle.tdb_world.specs.Courses.Stopped.{StoppedCall}

-- A moment of a play: the world, the history and the length of its file, the count of faults of the disk, and the lines
-- of the report.
pub record Moment : Type 0 where
  pub world : Whole
  pub history : History
  pub size : ℕ
  pub faults : ℕ
  pub lines : List Line

abbrev pub moment : Whole → History → ℕ → ℕ → List Line → Moment
moment world history size faults lines = record { world = world; history = history; size = size; faults = faults; lines = lines }

-- a state of the world at a moment
abbrev pub IsStateAt : Moment → State → Type 0
IsStateAt m state = IsStateOf m.world m.history state

-- The lengths of the file that lines tell lead from one length to another: each growth begins where the line before it
-- ended, and so does what follows an undo, which makes the file no longer.
abbrev pub Lengths : ℕ → List Line → ℕ → Type 0
Lengths from [] to = to ≡ from
Lengths from (Grew one two ∷ lines) to = (one ≡ from) × (one < two) × Lengths two lines to
Lengths from (Undone bytes one ∷ lines) to = (one ≤ from) × Lengths one lines to
Lengths from (line ∷ lines) to = Lengths from lines to

-- What lines tell from a state on, by the answer: all that was to be done, up to a state of the world afterwards; a
-- part of it, where memory was wanting; and where the disk failed what was done up to then, in some state, of which
-- nothing is left to be said.
abbrev pub Comes : {V : Type 0} → Result V RunFault → (State → Type 0) → (V → List LawLine → State → Type 0) → (List LawLine → State → Type 0) → (List LawLine → State → Type 0) → List LawLine → Type 0
Comes (Ok v) IsLeft Whole Part Last lines = (after : State) × IsLeft after × Whole v lines after
Comes (Err Memory) IsLeft Whole Part Last lines = (after : State) × IsLeft after × Part lines after
Comes (Err Io) IsLeft Whole Part Last lines = (left : State) × Last lines left

-- So many calls, in their order. Over the lines so far the file has the first of the two lengths, and behind them all
-- the other.
abbrev pub CallsTell : ℕ → Whole → History → ℕ → List Line → Whole → History → ℕ → Type 0
CallsTell zero w h size lines v g to = (lines ≡ []) × (v ≡ w) × (g ≡ h) × (to ≡ size)
CallsTell (suc n) w h size lines v g to =
    (u : Whole) × (k : History) × (next : ℕ) × (front : List Line) × (rest : List Line) × (lines ≡ front ++ rest) × StaysFormed w u × Lengths size front next
    × Calls w h size front u k next × CallsTell n u k next rest v g to

-- Lines tell the calls that led from one moment to another; where the disk failed, those in front of the failed one,
-- which then left the file as it is.
pub record ToldCalls {V : Type 0} (old new : Moment) (answer : Result V RunFault) (lines : List Line) : Type 0 where
  pub count : ℕ
  pub world : Whole
  pub history : History
  pub size : ℕ
  pub calls : CallsTell count old.world old.history old.size lines world history size
  pub last : UnlessIo answer ((new.world ≡ world) × (new.history ≡ history) × (new.size ≡ size))
  pub stopped : StoppedCall world history size new.history

-- What leads from one moment to another, with this answer, over a disk that tells its bytes or doesn't: lines were
-- added, which tell from each state of the world what was done, each call, and each growth of the file. Unless the disk
-- failed the world stands, and its count of faults is as it was.
pub record Led {V : Type 0} (tells : Bool) (old new : Moment) (answer : Result V RunFault) (Whole : State → V → List LawLine → State → Type 0)
    (Part : State → List LawLine → State → Type 0) (Last : State → List LawLine → State → Type 0) : Type 0 where
  pub header : UnlessIo answer (new.world.openers.header ≡ old.world.openers.header)
  pub options : UnlessIo answer (new.world.openers.options ≡ old.world.openers.options)
  pub rises : old.faults ≤ new.faults
  pub added : List Line
  pub lines : new.lines ≡ old.lines ++ added
  pub grown : UnlessIo answer (Lengths old.size added new.size)
  pub fits : UnlessIo answer (WorldFits new.world (seen new.history) new.size)
  pub quiet : UnlessIo answer (new.faults ≡ old.faults)
  pub told : IsTrue tells → (state : State) → IsStateAt old state → Comes answer (IsStateAt new) (Whole state) (Part state) (Last state) (law_lines added)
  pub calls : IsTrue tells → (state : State) → IsStateAt old state → ToldCalls old new answer added
  pub rose : IsTrue tells → (state : State) → IsStateAt old state → OnIo answer (Rose old.faults new.faults)
