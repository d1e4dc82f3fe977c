-- The command that moves a key of a file into another one: why it ends, and what it leaves at the names of both.
use Rattle.std.specs.Prelude.{◌≡◌, ℕ, IsSome, Option, None, Some, List, Result, Ok, Err}
use Rattle.tdb_disk.specs.History.{History, seen}
use Rattle.tdb_space.specs.Form.{form_of}
use Rattle.tdb_space.specs.Pairs.{map_of}
use Rattle.tdb_move.specs.Moved.{Moves}
use Rattle.tdb_move.specs.declared.fault.MoveFault.{MoveFault}
use Rattle.tdb_move.specs.declared.fault.MoveFault.TheVariants as M
use Rattle.tdb_open.specs.Loading.{OpensToTurn, IsRefusedToTurn, IsOpened, OpenedToTurn}
use Rattle.tdb_open.specs.Opening.{OpensSafely, opened_bytes}
use Rattle.tdb_open.specs.declared.halt.Halt.{Halt}
use Rattle.tdb_open.specs.declared.halt.Refusal.{Refusal}
use Rattle.tdb_answer.specs.declared.ending.Ending.{Ending}
use Rattle.tdb_answer.specs.declared.ending.Ending.TheVariants.{Replied, Refused, Missing, DeviceFault, NoMemory, LogFault}
use Rattle.tdb_answer.specs.declared.ending.Reply.TheVariants.{Done, Full, KeyMissing}
use Rattle.tdb_answer.specs.Commands.Backup.{IsUntaken}
use Rattle.tdb_answer.specs.Commands.Session.{session_options}
use Rattle.tdb_answer.specs.Ending.{of_halt}

-- how a move that ran is told to the run
abbrev pub move_told : Result (Unit {0}) MoveFault → Ending
move_told (Ok v) = Replied Done
move_told (Err M.KeyMissing) = Replied KeyMissing
move_told (Err (M.Full len need)) = Replied (Full len need)
move_told (Err M.Device) = DeviceFault
move_told (Err M.Log) = LogFault
move_told (Err M.Memory) = NoMemory

-- what a file with these bytes gives for a key once it is opened
abbrev pub opened_value : List ℕ → List ℕ → Option (List ℕ)
opened_value img key = map_of (form_of (opened_bytes img)) (opened_bytes img) key

-- files are held at both names, and each is opened as for a session
pub record BothOpen (limit : ℕ) (file into : List ℕ) (held : List ℕ → Option History) (h k : History) : Type 0 where
  pub there : held file ≡ Some h
  pub opens : OpensToTurn (session_options limit) (seen h)
  pub other_there : held into ≡ Some k
  pub other_opens : OpensToTurn (session_options limit) (seen k)

-- Why the command ends so, by what is held at both names, but for a failed call, a log that failed and want of memory:
-- there is no file, or it is refused; or it is opened as for a session, and there is no other one, or that is refused;
-- or that is opened so too, and the file doesn't have the key; or it has, and it may be moved, or there may be no room.
pub data MoveSo (limit : ℕ) (key file into : List ℕ) (held : List ℕ → Option History) : Ending → Type 0 where
  no_file : held file ≡ None → MoveSo limit key file into held (Missing file)
  file_refused : (h : History) (refusal : Refusal) → held file ≡ Some h → IsRefusedToTurn (session_options limit) (seen h) refusal → MoveSo limit key file into held (Refused refusal)
  no_other : (h : History) → held file ≡ Some h → OpensToTurn (session_options limit) (seen h) → held into ≡ None → MoveSo limit key file into held (Missing into)
  other_refused : (h k : History) (refusal : Refusal) → held file ≡ Some h → OpensToTurn (session_options limit) (seen h) → held into ≡ Some k → IsRefusedToTurn (session_options limit) (seen k) refusal → MoveSo limit key file into held (Refused refusal)
  no_key : (h k : History) → BothOpen limit file into held h k → opened_value (seen h) key ≡ None → MoveSo limit key file into held (Replied KeyMissing)
  key_moved : (h k : History) → BothOpen limit file into held h k → IsSome (opened_value (seen h) key) → MoveSo limit key file into held (Replied Done)
  no_room : (h k : History) (len need : ℕ) → BothOpen limit file into held h k → IsSome (opened_value (seen h) key) → MoveSo limit key file into held (Replied (Full len need))

-- A file was opened as for a session; a stop in that leaves what its opening may.
pub record WasOpened (limit : ℕ) (old opened : History) : Type 0 where
  pub opens : OpensToTurn (session_options limit) (seen old)
  pub is_opened : IsOpened (session_options limit) old opened
  pub safe : OpensSafely old opened

-- it wasn't
pub record NotOpened (limit : ℕ) (old now : History) (halt : Halt) : Type 0 where
  pub halted : OpenedToTurn (session_options limit) old now (Err halt)
  pub safe : OpensSafely old now

-- A key was moved from an opened file into one, or wasn't.
pub record MovedOn (limit : ℕ) (key : List ℕ) (from now_from old now : History) (answer : Result (Unit {0}) MoveFault) : Type 0 where
  pub into : History
  pub opened : WasOpened limit old into
  pub moves : Moves (form_of (seen from)) (form_of (seen into)) key from into now_from now answer

-- How the command ends over an opened file and one on another disk, and what it leaves of both: the other isn't opened,
-- or a move ran.
pub data MoveLeft (limit : ℕ) (key : List ℕ) (from now_from old now : History) : Ending → Type 0 where
  move_unopened : (halt : Halt) → now_from ≡ from → NotOpened limit old now halt → MoveLeft limit key from now_from old now (of_halt halt)
  move_ran : (answer : Result (Unit {0}) MoveFault) → MovedOn limit key from now_from old now answer → MoveLeft limit key from now_from old now (move_told answer)

-- the same over what is held at the name of the other one
pub data MoveInto (limit : ℕ) (key into : List ℕ) (from now_from : History) (old now : Option History) (e : Ending) : Type 0 where
  other_untaken : now_from ≡ from → now ≡ old → IsUntaken into old e → MoveInto limit key into from now_from old now e
  other_taken : (h k : History) → old ≡ Some h → now ≡ Some k → MoveLeft limit key from now_from h k e → MoveInto limit key into from now_from old now e

-- over a file on a disk that isn't opened yet
pub data MoveFrom (limit : ℕ) (key into : List ℕ) (from now_from : History) (old now : Option History) (e : Ending) : Type 0 where
  from_unopened : (halt : Halt) → NotOpened limit from now_from halt → now ≡ old → e ≡ of_halt halt → MoveFrom limit key into from now_from old now e
  from_opened : (opened : History) → WasOpened limit from opened → MoveInto limit key into opened now_from old now e → MoveFrom limit key into from now_from old now e

-- and over what is held at both names
pub data MoveLeaves (limit : ℕ) (key file into : List ℕ) (held now_held old now : Option History) (e : Ending) : Type 0 where
  from_untaken : now_held ≡ held → now ≡ old → IsUntaken file held e → MoveLeaves limit key file into held now_held old now e
  from_taken : (h k : History) → held ≡ Some h → now_held ≡ Some k → MoveFrom limit key into h k old now e → MoveLeaves limit key file into held now_held old now e

-- the endings of the command
abbrev pub EndsMove : Ending → Type 0
EndsMove (Replied Done) = Unit {0}
EndsMove (Replied KeyMissing) = Unit {0}
EndsMove (Replied (Full len need)) = Unit {0}
EndsMove (Replied reply) = ⊥
EndsMove (Refused refusal) = Unit {0}
EndsMove (Missing name) = Unit {0}
EndsMove DeviceFault = Unit {0}
EndsMove NoMemory = Unit {0}
EndsMove LogFault = Unit {0}
EndsMove _ = ⊥
