-- The command that stores the pairs of a file into another one: why it ends, and what it leaves at the name of the
-- other. The file that is read stays as it is.
use Rattle.std.specs.Prelude.{◌≡◌, ◌⊎◌, ◌≤◌, ℕ, Bool, IsTrue, Option, None, Some, List, Result, Ok, Err, length}
use Rattle.tdb_disk.specs.Count.{Rose}
use Rattle.tdb_disk.specs.History.{History, seen}
use Rattle.tdb_space.specs.Form.{form_of}
use Rattle.tdb_space.specs.Pairs.{order_of}
use Rattle.tdb_rewrite.specs.Rewritten.{chosen}
use Rattle.tdb_merge.specs.Merged.{Merges}
use Rattle.tdb_merge.specs.declared.fault.MergeFault.{MergeFault}
use Rattle.tdb_merge.specs.declared.fault.MergeFault.TheVariants as M
use Rattle.tdb_open.specs.Loading.{OpensToTurn, IsRefusedToTurn, IsOpened, OpenedToTurn}
use Rattle.tdb_open.specs.Opening.{CanRead, OpensSafely, ReadHaltsBelow}
use Rattle.tdb_open.specs.declared.halt.Halt.{Halt}
use Rattle.tdb_open.specs.declared.halt.Refusal.{Refusal}
use Rattle.tdb_answer.specs.declared.ending.Ending.{Ending}
use Rattle.tdb_answer.specs.declared.ending.Ending.TheVariants.{Replied, Refused, Missing, DeviceFault, NoMemory, LogFault}
use Rattle.tdb_answer.specs.declared.ending.Reply.TheVariants.{Done, Full}
use Rattle.tdb_answer.specs.Commands.Backup.{IsUntaken}
use Rattle.tdb_answer.specs.Commands.Session.{session_options}
use Rattle.tdb_answer.specs.Ending.{of_halt}

-- how a merge that ran is told to the run
abbrev pub merge_told : Result (Unit {0}) MergeFault → Ending
merge_told (Ok v) = Replied Done
merge_told (Err (M.Full len need)) = Replied (Full len need)
merge_told (Err M.Starved) = NoMemory
merge_told (Err M.Read) = DeviceFault
merge_told (Err M.Device) = DeviceFault
merge_told (Err M.Log) = LogFault
merge_told (Err M.Memory) = NoMemory

-- a file with these bytes, which may have so many, is opened to be read alone
abbrev pub CanMerge : ℕ → List ℕ → Type 0
CanMerge limit img = (length img ≤ limit) × CanRead img

-- Why the command ends so over a file that is opened to be read alone, by what is held at the name of the other one,
-- but for a failed call, a log that failed and want of memory: there is no other file; it is refused; or it is opened
-- as for a session, and all pairs may be stored, or there may be no room.
pub data MergeSo (limit : ℕ) (into : List ℕ) (held : Option History) : Ending → Type 0 where
  no_other : held ≡ None → MergeSo limit into held (Missing into)
  other_refused : (h : History) (refusal : Refusal) → held ≡ Some h → IsRefusedToTurn (session_options limit) (seen h) refusal → MergeSo limit into held (Refused refusal)
  all_merged : (h : History) → held ≡ Some h → OpensToTurn (session_options limit) (seen h) → MergeSo limit into held (Replied Done)
  no_room : (h : History) (len need : ℕ) → held ≡ Some h → OpensToTurn (session_options limit) (seen h) → MergeSo limit into held (Replied (Full len need))

pub record MergeEnds (limit : ℕ) (img into : List ℕ) (held : Option History) (e : Ending) : Type 0 where
  pub can_merge : CanMerge limit img
  pub so : MergeSo limit into held e

-- A merge of the pairs of an image with this prefix ran over a file: it was opened, and the pairs were merged into it,
-- or weren't.
pub record MergedOn (limit : ℕ) (prefix img : List ℕ) (old now : History) (answer : Result (Unit {0}) MergeFault) : Type 0 where
  pub opened : History
  pub opens : OpensToTurn (session_options limit) (seen old)
  pub is_opened : IsOpened (session_options limit) old opened
  pub safe : OpensSafely old opened
  pub merges : Merges (form_of (seen opened)) (chosen prefix (order_of (form_of img) img)) opened now answer

-- How it ends over a file that is there, and what it leaves: the file wasn't opened, or a merge ran.
pub data MergeLeft (limit : ℕ) (prefix img : List ℕ) (old now : History) : Ending → Type 0 where
  merge_unopened : (halt : Halt) → OpenedToTurn (session_options limit) old now (Err halt) → OpensSafely old now → MergeLeft limit prefix img old now (of_halt halt)
  merge_ran : (answer : Result (Unit {0}) MergeFault) → MergedOn limit prefix img old now answer → MergeLeft limit prefix img old now (merge_told answer)

-- how it ends over what is held at the name of the other file, and what it leaves there
pub data MergeInto (limit : ℕ) (prefix img into : List ℕ) (old now : Option History) (e : Ending) : Type 0 where
  into_untaken : now ≡ old → IsUntaken into old e → MergeInto limit prefix img into old now e
  into_taken : (h k : History) → old ≡ Some h → now ≡ Some k → MergeLeft limit prefix img h k e → MergeInto limit prefix img into old now e

-- The same over what is held at the names of both: the first isn't taken, or isn't opened to be read alone; or it is.
pub data MergeLeaves (limit : ℕ) (prefix file into : List ℕ) (held old : Option History) (e : Ending) (now : Option History) : Type 0 where
  file_untaken : now ≡ old → IsUntaken file held e → MergeLeaves limit prefix file into held old e now
  file_halted : (h : History) (halt : Halt) → held ≡ Some h → now ≡ old → ReadHaltsBelow limit (seen h) halt → e ≡ of_halt halt → MergeLeaves limit prefix file into held old e now
  file_read : (h : History) → held ≡ Some h → CanMerge limit (seen h) → MergeInto limit prefix (seen h) into old now e → MergeLeaves limit prefix file into held old e now

-- the endings of the command
abbrev pub EndsMerge : Ending → Type 0
EndsMerge (Replied Done) = Unit {0}
EndsMerge (Replied (Full len need)) = Unit {0}
EndsMerge (Replied reply) = ⊥
EndsMerge (Refused refusal) = Unit {0}
EndsMerge (Missing name) = Unit {0}
EndsMerge DeviceFault = Unit {0}
EndsMerge NoMemory = Unit {0}
EndsMerge LogFault = Unit {0}
EndsMerge _ = ⊥

-- How often calls of the disk that is read and of the other disk, or of the files, had failed, before and after. Where
-- the files don't tell what they hold, a check of one that another program wrote to may find a fault, and ends the
-- command as a failed call does.
pub record CountedPair (tells : Bool) (read_before read_after before after : ℕ) (e : Ending) : Type 0 where
  pub read_never_falls : read_before ≤ read_after
  pub never_falls : before ≤ after
  pub failed : e ≡ DeviceFault → IsTrue tells → Rose read_before read_after ⊎ Rose before after
  pub sound : (e ≡ DeviceFault → ⊥) → (read_after ≡ read_before) × (after ≡ before)
