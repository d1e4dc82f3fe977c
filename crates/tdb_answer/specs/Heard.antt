-- What the logs of a run are told.
use Rattle.std.specs.Prelude.{ℕ, ◌≡◌, ◌≢◌, ◌⊎◌, List, [], ◌∷◌, Option, None, Some, Result, Ok, Err, true, length}
use Rattle.tdb_disk.specs.History.{History, seen}
use Rattle.tdb_check.specs.Report.{Counted}
use Rattle.tdb_log.specs.Logs.{Logged, ToldAll, ToldUpTo, growth}
use Rattle.tdb_log.specs.declared.log.LogRefusal.{LogRefusal}
use Rattle.tdb_log.specs.declared.notice.Notice.{Notice}
use Rattle.tdb_open.specs.Notices.{OpeningHeard, ReadingHeard, BelowHeard, ReadingBelowHeard}
use Rattle.tdb_open.specs.Opening.{opened_bytes}
use Rattle.tdb_open.specs.declared.halt.Fault.{Fault}
use Rattle.tdb_open.specs.declared.halt.Fault.TheVariants as F
use Rattle.tdb_open.specs.declared.halt.Halt.{Halt}
use Rattle.tdb_open.specs.declared.opening.Opened.{Opened}
use Rattle.tdb_cmdline.specs.CopyNames.{copy_name}
use Rattle.tdb_cmdline.specs.Ask.{Ask}
use Rattle.tdb_cmdline.specs.declared.ask.Task.{Task}
use Rattle.tdb_cmdline.specs.declared.ask.Task.TheVariants.{Create, On, Read, Rescue, Print, Repack, Restore, Backup, Verify, Convert, Merge, Mend, Move, Turns, Session, Generate}
use Rattle.tdb_answer.specs.declared.ending.Ending.{Ending}
use Rattle.tdb_answer.specs.declared.ending.Ending.TheVariants.{Replied, DeviceFault, NoMemory, LogFault}
use Rattle.tdb_answer.specs.declared.ending.Reply.{Reply}
use Rattle.tdb_answer.specs.declared.ending.Reply.TheVariants.{Copied, Verified}
use Rattle.tdb_answer.specs.declared.commands.verify.Unverified.{Unverified}
use Rattle.tdb_answer.specs.declared.commands.verify.Unverified.TheVariants.{Ends, Unprinted}
use Rattle.tdb_answer.specs.Commands.Backup.{CopyingHeard}
use Rattle.tdb_answer.specs.Commands.Generate.{GenHeard}
use Rattle.tdb_answer.specs.Commands.Restore.{RestoreHeard}
use Rattle.tdb_answer.specs.Commands.Session.{SessionHeard}
use Rattle.tdb_answer.specs.Commands.Turns.{TurnsHeard}
use Rattle.tdb_answer.specs.Commands.Verify.{tells_fault}
use Rattle.tdb_answer.specs.Ending.{of_halt, NothingHeard}
use Rattle.tdb_answer.specs.Input.{Input}

-- What logs heard of a command over one file that ended so, by what they hear of its opening and of what the command
-- did then: it wasn't taken, for a failed call or want of memory; or it wasn't opened; or it was, with the counts of
-- the bytes that it is read as, and then they heard more.
pub data FileHeard (read : List ℕ) (Opening : List Logged → List Logged → Result Opened Halt → Type 0) (e : Ending) (More : List Logged → List Logged → Type 0) (old new : List Logged) : Type 0 where
  heard_nothing : (e ≡ DeviceFault) ⊎ (e ≡ NoMemory) → new ≡ old → FileHeard read Opening e More old new
  heard_halt : (halt : Halt) → e ≡ of_halt halt → Opening old new (Err halt) → FileHeard read Opening e More old new
  heard_more : (o : Opened) (mid : List Logged) → Counted read o.report → Opening old mid (Ok o) → More mid new → FileHeard read Opening e More old new

-- Notices were told by a command that ended so: all of them; or, where a log failed, those before one that the last log
-- refused; and after a failed call none.
abbrev pub ToldFor : Ending → List Notice → List Logged → List Logged → Type 0
ToldFor LogFault notices old new = (refusal : LogRefusal) × ToldUpTo refusal notices old new
ToldFor DeviceFault notices old new = new ≡ old
ToldFor e notices old new = ToldAll notices old new

-- what logs heard of an act on an opened file, by its answer and the lengths of the file before and after: its growth
abbrev pub GrowthHeard : {A : Type 0} → ℕ → ℕ → List Logged → List Logged → Result A Fault → Type 0
GrowthHeard from to old new (Ok v) = ToldAll (growth from to) old new
GrowthHeard from to old new (Err F.Device) = new ≡ old
GrowthHeard from to old new (Err F.Memory) = ToldAll (growth from to) old new
GrowthHeard from to old new (Err F.Log) = (refusal : LogRefusal) × ToldUpTo refusal (growth from to) old new

-- what logs heard of an act that was to be on an opened file, which may have so many bytes, by the length that the file
-- has then
abbrev pub ActedHeard : ℕ → List ℕ → ℕ → Ending → List Logged → List Logged → Type 0
ActedHeard limit img now e old new = FileHeard (opened_bytes img) (BelowHeard limit img) e (ToldFor e (growth (length (opened_bytes img)) now)) old new

-- the ending of an act that was to be on a file
abbrev pub acted_ending : Result Reply Halt → Ending
acted_ending (Ok reply) = Replied reply
acted_ending (Err halt) = of_halt halt

-- how many bytes are held at a name
abbrev pub held_length : Option History → ℕ
held_length None = 0
held_length (Some h) = length (seen h)

-- What logs heard of an act on the file at a name: its opening, and its growth, if the act made it grow. Where no file
-- was held they heard nothing.
abbrev pub ActHeard : ℕ → Option History → Option History → Ending → List Logged → List Logged → Type 0
ActHeard limit None now e old new = NothingHeard e old new
ActHeard limit (Some h) now e old new = ActedHeard limit (seen h) (held_length now) e old new

-- what they heard of a look into it, and of a printing of what it holds or where it is written anew: its opening
abbrev pub LookHeard : Option History → Ending → List Logged → List Logged → Type 0
LookHeard None e old new = NothingHeard e old new
LookHeard (Some h) e old new = FileHeard (seen h) (ReadingHeard (seen h)) e (ToldFor e []) old new

abbrev pub PrintHeard : ℕ → Option History → Ending → List Logged → List Logged → Type 0
PrintHeard limit None e old new = NothingHeard e old new
PrintHeard limit (Some h) e old new = FileHeard (opened_bytes (seen h)) (BelowHeard limit (seen h)) e (ToldFor e []) old new

-- and where it was opened to be read alone, and may have so many bytes
abbrev pub ConvertHeard : ℕ → Option History → Ending → List Logged → List Logged → Type 0
ConvertHeard limit None e old new = NothingHeard e old new
ConvertHeard limit (Some h) e old new = FileHeard (seen h) (ReadingBelowHeard limit (seen h)) e (ToldFor e []) old new

-- and where it was so opened, and its pairs are stored into another one: nothing is said of what they heard of that
abbrev pub MergeHeard : ℕ → Option History → Ending → List Logged → List Logged → Type 0
MergeHeard limit None e old new = NothingHeard e old new
MergeHeard limit (Some h) e old new = FileHeard (seen h) (ReadingBelowHeard limit (seen h)) e (λ mid later. Unit {0}) old new

-- and where it was opened as for a session, and a key of it is moved into another one: nothing is said of what they
-- heard of that
abbrev pub MoveHeard : ℕ → Option History → Ending → List Logged → List Logged → Type 0
MoveHeard limit None e old new = NothingHeard e old new
MoveHeard limit (Some h) e old new = FileHeard (opened_bytes (seen h)) (BelowHeard limit (seen h)) e (λ mid later. Unit {0}) old new

-- and where it was opened to be counted
abbrev pub OpenHeard : Option History → Ending → List Logged → List Logged → Type 0
OpenHeard None e old new = NothingHeard e old new
OpenHeard (Some h) e old new = FileHeard (opened_bytes (seen h)) (OpeningHeard (seen h)) e (ToldFor e []) old new

-- and where it was opened to be copied: its opening, and then each growth of the copy
abbrev pub CopiedHeard : Option History → Ending → List Logged → List Logged → Type 0
CopiedHeard None e old new = NothingHeard e old new
CopiedHeard (Some h) e old new = FileHeard (opened_bytes (seen h)) (OpeningHeard (seen h)) e (CopyingHeard (opened_bytes (seen h)) e) old new

-- What logs heard of a backup of these files that ended so: the opening of each and the growths of its copy, one after
-- the other, up to the one at which it ended.
abbrev pub BackupHeard : List (List ℕ) → (List ℕ → Option History) → Ending → List Logged → List Logged → Type 0
BackupHeard [] held e old new = NothingHeard e old new
BackupHeard (file ∷ files) held e old new =
    ((e ≢ Replied Copied) × CopiedHeard (held file) e old new)
    ⊎ ((mid : List Logged) × CopiedHeard (held file) (Replied Copied) old mid × BackupHeard files held e mid new)

-- What logs heard of a file that is verified, which ended so: its opening; or, where it is refused for a fault, that
-- and then the opening of its copy and the growths of the file that is made of that.
abbrev pub CountHeard : Option History → Option History → Ending → List Logged → List Logged → Type 0
CountHeard own copy e old new =
    OpenHeard own e old new
    ⊎ ((refused : Ending) × (mid : List Logged) × (tells_fault refused ≡ true) × OpenHeard own refused old mid × CopiedHeard copy e mid new)

-- the ending of a verification whose files so far were verified so; where the output failed, how it would have ended
-- isn't known (`rest_of`)
abbrev pub count_ending : {A : Type 0} → Result A Unverified → Ending
count_ending (Ok v) = Replied Verified
count_ending (Err (Ends e)) = e
count_ending (Err Unprinted) = NoMemory

-- and of a verification of these files
abbrev pub VerifyHeard : List ℕ → List (List ℕ) → (List ℕ → Option History) → Ending → List Logged → List Logged → Type 0
VerifyHeard suffix [] held e old new = NothingHeard e old new
VerifyHeard suffix (file ∷ files) held e old new =
    ((e ≢ Replied Verified) × CountHeard (held file) (held (copy_name suffix file)) e old new)
    ⊎ ((mid : List Logged) × CountHeard (held file) (held (copy_name suffix file)) (Replied Verified) old mid × VerifyHeard suffix files held e mid new)

-- What logs heard of a task on the file of this name that ended so, by the input and what was held at each name before
-- and after. The making of an empty file, a rescue and a mending tell them nothing.
abbrev pub TaskHeard : Input → Task → List ℕ → (List ℕ → Option History) → (List ℕ → Option History) → Ending → List Logged → List Logged → Type 0
TaskHeard input (On act) name held now e old new = ActHeard act.limit (held name) (now name) e old new
TaskHeard input (Read look) name held now e old new = LookHeard (held name) e old new
TaskHeard input Rescue name held now e old new = NothingHeard e old new
TaskHeard input (Print printout limit) name held now e old new = PrintHeard limit (held name) e old new
TaskHeard input (Repack limit) name held now e old new = PrintHeard limit (held name) e old new
TaskHeard input (Create form) name held now e old new = NothingHeard e old new
TaskHeard input (Restore limit) name held now e old new = RestoreHeard limit input (held name) e old new
TaskHeard input (Backup more suffix) name held now e old new = BackupHeard (name ∷ more) held e old new
TaskHeard input (Verify more suffix) name held now e old new = VerifyHeard suffix (name ∷ more) held e old new
TaskHeard input (Convert other made prefix) name held now e old new = ConvertHeard made.limit (held name) e old new
TaskHeard input (Mend other) name held now e old new = NothingHeard e old new
TaskHeard input (Merge into prefix limit) name held now e old new = MergeHeard limit (held name) e old new
TaskHeard input (Move key into limit) name held now e old new = MoveHeard limit (held name) e old new
TaskHeard input (Turns options) name held now e old new = TurnsHeard options (held name) e old new
TaskHeard input (Session limit) name held now e old new = SessionHeard limit (held name) e old new
TaskHeard input (Generate commands seed) name held now e old new = GenHeard commands seed (now name) e old new

-- and of a run that is asked for this, or for nothing
abbrev pub AskHeard : Input → Option Ask → (List ℕ → Option History) → (List ℕ → Option History) → Ending → List Logged → List Logged → Type 0
AskHeard input None held now e old new = NothingHeard e old new
AskHeard input (Some ask) held now e old new = TaskHeard input ask.task ask.file held now e old new
