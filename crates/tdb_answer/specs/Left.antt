-- What a task leaves at the name of its file, by its ending.
use Rattle.std.specs.Prelude.{◌≡◌, ◌<◌, ◌⊎◌, ℕ, true, false, IsTrue, IsSome, Option, None, Some, List, ◌∷◌}
use Rattle.tdb_disk.specs.History.{History, seen}
use Rattle.tdb_cmdline.specs.declared.act.Act.{Act}
use Rattle.tdb_cmdline.specs.declared.ask.Task.{Task}
use Rattle.tdb_cmdline.specs.declared.ask.Task.TheVariants.{Create, On, Read, Rescue, Print, Repack, Restore, Backup, Verify, Convert, Merge, Mend, Move, Turns, Session, Generate}
use Rattle.tdb_answer.specs.declared.ending.Ending.{Ending}
use Rattle.tdb_answer.specs.declared.ending.Ending.TheVariants.{Replied, Refused, Missing, There, Usage, DeviceFault, InputFault, Malformed, NoMemory, LogFault}
use Rattle.tdb_answer.specs.declared.ending.Reply.TheVariants.{Done, Restored}
use Rattle.tdb_open.specs.declared.halt.Refusal.TheVariants.{TooLong}
use Rattle.tdb_cmdline.specs.declared.lines.create.NewFile.{NewFile}
use Rattle.tdb_answer.specs.declared.commands.create.Creation as Making
use Rattle.tdb_answer.specs.Acts.{reply_of, Left, Interrupted}
use Rattle.tdb_cmdline.specs.Ask.{Ask}
use Rattle.tdb_cmdline.specs.CopyNames.{IsNameAmong, temporary_name}
use Rattle.tdb_answer.specs.Commands.Backup.{BackupLeaves}
use Rattle.tdb_open.specs.Creating.{new_length}
use Rattle.tdb_answer.specs.Commands.Create.{LeftEmpty, CreateLeaves}
use Rattle.tdb_answer.specs.Commands.Print.{PrintLeaves}
use Rattle.tdb_answer.specs.Commands.Repack.{RepackLeaves}
use Rattle.tdb_answer.specs.Commands.Convert.{ConvertLeaves}
use Rattle.tdb_answer.specs.Commands.Mend.{MendLeaves, StaysSynced}
use Rattle.tdb_answer.specs.Commands.Merge.{MergeLeaves}
use Rattle.tdb_answer.specs.Commands.Moving.{MoveLeaves}
use Rattle.tdb_answer.specs.Commands.Restore.{IsRestored}
use Rattle.tdb_answer.specs.Commands.Session.{StaysThere}
use Rattle.tdb_answer.specs.Commands.Turns.{TurnsLeave}
use Rattle.tdb_answer.specs.Commands.Generate.{GenLeaves}
use Rattle.tdb_answer.specs.Commands.Verify.{VerifyLeaves}
use Rattle.tdb_answer.specs.Ending.{status_of}
use Rattle.tdb_answer.specs.Input.{Input}
use Rattle.tdb_open.specs.Opening.{opened_bytes, SameOrUndone, UndoneIfOpen, OpenedBelow}

-- What an act leaves of its file, which was there, where it ends so. It doesn't end as other tasks do.
abbrev pub ActLeaves : Act → History → Ending → History → Type 0
ActLeaves act old (Replied reply) now = (reply ≡ reply_of act (opened_bytes (seen old))) × Left act old now
ActLeaves act old (Refused refusal) now = OpenedBelow act.limit old now
ActLeaves act old DeviceFault now = Interrupted act old now
ActLeaves act old NoMemory now = SameOrUndone old now
ActLeaves act old LogFault now = UndoneIfOpen old now ⊎ Left act old now
ActLeaves act old (Missing name) now = ⊥
ActLeaves act old (There name) now = ⊥
ActLeaves act old Usage now = ⊥
ActLeaves act old InputFault now = ⊥
ActLeaves act old (Malformed at) now = ⊥

-- what the making of a file leaves at its name where it ends so; it doesn't end as acts do
abbrev pub MakingLeaves : NewFile → Option History → Ending → Option History → Type 0
MakingLeaves file old (Replied reply) now = (reply ≡ Done) × CreateLeaves file.form old Making.TheVariants.Made now
MakingLeaves file old (There name) now = CreateLeaves file.form old Making.TheVariants.There now
MakingLeaves file old DeviceFault now = CreateLeaves file.form old Making.TheVariants.Device now
MakingLeaves file old NoMemory now = CreateLeaves file.form old Making.TheVariants.Memory now
MakingLeaves file old LogFault now = ⊥
MakingLeaves file old (Refused refusal) now = (refusal ≡ TooLong (new_length file.form)) × (file.limit < new_length file.form) × LeftEmpty old now
MakingLeaves file old (Missing name) now = ⊥
MakingLeaves file old Usage now = ⊥
MakingLeaves file old InputFault now = ⊥
MakingLeaves file old (Malformed at) now = ⊥

-- what an act leaves at the name of its file; where none was it leaves none
abbrev pub OnLeaves : Act → Option History → Ending → Option History → Type 0
OnLeaves act None e now = now ≡ None
OnLeaves act (Some old) e now = (h : History) × (now ≡ Some h) × ActLeaves act old e h

-- a file was made of the pairs that the input had, where it tells them
abbrev pub HasRestored : ℕ → Input → Option History → Option History → Type 0
HasRestored limit input old now = (h : History) × (old ≡ None) × (now ≡ Some h) × (IsTrue input.tells → IsRestored limit input.text h)

-- What a restore leaves at the name of its file: what was there, but where it is done or a call of the files failed.
-- Where it is done no file was there, and the new one has the pairs. A file that was there stays whatever the ending
-- is.
pub record RestoreLeaves (limit : ℕ) (input : Input) (old : Option History) (e : Ending) (now : Option History) : Type 0 where
  pub left : (now ≡ old) ⊎ (e ≡ Replied Restored) ⊎ (e ≡ DeviceFault)
  pub done : status_of e ≡ 0 → HasRestored limit input old now
  pub there : IsSome old → now ≡ old

-- what a task on the file of this name leaves there, and one that writes it anew, a backup or a verification at all its
-- names; a look and a rescue leave what is there; of a session more is said with what it prints (`SessionHeld`)
abbrev pub TaskLeaves : Input → Task → List ℕ → (List ℕ → Option History) → Ending → (List ℕ → Option History) → Type 0
TaskLeaves input (On act) file old e now = OnLeaves act (old file) e (now file)
TaskLeaves input (Read look) file old e now = now file ≡ old file
TaskLeaves input Rescue file old e now = now file ≡ old file
TaskLeaves input (Print printout limit) file old e now = PrintLeaves limit (old file) e (now file)
TaskLeaves input (Repack limit) file old e now = RepackLeaves limit file old e now
TaskLeaves input (Create form) file old e now = MakingLeaves form (old file) e (now file)
TaskLeaves input (Restore limit) file old e now = RestoreLeaves limit input (old file) e (now file)
TaskLeaves input (Backup more suffix) file old e now = BackupLeaves suffix (file ∷ more) old e now
TaskLeaves input (Verify more suffix) file old e now = VerifyLeaves suffix (file ∷ more) old e now
TaskLeaves input (Convert new made prefix) file old e now = (now file ≡ old file) × ConvertLeaves made prefix file new (old file) (old new) e (now new)
TaskLeaves input (Mend new) file old e now = StaysSynced (old file) (now file) × MendLeaves file new (old file) (old new) e (now new)
TaskLeaves input (Merge into prefix limit) file old e now = (now file ≡ old file) × MergeLeaves limit prefix file into (old file) (old into) e (now into)
TaskLeaves input (Move key into limit) file old e now = MoveLeaves limit key file into (old file) (now file) (old into) (now into) e
TaskLeaves input (Turns options) file old e now = TurnsLeave options (old file) e (now file)
TaskLeaves input (Session limit) file old e now = StaysThere (old file) (now file)
TaskLeaves input (Generate commands seed) file old e now = GenLeaves commands seed (old file) e (now file)

-- a task on the file of this name may change what is held at that name: there alone; or there and where it makes the
-- file that it writes anew; or at all names of a backup or a verification
abbrev pub MayChange : Task → List ℕ → List ℕ → Type 0
MayChange (On act) file name = name ≡ file
MayChange (Read look) file name = name ≡ file
MayChange Rescue file name = name ≡ file
MayChange (Print printout limit) file name = name ≡ file
MayChange (Repack limit) file name = (name ≡ file) ⊎ (name ≡ temporary_name file)
MayChange (Create form) file name = name ≡ file
MayChange (Restore limit) file name = name ≡ file
MayChange (Convert new made prefix) file name = (name ≡ file) ⊎ (name ≡ new)
MayChange (Mend new) file name = (name ≡ file) ⊎ (name ≡ new)
MayChange (Merge into prefix limit) file name = (name ≡ file) ⊎ (name ≡ into)
MayChange (Move key into limit) file name = (name ≡ file) ⊎ (name ≡ into)
MayChange (Turns options) file name = name ≡ file
MayChange (Session limit) file name = name ≡ file
MayChange (Generate commands seed) file name = name ≡ file
MayChange (Backup more suffix) file name = IsNameAmong false suffix (file ∷ more) name
MayChange (Verify more suffix) file name = IsNameAmong true suffix (file ∷ more) name

-- nothing changed at any other name
abbrev pub SameElse : Task → List ℕ → (List ℕ → Option History) → (List ℕ → Option History) → Type 0
SameElse task file old now = (name : List ℕ) → (MayChange task file name → ⊥) → now name ≡ old name

-- what is left of all files by a run that is asked for this, or for nothing
abbrev pub Leaving : Input → Option Ask → (List ℕ → Option History) → Ending → (List ℕ → Option History) → Type 0
Leaving input None old e now = (name : List ℕ) → now name ≡ old name
Leaving input (Some ask) old e now = SameElse ask.task ask.file old now × TaskLeaves input ask.task ask.file old e now
