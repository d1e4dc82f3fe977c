-- The command that copies files, each to a name beside its own: what it leaves at the names, and why it ends.
use Rattle.std.specs.Prelude.{◌≡◌, ◌≢◌, ◌⊎◌, ◌≤◌, ℕ, Bool, false, IsTrue, Option, None, Some, List, [], ◌∷◌, Result, Ok, Err}
use Rattle.tdb_disk.specs.Count.{Rose}
use Rattle.tdb_disk.specs.History.{History, seen}
use Rattle.tdb_disk.specs.Stop.{Quiet}
use Rattle.tdb_space.specs.Form.{form_of}
use Rattle.tdb_space.specs.Pairs.{order_of, map_of}
use Rattle.tdb_space.specs.Accepted.{Accept}
use Rattle.tdb_backup.specs.Building.{BackupRefused, CopyCause, HoldsPairs}
use Rattle.tdb_backup.specs.Growths.{CopyHeard, growths_of}
use Rattle.tdb_answer.specs.Commands.Create.{new_file_of}
use Rattle.tdb_backup.specs.declared.refusal.BackupRefusal.{BackupRefusal}
use Rattle.tdb_backup.specs.declared.refusal.BackupRefusal.TheVariants as B
use Rattle.tdb_backup.specs.declared.refusal.CopyRefusal.{CopyRefusal}
use Rattle.tdb_backup.specs.declared.refusal.CopyRefusal.TheVariants as C
use Rattle.tdb_answer.specs.declared.ending.Ending.{Ending}
use Rattle.tdb_answer.specs.declared.ending.Ending.TheVariants.{Replied, Refused, Missing, There, Usage, DeviceFault, InputFault, Malformed, NoMemory, LogFault}
use Rattle.tdb_answer.specs.declared.ending.Reply.{Reply}
use Rattle.tdb_open.specs.declared.halt.Refusal.{Refusal}
use Rattle.tdb_open.specs.declared.limits.TheConstants.{LONGEST_FILE}
use Rattle.tdb_cmdline.specs.CopyNames.{copy_name, new_name, IsNameAmong}
use Rattle.tdb_answer.specs.Commands.Check.{keys_in}
use Rattle.tdb_answer.specs.Ending.{of_halt}
use Rattle.tdb_log.specs.Logs.{Logged, ToldAll}
use Rattle.tdb_log.specs.declared.notice.Notice.{Notice}
use Rattle.tdb_open.specs.Opening.{of_log, opened_bytes, CanOpen, IsRefused, SameOrUndone, UndoneIfOpen, LookBroken, HeldOrUndone, HeldBroken}

-- A file is a copy of an image: it is accepted, has the same form and the same map, and all of it is on the medium. It
-- is a new file to which the pairs of the image were added in their order.
pub record IsCopyOf (img : List ℕ) (now : History) : Type 0 where
  pub accepted : Accept (seen now)
  pub form : form_of (seen now) ≡ form_of img
  pub map : (k : List ℕ) → map_of (form_of img) (seen now) k ≡ map_of (form_of img) img k
  pub built : HoldsPairs LONGEST_FILE (new_file_of (form_of img)) (form_of img) (seen now) (order_of (form_of img) img)
  pub quiet : Quiet now

-- Why not all pairs of an image came into a new file. Where one finds no room, that is so of the image that is a
-- new file with those before it.
abbrev pub IsNotCopied : List ℕ → CopyRefusal → Type 0
IsNotCopied img refusal = (made : List ℕ) × CopyCause (new_file_of (form_of img)) (form_of img) made (order_of (form_of img) img) LONGEST_FILE refusal

-- the ending of a backup whose copy is refused so
abbrev pub of_copy : CopyRefusal → Ending
of_copy C.Read = DeviceFault
of_copy C.Write = DeviceFault
of_copy (C.Full len need) = Replied (Reply.Full len need)
of_copy C.Memory = NoMemory

-- the same where logs are told of each growth of the new file
abbrev pub IsNotBackedUp : List ℕ → BackupRefusal → Type 0
IsNotBackedUp img refusal = (made : List ℕ) × BackupRefused (new_file_of (form_of img)) (form_of img) made (order_of (form_of img) img) LONGEST_FILE refusal

abbrev pub of_backup : BackupRefusal → Ending
of_backup (B.Copy refusal) = of_copy refusal
of_backup (B.Log refusal) = of_halt (of_log refusal)

-- the growths of a new file as all pairs of an image are added to it in their order
abbrev pub copy_growths : List ℕ → List Notice
copy_growths img = growths_of LONGEST_FILE (form_of img) (new_file_of (form_of img)) (order_of (form_of img) img)

-- what logs heard of them where not all pairs were added
abbrev pub RefusalHeard : List ℕ → List Logged → List Logged → BackupRefusal → Type 0
RefusalHeard img old new refusal = CopyHeard LONGEST_FILE (form_of img) (new_file_of (form_of img)) (order_of (form_of img) img) old new refusal

-- What logs heard of the growths of a copy of an image by an ending: of all of them, where it was made; else as why not
-- all pairs came into it says. A call that failed may come behind either.
abbrev pub CopyingHeard : List ℕ → Ending → List Logged → List Logged → Type 0
CopyingHeard img e old new =
    (((e ≡ Replied Reply.Copied) ⊎ (e ≡ Replied Reply.Verified)) × ToldAll (copy_growths img) old new)
    ⊎ ((refusal : BackupRefusal) × ((e ≡ of_backup refusal) ⊎ (e ≡ DeviceFault)) × RefusalHeard img old new refusal)

-- what is held at a name is as before, or was removed
abbrev pub IsLeftOf : Option History → Option History → Type 0
IsLeftOf old now = (now ≡ old) ⊎ (now ≡ None)

-- A file was opened and copied: it is as its opening left it, a copy of what it is read as stands at the copy's name,
-- and nothing at the one at which that was made.
pub record Copied (file at_copy at_new : List ℕ) (old now : List ℕ → Option History) : Type 0 where
  pub was : History
  pub is : History
  pub copy : History
  pub there : old file ≡ Some was
  pub can_open : CanOpen (seen was)
  pub stands : now file ≡ Some is
  pub undone : UndoneIfOpen was is
  pub copied : now at_copy ≡ Some copy
  pub copy_of : IsCopyOf (opened_bytes (seen was)) copy
  pub gone : now at_new ≡ None

abbrev pub CopiedAll : List ℕ → List (List ℕ) → (List ℕ → Option History) → (List ℕ → Option History) → Type 0
CopiedAll suffix [] old now = Unit {0}
CopiedAll suffix (file ∷ files) old now = Copied file (copy_name suffix file) (new_name suffix file) old now × CopiedAll suffix files old now

-- The copy of a file wasn't made: the file is as it was, or was undone, and what stands at the copy's name is as it
-- was. What stood at the name at which a copy is made may be removed. Where a call failed the undo may be broken off,
-- and anything may stand at that name.
pub record Stopped (broken : Type 0) (file at_copy at_new : List ℕ) (old now : List ℕ → Option History) : Type 0 where
  pub kept : HeldOrUndone (old file) (now file) ⊎ (broken × HeldBroken (old file) (now file))
  pub copy : now at_copy ≡ old at_copy
  pub left : IsLeftOf (old at_new) (now at_new) ⊎ broken

-- nothing changed at the names of these files
abbrev pub AllStay : Bool → List ℕ → List (List ℕ) → (List ℕ → Option History) → (List ℕ → Option History) → Type 0
AllStay verify suffix files old now = (name : List ℕ) → IsNameAmong verify suffix files name → now name ≡ old name

-- the first of these files were copied, the next one wasn't, as what was held at its name says, and the others weren't
-- looked at
abbrev pub StoppedAt : Type 0 → (List ℕ → Option History → Type 0) → List ℕ → List (List ℕ) → (List ℕ → Option History) → (List ℕ → Option History) → Type 0
StoppedAt broken why suffix [] old now = ⊥
StoppedAt broken why suffix (file ∷ files) old now =
    (Copied file (copy_name suffix file) (new_name suffix file) old now × StoppedAt broken why suffix files old now)
    ⊎ (Stopped broken file (copy_name suffix file) (new_name suffix file) old now × AllStay false suffix files old now × why file (old file))

-- a file is there, and is opened
pub record WasOpened (held : Option History) : Type 0 where
  pub was : History
  pub there : held ≡ Some was
  pub can_open : CanOpen (seen was)

-- there is no room for the next pair of what a file with these bytes is read as: its copy would be too long
pub record HasNoCopy (img : List ℕ) (e : Ending) : Type 0 where
  pub can_open : CanOpen img
  pub len : ℕ
  pub need : ℕ
  pub no_room : IsNotCopied (opened_bytes img) (C.Full len need)
  pub full : e ≡ Replied (Reply.Full len need)

-- why a file isn't copied, but for a failed call and want of memory: it isn't there, or is refused, or its copy is full
abbrev pub EndsAt : List ℕ → Option History → Ending → Type 0
EndsAt file None e = e ≡ Missing file
EndsAt file (Some h) e = ((refusal : Refusal) × IsRefused (seen h) refusal × (e ≡ Refused refusal)) ⊎ HasNoCopy (seen h) e

-- why a backup ends so at a file: that isn't copied for this, or a call failed, or memory was wanting, or a log failed
abbrev pub BackupStops : Ending → List ℕ → Option History → Type 0
BackupStops e file held = EndsAt file held e ⊎ (e ≡ DeviceFault) ⊎ (e ≡ NoMemory) ⊎ (e ≡ LogFault)

-- How a backup of these files ends, but for those: as the first one that isn't copied says, or all were copied.
abbrev pub BackupEnds : List (List ℕ) → (List ℕ → Option History) → Ending → Type 0
BackupEnds [] held e = e ≡ Replied Reply.Copied
BackupEnds (file ∷ files) held e = EndsAt file (held file) e ⊎ (WasOpened (held file) × BackupEnds files held e)

-- why it ends so: as they say; or a call failed; or memory was wanting
abbrev pub BackupCause : List (List ℕ) → (List ℕ → Option History) → ℕ → ℕ → Ending → Type 0
BackupCause files held before after e = BackupEnds files held e ⊎ ((e ≡ DeviceFault) × Rose before after) ⊎ (e ≡ NoMemory) ⊎ (e ≡ LogFault)

-- the endings of a backup
abbrev pub EndsBackup : Ending → Type 0
EndsBackup (Replied reply) = (reply ≡ Reply.Copied) ⊎ ((len : ℕ) × (need : ℕ) × (reply ≡ Reply.Full len need))
EndsBackup (Refused refusal) = Unit {0}
EndsBackup (Missing name) = Unit {0}
EndsBackup (There name) = Unit {0}
EndsBackup DeviceFault = Unit {0}
EndsBackup NoMemory = Unit {0}
EndsBackup LogFault = Unit {0}
EndsBackup Usage = ⊥
EndsBackup InputFault = ⊥
EndsBackup (Malformed at) = ⊥

-- what a backup of these files leaves at their names where it ends so
pub record BackupLeaves (suffix : List ℕ) (files : List (List ℕ)) (old : List ℕ → Option History) (e : Ending) (now : List ℕ → Option History) : Type 0 where
  pub known : EndsBackup e
  pub done : e ≡ Replied Reply.Copied → CopiedAll suffix files old now
  pub stopped : e ≢ Replied Reply.Copied → StoppedAt (e ≡ DeviceFault) (BackupStops e) suffix files old now

-- Why a new file isn't taken in the place of what stood at its name: a call failed, or memory was wanting; where the
-- files tell nothing, one may be there again.
abbrev pub IsUntakenNew : Bool → Ending → Type 0
IsUntakenNew tells e = (e ≡ DeviceFault) ⊎ (e ≡ NoMemory) ⊎ ((IsTrue tells → ⊥) × ((name : List ℕ) × (e ≡ There name)))

-- how the copying of an image to a new file ends, and what stands at its name then
pub data CopyMade (img : List ℕ) (old now : Option History) : Ending → Type 0 where
  copy_made : (copy : History) → now ≡ Some copy → IsCopyOf img copy → CopyMade img old now (Replied Reply.Copied)
  copy_full : (len need : ℕ) → IsNotCopied img (C.Full len need) → now ≡ None → CopyMade img old now (Replied (Reply.Full len need))
  copy_failed : CopyMade img old now DeviceFault
  copy_wanting : IsLeftOf old now → CopyMade img old now NoMemory
  copy_untold : IsLeftOf old now → CopyMade img old now LogFault

-- How the copying of the file on a disk to a new file ends: what is left of that disk, and what stands at the name of
-- the new file.
pub data DiskCopied (was is : History) (old now : Option History) : Ending → Type 0 where
  disk_copied : (copy : History) → CanOpen (seen was) → UndoneIfOpen was is → now ≡ Some copy → IsCopyOf (opened_bytes (seen was)) copy → DiskCopied was is old now (Replied Reply.Copied)
  disk_refused : (refusal : Refusal) → IsRefused (seen was) refusal → SameOrUndone was is → now ≡ old → DiskCopied was is old now (Refused refusal)
  disk_full : (len need : ℕ) → CanOpen (seen was) → SameOrUndone was is → IsNotCopied (opened_bytes (seen was)) (C.Full len need) → now ≡ None → DiskCopied was is old now (Replied (Reply.Full len need))
  disk_failed : LookBroken was is → DiskCopied was is old now DeviceFault
  disk_wanting : SameOrUndone was is → IsLeftOf old now → DiskCopied was is old now NoMemory
  disk_unlogged : SameOrUndone was is → IsLeftOf old now → DiskCopied was is old now LogFault

-- why a file isn't taken that is to be there
abbrev pub IsUntaken : List ℕ → Option History → Ending → Type 0
IsUntaken file held e = ((held ≡ None) × (e ≡ Missing file)) ⊎ (e ≡ DeviceFault) ⊎ (e ≡ NoMemory)

-- the same of the file at a name, which may not be taken
pub data FileCopied (file : List ℕ) (old now made_old made_now : Option History) (e : Ending) : Type 0 where
  file_untaken : now ≡ old → made_now ≡ made_old → IsUntaken file old e → FileCopied file old now made_old made_now e
  file_taken : (was is : History) → old ≡ Some was → now ≡ Some is → DiskCopied was is made_old made_now e → FileCopied file old now made_old made_now e

-- the ending of a copy of a file with so many keys
abbrev pub copy_ending : Result ℕ Ending → Ending
copy_ending (Ok keys) = Replied Reply.Copied
copy_ending (Err e) = e

-- what is read as the file at a name has so many keys
pub record HasKeys (held : Option History) (keys : ℕ) : Type 0 where
  pub was : History
  pub there : held ≡ Some was
  pub number : keys ≡ keys_in (opened_bytes (seen was))

-- one file was backed up, or wasn't: why, and what is left at its names
pub record BackedUpOne (file at_copy at_new : List ℕ) (old now : List ℕ → Option History) (before after : ℕ) (e : Ending) : Type 0 where
  pub cause : BackupCause (file ∷ []) old before after e
  pub copied : e ≡ Replied Reply.Copied → Copied file at_copy at_new old now
  pub stopped : e ≢ Replied Reply.Copied → Stopped (e ≡ DeviceFault) file at_copy at_new old now

-- the same of all files of a backup
pub record BackedUp (suffix : List ℕ) (files : List (List ℕ)) (old now : List ℕ → Option History) (before after : ℕ) (e : Ending) : Type 0 where
  pub cause : BackupCause files old before after e
  pub leaves : BackupLeaves suffix files old e now

-- how often calls of a disk and of the files had failed, before and after a call that ends so
pub record CountedBoth (disk_before disk_after before after : ℕ) (e : Ending) : Type 0 where
  pub disk_never_falls : disk_before ≤ disk_after
  pub never_falls : before ≤ after
  pub failed : e ≡ DeviceFault → Rose disk_before disk_after ⊎ Rose before after
  pub sound : (e ≡ DeviceFault → ⊥) → (disk_after ≡ disk_before) × (after ≡ before)
