-- The command that writes a file anew: why it ends, and what it leaves at the name of the file and at the one at which
-- it makes the new file.
use Rattle.std.specs.Prelude.{◌≡◌, ◌⊎◌, ◌≤◌, ℕ, Option, None, Some, List, [], length}
use Rattle.tdb_disk.specs.History.{History, seen}
use Rattle.tdb_space.specs.Form.{form_of}
use Rattle.tdb_cmdline.specs.CopyNames.{temporary_name}
use Rattle.tdb_open.specs.Opening.{opened_bytes, CanOpen, UndoneIfOpen, SameOrUndone, LookBroken, IsRefusedBelow, OpenedBelow}
use Rattle.tdb_answer.specs.declared.ending.Ending.{Ending}
use Rattle.tdb_answer.specs.declared.ending.Ending.TheVariants.{Replied, Refused, DeviceFault, NoMemory, LogFault}
use Rattle.tdb_answer.specs.declared.ending.Reply.{Reply}
use Rattle.tdb_answer.specs.declared.ending.Reply.TheVariants.{Done}
use Rattle.tdb_answer.specs.Commands.Backup.{IsLeftOf, IsUntaken}
use Rattle.tdb_answer.specs.Commands.Rewriting.{IsWrittenAnew, IsFullFor}

-- a file is an image written anew: in the form of the image, and of all its pairs
abbrev pub IsRepacked : List ℕ → History → Type 0
IsRepacked img now = IsWrittenAnew img [] (form_of img) now

-- there is no room for the next pair of what a file with these bytes is read as, where it is written anew
abbrev pub HasNoRepack : ℕ → List ℕ → Reply → Type 0
HasNoRepack limit img reply = IsFullFor (opened_bytes img) [] (form_of (opened_bytes img)) limit reply

-- How the command ends over a file with these bytes, but for a refusal of the file, a failed call, a log that failed
-- and want of memory: it has no more bytes than it may and is opened, and it is written anew, or a new one has no room.
pub record RepackEnds (limit : ℕ) (img : List ℕ) (e : Ending) : Type 0 where
  pub within : length img ≤ limit
  pub can_open : CanOpen img
  pub ends : (e ≡ Replied Done) ⊎ ((reply : Reply) × HasNoRepack limit img reply × (e ≡ Replied reply))

-- a file that may have so many bytes was opened, and one that was written anew from it stands at another name
pub record NewStands (limit : ℕ) (was is : History) (made : Option History) : Type 0 where
  pub within : length (seen was) ≤ limit
  pub can_open : CanOpen (seen was)
  pub undone : UndoneIfOpen was is
  pub new : History
  pub stands : made ≡ Some new
  pub repacked : IsRepacked (opened_bytes (seen was)) new

-- The file isn't written anew: how that ended, what is left of the file, and what stands at the name of the new one.
-- What stood there may be removed, and where a call failed anything may stand there.
abbrev pub NotRepacked : ℕ → History → Ending → History → Option History → Option History → Type 0
NotRepacked limit was (Replied reply) is made_old made_now =
    (length (seen was) ≤ limit) × CanOpen (seen was) × HasNoRepack limit (seen was) reply × UndoneIfOpen was is × (made_now ≡ None)
NotRepacked limit was (Refused refusal) is made_old made_now = IsRefusedBelow limit (seen was) refusal × OpenedBelow limit was is × (made_now ≡ made_old)
NotRepacked limit was DeviceFault is made_old made_now = LookBroken was is
NotRepacked limit was NoMemory is made_old made_now = SameOrUndone was is × IsLeftOf made_old made_now
NotRepacked limit was LogFault is made_old made_now = OpenedBelow limit was is × (made_now ≡ made_old)
NotRepacked limit was _ is made_old made_now = ⊥

-- where the file was opened before: how the making of the new one ended, and what stands at its name
abbrev pub NewUnmade : ℕ → List ℕ → Ending → Option History → Option History → Type 0
NewUnmade limit img (Replied reply) made_old made_now = IsFullFor img [] (form_of img) limit reply × (made_now ≡ None)
NewUnmade limit img DeviceFault made_old made_now = Unit {0}
NewUnmade limit img NoMemory made_old made_now = IsLeftOf made_old made_now
NewUnmade limit img _ made_old made_now = ⊥

-- the file at a name was opened, and one that was written anew from it stands at another name
pub record NewHeld (limit : ℕ) (old now made : Option History) : Type 0 where
  pub was : History
  pub is : History
  pub there : old ≡ Some was
  pub stands : now ≡ Some is
  pub new : NewStands limit was is made

-- the file at a name is there, and isn't written anew
pub record RepackHalted (limit : ℕ) (old now made_old made_now : Option History) (e : Ending) : Type 0 where
  pub was : History
  pub is : History
  pub there : old ≡ Some was
  pub stands : now ≡ Some is
  pub halted : NotRepacked limit was e is made_old made_now

-- it wasn't taken, or it isn't written anew
abbrev pub RepackStopped : ℕ → List ℕ → Option History → Option History → Option History → Option History → Ending → Type 0
RepackStopped limit file old now made_old made_now e =
    ((now ≡ old) × (made_now ≡ made_old) × IsUntaken file old e) ⊎ RepackHalted limit old now made_old made_now e

-- the file was written anew in its place, and nothing stands at the name at which that was made
abbrev pub HasRepacked : History → History → Option History → Type 0
HasRepacked was is made = IsRepacked (opened_bytes (seen was)) is × (made ≡ None)

-- the file at a name was
pub record WasRepacked (limit : ℕ) (old now made : Option History) : Type 0 where
  pub was : History
  pub is : History
  pub there : old ≡ Some was
  pub stands : now ≡ Some is
  pub within : length (seen was) ≤ limit
  pub can_open : CanOpen (seen was)
  pub repacked : HasRepacked was is made

-- How the command ends, and what is left at the names of the file and of the new one: it was written anew, or it
-- wasn't.
abbrev pub RepackLeft : ℕ → List ℕ → Option History → Option History → Option History → Option History → Ending → Type 0
RepackLeft limit file old now made_old made_now e =
    ((e ≡ Replied Done) × WasRepacked limit old now made_now) ⊎ RepackStopped limit file old now made_old made_now e

-- the same by what is held at all names
abbrev pub RepackLeaves : ℕ → List ℕ → (List ℕ → Option History) → Ending → (List ℕ → Option History) → Type 0
RepackLeaves limit file old e now = RepackLeft limit file (old file) (now file) (old (temporary_name file)) (now (temporary_name file)) e
