-- The command that makes another file of the pairs of one: why it ends, what it prints, and what it leaves at the name
-- of the new file. The file that is read stays as it is.
use Rattle.std.specs.Prelude.{◌≡◌, ◌⊎◌, ◌<◌, ◌≤◌, ◌++◌, ◌∷◌, ℕ, IsSome, Option, None, Some, List, [], Result, Ok, Err, codes, length}
use Rattle.tdb_disk.specs.History.{History, seen}
use Rattle.tdb_cmdline.specs.declared.lines.create.NewFile.{NewFile}
use Rattle.tdb_open.specs.Creating.{new_length}
use Rattle.tdb_open.specs.Opening.{CanRead, IsRefusedToReadBelow}
use Rattle.tdb_open.specs.declared.halt.Refusal.{Refusal}
use Rattle.tdb_open.specs.declared.halt.Refusal.TheVariants.{TooLong}
use Rattle.tdb_answer.specs.declared.ending.Ending.{Ending}
use Rattle.tdb_answer.specs.declared.ending.Ending.TheVariants.{Replied, Refused, Missing, There, DeviceFault, NoMemory, LogFault}
use Rattle.tdb_answer.specs.declared.ending.Reply.{Reply}
use Rattle.tdb_answer.specs.declared.ending.Unprinted.{Unprinted}
use Rattle.tdb_answer.specs.declared.ending.Unprinted.TheVariants as Rest
use Rattle.tdb_answer.specs.declared.ending.Reply.TheVariants.{Copied, Full}
use Rattle.tdb_answer.specs.Commands.Backup.{IsUntaken}
use Rattle.tdb_answer.specs.Commands.Rewriting.{made_form, HoldsAnew, IsFullFor}

-- a new file would have more bytes than it may, where none is at its name
abbrev pub IsTooLarge : NewFile → Option History → Refusal → Type 0
IsTooLarge made held refusal = (held ≡ None) × (made.limit < new_length made.form) × (refusal ≡ TooLong (new_length made.form))

-- there is no room for the next of the pairs with this prefix of an image in a new file that is made so
abbrev pub HasNoConversion : NewFile → List ℕ → List ℕ → Reply → Type 0
HasNoConversion made prefix img reply = IsFullFor img prefix (made_form made.form) made.limit reply

-- How the command ends over a file with these bytes, by what is held at the name of the new one, but for a refusal of
-- the file, a failed call, a log that failed and want of memory: the file has no more bytes than the new one may have,
-- and is opened to be read alone; and there is a file at that name; or the new one would be too long; or it is made, or
-- has no room.
pub record ConvertEnds (made : NewFile) (prefix img new : List ℕ) (held : Option History) (e : Ending) : Type 0 where
  pub within : length img ≤ made.limit
  pub can_read : CanRead img
  pub ends : (IsSome held × (e ≡ There new)) ⊎ ((refusal : Refusal) × IsTooLarge made held refusal × (e ≡ Refused refusal))
      ⊎ ((held ≡ None) × (e ≡ Replied Copied)) ⊎ ((reply : Reply) × (held ≡ None) × HasNoConversion made prefix img reply × (e ≡ Replied reply))

-- a file with these bytes, which may have as many as the new one, is opened to be read alone
abbrev pub CanConvert : NewFile → List ℕ → Type 0
CanConvert made img = (length img ≤ made.limit) × CanRead img

-- a new file was made of an image that was opened to be read alone, where none was
abbrev pub IsConverted : NewFile → List ℕ → List ℕ → Option History → Option History → Type 0
IsConverted made prefix img old now = CanConvert made img × (old ≡ None) × HoldsAnew img prefix (made_form made.form) now

-- and of the file at a name
pub record WasConverted (made : NewFile) (prefix : List ℕ) (held old now : Option History) : Type 0 where
  pub was : History
  pub there : held ≡ Some was
  pub converted : IsConverted made prefix (seen was) old now

-- How it ends over a file with these bytes, and what stands at the name of the new one then, by what stood there: what
-- stood there stays, and none is left that isn't whole, but where a call failed.
abbrev pub ConvertLeft : NewFile → List ℕ → List ℕ → List ℕ → Option History → Ending → Option History → Type 0
ConvertLeft made prefix img new old (Replied reply) now =
    ((reply ≡ Copied) × IsConverted made prefix img old now) ⊎ (CanConvert made img × (old ≡ None) × HasNoConversion made prefix img reply × (now ≡ None))
ConvertLeft made prefix img new old (Refused refusal) now = (IsRefusedToReadBelow made.limit img refusal ⊎ (CanConvert made img × IsTooLarge made old refusal)) × (now ≡ old)
ConvertLeft made prefix img new old (There name) now = CanConvert made img × IsSome old × (name ≡ new) × (now ≡ old)
ConvertLeft made prefix img new old DeviceFault now = IsSome old → now ≡ old
ConvertLeft made prefix img new old NoMemory now = now ≡ old
ConvertLeft made prefix img new old LogFault now = now ≡ old
ConvertLeft made prefix img new old _ now = ⊥

-- the endings of a conversion that isn't done
abbrev pub EndsUnconverted : Ending → Type 0
EndsUnconverted (Replied reply) = (len : ℕ) × (need : ℕ) × (reply ≡ Full len need)
EndsUnconverted (Refused refusal) = Unit {0}
EndsUnconverted (Missing name) = Unit {0}
EndsUnconverted (There name) = Unit {0}
EndsUnconverted DeviceFault = Unit {0}
EndsUnconverted NoMemory = Unit {0}
EndsUnconverted LogFault = Unit {0}
EndsUnconverted _ = ⊥

-- how the command ends and what stands there then, where the file may not be there, or not be taken
abbrev pub ConvertLeaves : NewFile → List ℕ → List ℕ → List ℕ → Option History → Option History → Ending → Option History → Type 0
ConvertLeaves made prefix file new held old e now =
    ((now ≡ old) × IsUntaken file held e) ⊎ ((h : History) × (held ≡ Some h) × ConvertLeft made prefix (seen h) new old e now)

-- how the telling of a new file ends, and what stands at its name then
abbrev pub ToldLeft : Option History → Result Ending Unprinted → Option History → Type 0
ToldLeft old (Ok e) now = (e ≡ Replied Copied) × (now ≡ old)
ToldLeft old (Err Rest.Files) now = now ≡ None
ToldLeft old (Err Rest.Fault) now = Unit {0}
ToldLeft old (Err rest) now = ⊥

-- The line that tells that the new file is made, and its newline. It stands before an ending for which no line is
-- written. Where the output fails in its midst the new file is removed, and the command ends as one for which memory
-- was wanting, or, where that fails, a call.
abbrev pub converted_line : List ℕ
converted_line = codes "ok" ++ 10 ∷ []
