-- The command that makes a new file of what can be read of one that the stock library left after a stop: why it ends,
-- what it prints, and what it leaves at the name of the new file. The file that is read stays as it is.
use Rattle.std.specs.Prelude.{◌≡◌, ◌⊎◌, ◌++◌, ◌∷◌, ℕ, IsSome, Option, None, Some, List, [], Result, Ok, Err, codes, decimal}
use Rattle.tdb_disk.specs.History.{History, Tried, seen, synced}
use Rattle.tdb_words.specs.Header.{header_at}
use Rattle.tdb_space.specs.Form.{Form, form_of}
use Rattle.tdb_space.specs.Pairs.{order_of}
use Rattle.tdb_rewrite.specs.Readable.{Readable}
use Rattle.tdb_mend.specs.declared.file.MendedFile.{MendedFile}
use Rattle.tdb_mend.specs.View.{mended_view, mended_form, mended_header, mended_bytes}
use Rattle.tdb_mend.specs.Files.{file_mended as mended, file_bytes_mended as bytes_mended}
use Rattle.tdb_open.specs.declared.limits.TheConstants.{LONGEST_FILE}
use Rattle.tdb_answer.specs.declared.ending.Ending.{Ending}
use Rattle.tdb_answer.specs.declared.ending.Ending.TheVariants.{Replied, Refused, Missing, There, DeviceFault, NoMemory}
use Rattle.tdb_answer.specs.declared.ending.Reply.{Reply}
use Rattle.tdb_answer.specs.declared.ending.Unprinted.{Unprinted}
use Rattle.tdb_answer.specs.declared.ending.Unprinted.TheVariants as Rest
use Rattle.tdb_answer.specs.declared.ending.Reply.TheVariants.{Copied, Full}
use Rattle.tdb_answer.specs.Commands.Backup.{IsUntaken}
use Rattle.tdb_answer.specs.Commands.Rewriting.{HoldsAnew, IsFullFor}
use Rattle.tdb_answer.specs.Damaged.{CanMend, IsUnmendable}
use Rattle.tdb_answer.specs.Looks.{StandsBefore}

-- the form of the new file is that of what is so read
abbrev pub new_form : List ℕ → Form
new_form img = form_of (mended img)

-- what a file with these bytes is read as: its pairs can be read, and are those of the mended image in its order, and
-- its header and the number of bytes that were changed to read it are known
pub record IsReadAs (m : MendedFile) (img : List ℕ) : Type 0 where
  pub readable : Readable (mended_form m) (mended_view m img)
  pub pairs : order_of (mended_form m) (mended_view m img) ≡ order_of (new_form img) (mended img)
  pub header : mended_header m ≡ header_at (mended img)
  pub bytes : mended_bytes m ≡ bytes_mended img

-- there is no room for the next pair of what can be read
abbrev pub HasNoMending : List ℕ → Reply → Type 0
HasNoMending img reply = IsFullFor (mended img) [] (new_form img) LONGEST_FILE reply

-- How the command ends over a file with these bytes, by what is held at the name of the new one, but for a refusal of
-- the file, a failed call and want of memory: the file can be mended; and there is a file at that name; or the new one
-- is made, or has no room.
pub record MendEnds (img new : List ℕ) (held : Option History) (e : Ending) : Type 0 where
  pub can_mend : CanMend img
  pub ends : (IsSome held × (e ≡ There new)) ⊎ ((held ≡ None) × (e ≡ Replied Copied)) ⊎ ((reply : Reply) × (held ≡ None) × HasNoMending img reply × (e ≡ Replied reply))

-- a new file was made of what can be read of an image, where none was: all pairs of the mended image, in its form, with
-- its sequence number
abbrev pub IsMended : List ℕ → Option History → Option History → Type 0
IsMended img old now = CanMend img × (old ≡ None) × HoldsAnew (mended img) [] (new_form img) now

-- and of the file at a name
pub record WasMended (held old now : Option History) : Type 0 where
  pub was : History
  pub there : held ≡ Some was
  pub mends : IsMended (seen was) old now

-- How it ends over a file with these bytes, and what stands at the name of the new one then, by what stood there: what
-- stood there stays, and none is left that isn't whole, but where a call failed.
abbrev pub MendLeft : List ℕ → List ℕ → Option History → Ending → Option History → Type 0
MendLeft img new old (Replied reply) now = ((reply ≡ Copied) × IsMended img old now) ⊎ (CanMend img × (old ≡ None) × HasNoMending img reply × (now ≡ None))
MendLeft img new old (Refused refusal) now = IsUnmendable img refusal × (now ≡ old)
MendLeft img new old (There name) now = CanMend img × IsSome old × (name ≡ new) × (now ≡ old)
MendLeft img new old DeviceFault now = IsSome old → now ≡ old
MendLeft img new old NoMemory now = now ≡ old
MendLeft img new old _ now = ⊥

-- the endings of a mending that isn't done
abbrev pub EndsUnmended : Ending → Type 0
EndsUnmended (Replied reply) = (len : ℕ) × (need : ℕ) × (reply ≡ Full len need)
EndsUnmended (Refused refusal) = Unit {0}
EndsUnmended (Missing name) = Unit {0}
EndsUnmended (There name) = Unit {0}
EndsUnmended DeviceFault = Unit {0}
EndsUnmended NoMemory = Unit {0}
EndsUnmended _ = ⊥

-- how the command ends and what stands there then, where the file may not be there, or not be taken
abbrev pub MendLeaves : List ℕ → List ℕ → Option History → Option History → Ending → Option History → Type 0
MendLeaves file new held old e now = ((now ≡ old) × IsUntaken file held e) ⊎ ((h : History) × (held ≡ Some h) × MendLeft (seen h) new old e now)

-- how a mending that answers the number of bytes ended
abbrev pub mend_ending : Result ℕ Ending → Ending
mend_ending (Ok n) = Replied Copied
mend_ending (Err e) = e

-- a file that is read has the bytes that it had: it is as it was, or was synced; no file is made where none was
abbrev pub StaysSynced : Option History → Option History → Type 0
StaysSynced None now = now ≡ None
StaysSynced (Some h) now = (k : History) × (now ≡ Some k) × Tried synced h k

-- How the telling of a new file ends, and what stands at its name then: it is told; or there was no memory for the
-- line, or the output failed, and it was removed; or that failed.
abbrev pub MendToldLeft : Option History → Result Ending Unprinted → Option History → Type 0
MendToldLeft old (Ok (Replied reply)) now = (reply ≡ Copied) × (now ≡ old)
MendToldLeft old (Ok NoMemory) now = now ≡ None
MendToldLeft old (Ok DeviceFault) now = Unit {0}
MendToldLeft old (Ok e) now = ⊥
MendToldLeft old (Err Rest.Files) now = now ≡ None
MendToldLeft old (Err Rest.Fault) now = Unit {0}
MendToldLeft old (Err rest) now = ⊥

-- The line that tells how many bytes of a file were changed to read it, and its newline. It stands before an ending for
-- which no line is written. Where the output fails in its midst the new file is removed, and the command ends as one
-- for which memory was wanting, or, where that fails, a call.
abbrev pub mended_line : ℕ → List ℕ
mended_line n = codes "mended " ++ decimal n ++ 10 ∷ []

-- what is printed before the line of an ending, by what is held at the name of the file
abbrev pub MendText : Option History → Ending → List ℕ → Type 0
MendText None e written = written ≡ []
MendText (Some h) e written = StandsBefore (mended_line (bytes_mended (seen h))) e written
