-- The command that makes a file of the pairs of a dump text: what it leaves, and why it doesn't.
use Rattle.std.specs.Prelude.{◌≡◌, ◌≢◌, ◌⊎◌, ℕ, Bool, true, false, IsTrue, List, Option, None, Some}
use Rattle.tdb_words.specs.declared.word.Order.TheVariants.{Little}
use Rattle.tdb_words.specs.declared.hash.HashKind.TheVariants.{Old}
use Rattle.tdb_disk.specs.Count.{Rose}
use Rattle.tdb_disk.specs.History.{History, seen}
use Rattle.tdb_disk.specs.Stop.{Quiet}
use Rattle.tdb_space.specs.Form.{Form}
use Rattle.tdb_backup.specs.Restoring.{Restored, RestoreCause, TextHeard, TextTold}
use Rattle.tdb_log.specs.Logs.{Logged}
use Rattle.tdb_open.specs.Opening.{of_log}
use Rattle.tdb_answer.specs.Ending.{of_halt, NothingHeard}
use Rattle.tdb_answer.specs.Commands.Create.{new_file_of}
use Rattle.tdb_backup.specs.declared.refusal.RestoreRefusal.{RestoreRefusal}
use Rattle.tdb_backup.specs.declared.refusal.RestoreRefusal.TheVariants as R
use Rattle.tdb_cmdline.specs.declared.limits.TheConstants.{DEFAULT_SIZE}
use Rattle.tdb_answer.specs.declared.ending.Ending.{Ending}
use Rattle.tdb_answer.specs.declared.ending.Ending.TheVariants.{Replied, Refused, Missing, There, Usage, DeviceFault, InputFault, Malformed, NoMemory, LogFault}
use Rattle.tdb_answer.specs.declared.ending.Reply.TheVariants as Reply
use Rattle.tdb_answer.specs.Input.{Input}

-- the form of the file: that of a new file where nothing else is asked for
abbrev pub new_form : Form
new_form = record { order = Little; hash = Old; chains = DEFAULT_SIZE }

-- The file holds the pairs of the text, which is dump text and not too long: its bytes are accepted and have the form
-- of a new file, its map is that of the pairs, and it is a new file to which they were added in their order, within a
-- limit. All of it is on the medium.
pub record IsRestored (limit : ℕ) (text : List ℕ) (now : History) : Type 0 where
  pub restored : Restored limit (new_file_of new_form) new_form (seen now) text
  pub quiet : Quiet now

-- Why not all pairs of a text come into a new file that may have so many bytes. Where one finds no room, that is so of
-- the image that is a new file with those before it.
abbrev pub TextRefused : List ℕ → ℕ → RestoreRefusal → Type 0
TextRefused text limit refusal = (img : List ℕ) × RestoreCause (new_file_of new_form) new_form img text limit refusal

-- the ending of a restore that is refused so
abbrev pub of_restore : RestoreRefusal → Ending
of_restore R.Input = InputFault
of_restore R.Io = DeviceFault
of_restore (R.Malformed at) = Malformed at
of_restore (R.Full len need) = Replied (Reply.Full len need)
of_restore R.Memory = NoMemory
of_restore (R.Log refusal) = of_halt (of_log refusal)

-- How a restore ends over an input, but for a failed call of the files: its text is whole and all pairs came into the
-- file; or one of the causes why they don't.
pub data ReadSo (input : Input) (limit : ℕ) : Ending → Type 0 where
  read_whole : (IsTrue input.tells → (img : List ℕ) × Restored limit (new_file_of new_form) new_form img input.text) → ReadSo input limit (Replied Reply.Restored)
  read_refused : (refusal : RestoreRefusal) → refusal ≢ R.Io → (IsTrue input.tells → TextRefused input.text limit refusal)
      → (refusal ≡ R.Input → Rose input.faults_before input.faults_after) → ReadSo input limit (of_restore refusal)

-- the endings that tell of the input
abbrev pub of_input : Ending → Bool
of_input (Replied reply) = false
of_input (Refused refusal) = false
of_input (Missing name) = false
of_input (There name) = false
of_input Usage = false
of_input DeviceFault = false
of_input InputFault = true
of_input (Malformed at) = true
of_input NoMemory = false
of_input LogFault = false

-- How often reads of the input had failed, before and after a run that ends so. A fault of the input may be followed by
-- one of the files, which is told then.
pub record HeardBy (before after : ℕ) (e : Ending) : Type 0 where
  pub failed : e ≡ InputFault → Rose before after
  pub told : (after ≡ before) ⊎ (e ≡ InputFault) ⊎ (e ≡ DeviceFault)

-- What logs heard of the growths of a file that was to be made of the pairs of a text, by an ending: of all of them,
-- where it was made; else as why not all pairs came into it says. A call that failed may come behind either.
abbrev pub RestoringHeard : ℕ → List ℕ → Ending → List Logged → List Logged → Type 0
RestoringHeard limit text e old new =
    ((e ≡ Replied Reply.Restored) × TextTold limit new_form (new_file_of new_form) text old new)
    ⊎ ((refusal : RestoreRefusal) × ((e ≡ of_restore refusal) ⊎ (e ≡ DeviceFault)) × TextHeard limit new_form (new_file_of new_form) text old new refusal)

-- What they heard of a restore to a name, over an input: nothing, where a file was there.
abbrev pub RestoreHeard : ℕ → Input → Option History → Ending → List Logged → List Logged → Type 0
RestoreHeard limit input None e old new = IsTrue input.tells → RestoringHeard limit input.text e old new
RestoreHeard limit input (Some h) e old new = NothingHeard e old new
