-- What a run prints: a text of its command, if that has one, and the line of its ending behind it.
use Rattle.std.specs.Prelude.{◌≡◌, ◌⊎◌, ℕ, Bool, ◌&&◌, IsTrue, Option, None, Some, List, [], ◌∷◌, ◌++◌, take, Result, Ok, Err}
use Rattle.tdb_disk.specs.Count.{Rose}
use Rattle.tdb_disk.specs.History.{History}
use Rattle.tdb_answer.specs.declared.ending.Unprinted.{Unprinted}
use Rattle.tdb_cmdline.specs.declared.ask.Task.{Task}
use Rattle.tdb_cmdline.specs.declared.ask.Task.TheVariants.{Create, On, Read, Rescue, Print, Repack, Restore, Backup, Verify, Convert, Merge, Mend, Move, Turns, Session, Generate}
use Rattle.tdb_answer.specs.declared.ending.Ending.{Ending}
use Rattle.tdb_answer.specs.declared.ending.Ending.TheVariants.{Replied}
use Rattle.tdb_answer.specs.declared.ending.Reply.TheVariants.{Restored, Copied, Verified, Closed}
use Rattle.tdb_cmdline.specs.Ask.{Ask}
use Rattle.tdb_answer.specs.Ending.{Prints, status_of, text_of}
use Rattle.tdb_answer.specs.Output.{Output}
use Rattle.tdb_answer.specs.Commands.Convert.{converted_line}
use Rattle.tdb_answer.specs.Commands.Mend.{MendText}
use Rattle.tdb_answer.specs.Commands.Print.{PrintText}
use Rattle.tdb_answer.specs.Commands.Rescue.{RescueText}
use Rattle.tdb_answer.specs.Commands.Session.{SessionText}
use Rattle.tdb_answer.specs.Commands.Turns.{TurnsText}
use Rattle.tdb_answer.specs.Commands.Verify.{VerifyText}
use Rattle.tdb_answer.specs.Looks.{LookText, StandsBefore, look_tells, rest_of}

-- what a task on the file of this name prints before the line of its ending, by what is held at each name; looks,
-- rescues, printings, turns, sessions and verifications print such a text
abbrev pub TaskText : Task → List ℕ → (List ℕ → Option History) → Ending → List ℕ → Type 0
TaskText (On act) name held e text = text ≡ []
TaskText (Read look) name held e text = LookText look (held name) e text
TaskText Rescue name held e text = RescueText (held name) e text
TaskText (Print printout limit) name held e text = PrintText printout (held name) e text
TaskText (Repack limit) name held e text = text ≡ []
TaskText (Create form) name held e text = text ≡ []
TaskText (Restore limit) name held e text = text ≡ []
TaskText (Backup more suffix) name held e text = text ≡ []
TaskText (Verify more suffix) name held e text = VerifyText suffix (name ∷ more) held e text
TaskText (Convert new made prefix) name held e text = StandsBefore converted_line e text
TaskText (Mend new) name held e text = MendText (held name) e text
TaskText (Merge into prefix limit) name held e text = text ≡ []
TaskText (Move key into limit) name held e text = text ≡ []
TaskText (Turns options) name held e text = TurnsText options (held name) e text
TaskText (Session limit) name held e text = SessionText limit (held name) e text
TaskText (Generate commands seed) name held e text = text ≡ []

-- what a run prints before the line of its ending that is asked for this, or for nothing
abbrev pub TextBefore : Option Ask → (List ℕ → Option History) → Ending → List ℕ → Type 0
TextBefore None held e text = text ≡ []
TextBefore (Some ask) held e text = TaskText ask.task ask.file held e text

-- whether it is told what a task prints, by whether the files and the output tell; where a file's pairs, what it holds,
-- a report of it, replies over it or the number of its keys are printed the files have to tell too
abbrev pub task_tells : Task → Bool → Bool → Bool
task_tells (On act) files output = output
task_tells (Read look) files output = look_tells look files output
task_tells Rescue files output = output && files
task_tells (Print printout limit) files output = output && files
task_tells (Repack limit) files output = output
task_tells (Create form) files output = output
task_tells (Restore limit) files output = output
task_tells (Backup more suffix) files output = output
task_tells (Verify more suffix) files output = output && files
task_tells (Convert new made prefix) files output = output
task_tells (Mend new) files output = output && files
task_tells (Merge into prefix limit) files output = output
task_tells (Move key into limit) files output = output
task_tells (Turns options) files output = output && files
task_tells (Session limit) files output = output && files
task_tells (Generate commands seed) files output = output

abbrev pub ask_tells : Option Ask → Bool → Bool → Bool
ask_tells None files output = output
ask_tells (Some ask) files output = task_tells ask.task files output

-- the output took the text and the line, whole, and no call of it failed
pub record WritesAll (told : Bool) (o : Output) (Text : Ending → List ℕ → Type 0) (e : Ending) (status : ℕ) : Type 0 where
  pub exits : status ≡ status_of e
  pub sound : o.faults_after ≡ o.faults_before
  pub written : IsTrue told → (text : List ℕ) × Text e text × (o.after ≡ o.before ++ text ++ text_of e)

-- a restore, a backup, a verification, a conversion, a mending or a `quit` that was done, for which no line is written
-- any more
abbrev pub IsSilent : Ending → Type 0
IsSilent e = (e ≡ Replied Restored) ⊎ (e ≡ Replied Copied) ⊎ (e ≡ Replied Verified) ⊎ (e ≡ Replied Closed)

-- the output failed: it took a part of them, from the first byte on; there was something to be written
pub record WritesPart (told : Bool) (o : Output) (Text : Ending → List ℕ → Type 0) (e : Ending) (status : ℕ) : Type 0 where
  pub writes : IsSilent e → ⊥
  pub exits : status ≡ 8
  pub failed : Rose o.faults_before o.faults_after
  pub written : IsTrue told → (text : List ℕ) × Text e text × (n : ℕ) × (o.after ≡ o.before ++ take n (text ++ text_of e))

-- the output took a text and the line of an ending behind it, or a part of these
abbrev pub Writes : Bool → Output → (Ending → List ℕ → Type 0) → Ending → ℕ → Type 0
Writes told o Text e status = WritesAll told o Text e status ⊎ WritesPart told o Text e status

-- How a run goes on behind the text: the output takes the line of an ending or a part of it; where it failed in the
-- text, nothing more is written, and the status is 8.
abbrev pub Finishes : Result Ending Unprinted → Output → Ending → ℕ → Type 0
Finishes (Ok found) o e status = Prints o e status
Finishes (Err unprinted) o e status = (e ≡ rest_of unprinted) × (status ≡ 8) × (o.after ≡ o.before) × (o.faults_after ≡ o.faults_before)
