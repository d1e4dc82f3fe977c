-- How a run ends: the status and the line of each ending, and what each is due to.
use Rattle.std.specs.Prelude.{◌≡◌, ◌≢◌, ℕ, ◌<◌, ◌≤◌, Bool, true, false, Option, None, Some, IsTrue, List, [], ◌∷◌, ◌++◌, ◌⊎◌, length, take, codes, decimal}
use Rattle.tdb_words.specs.Header.{fault_text}
use Rattle.tdb_words.specs.What.{what_text}
use Rattle.tdb_disk.specs.Count.{Rose}
use Rattle.tdb_disk.specs.History.{History, seen}
use Rattle.tdb_disk.specs.declared.files.TakeRefusal as Take
use Rattle.tdb_log.specs.Logs.{Logged}
use Rattle.tdb_dump.specs.Escape.{escaped}
use Rattle.tdb_dump.specs.Line.{data_line, pair_line}
use Rattle.tdb_cmdline.specs.declared.act.Act.{Act}
use Rattle.tdb_cmdline.specs.declared.look.Look.{Look}
use Rattle.tdb_cmdline.specs.declared.ask.Task.{Task}
use Rattle.tdb_cmdline.specs.declared.ask.Task.TheVariants.{Create, On, Read, Rescue, Print, Repack, Restore, Backup, Verify, Convert, Merge, Mend, Move, Turns, Session, Generate}
use Rattle.tdb_answer.specs.declared.ending.Ending.{Ending}
use Rattle.tdb_answer.specs.declared.ending.Ending.TheVariants.{Replied, Refused, Missing, There, Usage, DeviceFault, InputFault, Malformed, NoMemory, LogFault}
use Rattle.tdb_answer.specs.declared.ending.Reply.TheVariants.{Done, Value, Escaped, Dumped, Restored, Copied, Verified, KeyMissing, KeyThere, NoTransaction, Full, Number, Pair, End, Played, Closed, Generated}
use Rattle.tdb_open.specs.declared.halt.Halt as H
use Rattle.tdb_open.specs.declared.halt.Refusal.{Refusal}
use Rattle.tdb_open.specs.declared.halt.Refusal.TheVariants.{TooLong, Header, Corrupt, NeedsRecovery}
use Rattle.tdb_answer.specs.declared.commands.create.Creation as Making
use Rattle.tdb_cmdline.specs.Ask.{Ask}
use Rattle.tdb_cmdline.specs.declared.lines.create.NewFile.{NewFile}
use Rattle.tdb_open.specs.Creating.{new_length}
use Rattle.tdb_answer.specs.Acts.{reply_of}
use Rattle.tdb_answer.specs.Looks.{look_reply}
use Rattle.tdb_answer.specs.Commands.Rescue.{RescueDue}
use Rattle.tdb_answer.specs.Damaged.{IsUnmendable}
use Rattle.tdb_answer.specs.Output.{Output}
use Rattle.tdb_open.specs.Opening.{opened_bytes, CanOpen, CanRead, IsRefusedToRead, IsRefusedToReadBelow, IsRefusedBelow}

-- What a run says: the status that it exits with, and the text that it prints: a line and its newline, lines, or
-- nothing. A line that tells a value, a number or a name takes memory; one that is the same in each run takes none.
pub record Answer : Type 0 where
  pub status : ℕ
  pub text : List ℕ
  pub takes_memory : Bool

abbrev pub says : ℕ → List ℕ → Answer
says status line = record { status = status; text = line ++ 10 ∷ []; takes_memory = false }

abbrev pub tells : ℕ → List ℕ → Answer
tells status line = record { status = status; text = line ++ 10 ∷ []; takes_memory = true }

-- the same with lines that are at hand, or with none
abbrev pub shows : ℕ → List ℕ → Answer
shows status lines = record { status = status; text = lines; takes_memory = false }

abbrev pub exits : ℕ → Answer
exits status = shows status []

-- what a run says at each ending; the status of a failed output is 8 whatever the ending is
abbrev pub answer : Ending → Answer
answer (Replied Done) = says 0 (codes "ok")
answer (Replied (Value value)) = tells 0 (data_line value)
answer (Replied (Escaped value)) = tells 0 (escaped value)
answer (Replied Dumped) = exits 0
answer (Replied Restored) = exits 0
answer (Replied Copied) = exits 0
answer (Replied Verified) = exits 0
answer (Replied Played) = exits 0
answer (Replied Closed) = exits 0
answer (Replied (Generated text)) = shows 0 text
answer (Replied (Number n)) = tells 0 (codes "number " ++ decimal n)
answer (Replied (Pair key value)) = tells 0 (pair_line key value)
answer (Replied End) = says 0 (codes "end")
answer (Replied KeyMissing) = says 1 (codes "noexist")
answer (Replied KeyThere) = says 1 (codes "exists")
answer (Replied NoTransaction) = says 1 (codes "notransaction")
answer Usage = says 2 (codes "usage: tdb COMMAND [OPTIONS] FILE [WORDS]")
answer (Refused (Header fault)) = tells 3 (codes "header " ++ fault_text fault)
answer (Refused (Corrupt what at)) = tells 3 (codes "corrupt " ++ what_text what ++ codes " " ++ decimal at)
answer (Refused NeedsRecovery) = says 3 (codes "needs recovery")
answer DeviceFault = says 4 (codes "device fault")
answer NoMemory = says 5 (codes "memory")
answer (Replied (Full len need)) = tells 6 (codes "full " ++ decimal len ++ codes " " ++ decimal need)
answer (Refused (TooLong len)) = tells 6 (codes "toolong " ++ decimal len)
answer (Malformed at) = tells 7 (codes "input malformed at " ++ decimal at)
answer InputFault = says 8 (codes "input fault")
answer LogFault = says 10 (codes "log fault")
answer (Missing name) = tells 9 (codes "missing " ++ name)
answer (There name) = tells 9 (codes "there " ++ name)

abbrev pub status_of : Ending → ℕ
status_of e = (answer e).status

abbrev pub text_of : Ending → List ℕ
text_of e = (answer e).text

abbrev pub TakesMemory : Ending → Type 0
TakesMemory e = IsTrue (answer e).takes_memory

-- what is printed for an ending is its line, or want of memory where its line takes some
abbrev pub PrintedFor : Ending → Ending → Type 0
PrintedFor e found = (e ≡ found) ⊎ ((e ≡ NoMemory) × TakesMemory found)

-- the file with these bytes is opened, of which it has no more than it may, and an act replies over what it is read as
pub record Replies (act : Act) (img : List ℕ) (e : Ending) : Type 0 where
  pub within : length img ≤ act.limit
  pub can_open : CanOpen img
  pub replied : e ≡ Replied (reply_of act (opened_bytes img))

-- the file with these bytes, which may have so many, is refused
pub record Refuses (limit : ℕ) (img : List ℕ) (e : Ending) : Type 0 where
  pub refusal : Refusal
  pub right : IsRefusedBelow limit img refusal
  pub refused : e ≡ Refused refusal

-- the file with these bytes is opened to be read alone, and a look replies over them
pub record LookReplies (look : Look) (img : List ℕ) (e : Ending) : Type 0 where
  pub can_read : CanRead img
  pub replied : e ≡ Replied (look_reply look img)

-- the file with these bytes is refused to it
pub record RefusesToRead (img : List ℕ) (e : Ending) : Type 0 where
  pub refusal : Refusal
  pub right : IsRefusedToRead img refusal
  pub refused : e ≡ Refused refusal

-- or it may have so many bytes, and is refused so
pub record RefusesToReadBelow (limit : ℕ) (img : List ℕ) (e : Ending) : Type 0 where
  pub refusal : Refusal
  pub right : IsRefusedToReadBelow limit img refusal
  pub refused : e ≡ Refused refusal

-- the file with these bytes can't be mended, and is refused so
pub record RefusesToMend (img : List ℕ) (e : Ending) : Type 0 where
  pub refusal : Refusal
  pub right : IsUnmendable img refusal
  pub refused : e ≡ Refused refusal

-- the file with these bytes, which may have so many, is opened, and what was asked for is printed of it
pub record PrintsOpened (limit : ℕ) (img : List ℕ) (e : Ending) : Type 0 where
  pub within : length img ≤ limit
  pub can_open : CanOpen img
  pub printed : e ≡ Replied Dumped

-- a file is made where none is, or would have more bytes than it may
abbrev pub MakingDue : NewFile → Ending → Type 0
MakingDue file e =
    ((new_length file.form ≤ file.limit) × (e ≡ Replied Done)) ⊎ ((file.limit < new_length file.form) × (e ≡ Refused (TooLong (new_length file.form))))

-- How a task on the file of this name ends, by what is held there, where no call failed and memory sufficed. An act, a
-- look, a rescue and a printing are on a file that is there; a file is made where none is. How a restore ends where no
-- file is depends on its input, as turns and a session do, how a backup and a verification end on all their files
-- (`BackupEnds`, `VerifyEnds`), as the move of a key does on both (`MoveSo`), and how generated commands end on how
-- they were done (`GenSo`), so none is due to what is held at one name. Where a file that is written anew isn't
-- refused, it depends on where its records come to lie (`RepackEnds`), as where another file is made of its pairs, or
-- they are stored into one, and on what stands at the name of that (`ConvertEnds`, `MendEnds`, `MergeEnds`).
abbrev pub TaskDue : Task → List ℕ → Option History → Ending → Type 0
TaskDue (On act) name None e = e ≡ Missing name
TaskDue (On act) name (Some h) e = Replies act (seen h) e ⊎ Refuses act.limit (seen h) e
TaskDue (Read look) name None e = e ≡ Missing name
TaskDue (Read look) name (Some h) e = LookReplies look (seen h) e ⊎ RefusesToRead (seen h) e
TaskDue Rescue name None e = e ≡ Missing name
TaskDue Rescue name (Some h) e = RescueDue (seen h) e
TaskDue (Print printout limit) name None e = e ≡ Missing name
TaskDue (Print printout limit) name (Some h) e = PrintsOpened limit (seen h) e ⊎ Refuses limit (seen h) e
TaskDue (Repack limit) name None e = e ≡ Missing name
TaskDue (Repack limit) name (Some h) e = Refuses limit (seen h) e
TaskDue (Create form) name None e = MakingDue form e
TaskDue (Create form) name (Some h) e = e ≡ There name
TaskDue (Restore limit) name None e = ⊥
TaskDue (Restore limit) name (Some h) e = e ≡ There name
TaskDue (Backup more suffix) name held e = ⊥
TaskDue (Verify more suffix) name held e = ⊥
TaskDue (Convert new made prefix) name None e = e ≡ Missing name
TaskDue (Convert new made prefix) name (Some h) e = RefusesToReadBelow made.limit (seen h) e
TaskDue (Mend new) name None e = e ≡ Missing name
TaskDue (Mend new) name (Some h) e = RefusesToMend (seen h) e
TaskDue (Merge into prefix limit) name None e = e ≡ Missing name
TaskDue (Merge into prefix limit) name (Some h) e = RefusesToReadBelow limit (seen h) e
TaskDue (Move key into limit) name held e = ⊥
TaskDue (Turns options) name held e = ⊥
TaskDue (Session limit) name held e = ⊥
TaskDue (Generate commands seed) name None e = ⊥
TaskDue (Generate commands seed) name (Some h) e = e ≡ There name

-- how a run ends that is asked for this, or for nothing, by what is held at each name
abbrev pub Due : Option Ask → (List ℕ → Option History) → Ending → Type 0
Due None held e = e ≡ Usage
Due (Some ask) held e = TaskDue ask.task ask.file (held ask.file) e

-- why a task ends so: it is due; or a call failed, and the count of faults rose; or memory was wanting
pub data TaskCause (task : Task) (name : List ℕ) (held : Option History) (before after : ℕ) : Ending → Type 0 where
  task_due : (e : Ending) → TaskDue task name held e → TaskCause task name held before after e
  task_failed : Rose before after → TaskCause task name held before after DeviceFault
  task_wanting : TaskCause task name held before after NoMemory
  task_unlogged : TaskCause task name held before after LogFault

-- how often calls of the files had failed, before and after a run that ends so
pub record CountedBy (before after : ℕ) (e : Ending) : Type 0 where
  pub never_falls : before ≤ after
  pub failed : e ≡ DeviceFault → Rose before after
  pub sound : (e ≡ DeviceFault → ⊥) → after ≡ before

-- The same of commands of openers: where the files don't tell what they hold, a check of one that another program wrote
-- to may find a fault, and ends them as a failed call does.
pub record CountedIf (tells : Bool) (before after : ℕ) (e : Ending) : Type 0 where
  pub never_falls : before ≤ after
  pub failed : e ≡ DeviceFault → IsTrue tells → Rose before after
  pub sound : (e ≡ DeviceFault → ⊥) → after ≡ before

-- the tasks whose commands are those of openers: turns, a session, generated commands, pairs that are merged, and a key
-- that is moved
abbrev pub has_openers : Task → Bool
has_openers (On act) = false
has_openers (Read look) = false
has_openers Rescue = false
has_openers (Print printout limit) = false
has_openers (Repack limit) = false
has_openers (Create form) = false
has_openers (Restore limit) = false
has_openers (Backup more suffix) = false
has_openers (Verify more suffix) = false
has_openers (Convert new made prefix) = false
has_openers (Mend new) = false
has_openers (Merge into prefix limit) = true
has_openers (Move key into limit) = true
has_openers (Turns options) = true
has_openers (Session limit) = true
has_openers (Generate commands seed) = true

abbrev pub asks_openers : Option Ask → Bool
asks_openers None = false
asks_openers (Some ask) = has_openers ask.task

-- and of a run that is asked for this, or for nothing
abbrev pub CountedFor : Bool → Task → ℕ → ℕ → Ending → Type 0
CountedFor tells (On act) before after e = CountedBy before after e
CountedFor tells (Read look) before after e = CountedBy before after e
CountedFor tells Rescue before after e = CountedBy before after e
CountedFor tells (Print printout limit) before after e = CountedBy before after e
CountedFor tells (Repack limit) before after e = CountedBy before after e
CountedFor tells (Create form) before after e = CountedBy before after e
CountedFor tells (Restore limit) before after e = CountedBy before after e
CountedFor tells (Backup more suffix) before after e = CountedBy before after e
CountedFor tells (Verify more suffix) before after e = CountedBy before after e
CountedFor tells (Convert new made prefix) before after e = CountedBy before after e
CountedFor tells (Mend new) before after e = CountedBy before after e
CountedFor tells (Merge into prefix limit) before after e = CountedIf tells before after e
CountedFor tells (Move key into limit) before after e = CountedIf tells before after e
CountedFor tells (Turns options) before after e = CountedIf tells before after e
CountedFor tells (Session limit) before after e = CountedIf tells before after e
CountedFor tells (Generate commands seed) before after e = CountedIf tells before after e

abbrev pub CountedAsked : Bool → Option Ask → ℕ → ℕ → Ending → Type 0
CountedAsked tells None before after e = CountedBy before after e
CountedAsked tells (Some ask) before after e = CountedFor tells ask.task before after e

-- the ending of a look into a file that halted
abbrev pub of_halt : H.Halt → Ending
of_halt (H.TheVariants.Refused refusal) = Refused refusal
of_halt H.TheVariants.Device = DeviceFault
of_halt H.TheVariants.Memory = NoMemory
of_halt H.TheVariants.Log = LogFault

-- the ending where the file of a name wasn't taken; memory may be wanting for the name that is to be printed
abbrev pub Untaken : List ℕ → Take.TakeRefusal → Ending → Type 0
Untaken name Take.TheVariants.Missing e = (e ≡ Missing name) ⊎ (e ≡ NoMemory)
Untaken name Take.TheVariants.There e = (e ≡ There name) ⊎ (e ≡ NoMemory)
Untaken name Take.TheVariants.Failed e = e ≡ DeviceFault
Untaken name Take.TheVariants.Memory e = e ≡ NoMemory

-- the ending where the file of a name was to be made
abbrev pub MadeSo : List ℕ → Making.Creation → Ending → Type 0
MadeSo name Making.TheVariants.Made e = e ≡ Replied Done
MadeSo name Making.TheVariants.There e = (e ≡ There name) ⊎ (e ≡ NoMemory)
MadeSo name (Making.TheVariants.TooLong len) e = e ≡ Refused (TooLong len)
MadeSo name Making.TheVariants.Device e = e ≡ DeviceFault
MadeSo name Making.TheVariants.Memory e = e ≡ NoMemory

-- the output took the whole line, and no call of it failed
pub record PrintsAll (o : Output) (e : Ending) (status : ℕ) : Type 0 where
  pub exits : status ≡ status_of e
  pub sound : o.faults_after ≡ o.faults_before
  pub written : IsTrue o.tells → o.after ≡ o.before ++ text_of e

-- the output failed: it took a part of the line, from the first byte on; where there is no line nothing is written
pub record PrintsPart (o : Output) (e : Ending) (status : ℕ) : Type 0 where
  pub some : text_of e ≢ []
  pub exits : status ≡ 8
  pub failed : Rose o.faults_before o.faults_after
  pub written : IsTrue o.tells → (n : ℕ) × (o.after ≡ o.before ++ take n (text_of e))

-- the output took the line of an ending, or a part of it
abbrev pub Prints : Output → Ending → ℕ → Type 0
Prints o e status = PrintsAll o e status ⊎ PrintsPart o e status

-- Logs heard nothing of a command that ended so: they are as they were, and none of them failed.
abbrev pub NothingHeard : Ending → List Logged → List Logged → Type 0
NothingHeard e old new = (new ≡ old) × (e ≢ LogFault)
