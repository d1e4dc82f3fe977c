-- What a run is: what it met, what it left, what it printed and how it exits; and what is promised of it.
use Rattle.std.specs.Prelude.{◌≡◌, ◌≢◌, ◌⊎◌, ℕ, ◌<◌, ◌≤◌, IsSome, Option, None, Some, List, [], ◌∷◌, ◌++◌, length, map, string_bytes, Contains, Bool, false, IsTrue, Ok}
use Rattle.std.specs.Prelude.{String}
use Rattle.std.specs.Global.{Global}
use Rattle.tdb_disk.specs.Count.{Rose}
use Rattle.tdb_disk.specs.History.{History, seen}
use Rattle.tdb_words.specs.Header.{HeaderOk}
use Rattle.tdb_space.specs.Opening.{Opens}
use Rattle.tdb_cmdline.specs.declared.act.Act.{Act}
use Rattle.tdb_cmdline.specs.declared.look.Look.{Look}
use Rattle.tdb_cmdline.specs.declared.ask.Task.{Task}
use Rattle.tdb_cmdline.specs.declared.ask.Task.TheVariants.{Create, On, Read, Rescue, Print, Repack, Restore, Backup, Verify, Convert, Merge, Mend, Move, Turns, Session, Generate}
use Rattle.tdb_cmdline.specs.declared.lines.create.NewFile.{NewFile}
use Rattle.tdb_answer.specs.declared.commands.create.Creation.TheVariants.{Made, Device}
use Rattle.tdb_answer.specs.declared.ending.Ending.{Ending}
use Rattle.tdb_answer.specs.declared.ending.Ending.TheVariants.{Replied, DeviceFault, NoMemory, LogFault}
use Rattle.tdb_open.specs.declared.limits.TheConstants.{LONGEST_FILE}
use Rattle.tdb_cmdline.specs.Ask.{Ask, ask_of}
use Rattle.tdb_answer.specs.Acts.{reply_of, Left, Interrupted}
use Rattle.tdb_answer.specs.Ending.{Due, status_of, TakesMemory, asks_openers}
use Rattle.tdb_answer.specs.Heard.{AskHeard}
use Rattle.tdb_log.specs.Logs.{Logged}
use Rattle.tdb_answer.specs.Output.{Output}
use Rattle.tdb_answer.specs.Printed.{TextBefore, ask_tells, Writes}
use Rattle.tdb_cmdline.specs.CopyNames.{IsForCopyAmong, IsForRestoreAmong, temporary_name}
use Rattle.tdb_answer.specs.Commands.Backup.{BackupStops, CopiedAll, StoppedAt, IsLeftOf, BackupEnds}
use Rattle.tdb_answer.specs.Commands.Repack.{RepackEnds, HasRepacked}
use Rattle.tdb_answer.specs.Commands.Convert.{ConvertEnds, WasConverted}
use Rattle.tdb_answer.specs.Commands.Mend.{MendEnds, WasMended, StaysSynced}
use Rattle.tdb_answer.specs.Damaged.{CanMend}
use Rattle.tdb_answer.specs.Commands.Merge.{MergeEnds, MergeLeaves, MergedOn}
use Rattle.tdb_answer.specs.Commands.Moving.{MoveLeaves, MoveSo, MovedOn, WasOpened}
use Rattle.tdb_open.specs.Creating.{new_length}
use Rattle.tdb_answer.specs.Commands.Create.{LeftEmpty, CreateLeaves}
use Rattle.tdb_answer.specs.Commands.Restore.{ReadSo}
use Rattle.tdb_answer.specs.Commands.Session.{ServesSo, session_options, IsServed, HeardUnopened, IsServedSoFar, IsServedBroken}
use Rattle.tdb_tool.specs.Serving.{HeardOrRefused}
use Rattle.tdb_open.specs.Loading.{TurnOpened}
use Rattle.tdb_answer.specs.Commands.Turns.{PlaysSo, IsPlayed, IsPlayedSoFar}
use Rattle.tdb_tool.specs.declared.fault.SessionEnd.TheVariants as End
use Rattle.tdb_answer.specs.Commands.Generate.{GenSo, HasMade}
use Rattle.tdb_answer.specs.Commands.Verify.{VerifyEnds, VerifiedAll, LeftAt}
use Rattle.tdb_gen.specs.declared.summary.Summary.{Summary}
use Rattle.tdb_gen.specs.Summary.{summary_text}
use Rattle.tdb_cmdline.specs.declared.printout.Printout.{Printout}
use Rattle.tdb_commands.specs.declared.options.Options.{Options}
use Rattle.tdb_world.specs.Courses.Hearing.{HeardUpTo}
use Rattle.tdb_log.specs.Logs.{Logged}
use Rattle.tdb_log.specs.declared.log.LogRefusal.TheVariants as Unheard
use Rattle.tdb_open.specs.declared.halt.Halt.{Halt}
use Rattle.tdb_open.specs.declared.halt.Halt.TheVariants as H
use Rattle.tdb_answer.specs.Input.{Input}
use Rattle.tdb_answer.specs.Left.{HasRestored, MayChange}
use Rattle.tdb_answer.specs.Reads.{ask_reads}
use Rattle.tdb_open.specs.Opening.{opened_bytes, OpensToRead, HeldOrUndone, SameOrUndone, UndoneIfOpen, LookBroken, OpenedBelow}

-- a run: what its words ask for, what is held at each name before and after, how often calls of the files had failed
-- before and after, what the input had, what the output took, and the status that the program exits with
pub record Run : Type 0 where
  pub ask : Option Ask
  pub old : List ℕ → Option History
  pub now : List ℕ → Option History
  pub faults_before : ℕ
  pub faults_after : ℕ
  pub input : Input
  pub output : Output
  pub status : ℕ

abbrev pub run_by : List (String Global) → (List ℕ → Option History) → (List ℕ → Option History) → ℕ → ℕ → Input → Output → ℕ → Run
run_by words old now before after input output status = record {
  ask = ask_of (map string_bytes words);
  old = old;
  now = now;
  faults_before = before;
  faults_after = after;
  input = input;
  output = output;
  status = status;
}

-- Why a run ends so that is asked for this, or for nothing: it is due; or a restore was asked for, no file was at its
-- name, and its input says so; or a backup or a verification was, and its files say so; or turns were, and their script
-- and their file say so; or a session was, and its lines and its file say so; or generated commands were, no file was
-- at the name, and it is how they were done; or a file was to be written anew, or another one to be made of its pairs
-- or of what can be read of it, or its pairs to be stored into another one, and it is what became of these; or a key of
-- it was to be moved into another one, and both files say so; or it is asked for something and a call failed, or a log
-- did; or memory was wanting.
pub data MayEnd (ask : Option Ask) (held : List ℕ → Option History) (input : Input) (before after : ℕ) : Ending → Type 0 where
  is_due : (e : Ending) → Due ask held e → MayEnd ask held input before after e
  is_read : (e : Ending) (limit : ℕ) (name : List ℕ) → ask ≡ Some (record { file = name; task = Restore limit }) → held name ≡ None → ReadSo input limit e → MayEnd ask held input before after e
  is_copied : (e : Ending) (more : List (List ℕ)) (suffix name : List ℕ) → ask ≡ Some (record { file = name; task = Backup more suffix }) → BackupEnds (name ∷ more) held e → MayEnd ask held input before after e
  is_verified : (e : Ending) (more : List (List ℕ)) (suffix name text : List ℕ) → ask ≡ Some (record { file = name; task = Verify more suffix }) → VerifyEnds suffix (name ∷ more) held e text → MayEnd ask held input before after e
  is_played : (e : Ending) (options : Options) (name : List ℕ) → ask ≡ Some (record { file = name; task = Turns options }) → PlaysSo input options name (held name) e → MayEnd ask held input before after e
  is_served : (e : Ending) (limit : ℕ) (name : List ℕ) → ask ≡ Some (record { file = name; task = Session limit }) → ServesSo input limit name (held name) e → MayEnd ask held input before after e
  is_generated : (e : Ending) (commands seed : ℕ) (name : List ℕ) → ask ≡ Some (record { file = name; task = Generate commands seed }) → held name ≡ None → GenSo commands seed e → MayEnd ask held input before after e
  is_repacked : (e : Ending) (limit : ℕ) (name : List ℕ) (h : History) → ask ≡ Some (record { file = name; task = Repack limit }) → held name ≡ Some h → RepackEnds limit (seen h) e → MayEnd ask held input before after e
  is_converted : (e : Ending) (made : NewFile) (prefix new name : List ℕ) (h : History) → ask ≡ Some (record { file = name; task = Convert new made prefix }) → held name ≡ Some h → ConvertEnds made prefix (seen h) new (held new) e → MayEnd ask held input before after e
  is_mended : (e : Ending) (new name : List ℕ) (h : History) → ask ≡ Some (record { file = name; task = Mend new }) → held name ≡ Some h → MendEnds (seen h) new (held new) e → MayEnd ask held input before after e
  is_merged : (e : Ending) (into prefix name : List ℕ) (limit : ℕ) (h : History) → ask ≡ Some (record { file = name; task = Merge into prefix limit }) → held name ≡ Some h → MergeEnds limit (seen h) into (held into) e → MayEnd ask held input before after e
  is_moved : (e : Ending) (key into name : List ℕ) (limit : ℕ) → ask ≡ Some (record { file = name; task = Move key into limit }) → MoveSo limit key name into held e → MayEnd ask held input before after e
  call_failed : (a : Ask) → ask ≡ Some a → Rose before after → MayEnd ask held input before after DeviceFault
  memory_wanting : MayEnd ask held input before after NoMemory
  log_failed : (a : Ask) → ask ≡ Some a → MayEnd ask held input before after LogFault

abbrev pub Cause : Run → Ending → Type 0
Cause run e = MayEnd run.ask run.old run.input run.faults_before run.faults_after e

-- a status that tells of a failed call of the files, of want of memory, of a failed output, or of a log that failed
abbrev pub TellsFault : ℕ → Type 0
TellsFault status = (status ≡ 4) ⊎ (status ≡ 5) ⊎ (status ≡ 8) ⊎ (status ≡ 10)

-- A run ends in one way, and prints the line of that, behind the text of its command where that has one. Where the
-- files tell what they hold, the ending has its cause, and what is due is the one thing that is answered, unless a call
-- or a log failed or memory was wanting.
pub record Answered (tells : Bool) (run : Run) : Type 0 where
  pub ending : Ending
  pub printed : Writes (ask_tells run.ask tells run.output.tells) run.output (TextBefore run.ask run.old) ending run.status
  pub cause : IsTrue tells → Cause run ending
  pub exact : IsTrue tells → (e : Ending) → Due run.ask run.old e → (run.status ≡ status_of e) ⊎ TellsFault run.status

-- the words ask for an act on a file that is there and has this history
pub record ActsOn (run : Run) (act : Act) (name : List ℕ) (old : History) : Type 0 where
  pub asks : run.ask ≡ Some (record { file = name; task = On act })
  pub there : run.old name ≡ Some old

-- the words ask for a look into a file that is there and has this history
pub record LooksInto (run : Run) (look : Look) (name : List ℕ) (old : History) : Type 0 where
  pub asks : run.ask ≡ Some (record { file = name; task = Read look })
  pub there : run.old name ≡ Some old

-- the words ask for what can still be read of a file that is there and has this history
pub record Rescues (run : Run) (name : List ℕ) (old : History) : Type 0 where
  pub asks : run.ask ≡ Some (record { file = name; task = Rescue })
  pub there : run.old name ≡ Some old

-- the words ask to print this of a file that is there and has this history
pub record PrintsOf (run : Run) (printout : Printout) (limit : ℕ) (name : List ℕ) (old : History) : Type 0 where
  pub asks : run.ask ≡ Some (record { file = name; task = Print printout limit })
  pub there : run.old name ≡ Some old

-- the words ask to write a file anew that is there and has this history
pub record Repacks (run : Run) (limit : ℕ) (name : List ℕ) (old : History) : Type 0 where
  pub asks : run.ask ≡ Some (record { file = name; task = Repack limit })
  pub there : run.old name ≡ Some old

-- the words ask to make another file of the pairs of one that is there and has this history
pub record Converts (run : Run) (made : NewFile) (prefix new name : List ℕ) (old : History) : Type 0 where
  pub asks : run.ask ≡ Some (record { file = name; task = Convert new made prefix })
  pub there : run.old name ≡ Some old

-- the words ask to make another file of what can be read of one that is there and has this history
pub record Mends (run : Run) (new name : List ℕ) (old : History) : Type 0 where
  pub asks : run.ask ≡ Some (record { file = name; task = Mend new })
  pub there : run.old name ≡ Some old

-- Of an act, a look, a printing, a file that is to be written anew or one of whose pairs another is to be made status 3
-- comes only over a file whose bytes can't be opened, in the way that the command opens it, and of a rescue only over
-- one that has no header without a fault; and over each that is no longer than the longest and than it may be nothing
-- else comes, unless a call or a log failed or memory was wanting.
pub record RefusesExactly (run : Run) : Type 0 where
  pub only : (act : Act) (name : List ℕ) (h : History) → ActsOn run act name h → run.status ≡ 3 → Opens (seen h) → ⊥
  pub exact : (act : Act) (name : List ℕ) (h : History) → ActsOn run act name h → (Opens (seen h) → ⊥) → length (seen h) ≤ LONGEST_FILE → length (seen h) ≤ act.limit → (run.status ≡ 3) ⊎ TellsFault run.status
  pub read_only : (look : Look) (name : List ℕ) (h : History) → LooksInto run look name h → run.status ≡ 3 → OpensToRead (seen h) → ⊥
  pub read_exact : (look : Look) (name : List ℕ) (h : History) → LooksInto run look name h → (OpensToRead (seen h) → ⊥) → length (seen h) ≤ LONGEST_FILE → (run.status ≡ 3) ⊎ TellsFault run.status
  pub rescue_only : (name : List ℕ) (h : History) → Rescues run name h → run.status ≡ 3 → HeaderOk (seen h) → ⊥
  pub rescue_exact : (name : List ℕ) (h : History) → Rescues run name h → (HeaderOk (seen h) → ⊥) → length (seen h) ≤ LONGEST_FILE → (run.status ≡ 3) ⊎ TellsFault run.status
  pub print_only : (printout : Printout) (limit : ℕ) (name : List ℕ) (h : History) → PrintsOf run printout limit name h → run.status ≡ 3 → Opens (seen h) → ⊥
  pub print_exact : (printout : Printout) (limit : ℕ) (name : List ℕ) (h : History) → PrintsOf run printout limit name h → (Opens (seen h) → ⊥) → length (seen h) ≤ LONGEST_FILE → length (seen h) ≤ limit → (run.status ≡ 3) ⊎ TellsFault run.status
  pub repack_only : (limit : ℕ) (name : List ℕ) (h : History) → Repacks run limit name h → run.status ≡ 3 → Opens (seen h) → ⊥
  pub repack_exact : (limit : ℕ) (name : List ℕ) (h : History) → Repacks run limit name h → (Opens (seen h) → ⊥) → length (seen h) ≤ LONGEST_FILE → length (seen h) ≤ limit → (run.status ≡ 3) ⊎ TellsFault run.status
  pub convert_only : (made : NewFile) (prefix new name : List ℕ) (h : History) → Converts run made prefix new name h → run.status ≡ 3 → OpensToRead (seen h) → ⊥
  pub convert_exact : (made : NewFile) (prefix new name : List ℕ) (h : History) → Converts run made prefix new name h → (OpensToRead (seen h) → ⊥) → length (seen h) ≤ LONGEST_FILE → length (seen h) ≤ made.limit → (run.status ≡ 3) ⊎ TellsFault run.status
  pub mend_only : (new name : List ℕ) (h : History) → Mends run new name h → run.status ≡ 3 → CanMend (seen h) → ⊥
  pub mend_exact : (new name : List ℕ) (h : History) → Mends run new name h → (CanMend (seen h) → ⊥) → length (seen h) ≤ LONGEST_FILE → (run.status ≡ 3) ⊎ TellsFault run.status

-- a status after which every file is as before or undone, whatever the words ask for, but for copies and restored
-- files, and for commands of openers that ended in their midst (`EndsMidway`): it says neither that it was done, nor
-- that a call of the files or of the output failed, nor that a log did
abbrev pub KeepsAll : ℕ → Type 0
KeepsAll status = (status ≢ 0) × (status ≢ 4) × (status ≢ 8) × (status ≢ 10)

-- a task may end with this status when some of its plays were taken: memory may be wanting, or room, a line of a
-- session may be none, and a key that is to be moved not there; or when an empty file was made in place of one that
-- would be too long
abbrev pub EndsMidway : Task → ℕ → Type 0
EndsMidway (Turns options) status = status ≡ 5
EndsMidway (Session limit) status = (status ≡ 5) ⊎ (status ≡ 7)
EndsMidway (Merge into prefix limit) status = (status ≡ 5) ⊎ (status ≡ 6)
EndsMidway (Move key into limit) status = (status ≡ 1) ⊎ (status ≡ 5) ⊎ (status ≡ 6)
EndsMidway (Create file) status = file.limit < new_length file.form
EndsMidway task status = ⊥

-- What a run leaves of the file of an act, which held this, by its status. Want of memory, status 5, may come before
-- the file was opened or after it was undone. A fault of the output, status 8, tells nothing of the file: it is as it
-- was or undone, or as the act left it, or as a failed call left it, which raised the count of faults. A log that
-- failed, status 10, may have done so behind the act.
pub record ActRun (act : Act) (old : History) (before after status : ℕ) (now : History) : Type 0 where
  pub any : SameOrUndone old now ⊎ Left act old now ⊎ (Rose before after × Interrupted act old now)
  pub replied : status ≡ 0 → status_of (Replied (reply_of act (opened_bytes (seen old)))) ≡ 0
  pub done : status ≡ 0 → Left act old now
  pub failed : status ≡ 4 → Interrupted act old now
  pub logged : status ≡ 10 → UndoneIfOpen old now ⊎ Left act old now
  pub kept : KeepsAll status → SameOrUndone old now
  pub exact : KeepsAll status → status ≢ 5 → OpenedBelow act.limit old now

-- a file was to be made that would have more bytes than it may: it is empty
abbrev pub IsLeftEmpty : NewFile → Option History → Option History → Type 0
IsLeftEmpty file old now = (file.limit < new_length file.form) × LeftEmpty old now

-- What a run leaves of the file of a printing, which held this: what its opening leaves. Want of memory, status 5, may
-- come before the file was opened, and after a fault of the output, status 8, the opening may have failed.
pub record PrintRun (limit : ℕ) (old : History) (before after status : ℕ) (now : History) : Type 0 where
  pub any : SameOrUndone old now ⊎ (Rose before after × LookBroken old now)
  pub failed : status ≡ 4 → LookBroken old now
  pub kept : status ≢ 4 → status ≢ 8 → SameOrUndone old now
  pub exact : status ≢ 4 → status ≢ 5 → status ≢ 8 → OpenedBelow limit old now

-- What a run leaves of a file that is to be written anew, which held this, and at the name at which that is made. Where
-- the status isn't 0 the file is what its opening leaves, unless the output failed behind all, and what stood at the
-- other name is removed at most, unless a call failed.
pub record RepackRun (limit : ℕ) (old : History) (made_old : Option History) (before after status : ℕ) (now : History) (made_now : Option History) : Type 0 where
  pub done : status ≡ 0 → HasRepacked old now made_now
  pub stopped : status ≢ 0 → PrintRun limit old before after status now ⊎ ((status ≡ 8) × HasRepacked old now made_now)
  pub left : status ≢ 0 → IsLeftOf made_old made_now ⊎ (((status ≡ 4) ⊎ (status ≡ 8)) × Rose before after)

-- what a run leaves at the name of a file that is to be made, in the same way
pub record MakingRun (file : NewFile) (old : Option History) (before after status : ℕ) (now : Option History) : Type 0 where
  pub any : (now ≡ old) ⊎ CreateLeaves file.form old Made now ⊎ (Rose before after × CreateLeaves file.form old Device now) ⊎ IsLeftEmpty file old now
  pub done : status ≡ 0 → CreateLeaves file.form old Made now
  pub failed : status ≡ 4 → CreateLeaves file.form old Device now
  pub too_long : status ≡ 6 → IsLeftEmpty file old now
  pub kept : KeepsAll status → (now ≡ old) ⊎ IsLeftEmpty file old now

-- What a run leaves at the name of a file that is to be made of the pairs on the input. Where the status is neither 0
-- nor 4 no file is left that wasn't there, unless a call of the files failed and then the output too.
pub record RestoringRun (limit : ℕ) (input : Input) (old : Option History) (before after status : ℕ) (now : Option History) : Type 0 where
  pub done : status ≡ 0 → HasRestored limit input old now
  pub there : IsSome old → now ≡ old
  pub kept : status ≢ 0 → status ≢ 4 → (now ≡ old) ⊎ ((status ≡ 8) × Rose before after)

-- why a run ends with this status at a file of a backup, also where memory is wanting then, or the output fails
abbrev pub StopsWith : ℕ → List ℕ → Option History → Type 0
StopsWith status file held = (e : Ending) × ((status ≡ status_of e) ⊎ (status ≡ 5) ⊎ (status ≡ 8)) × BackupStops e file held

-- What a run leaves at the names of a backup of these files. Where the status isn't 0 the first ones may be copied.
-- What a failed call leaves stands only where the status is 4 or 8 and the count of faults rose.
pub record BackupRun (suffix : List ℕ) (files : List (List ℕ)) (old : List ℕ → Option History) (before after status : ℕ) (now : List ℕ → Option History) : Type 0 where
  pub done : status ≡ 0 → CopiedAll suffix files old now
  pub stopped : status ≢ 0 → StoppedAt (((status ≡ 4) ⊎ (status ≡ 8)) × Rose before after) (StopsWith status) suffix files old now

-- What a run leaves at the names of a verification of these files, in the same way: where the status isn't 0 the first
-- ones may be verified.
pub record VerifyRun (suffix : List ℕ) (files : List (List ℕ)) (old : List ℕ → Option History) (before after status : ℕ) (now : List ℕ → Option History) : Type 0 where
  pub done : status ≡ 0 → VerifiedAll suffix files old now
  pub stopped : status ≢ 0 → LeftAt (((status ≡ 4) ⊎ (status ≡ 8)) × Rose before after) suffix files old now

-- What a run leaves of the file of turns, which held this. Want of memory, status 5, and a log that failed, status 10,
-- may come before the file was opened or in the midst of the plays.
pub record TurnsRun (options : Options) (input : Input) (output : Output) (old : History) (before after status : ℕ) (now : History) (logs later : List Logged) : Type 0 where
  pub any : SameOrUndone old now ⊎ IsPlayedSoFar options old now ⊎ Rose before after
  pub done : status ≡ 0 → IsPlayed options input output logs later old now
  pub failed : status ≡ 4 → Rose before after
  pub wanting : status ≡ 5 → SameOrUndone old now ⊎ IsPlayedSoFar options old now
  pub logged : status ≡ 10 → SameOrUndone old now ⊎ IsPlayedSoFar options old now
  pub unread : status ≡ 7 → now ≡ old
  pub kept : KeepsAll status → status ≢ 5 → status ≢ 7 → TurnOpened options old now

-- What logs heard of the opening of a file with these bytes for a session that didn't open it.
abbrev pub HaltHeard : ℕ → List ℕ → List Logged → List Logged → Type 0
HaltHeard limit img logs later = (halt : Halt) × HeardUnopened limit img logs later halt

-- A file was opened for a session, if at all, and a failed call broke off its opening or the session.
abbrev pub SessionBroken : ℕ → Input → Output → History → History → List Logged → List Logged → Type 0
SessionBroken limit input output old now logs later = HeardUnopened limit (seen old) logs later H.Device ⊎ IsServedBroken limit input output old now logs later

-- What a run leaves of the file of a session, which held this, what it printed of it, and what logs heard of it. Want
-- of memory, status 5, and a log that failed, status 10, may come before the file was opened or in the midst of the
-- commands, and a fault of the input or of the output, status 8, comes in their midst.
pub record SessionRun (limit : ℕ) (input : Input) (output : Output) (old : History) (before after status : ℕ) (now : History) (logs later : List Logged) : Type 0 where
  pub any : (SameOrUndone old now × HaltHeard limit (seen old) logs later) ⊎ IsServedSoFar limit input output old now logs later HeardOrRefused ⊎ (Rose before after × SessionBroken limit input output old now logs later)
  pub done : status ≡ 0 → IsServed limit input output End.Ended old now logs later
  pub malformed : status ≡ 7 → (at : ℕ) × IsServed limit input output (End.Malformed at) old now logs later
  pub failed : status ≡ 4 → Rose before after × SessionBroken limit input output old now logs later
  pub wanting : status ≡ 5 → (SameOrUndone old now × HaltHeard limit (seen old) logs later) ⊎ IsServedSoFar limit input output old now logs later HeardOrRefused
  pub logged : status ≡ 10 → (SameOrUndone old now × HeardUnopened limit (seen old) logs later H.Log) ⊎ IsServedSoFar limit input output old now logs later (HeardUpTo Unheard.Failed)
  pub kept : KeepsAll status → status ≢ 5 → status ≢ 7 → TurnOpened (session_options limit) old now
  pub halted : KeepsAll status → status ≢ 5 → status ≢ 7 → HaltHeard limit (seen old) logs later

-- What a run leaves at the name of a file that is to be made of the pairs of another one. What stood there stays. Where
-- the status is neither 0 nor 4 no file is left that wasn't there, unless a call of the files failed and then the
-- output.
pub record ConvertRun (made : NewFile) (prefix : List ℕ) (held old : Option History) (before after status : ℕ) (now : Option History) : Type 0 where
  pub done : status ≡ 0 → WasConverted made prefix held old now
  pub there : IsSome old → now ≡ old
  pub kept : status ≢ 0 → status ≢ 4 → (now ≡ old) ⊎ ((status ≡ 8) × Rose before after)

-- What a run leaves at the name of a file that is to be made of what can be read of another one. What stood there
-- stays. Where the status is neither 0 nor 4 no file is left that wasn't there, unless a call of the files failed and
-- then the output.
pub record MendRun (held old : Option History) (before after status : ℕ) (now : Option History) : Type 0 where
  pub done : status ≡ 0 → WasMended held old now
  pub there : IsSome old → now ≡ old
  pub kept : status ≢ 0 → status ≢ 4 → (now ≡ old) ⊎ ((status ≡ 8) × Rose before after)

-- The pairs of one file with this prefix were merged into another, and a stop from then on leaves only what opens to
-- that.
pub record WasMerged (limit : ℕ) (prefix : List ℕ) (held old now : Option History) : Type 0 where
  pub was : History
  pub there : held ≡ Some was
  pub before : History
  pub stood : old ≡ Some before
  pub after : History
  pub stands : now ≡ Some after
  pub merged : MergedOn limit prefix (seen was) before after (Ok tt)

-- What a run leaves at the name of a file into which the pairs of another one are to be stored, by the ending of its
-- command, whose status it has, or 5 where there was no memory for its line, or 8 where the output failed.
pub record MergeRun (limit : ℕ) (prefix file into : List ℕ) (held old : Option History) (status : ℕ) (now : Option History) : Type 0 where
  pub ending : Ending
  pub exits : (status ≡ status_of ending) ⊎ (status ≡ 5) ⊎ (status ≡ 8)
  pub left : MergeLeaves limit prefix file into held old ending now
  pub done : status ≡ 0 → WasMerged limit prefix held old now

-- A key of one file was moved into another, and a stop from then on leaves of each only what opens to that.
pub record WasMoved (limit : ℕ) (key : List ℕ) (held now_held old now : Option History) : Type 0 where
  pub was : History
  pub there : held ≡ Some was
  pub from : History
  pub opened : WasOpened limit was from
  pub now_from : History
  pub stands : now_held ≡ Some now_from
  pub before : History
  pub stood : old ≡ Some before
  pub after : History
  pub now_stands : now ≡ Some after
  pub moved : MovedOn limit key from now_from before after (Ok tt)

-- What a run leaves at the names of a file whose key is to be moved into another one, and of that, by the ending of its
-- command, whose status it has, or 5 where there was no memory for its line, or 8 where the output failed.
pub record MoveRun (limit : ℕ) (key file into : List ℕ) (held now_held old now : Option History) (status : ℕ) : Type 0 where
  pub ending : Ending
  pub exits : (status ≡ status_of ending) ⊎ (status ≡ 5) ⊎ (status ≡ 8)
  pub left : MoveLeaves limit key file into held now_held old now ending
  pub done : status ≡ 0 → WasMoved limit key held now_held old now

-- What a run leaves at the name of a file on which generated commands are to be done. Where the status is neither 0 nor
-- 4 no file is left that wasn't there, unless the output failed, behind them or behind a failed call.
pub record GeneratingRun (commands seed : ℕ) (output : Output) (old : Option History) (before after status : ℕ) (now : Option History) : Type 0 where
  pub done : status ≡ 0 → (s : Summary) × HasMade commands seed s old now × (IsTrue output.tells → output.after ≡ output.before ++ summary_text s)
  pub there : IsSome old → now ≡ old
  pub failed : status ≡ 4 → Rose before after
  pub kept : status ≢ 0 → status ≢ 4 → (now ≡ old) ⊎ ((status ≡ 8) × (Rose before after ⊎ ((s : Summary) × HasMade commands seed s old now)))

-- a name is one for a copy, where a backup is asked for, or one at which a file is restored, where a verification is,
-- or the one at which a file is made, where it is to be written anew, or that of a file that is mended, which is synced
abbrev pub IsCopyName : Option Ask → List ℕ → Type 0
IsCopyName ask name =
    ((more : List (List ℕ)) × (suffix : List ℕ) × (file : List ℕ)
    × (((ask ≡ Some (record { file = file; task = Backup more suffix })) × IsForCopyAmong suffix (file ∷ more) name)
    ⊎ ((ask ≡ Some (record { file = file; task = Verify more suffix })) × IsForRestoreAmong (file ∷ more) name)))
    ⊎ ((limit : ℕ) × (file : List ℕ) × (ask ≡ Some (record { file = file; task = Repack limit })) × (name ≡ temporary_name file))
    ⊎ ((new : List ℕ) × (ask ≡ Some (record { file = name; task = Mend new })))

-- What a run leaves of the files: at most those that it is asked for change, as the status says.
pub record LeavesFiles (run : Run) (logs later : List Logged) : Type 0 where
  pub others : (name : List ℕ) → ((ask : Ask) → run.ask ≡ Some ask → MayChange ask.task ask.file name → ⊥) → run.now name ≡ run.old name
  pub acted : (act : Act) (name : List ℕ) (old : History) → ActsOn run act name old
      → (h : History) × (run.now name ≡ Some h) × ActRun act old run.faults_before run.faults_after run.status h
  pub absent : (act : Act) (name : List ℕ) → run.ask ≡ Some (record { file = name; task = On act }) → run.old name ≡ None → run.now name ≡ None
  pub made : (file : NewFile) (name : List ℕ) → run.ask ≡ Some (record { file = name; task = Create file })
      → MakingRun file (run.old name) run.faults_before run.faults_after run.status (run.now name)
  pub restored : (limit : ℕ) (name : List ℕ) → run.ask ≡ Some (record { file = name; task = Restore limit })
      → RestoringRun limit run.input (run.old name) run.faults_before run.faults_after run.status (run.now name)
  pub backed_up : (more : List (List ℕ)) (suffix name : List ℕ) → run.ask ≡ Some (record { file = name; task = Backup more suffix })
      → BackupRun suffix (name ∷ more) run.old run.faults_before run.faults_after run.status run.now
  pub verified : (more : List (List ℕ)) (suffix name : List ℕ) → run.ask ≡ Some (record { file = name; task = Verify more suffix })
      → VerifyRun suffix (name ∷ more) run.old run.faults_before run.faults_after run.status run.now
  pub read : (look : Look) (name : List ℕ) → run.ask ≡ Some (record { file = name; task = Read look }) → run.now name ≡ run.old name
  pub rescued : (name : List ℕ) → run.ask ≡ Some (record { file = name; task = Rescue }) → run.now name ≡ run.old name
  pub printed : (printout : Printout) (limit : ℕ) (name : List ℕ) (old : History) → PrintsOf run printout limit name old
      → (h : History) × (run.now name ≡ Some h) × PrintRun limit old run.faults_before run.faults_after run.status h
  pub unprinted : (printout : Printout) (limit : ℕ) (name : List ℕ) → run.ask ≡ Some (record { file = name; task = Print printout limit }) → run.old name ≡ None → run.now name ≡ None
  pub repacked : (limit : ℕ) (name : List ℕ) (old : History) → Repacks run limit name old
      → (h : History) × (run.now name ≡ Some h) × RepackRun limit old (run.old (temporary_name name)) run.faults_before run.faults_after run.status h (run.now (temporary_name name))
  pub unrepacked : (limit : ℕ) (name : List ℕ) → run.ask ≡ Some (record { file = name; task = Repack limit }) → run.old name ≡ None
      → (run.now name ≡ None) × (run.now (temporary_name name) ≡ run.old (temporary_name name))
  pub converted : (made : NewFile) (prefix new name : List ℕ) → run.ask ≡ Some (record { file = name; task = Convert new made prefix })
      → (run.now name ≡ run.old name) × ConvertRun made prefix (run.old name) (run.old new) run.faults_before run.faults_after run.status (run.now new)
  pub mended : (new name : List ℕ) → run.ask ≡ Some (record { file = name; task = Mend new })
      → StaysSynced (run.old name) (run.now name) × MendRun (run.old name) (run.old new) run.faults_before run.faults_after run.status (run.now new)
  pub merged : (into prefix name : List ℕ) (limit : ℕ) → run.ask ≡ Some (record { file = name; task = Merge into prefix limit })
      → (run.now name ≡ run.old name) × MergeRun limit prefix name into (run.old name) (run.old into) run.status (run.now into)
  pub moved : (key into name : List ℕ) (limit : ℕ) → run.ask ≡ Some (record { file = name; task = Move key into limit })
      → MoveRun limit key name into (run.old name) (run.now name) (run.old into) (run.now into) run.status
  pub turned : (options : Options) (name : List ℕ) (old : History) → run.ask ≡ Some (record { file = name; task = Turns options }) → run.old name ≡ Some old
      → (h : History) × (run.now name ≡ Some h) × TurnsRun options run.input run.output old run.faults_before run.faults_after run.status h logs later
  pub unturned : (options : Options) (name : List ℕ) → run.ask ≡ Some (record { file = name; task = Turns options }) → run.old name ≡ None → run.now name ≡ None
  pub served : (limit : ℕ) (name : List ℕ) (old : History) → run.ask ≡ Some (record { file = name; task = Session limit }) → run.old name ≡ Some old
      → (h : History) × (run.now name ≡ Some h) × SessionRun limit run.input run.output old run.faults_before run.faults_after run.status h logs later
  pub unserved : (limit : ℕ) (name : List ℕ) → run.ask ≡ Some (record { file = name; task = Session limit }) → run.old name ≡ None → run.now name ≡ None
  pub generated : (commands seed : ℕ) (name : List ℕ) → run.ask ≡ Some (record { file = name; task = Generate commands seed })
      → GeneratingRun commands seed run.output (run.old name) run.faults_before run.faults_after run.status (run.now name)
  pub kept : KeepsAll run.status → ((ask : Ask) → run.ask ≡ Some ask → EndsMidway ask.task run.status → ⊥)
      → (name : List ℕ) → (IsCopyName run.ask name → ⊥) → HeldOrUndone (run.old name) (run.now name)

-- What a status tells whatever the files and the output tell of what they hold: the usage is answered exactly where the
-- words ask for nothing, unless memory was wanting or the output failed; and a failed call is told, unless the output
-- failed too. A failed call of the output is told in any case. Commands of openers may end as a failed call ends them
-- where another program wrote to their file (`CountedIf`). Only a restore, turns and a session tell of the input, of
-- which a failed read is told unless a call of the files failed too.
pub record Accounted (run : Run) : Type 0 where
  pub usage : run.status ≡ 2 → run.ask ≡ None
  pub usage_exact : run.ask ≡ None → Contains (2 ∷ 5 ∷ 8 ∷ []) run.status
  pub device_fault : run.status ≡ 4 → asks_openers run.ask ≡ false → Rose run.faults_before run.faults_after
  pub device_fault_told : run.status ≢ 4 → run.status ≢ 8 → run.faults_after ≡ run.faults_before
  pub output_fault : run.status ≡ 8 → Rose run.output.faults_before run.output.faults_after ⊎ (IsTrue (ask_reads run.ask) × Rose run.input.faults_before run.input.faults_after)
  pub output_fault_told : run.status ≢ 8 → run.output.faults_after ≡ run.output.faults_before
  pub malformed : run.status ≡ 7 → IsTrue (ask_reads run.ask)
  pub input_fault_told : run.status ≢ 4 → run.status ≢ 8 → run.input.faults_after ≡ run.input.faults_before
  pub known : Contains (0 ∷ 1 ∷ 2 ∷ 3 ∷ 4 ∷ 5 ∷ 6 ∷ 7 ∷ 8 ∷ 9 ∷ 10 ∷ []) run.status

-- The logs were told of a run what they hear of its command, by one ending, whose status the run has, or 5 where there
-- was no memory for its line, or 8 where the output failed.
pub record LogsAreTold (run : Run) (old new : List Logged) : Type 0 where
  pub ending : Ending
  pub exits : (run.status ≡ status_of ending) ⊎ ((run.status ≡ 5) × TakesMemory ending) ⊎ (run.status ≡ 8)
  pub heard : AskHeard run.input run.ask run.old run.now ending old new
