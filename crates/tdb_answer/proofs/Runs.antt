-- What a run says and leaves, from how its task ended and from what the output took.
use Rattle.std.proofs.Common.{◌≡◌, ◌⊎◌, ℕ, ◌<◌, ◌≤◌, true, false, List, [], ◌∷◌, ◌++◌, Option, None, Some, Result, Ok, Err, length, refl, sym, ◌∙◌, ap, subst, inl, inr, arith}
use Rattle.std.specs.Prelude.{Contains, Bool, IsTrue, IsSome}
use Rattle.std.proofs.lemmas.Bool.{false≢true}
use Rattle.std.proofs.lemmas.List.{append-nil}
use Rattle.tdb_disk.specs.Count.{Rose}
use Rattle.tdb_disk.specs.History.{History, seen}
use Rattle.tdb_words.specs.Header.{HeaderOk}
use Rattle.tdb_space.specs.Opening.{Opens}
use Rattle.tdb_cmdline.specs.declared.act.Act.{Act}
use Rattle.tdb_cmdline.specs.declared.look.Look.{Look}
use Rattle.tdb_cmdline.specs.declared.ask.Task.{Task}
use Rattle.tdb_cmdline.specs.declared.ask.Task.TheVariants.{Create, On, Read, Rescue, Print, Repack, Restore, Backup, Verify, Convert, Merge, Mend, Move, Turns, Session, Generate}
use Rattle.tdb_cmdline.specs.declared.lines.create.NewFile.{NewFile}
use Rattle.tdb_answer.specs.declared.ending.Ending.{Ending}
use Rattle.tdb_answer.specs.declared.ending.Ending.TheVariants.{Replied, Refused, Missing, There, Usage, DeviceFault, InputFault, Malformed, NoMemory, LogFault}
use Rattle.tdb_answer.specs.declared.ending.Reply.{Reply}
use Rattle.tdb_answer.specs.declared.ending.Reply.TheVariants.{Done, Value, Escaped, Dumped, Restored, Copied, Verified, KeyMissing, KeyThere, NoTransaction, Full, Number, Pair, End, Played, Closed, Generated}
use Rattle.tdb_merge.specs.declared.fault.MergeFault.{MergeFault}
use Rattle.tdb_merge.specs.declared.fault.MergeFault.TheVariants as M
use Rattle.tdb_move.specs.declared.fault.MoveFault.{MoveFault}
use Rattle.tdb_move.specs.declared.fault.MoveFault.TheVariants as V
use Rattle.tdb_open.specs.declared.halt.Halt.{Halt}
use Rattle.tdb_open.specs.declared.halt.Halt.TheVariants as H
use Rattle.tdb_open.specs.declared.halt.Refusal.{Refusal}
use Rattle.tdb_open.specs.declared.halt.Refusal.TheVariants.{TooLong, Header, Corrupt, NeedsRecovery}
use Rattle.tdb_open.specs.declared.limits.TheConstants.{LONGEST_FILE}
use Rattle.tdb_cmdline.specs.Ask.{Ask}
use Rattle.tdb_cmdline.specs.CopyNames.{temporary_name}
use Rattle.tdb_answer.specs.Acts.{reply_of, Left}
use Rattle.tdb_answer.specs.Ending.{status_of, text_of, TakesMemory, PrintedFor, Replies, Refuses, LookReplies, RefusesToRead, RefusesToReadBelow, RefusesToMend, PrintsOpened, TaskDue, Due, TaskCause, task_due, task_failed, task_wanting, task_unlogged, CountedBy, CountedFor, CountedAsked, has_openers, asks_openers, of_halt}
use Rattle.tdb_answer.specs.Looks.{look_reply}
use Rattle.tdb_answer.specs.Printed.{TextBefore, ask_tells, IsSilent, Writes}
use Rattle.tdb_answer.specs.Left.{ActLeaves, OnLeaves, MakingLeaves, RestoreLeaves, TaskLeaves, MayChange, SameElse, Leaving}
use Rattle.tdb_answer.specs.Commands.Print.{PrintLeft, PrintLeaves}
use Rattle.tdb_answer.specs.Commands.Rescue.{RescueDue}
use Rattle.tdb_answer.specs.Commands.Repack.{RepackEnds, NotRepacked, HasRepacked, RepackLeft}
use Rattle.tdb_answer.specs.Commands.Convert.{ConvertEnds, ConvertLeft, ConvertLeaves, IsTooLarge, HasNoConversion}
use Rattle.tdb_answer.specs.Commands.Mend.{MendEnds, MendLeft, MendLeaves, HasNoMending, StaysSynced}
use Rattle.tdb_answer.specs.Damaged.{CanMend}
use Rattle.tdb_answer.proofs.Damaged.{not_mended, unmendable_three}
use Rattle.tdb_answer.specs.Commands.Merge.{merge_told, MergeEnds, MergedOn, MergeLeft, merge_unopened, merge_ran, MergeInto, into_untaken, into_taken, MergeLeaves, file_untaken, file_halted, file_read}
use Rattle.tdb_answer.specs.Commands.Moving.{move_told, MoveSo, WasOpened, NotOpened, MovedOn, MoveLeft, move_unopened, move_ran, MoveInto, other_untaken, other_taken, from_unopened, from_opened, MoveLeaves, from_untaken, from_taken}
use Rattle.tdb_answer.specs.Commands.Restore.{of_input, HeardBy}
use Rattle.tdb_answer.specs.Commands.Backup.{BackupLeaves, BackupStops, EndsBackup, IsLeftOf, IsUntaken}
use Rattle.tdb_answer.specs.Commands.Verify.{VerifyLeaves, EndsVerify}
use Rattle.tdb_answer.specs.Input.{Input}
use Rattle.tdb_answer.specs.Output.{Output}
use Rattle.tdb_answer.specs.Reads.{reads_input, ask_reads, AskEnds}
use Rattle.tdb_answer.specs.Commands.Session.{session_options, StaysThere}
use Rattle.tdb_open.specs.Loading.{TurnOpened}
use Rattle.tdb_answer.specs.Commands.Turns.{IsPlayed, TurnsLeft, TurnsLeave}
use Rattle.tdb_cmdline.specs.declared.printout.Printout.{Printout}
use Rattle.tdb_log.specs.Logs.{Logged}
use Rattle.tdb_commands.specs.declared.options.Options.{Options}
use Rattle.tdb_gen.specs.declared.summary.Summary.{Summary}
use Rattle.tdb_gen.specs.Summary.{summary_text}
use Rattle.tdb_answer.specs.Commands.Generate.{HasMade, GenLeaves}
use Rattle.tdb_open.specs.Opening.{opened_bytes, CanRead, OpensToRead, HeldOrUndone, SameOrUndone, UndoneIfOpen, OpenedBelow}
use Rattle.tdb_answer.specs.Run.{Run, StopsWith, MayEnd, is_due, is_read, is_copied, is_verified, is_played, is_served, is_generated, is_repacked, is_converted, is_merged, is_mended, is_moved, call_failed, memory_wanting, log_failed, TellsFault, ActsOn, LooksInto, Rescues, PrintsOf, Repacks, Converts, Mends, RefusesExactly, KeepsAll, EndsMidway, ActRun, PrintRun, RepackRun, MakingRun, RestoringRun, BackupRun, VerifyRun, ConvertRun, WasMerged, MergeRun, WasMoved, MoveRun, MendRun, TurnsRun, SessionRun, GeneratingRun, IsCopyName, LeavesFiles, Accounted}
use Rattle.tdb_answer.proofs.Held.{same_held, same_or_other, held_kept}
use Rattle.tdb_answer.proofs.Copies.{stopped_kept, stopped_weaker, backup_zero}
use Rattle.tdb_answer.proofs.Verifying.{verified_zero, all_left_weaker, verify_kept}
use Rattle.tdb_answer.proofs.OneAnswer.{due_one, below_opened, not_read_below, read_below_faulty, read_below_three, below_faulty, below_three, read_faulty, read_three, unreadable_faulty, unreadable_three}
use Rattle.tdb_open.proofs.Openings.{same_or_undone}

-- the statuses of the table
abbrev Known : ℕ → Type 0
Known n = Contains (0 ∷ 1 ∷ 2 ∷ 3 ∷ 4 ∷ 5 ∷ 6 ∷ 7 ∷ 8 ∷ 9 ∷ 10 ∷ []) n

-- a status of a reply is 0, 1 or 6
abbrev IsReplyStatus : ℕ → Type 0
IsReplyStatus n = (n ≡ 0) ⊎ (n ≡ 1) ⊎ (n ≡ 6)

reply_status : (r : Reply) → IsReplyStatus (status_of (Replied r))
reply_status Done = inl refl
reply_status (Value value) = inl refl
reply_status (Escaped value) = inl refl
reply_status Dumped = inl refl
reply_status Restored = inl refl
reply_status Copied = inl refl
reply_status Verified = inl refl
reply_status Played = inl refl
reply_status Closed = inl refl
reply_status (Generated text) = inl refl
reply_status (Number n) = inl refl
reply_status (Pair key value) = inl refl
reply_status End = inl refl
reply_status KeyMissing = inr (inl refl)
reply_status KeyThere = inr (inl refl)
reply_status NoTransaction = inr (inl refl)
reply_status (Full len need) = inr (inr refl)

-- that of a refusal is 3 or 6
pub refusal_status : (r : Refusal) → (status_of (Refused r) ≡ 3) ⊎ (status_of (Refused r) ≡ 6)
refusal_status (TooLong len) = inr refl
refusal_status (Header fault) = inl refl
refusal_status (Corrupt what at) = inl refl
refusal_status NeedsRecovery = inl refl

ending_known : (e : Ending) → Known (status_of e)
ending_known (Replied r) = elim (reply_status r) [
  | inl is ↦ (0, omega arith, sym is)
  | inr other ↦ elim other [
    | inl is ↦ (1, omega arith, sym is)
    | inr is ↦ (6, omega arith, sym is)
  ]
]
ending_known (Refused r) = elim (refusal_status r) [
  | inl is ↦ (3, omega arith, sym is)
  | inr is ↦ (6, omega arith, sym is)
]
ending_known Usage = (2, omega arith, refl)
ending_known DeviceFault = (4, omega arith, refl)
ending_known NoMemory = (5, omega arith, refl)
ending_known LogFault = (10, omega arith, refl)
ending_known (Malformed at) = (7, omega arith, refl)
ending_known InputFault = (8, omega arith, refl)
ending_known (Missing name) = (9, omega arith, refl)
ending_known (There name) = (9, omega arith, refl)

-- another status is neither that of a reply nor that of a refusal
reply_not : (r : Reply) (n : ℕ) → 1 < n → (n ≡ 6 → ⊥) → status_of (Replied r) ≡ n → ⊥
reply_not r n more other own = of (reply_status r)
  where
    of : IsReplyStatus (status_of (Replied r)) → ⊥
    of (inl is) = absurd (omega (arith, is, own, more))
    of (inr (inl is)) = absurd (omega (arith, is, own, more))
    of (inr (inr is)) = other (sym own ∙ is)

refusal_not : (r : Refusal) (n : ℕ) → (n ≡ 3 → ⊥) → (n ≡ 6 → ⊥) → status_of (Refused r) ≡ n → ⊥
refusal_not r n three six own = of (refusal_status r)
  where
    of : (status_of (Refused r) ≡ 3) ⊎ (status_of (Refused r) ≡ 6) → ⊥
    of (inl is) = three (sym own ∙ is)
    of (inr is) = six (sym own ∙ is)

-- the status 2 is that of the usage alone, 4 that of a failed call, and 7 and 8 are of endings that tell of the input
usage_alone : (e : Ending) → status_of e ≡ 2 → e ≡ Usage
usage_alone (Replied r) two = absurd (reply_not r 2 (omega arith) (λ z. absurd (omega (arith, z))) two)
usage_alone (Refused r) two = absurd (refusal_not r 2 (λ z. absurd (omega (arith, z))) (λ z. absurd (omega (arith, z))) two)
usage_alone Usage two = refl
usage_alone DeviceFault two = absurd (omega (arith, two))
usage_alone NoMemory two = absurd (omega (arith, two))
usage_alone LogFault two = absurd (omega (arith, two))
usage_alone (Missing name) two = absurd (omega (arith, two))
usage_alone (There name) two = absurd (omega (arith, two))
usage_alone InputFault two = absurd (omega (arith, two))
usage_alone (Malformed at) two = absurd (omega (arith, two))

fault_alone : (e : Ending) → status_of e ≡ 4 → e ≡ DeviceFault
fault_alone (Replied r) four = absurd (reply_not r 4 (omega arith) (λ z. absurd (omega (arith, z))) four)
fault_alone (Refused r) four = absurd (refusal_not r 4 (λ z. absurd (omega (arith, z))) (λ z. absurd (omega (arith, z))) four)
fault_alone Usage four = absurd (omega (arith, four))
fault_alone DeviceFault four = refl
fault_alone NoMemory four = absurd (omega (arith, four))
fault_alone LogFault four = absurd (omega (arith, four))
fault_alone (Missing name) four = absurd (omega (arith, four))
fault_alone (There name) four = absurd (omega (arith, four))
fault_alone InputFault four = absurd (omega (arith, four))
fault_alone (Malformed at) four = absurd (omega (arith, four))

eight_alone : (e : Ending) → status_of e ≡ 8 → e ≡ InputFault
eight_alone (Replied r) eight = absurd (reply_not r 8 (omega arith) (λ z. absurd (omega (arith, z))) eight)
eight_alone (Refused r) eight = absurd (refusal_not r 8 (λ z. absurd (omega (arith, z))) (λ z. absurd (omega (arith, z))) eight)
eight_alone Usage eight = absurd (omega (arith, eight))
eight_alone DeviceFault eight = absurd (omega (arith, eight))
eight_alone InputFault eight = refl
eight_alone (Malformed at) eight = absurd (omega (arith, eight))
eight_alone NoMemory eight = absurd (omega (arith, eight))
eight_alone LogFault eight = absurd (omega (arith, eight))
eight_alone (Missing name) eight = absurd (omega (arith, eight))
eight_alone (There name) eight = absurd (omega (arith, eight))

seven_tells : (e : Ending) → status_of e ≡ 7 → of_input e ≡ true
seven_tells (Replied r) seven = absurd (reply_not r 7 (omega arith) (λ z. absurd (omega (arith, z))) seven)
seven_tells (Refused r) seven = absurd (refusal_not r 7 (λ z. absurd (omega (arith, z))) (λ z. absurd (omega (arith, z))) seven)
seven_tells Usage seven = absurd (omega (arith, seven))
seven_tells DeviceFault seven = absurd (omega (arith, seven))
seven_tells InputFault seven = refl
seven_tells (Malformed at) seven = refl
seven_tells NoMemory seven = absurd (omega (arith, seven))
seven_tells LogFault seven = absurd (omega (arith, seven))
seven_tells (Missing name) seven = absurd (omega (arith, seven))
seven_tells (There name) seven = absurd (omega (arith, seven))

-- the status of a run that found this ending: its own; or 5, where there was no memory for a line that takes some; or 8
abbrev pub Exits : ℕ → Ending → Type 0
Exits status t = (status ≡ status_of t) ⊎ ((status ≡ 5) × TakesMemory t) ⊎ (status ≡ 8)

-- what a run has printed, where the files tell or not
abbrev pub Printed : Bool → Run → Ending → Type 0
Printed tells run e = Writes (ask_tells run.ask tells run.output.tells) run.output (TextBefore run.ask run.old) e run.status

pub exits : (tells : Bool) (run : Run) (e t : Ending) → PrintedFor e t → Printed tells run e → Exits run.status t
exits tells run e t printed (inr part) = inr (inr part.exits)
exits tells run e t (inl same) (inl all) = inl (all.exits ∙ ap status_of same)
exits tells run e t (inr want) (inl all) = inr (inl (all.exits ∙ ap status_of want.0, want.1))

-- a restore, a backup, a verification, a conversion or a `quit` that was done has no line any more, so its status is 0
silent_status : (t : Ending) → IsSilent t → status_of t ≡ 0
silent_status t (inl is) = ap status_of is
silent_status t (inr (inl is)) = ap status_of is
silent_status t (inr (inr (inl is))) = ap status_of is
silent_status t (inr (inr (inr is))) = ap status_of is

silent_needs : (t : Ending) → IsSilent t → TakesMemory t → ⊥
silent_needs t (inl is) takes = false≢true (subst TakesMemory is takes)
silent_needs t (inr (inl is)) takes = false≢true (subst TakesMemory is takes)
silent_needs t (inr (inr (inl is))) takes = false≢true (subst TakesMemory is takes)
silent_needs t (inr (inr (inr is))) takes = false≢true (subst TakesMemory is takes)

pub silent_exits : (tells : Bool) (run : Run) (e t : Ending) → PrintedFor e t → Printed tells run e → IsSilent t → run.status ≡ 0
silent_exits tells run e t (inl same) (inl all) silent = all.exits ∙ ap status_of same ∙ silent_status t silent
silent_exits tells run e t (inl same) (inr part) silent = absurd (part.writes (subst IsSilent (sym same) silent))
silent_exits tells run e t (inr want) prints silent = absurd (silent_needs t silent want.1)

-- from the ending that was found to the one that is printed
pub printed_caused : (ask : Option Ask) (held : List ℕ → Option History) (input : Input) (before after : ℕ) (e t : Ending) → PrintedFor e t → MayEnd ask held input before after t → MayEnd ask held input before after e
printed_caused ask held input before after e t (inl same) cause = subst (MayEnd ask held input before after) (sym same) cause
printed_caused ask held input before after e t (inr want) cause = subst (MayEnd ask held input before after) (sym want.0) memory_wanting

-- why a task ended so is why its run did
task_caused : (ask : Option Ask) (a : Ask) (held : List ℕ → Option History) (input : Input) (before after : ℕ) (e : Ending) → Some a ≡ ask → TaskCause a.task a.file (held a.file) before after e → MayEnd ask held input before after e
task_caused ask a held input before after _ is (task_due e due) = is_due e (subst (λ o. Due o held e) is due)
task_caused ask a held input before after _ is (task_failed rose) = call_failed a (sym is) rose
task_caused ask a held input before after _ is task_wanting = memory_wanting
task_caused ask a held input before after _ is task_unlogged = log_failed a (sym is)

pub asked_cause : (ask : Option Ask) (a : Ask) (held : List ℕ → Option History) (input : Input) (before after : ℕ) (e : Ending) → Some a ≡ ask → AskEnds input a.task a.file held before after e → MayEnd ask held input before after e
asked_cause ask a held input before after e is (inl (inl cause)) = task_caused ask a held input before after e is cause
asked_cause ask a held input before after e is (inl (inr (inl ends))) =
    is_read e ends.limit a.file (sym is ∙ ap (λ t. Some (record { file = a.file; task = t })) ends.restores) ends.none ends.read
asked_cause ask a held input before after e is (inl (inr (inr (inl ends)))) =
    is_played e ends.options a.file (sym is ∙ ap (λ t. Some (record { file = a.file; task = t })) ends.turns) ends.why
asked_cause ask a held input before after e is (inl (inr (inr (inr ends)))) =
    is_served e ends.limit a.file (sym is ∙ ap (λ t. Some (record { file = a.file; task = t })) ends.serves) ends.why
asked_cause ask a held input before after e is (inr (inr (inl ends))) =
    is_verified e ends.more ends.suffix a.file ends.text (sym is ∙ ap (λ t. Some (record { file = a.file; task = t })) ends.verifies) ends.ends
asked_cause ask a held input before after e is (inr (inr (inr (inl ends)))) =
    is_generated e ends.commands ends.seed a.file (sym is ∙ ap (λ t. Some (record { file = a.file; task = t })) ends.generates) ends.none ends.ends
asked_cause ask a held input before after e is (inr (inr (inr (inr (inl ends))))) =
    is_repacked e ends.limit a.file ends.was (sym is ∙ ap (λ t. Some (record { file = a.file; task = t })) ends.repacks) ends.there ends.ends
asked_cause ask a held input before after e is (inr (inr (inr (inr (inr (inr (inl ends))))))) =
    is_mended e ends.new a.file ends.was (sym is ∙ ap (λ t. Some (record { file = a.file; task = t })) ends.mends) ends.there ends.ends
asked_cause ask a held input before after e is (inr (inr (inr (inr (inr (inr (inr (inr ends)))))))) =
    is_moved e ends.key ends.into a.file ends.limit (sym is ∙ ap (λ t. Some (record { file = a.file; task = t })) ends.moves) ends.ends
asked_cause ask a held input before after e is (inr (inr (inr (inr (inr (inr (inr (inl ends)))))))) =
    is_merged e ends.into ends.prefix a.file ends.limit ends.was (sym is ∙ ap (λ t. Some (record { file = a.file; task = t })) ends.merges) ends.there ends.ends
asked_cause ask a held input before after e is (inr (inr (inr (inr (inr (inl ends)))))) =
    is_converted e ends.made ends.prefix ends.new a.file ends.was (sym is ∙ ap (λ t. Some (record { file = a.file; task = t })) ends.converts) ends.there ends.ends
asked_cause ask a held input before after e is (inr (inl ends)) =
    is_copied e ends.more ends.suffix a.file (sym is ∙ ap (λ t. Some (record { file = a.file; task = t })) ends.backs_up) ends.ends

-- whether a task copies files
abbrev task_copies : Task → Bool
task_copies (Backup more suffix) = true
task_copies task = false

abbrev asks_copies : Option Ask → Bool
asks_copies None = false
asks_copies (Some ask) = task_copies ask.task

-- a verification, a move, turns, a session and generated commands are due to nothing at one name
abbrev is_other : Task → Bool
is_other (Verify more suffix) = true
is_other (Move key into limit) = true
is_other (Turns options) = true
is_other (Session limit) = true
is_other (Generate commands seed) = true
is_other task = false

abbrev asks_other : Option Ask → Bool
asks_other None = false
asks_other (Some ask) = is_other ask.task

-- a task that writes a file anew
abbrev repacks : Task → Bool
repacks (Repack limit) = true
repacks task = false

abbrev asks_repack : Option Ask → Bool
asks_repack None = false
asks_repack (Some ask) = repacks ask.task

-- and one that makes another file of its pairs, or of what can be read of it
abbrev converts : Task → Bool
converts (Convert new made prefix) = true
converts (Mend new) = true
converts task = false

abbrev asks_convert : Option Ask → Bool
asks_convert None = false
asks_convert (Some ask) = converts ask.task

-- one that makes another file of what can be read of it
abbrev mends : Task → Bool
mends (Mend new) = true
mends task = false

abbrev asks_mend : Option Ask → Bool
asks_mend None = false
asks_mend (Some ask) = mends ask.task

-- and one that stores them into another file
abbrev merges : Task → Bool
merges (Merge into prefix limit) = true
merges task = false

abbrev asks_merge : Option Ask → Bool
asks_merge None = false
asks_merge (Some ask) = merges ask.task

-- the name and the limit of such a task
abbrev asked_file : Option Ask → List ℕ
asked_file None = []
asked_file (Some ask) = ask.file

abbrev task_limit : Task → ℕ
task_limit (Repack limit) = limit
task_limit task = 0

abbrev asked_limit : Option Ask → ℕ
asked_limit None = 0
asked_limit (Some ask) = task_limit ask.task

module _ (run : Run) (e : Ending) (cause : MayEnd run.ask run.old run.input run.faults_before run.faults_after e) (tells : Bool) (prints : Printed tells run e) where
  -- what the ending that is printed says of a status, where it is due, where a restore is asked for and no file is
  -- there, where a backup is, where a verification or commands of openers are and nothing is due, and where a file is
  -- written anew
  abbrev Copies : Type 0 → Type 0
  Copies P = (more : List (List ℕ)) (suffix name : List ℕ) → run.ask ≡ Some (record { file = name; task = Backup more suffix }) → P

  abbrev Undue : Type 0 → Type 0
  Undue P = (task : Task) (name : List ℕ) → run.ask ≡ Some (record { file = name; task = task }) → is_other task ≡ true → ((x : Ending) → TaskDue task name (run.old name) x → ⊥) → P

  abbrev Anew : Type 0 → Type 0
  Anew P = (limit : ℕ) (name : List ℕ) (h : History) → run.ask ≡ Some (record { file = name; task = Repack limit }) → run.old name ≡ Some h → RepackEnds limit (seen h) e → P

  abbrev Converting : Type 0 → Type 0
  Converting P = (made : NewFile) (prefix new name : List ℕ) (h : History) → run.ask ≡ Some (record { file = name; task = Convert new made prefix }) → run.old name ≡ Some h → ConvertEnds made prefix (seen h) new (run.old new) e → P

  abbrev Mending : Type 0 → Type 0
  Mending P = (new name : List ℕ) (h : History) → run.ask ≡ Some (record { file = name; task = Mend new }) → run.old name ≡ Some h → MendEnds (seen h) new (run.old new) e → P

  abbrev Merging : Type 0 → Type 0
  Merging P = (into prefix name : List ℕ) (limit : ℕ) (h : History) → run.ask ≡ Some (record { file = name; task = Merge into prefix limit }) → run.old name ≡ Some h → MergeEnds limit (seen h) into (run.old into) e → P

  status_where : (P : ℕ → Type 0) → (Due run.ask run.old e → P (status_of e)) → ((limit : ℕ) (name : List ℕ) → run.ask ≡ Some (record { file = name; task = Restore limit }) → run.old name ≡ None → P (status_of e)) → Copies (P (status_of e)) → Undue (P (status_of e)) → Anew (P (status_of e)) → Converting (P (status_of e)) → Mending (P (status_of e)) → Merging (P (status_of e)) → P run.status ⊎ TellsFault run.status
  status_where P due read copies undue anew converting mending merging = of e cause prints due read copies undue anew converting mending merging
    where
      of : (x : Ending) → MayEnd run.ask run.old run.input run.faults_before run.faults_after x → Printed tells run x → (Due run.ask run.old x → P (status_of x))
          → ((limit : ℕ) (name : List ℕ) → run.ask ≡ Some (record { file = name; task = Restore limit }) → run.old name ≡ None → P (status_of x)) → Copies (P (status_of x)) → Undue (P (status_of x))
          → ((limit : ℕ) (name : List ℕ) (h : History) → run.ask ≡ Some (record { file = name; task = Repack limit }) → run.old name ≡ Some h → RepackEnds limit (seen h) x → P (status_of x))
          → ((made : NewFile) (prefix new name : List ℕ) (h : History) → run.ask ≡ Some (record { file = name; task = Convert new made prefix }) → run.old name ≡ Some h → ConvertEnds made prefix (seen h) new (run.old new) x → P (status_of x))
          → ((new name : List ℕ) (h : History) → run.ask ≡ Some (record { file = name; task = Mend new }) → run.old name ≡ Some h → MendEnds (seen h) new (run.old new) x → P (status_of x))
          → ((into prefix name : List ℕ) (limit : ℕ) (h : History) → run.ask ≡ Some (record { file = name; task = Merge into prefix limit }) → run.old name ≡ Some h → MergeEnds limit (seen h) into (run.old into) x → P (status_of x)) → P run.status ⊎ TellsFault run.status
      of x c (inr part) due read copies undue anew converting mending merging = inr (inr (inr (inl part.exits)))
      of _ (is_due x d) (inl all) due read copies undue anew converting mending merging = inl (subst P (sym all.exits) (due d))
      of _ (is_read x limit name asks none so) (inl all) due read copies undue anew converting mending merging = inl (subst P (sym all.exits) (read limit name asks none))
      of _ (is_copied x more suffix name asks ends) (inl all) due read copies undue anew converting mending merging = inl (subst P (sym all.exits) (copies more suffix name asks))
      of _ (is_verified x more suffix name text asks ends) (inl all) due read copies undue anew converting mending merging = inl (subst P (sym all.exits) (undue (Verify more suffix) name asks refl (λ y none. none)))
      of _ (is_played x options name asks so) (inl all) due read copies undue anew converting mending merging = inl (subst P (sym all.exits) (undue (Turns options) name asks refl (λ y none. none)))
      of _ (is_served x limit name asks so) (inl all) due read copies undue anew converting mending merging = inl (subst P (sym all.exits) (undue (Session limit) name asks refl (λ y none. none)))
      of _ (is_generated x commands seed name asks none so) (inl all) due read copies undue anew converting mending merging =
          inl (subst P (sym all.exits) (undue (Generate commands seed) name asks refl (λ y due. subst (λ o. TaskDue (Generate commands seed) name o y) none due)))
      of _ (is_repacked x limit name h asks there ends) (inl all) due read copies undue anew converting mending merging = inl (subst P (sym all.exits) (anew limit name h asks there ends))
      of _ (is_converted x made prefix new name h asks there ends) (inl all) due read copies undue anew converting mending merging = inl (subst P (sym all.exits) (converting made prefix new name h asks there ends))
      of _ (is_mended x new name h asks there ends) (inl all) due read copies undue anew converting mending merging = inl (subst P (sym all.exits) (mending new name h asks there ends))
      of _ (is_merged x into prefix name limit h asks there ends) (inl all) due read copies undue anew converting mending merging = inl (subst P (sym all.exits) (merging into prefix name limit h asks there ends))
      of _ (is_moved x key into name limit asks so) (inl all) due read copies undue anew converting mending merging = inl (subst P (sym all.exits) (undue (Move key into limit) name asks refl (λ y none. none)))
      of _ (call_failed a asks rose) (inl all) due read copies undue anew converting mending merging = inr (inl all.exits)
      of _ memory_wanting (inl all) due read copies undue anew converting mending merging = inr (inr (inl all.exits))
      of _ (log_failed a asks) (inl all) due read copies undue anew converting mending merging = inr (inr (inr (inr all.exits)))

  -- what is due is what is answered
  pub exactly : (x : Ending) → Due run.ask run.old x → (run.status ≡ status_of x) ⊎ TellsFault run.status
  exactly x due = status_where (λ n. n ≡ status_of x) (λ d. ap status_of (due_one run.ask run.old e x d due))
      (λ limit name asks none. absurd (subst (λ o. TaskDue (Restore limit) name o x) none (subst (λ a. Due a run.old x) asks due)))
      (λ more suffix name asks. absurd (subst (λ a. Due a run.old x) asks due))
      (λ task name asks openers undue. absurd (undue x (subst (λ a. Due a run.old x) asks due)))
      (λ limit name h asks there ends.
      (let refused : Refuses limit (seen h) x = subst (λ o. TaskDue (Repack limit) name o x) there (subst (λ a. Due a run.old x) asks due) in
      absurd (below_opened limit (seen h) refused.refusal ends.within ends.can_open refused.right)))
      (λ made prefix new name h asks there ends.
      (let refused : RefusesToReadBelow made.limit (seen h) x = subst (λ o. TaskDue (Convert new made prefix) name o x) there (subst (λ a. Due a run.old x) asks due) in
      absurd (not_read_below made.limit (seen h) refused.refusal ends.within ends.can_read refused.right)))
      (λ new name h asks there ends.
      (let refused : RefusesToMend (seen h) x = subst (λ o. TaskDue (Mend new) name o x) there (subst (λ a. Due a run.old x) asks due) in
      absurd (not_mended (seen h) refused.refusal ends.can_mend refused.right)))
      (λ into prefix name limit h asks there ends.
      (let refused : RefusesToReadBelow limit (seen h) x = subst (λ o. TaskDue (Merge into prefix limit) name o x) there (subst (λ a. Due a run.old x) asks due) in
      absurd (not_read_below limit (seen h) refused.refusal ends.can_merge.0 ends.can_merge.1 refused.right)))

  -- the status of a task that ends as is due to what is held at its name, where no call fails and memory suffices
  status_due : (P : ℕ → Type 0) (task : Task) (name : List ℕ) → run.ask ≡ Some (record { file = name; task = task }) → reads_input task ≡ false → task_copies task ≡ false → is_other task ≡ false → repacks task ≡ false → converts task ≡ false → merges task ≡ false
      → (TaskDue task name (run.old name) e → P (status_of e)) → P run.status ⊎ TellsFault run.status
  status_due P task name asks unread alone closed stays none never due = status_where P (λ d. due (subst (λ a. Due a run.old e) asks d))
      (λ limit other restores none. absurd (false≢true (sym unread ∙ ap ask_reads (sym asks ∙ restores))))
      (λ more suffix other copies. absurd (false≢true (sym alone ∙ ap asks_copies (sym asks ∙ copies))))
      (λ other file also openers undue. absurd (false≢true (sym closed ∙ ap asks_other (sym asks ∙ also) ∙ openers)))
      (λ limit other h also there ends. absurd (false≢true (sym stays ∙ ap asks_repack (sym asks ∙ also))))
      (λ made prefix new other h also there ends. absurd (false≢true (sym none ∙ ap asks_convert (sym asks ∙ also))))
      (λ new other h also there ends. absurd (false≢true (sym none ∙ ap asks_convert (sym asks ∙ also))))
      (λ into prefix other limit h also there ends. absurd (false≢true (sym never ∙ ap asks_merge (sym asks ∙ also))))

  -- so that of an act and of a look
  act_status : (P : ℕ → Type 0) (act : Act) (name : List ℕ) (h : History) → ActsOn run act name h → (Replies act (seen h) e ⊎ Refuses act.limit (seen h) e → P (status_of e)) → P run.status ⊎ TellsFault run.status
  act_status P act name h acts due = status_due P (On act) name acts.asks refl refl refl refl refl refl (λ d. due (subst (λ o. TaskDue (On act) name o e) acts.there d))

  look_status : (P : ℕ → Type 0) (look : Look) (name : List ℕ) (h : History) → LooksInto run look name h → (LookReplies look (seen h) e ⊎ RefusesToRead (seen h) e → P (status_of e)) → P run.status ⊎ TellsFault run.status
  look_status P look name h into due = status_due P (Read look) name into.asks refl refl refl refl refl refl (λ d. due (subst (λ o. TaskDue (Read look) name o e) into.there d))

  rescue_status : (P : ℕ → Type 0) (name : List ℕ) (h : History) → Rescues run name h → (RescueDue (seen h) e → P (status_of e)) → P run.status ⊎ TellsFault run.status
  rescue_status P name h of due = status_due P Rescue name of.asks refl refl refl refl refl refl (λ d. due (subst (λ o. TaskDue Rescue name o e) of.there d))

  print_status : (P : ℕ → Type 0) (printout : Printout) (limit : ℕ) (name : List ℕ) (h : History) → PrintsOf run printout limit name h → (PrintsOpened limit (seen h) e ⊎ Refuses limit (seen h) e → P (status_of e)) → P run.status ⊎ TellsFault run.status
  print_status P printout limit name h of due = status_due P (Print printout limit) name of.asks refl refl refl refl refl refl (λ d. due (subst (λ o. TaskDue (Print printout limit) name o e) of.there d))

  -- and that of a file that is written anew
  repack_status : (P : ℕ → Type 0) (limit : ℕ) (name : List ℕ) (h : History) → Repacks run limit name h → (Refuses limit (seen h) e → P (status_of e)) → (RepackEnds limit (seen h) e → P (status_of e)) → P run.status ⊎ TellsFault run.status
  repack_status P limit name h of due ends = status_where P (λ d. due (subst (λ o. TaskDue (Repack limit) name o e) of.there (subst (λ a. Due a run.old e) of.asks d)))
      (λ other file restores none. absurd (false≢true (ap ask_reads (sym of.asks ∙ restores))))
      (λ more suffix file copies. absurd (false≢true (ap asks_copies (sym of.asks ∙ copies))))
      (λ task file also openers undue. absurd (false≢true (ap asks_other (sym of.asks ∙ also) ∙ openers)))
      (λ other file k also there found. ends (same_one other file k (sym (ap asked_file (sym of.asks ∙ also))) (sym (ap asked_limit (sym of.asks ∙ also))) there found))
      (λ made prefix new file k also there found. absurd (false≢true (ap asks_convert (sym of.asks ∙ also))))
      (λ new file k also there found. absurd (false≢true (ap asks_convert (sym of.asks ∙ also))))
      (λ into prefix file most k also there found. absurd (false≢true (ap asks_merge (sym of.asks ∙ also))))
    where
      same_one : (other : ℕ) (file : List ℕ) (k : History) → file ≡ name → other ≡ limit → run.old file ≡ Some k → RepackEnds other (seen k) e → RepackEnds limit (seen h) e
      same_one other file k names limits there found =
          let files : k ≡ h = same_held k h (run.old name) (subst (λ n. run.old n ≡ Some k) names there) of.there in
          subst (λ (q : ℕ × History). RepackEnds q.0 (seen q.1) e) (λ j. (limits j, files j)) found

  -- and of one of whose pairs another is made
  convert_status : (P : ℕ → Type 0) (made : NewFile) (prefix new name : List ℕ) (h : History) → Converts run made prefix new name h → (RefusesToReadBelow made.limit (seen h) e → P (status_of e))
      → ((other : NewFile) (front file : List ℕ) (k : History) → k ≡ h → ConvertEnds other front (seen k) file (run.old file) e → P (status_of e)) → P run.status ⊎ TellsFault run.status
  convert_status P made prefix new name h of due ends = status_where P (λ d. due (subst (λ o. TaskDue (Convert new made prefix) name o e) of.there (subst (λ a. Due a run.old e) of.asks d)))
      (λ other file restores none. absurd (false≢true (ap ask_reads (sym of.asks ∙ restores))))
      (λ more suffix file copies. absurd (false≢true (ap asks_copies (sym of.asks ∙ copies))))
      (λ task file also openers undue. absurd (false≢true (ap asks_other (sym of.asks ∙ also) ∙ openers)))
      (λ limit file k also there found. absurd (false≢true (ap asks_repack (sym of.asks ∙ also))))
      (λ other front file at k also there found.
      (let names : at ≡ name = sym (ap asked_file (sym of.asks ∙ also)) in
      ends other front file k (same_held k h (run.old name) (subst (λ n. run.old n ≡ Some k) names there) of.there) found))
      (λ file at k also there found. absurd (false≢true (ap asks_mend (sym of.asks ∙ also))))
      (λ into front file limit k also there found. absurd (false≢true (ap asks_merge (sym of.asks ∙ also))))

  -- and of one of which another is made of what can be read of it
  mend_status : (P : ℕ → Type 0) (new name : List ℕ) (h : History) → Mends run new name h → (RefusesToMend (seen h) e → P (status_of e))
      → ((file : List ℕ) (k : History) → k ≡ h → MendEnds (seen k) file (run.old file) e → P (status_of e)) → P run.status ⊎ TellsFault run.status
  mend_status P new name h of due ends = status_where P (λ d. due (subst (λ o. TaskDue (Mend new) name o e) of.there (subst (λ a. Due a run.old e) of.asks d)))
      (λ other file restores none. absurd (false≢true (ap ask_reads (sym of.asks ∙ restores))))
      (λ more suffix file copies. absurd (false≢true (ap asks_copies (sym of.asks ∙ copies))))
      (λ task file also openers undue. absurd (false≢true (ap asks_other (sym of.asks ∙ also) ∙ openers)))
      (λ limit file k also there found. absurd (false≢true (ap asks_repack (sym of.asks ∙ also))))
      (λ other front file at k also there found. absurd (false≢true (sym (ap asks_mend (sym of.asks ∙ also)))))
      (λ file at k also there found.
      (let names : at ≡ name = sym (ap asked_file (sym of.asks ∙ also)) in
      ends file k (same_held k h (run.old name) (subst (λ n. run.old n ≡ Some k) names there) of.there) found))
      (λ into front file limit k also there found. absurd (false≢true (ap asks_merge (sym of.asks ∙ also))))

  -- over bytes that can be opened the status isn't 3, and over others, no more than the most, it is
  not_three : (act : Act) (h : History) → Opens (seen h) → Replies act (seen h) e ⊎ Refuses act.limit (seen h) e → status_of e ≡ 3 → ⊥
  not_three act h opens (inl p) is = reply_not (reply_of act (opened_bytes (seen h))) 3 (omega arith) (λ z. absurd (omega (arith, z))) (sym (ap status_of p.replied) ∙ is)
  not_three act h opens (inr p) is = below_faulty act.limit (seen h) p.refusal p.right (sym (ap status_of p.refused) ∙ is) opens

  three_due : (act : Act) (h : History) → (Opens (seen h) → ⊥) → length (seen h) ≤ LONGEST_FILE → length (seen h) ≤ act.limit → Replies act (seen h) e ⊎ Refuses act.limit (seen h) e → status_of e ≡ 3
  three_due act h faulty short within (inl p) = absurd (faulty p.can_open.opens)
  three_due act h faulty short within (inr p) = ap status_of p.refused ∙ below_three act.limit (seen h) p.refusal p.right short within

  print_not_three : (limit : ℕ) (h : History) → Opens (seen h) → PrintsOpened limit (seen h) e ⊎ Refuses limit (seen h) e → status_of e ≡ 3 → ⊥
  print_not_three limit h opens (inl p) is = let zero : status_of e ≡ 0 = ap status_of p.printed in absurd (omega (arith, zero, is))
  print_not_three limit h opens (inr p) is = below_faulty limit (seen h) p.refusal p.right (sym (ap status_of p.refused) ∙ is) opens

  print_three_due : (limit : ℕ) (h : History) → (Opens (seen h) → ⊥) → length (seen h) ≤ LONGEST_FILE → length (seen h) ≤ limit → PrintsOpened limit (seen h) e ⊎ Refuses limit (seen h) e → status_of e ≡ 3
  print_three_due limit h faulty short within (inl p) = absurd (faulty p.can_open.opens)
  print_three_due limit h faulty short within (inr p) = ap status_of p.refused ∙ below_three limit (seen h) p.refusal p.right short within

  repack_not_three : (limit : ℕ) (h : History) → Opens (seen h) → Refuses limit (seen h) e → status_of e ≡ 3 → ⊥
  repack_not_three limit h opens p is = below_faulty limit (seen h) p.refusal p.right (sym (ap status_of p.refused) ∙ is) opens

  repacked_not_three : (limit : ℕ) (h : History) → RepackEnds limit (seen h) e → status_of e ≡ 3 → ⊥
  repacked_not_three limit h p is = elim p.ends [
    | inl done ↦ (let zero : status_of e ≡ 0 = ap status_of done in absurd (omega (arith, zero, is)))
    | inr full ↦ reply_not full.0 3 (omega arith) (λ z. absurd (omega (arith, z))) (sym (ap status_of full.2) ∙ is)
  ]

  convert_not_three : (made : NewFile) (prefix new : List ℕ) (k : History) → ConvertEnds made prefix (seen k) new (run.old new) e → status_of e ≡ 3 → ⊥
  convert_not_three made prefix new k p is = of p.ends
    where
      of : (IsSome (run.old new) × (e ≡ There new)) ⊎ ((refusal : Refusal) × IsTooLarge made (run.old new) refusal × (e ≡ Refused refusal))
          ⊎ ((run.old new ≡ None) × (e ≡ Replied Copied)) ⊎ ((reply : Reply) × (run.old new ≡ None) × HasNoConversion made prefix (seen k) reply × (e ≡ Replied reply)) → ⊥
      of (inl there) = let nine : status_of e ≡ 9 = ap status_of there.1 in absurd (omega (arith, nine, is))
      of (inr (inl large)) = let six : status_of e ≡ 6 = ap status_of (large.2 ∙ ap Refused large.1.2) in absurd (omega (arith, six, is))
      of (inr (inr (inl done))) = let zero : status_of e ≡ 0 = ap status_of done.1 in absurd (omega (arith, zero, is))
      of (inr (inr (inr full))) = reply_not full.0 3 (omega arith) (λ z. absurd (omega (arith, z))) (sym (ap status_of full.3) ∙ is)

  mend_not_three : (new : List ℕ) (k : History) → MendEnds (seen k) new (run.old new) e → status_of e ≡ 3 → ⊥
  mend_not_three new k p is = of p.ends
    where
      of : (IsSome (run.old new) × (e ≡ There new)) ⊎ ((run.old new ≡ None) × (e ≡ Replied Copied)) ⊎ ((reply : Reply) × (run.old new ≡ None) × HasNoMending (seen k) reply × (e ≡ Replied reply)) → ⊥
      of (inl there) = let nine : status_of e ≡ 9 = ap status_of there.1 in absurd (omega (arith, nine, is))
      of (inr (inl done)) = let zero : status_of e ≡ 0 = ap status_of done.1 in absurd (omega (arith, zero, is))
      of (inr (inr full)) = reply_not full.0 3 (omega arith) (λ z. absurd (omega (arith, z))) (sym (ap status_of full.3) ∙ is)

  -- the same of a look
  read_not_three : (look : Look) (h : History) → OpensToRead (seen h) → LookReplies look (seen h) e ⊎ RefusesToRead (seen h) e → status_of e ≡ 3 → ⊥
  read_not_three look h opens (inl p) is = reply_not (look_reply look (seen h)) 3 (omega arith) (λ z. absurd (omega (arith, z))) (sym (ap status_of p.replied) ∙ is)
  read_not_three look h opens (inr p) is = read_faulty (seen h) p.refusal p.right (sym (ap status_of p.refused) ∙ is) opens

  read_three_due : (look : Look) (h : History) → (OpensToRead (seen h) → ⊥) → length (seen h) ≤ LONGEST_FILE → LookReplies look (seen h) e ⊎ RefusesToRead (seen h) e → status_of e ≡ 3
  read_three_due look h faulty short (inl p) = absurd (faulty (record { opens = p.can_read.can_open.opens; shut = p.can_read.shut }))
  read_three_due look h faulty short (inr p) = ap status_of p.refused ∙ read_three (seen h) p.refusal p.right short

  -- and of a rescue
  rescue_not_three : (h : History) → HeaderOk (seen h) → RescueDue (seen h) e → status_of e ≡ 3 → ⊥
  rescue_not_three h ok (inl p) is = let zero : status_of e ≡ 0 = ap status_of p.1 in absurd (omega (arith, zero, is))
  rescue_not_three h ok (inr p) is = unreadable_faulty (seen h) p.0 p.1 (sym (ap status_of p.2) ∙ is) ok

  rescue_three_due : (h : History) → (HeaderOk (seen h) → ⊥) → length (seen h) ≤ LONGEST_FILE → RescueDue (seen h) e → status_of e ≡ 3
  rescue_three_due h faulty short (inl p) = absurd (faulty p.0.header)
  rescue_three_due h faulty short (inr p) = ap status_of p.2 ∙ unreadable_three (seen h) p.0 p.1 short

  no_three : TellsFault run.status → run.status ≡ 3 → ⊥
  no_three (inl is) three = absurd (omega (arith, is, three))
  no_three (inr (inl is)) three = absurd (omega (arith, is, three))
  no_three (inr (inr (inl is))) three = absurd (omega (arith, is, three))
  no_three (inr (inr (inr is))) three = absurd (omega (arith, is, three))

  unless_three : (run.status ≡ 3 → ⊥) ⊎ TellsFault run.status → run.status ≡ 3 → ⊥
  unless_three (inl other) three = other three
  unless_three (inr fault) three = no_three fault three

  pub refuses_exactly : RefusesExactly run
  refuses_exactly = record {
    only = λ act name h acts three opens. unless_three (act_status (λ n. n ≡ 3 → ⊥) act name h acts (not_three act h opens)) three;
    exact = λ act name h acts faulty short within. act_status (λ n. n ≡ 3) act name h acts (three_due act h faulty short within);
    read_only = λ look name h into three opens. unless_three (look_status (λ n. n ≡ 3 → ⊥) look name h into (read_not_three look h opens)) three;
    read_exact = λ look name h into faulty short. look_status (λ n. n ≡ 3) look name h into (read_three_due look h faulty short);
    rescue_only = λ name h of three ok. unless_three (rescue_status (λ n. n ≡ 3 → ⊥) name h of (rescue_not_three h ok)) three;
    rescue_exact = λ name h of faulty short. rescue_status (λ n. n ≡ 3) name h of (rescue_three_due h faulty short);
    print_only = λ printout limit name h of three opens. unless_three (print_status (λ n. n ≡ 3 → ⊥) printout limit name h of (print_not_three limit h opens)) three;
    print_exact = λ printout limit name h of faulty short within. print_status (λ n. n ≡ 3) printout limit name h of (print_three_due limit h faulty short within);
    repack_only = λ limit name h of three opens. unless_three (repack_status (λ n. n ≡ 3 → ⊥) limit name h of (repack_not_three limit h opens) (repacked_not_three limit h)) three;
    repack_exact = λ limit name h of faulty short within.
        repack_status (λ n. n ≡ 3) limit name h of (λ p. ap status_of p.refused ∙ below_three limit (seen h) p.refusal p.right short within) (λ p. absurd (faulty p.can_open.opens));
    convert_only = λ made prefix new name h of three opens.
        unless_three
        (convert_status (λ n. n ≡ 3 → ⊥) made prefix new name h of (λ p is. read_below_faulty made.limit (seen h) p.refusal p.right (sym (ap status_of p.refused) ∙ is) opens)
        (λ other front file k same found. convert_not_three other front file k found)) three;
    convert_exact = λ made prefix new name h of faulty short within.
        convert_status (λ n. n ≡ 3) made prefix new name h of (λ p. ap status_of p.refused ∙ read_below_three made.limit (seen h) p.refusal p.right short within)
        (λ other front file k same found.
        (let can : CanRead (seen h) = subst (λ x. CanRead (seen x)) same found.can_read in
        absurd (faulty (record { opens = can.can_open.opens; shut = can.shut }))));
    mend_only = λ new name h of three can.
        unless_three (mend_status (λ n. n ≡ 3 → ⊥) new name h of (λ p is. absurd (not_mended (seen h) p.refusal can p.right)) (λ file k same found. mend_not_three file k found)) three;
    mend_exact = λ new name h of faulty short.
        mend_status (λ n. n ≡ 3) new name h of (λ p. ap status_of p.refused ∙ unmendable_three (seen h) p.refusal p.right short) (λ file k same found. absurd (faulty (subst (λ x. CanMend (seen x)) same found.can_mend)));
  }

-- an act that didn't reply that it is done left the file as it was opened
unchanged : (act : Act) (old now : History) (reply : Reply) → reply ≡ reply_of act (opened_bytes (seen old)) → Left act old now → (reply ≡ Done → ⊥) → UndoneIfOpen old now
unchanged act old now reply is left other =
    subst (UndoneIfOpen old) (sym (left.leaves.kept (λ done. other (is ∙ ap (reply_of act) (sym left.reads) ∙ done)))) left.undone

-- a file that was opened, if it had no more bytes than it may, is as it was or undone
below_same : (limit : ℕ) (old now : History) → OpenedBelow limit old now → SameOrUndone old now
below_same limit old now (inl long) = inr long.1
below_same limit old now (inr opened) = same_or_undone old now opened

-- a status after which all is kept isn't that of a reply that something was done
not_done : (status : ℕ) (reply : Reply) → Exits status (Replied reply) → KeepsAll status → reply ≡ Done → ⊥
not_done status reply (inl own) keeps done = keeps.0 (own ∙ ap (λ r. status_of (Replied r)) done)
not_done status reply (inr (inl want)) keeps done = absurd (false≢true (subst (λ r. TakesMemory (Replied r)) done want.1))
not_done status reply (inr (inr eight)) keeps done = keeps.2 eight

module _ (before after status : ℕ) where
  -- a run whose task replied, was refused, met a fault or wanted memory: the statuses that it can't have
  reply_no_fault : (reply : Reply) → Exits status (Replied reply) → status ≡ 4 → ⊥
  reply_no_fault reply (inl own) four = reply_not reply 4 (omega arith) (λ z. absurd (omega (arith, z))) (sym own ∙ four)
  reply_no_fault reply (inr (inl want)) four = absurd (omega (arith, want.0, four))
  reply_no_fault reply (inr (inr eight)) four = absurd (omega (arith, eight, four))

  -- status 0 is that of the reply
  own_reply : (reply : Reply) → Exits status (Replied reply) → status ≡ 0 → status_of (Replied reply) ≡ 0
  own_reply reply (inl own) is = sym own ∙ is
  own_reply reply (inr (inl want)) is = absurd (omega (arith, want.0, is))
  own_reply reply (inr (inr eight)) is = absurd (omega (arith, eight, is))

  pub refusal_apart : (r : Refusal) → Exits status (Refused r) → (status ≡ 0) ⊎ (status ≡ 4) → ⊥
  refusal_apart r (inl own) (inl other) = refusal_not r 0 (λ z. absurd (omega (arith, z))) (λ z. absurd (omega (arith, z))) (sym own ∙ other)
  refusal_apart r (inl own) (inr other) = refusal_not r 4 (λ z. absurd (omega (arith, z))) (λ z. absurd (omega (arith, z))) (sym own ∙ other)
  refusal_apart r (inr (inl want)) (inl other) = absurd (omega (arith, want.0, other))
  refusal_apart r (inr (inl want)) (inr other) = absurd (omega (arith, want.0, other))
  refusal_apart r (inr (inr eight)) (inl other) = absurd (omega (arith, eight, other))
  refusal_apart r (inr (inr eight)) (inr other) = absurd (omega (arith, eight, other))

  -- a failed call has status 4 or 8, and want of memory 5 or 8
  pub fault_exits : Exits status DeviceFault → (status ≡ 4) ⊎ (status ≡ 8)
  fault_exits (inl own) = inl own
  fault_exits (inr (inl want)) = absurd (false≢true want.1)
  fault_exits (inr (inr eight)) = inr eight

  pub memory_exits : Exits status NoMemory → (status ≡ 5) ⊎ (status ≡ 8)
  memory_exits (inl own) = inl own
  memory_exits (inr (inl want)) = inl want.0
  memory_exits (inr (inr eight)) = inr eight

  -- a log that failed has status 10 or 8
  pub log_exits : Exits status LogFault → (status ≡ 10) ⊎ (status ≡ 8)
  log_exits (inl own) = inl own
  log_exits (inr (inl want)) = absurd (false≢true want.1)
  log_exits (inr (inr eight)) = inr eight

  -- which isn't one of these
  log_apart : (n : ℕ) → (n ≡ 10 → ⊥) → (n ≡ 8 → ⊥) → (status ≡ 10) ⊎ (status ≡ 8) → status ≡ n → ⊥
  log_apart n ten eight (inl is) other = ten (sym other ∙ is)
  log_apart n ten eight (inr is) other = eight (sym other ∙ is)

  pub log_no_keep : (status ≡ 10) ⊎ (status ≡ 8) → KeepsAll status → ⊥
  log_no_keep (inl is) keeps = keeps.3 is
  log_no_keep (inr is) keeps = keeps.2 is

  pub fault_no_done : (status ≡ 4) ⊎ (status ≡ 8) → status ≡ 0 → ⊥
  fault_no_done (inl is) done = absurd (omega (arith, is, done))
  fault_no_done (inr is) done = absurd (omega (arith, is, done))

  pub fault_no_keep : (status ≡ 4) ⊎ (status ≡ 8) → KeepsAll status → ⊥
  fault_no_keep (inl is) keeps = keeps.1 is
  fault_no_keep (inr is) keeps = keeps.2 is

  pub memory_apart : (status ≡ 5) ⊎ (status ≡ 8) → (status ≡ 0) ⊎ (status ≡ 4) → ⊥
  memory_apart (inl is) (inl other) = absurd (omega (arith, is, other))
  memory_apart (inl is) (inr other) = absurd (omega (arith, is, other))
  memory_apart (inr is) (inl other) = absurd (omega (arith, is, other))
  memory_apart (inr is) (inr other) = absurd (omega (arith, is, other))

  pub memory_no_keep : (status ≡ 5) ⊎ (status ≡ 8) → KeepsAll status → (status ≡ 5 → ⊥) → ⊥
  memory_no_keep (inl is) keeps other = other is
  memory_no_keep (inr is) keeps other = keeps.2 is

  neither : (n : ℕ) → (status ≡ n → ⊥) → (status ≡ 8 → ⊥) → (status ≡ n) ⊎ (status ≡ 8) → ⊥
  neither n other eight (inl is) = other is
  neither n other eight (inr is) = eight is

  -- status 10 comes where a log failed alone
  own_ten : (t : Ending) → Exits status t → status ≡ 10 → status_of t ≡ 10
  own_ten t (inl own) is = sym own ∙ is
  own_ten t (inr (inl want)) is = absurd (omega (arith, want.0, is))
  own_ten t (inr (inr eight)) is = absurd (omega (arith, eight, is))

  fault_no_ten : (status ≡ 4) ⊎ (status ≡ 8) → status ≡ 10 → ⊥
  fault_no_ten (inl own) is = absurd (omega (arith, own, is))
  fault_no_ten (inr own) is = absurd (omega (arith, own, is))

  memory_no_ten : (status ≡ 5) ⊎ (status ≡ 8) → status ≡ 10 → ⊥
  memory_no_ten (inl own) is = absurd (omega (arith, own, is))
  memory_no_ten (inr own) is = absurd (omega (arith, own, is))

  -- what a run leaves of the file of an act
  act_run : (act : Act) (old now : History) (t : Ending) → Exits status t → CountedBy before after t → ActLeaves act old t now → ActRun act old before after status now
  act_run act old now (Replied reply) out counted left = record {
    any = inr (inl left.1);
    logged = λ is. inr left.1;
    replied = λ is. sym (ap (λ r. status_of (Replied r)) left.0) ∙ own_reply reply out is;
    done = λ is. left.1;
    failed = λ is. absurd (reply_no_fault reply out is);
    kept = λ keeps. same_or_undone old now (unchanged act old now reply left.0 left.1 (not_done status reply out keeps));
    exact = λ keeps other. inr (unchanged act old now reply left.0 left.1 (not_done status reply out keeps));
  }
  act_run act old now (Refused r) out counted left = record {
    any = inl (below_same act.limit old now left);
    logged = λ is. absurd (refusal_not r 10 (λ z. absurd (omega (arith, z))) (λ z. absurd (omega (arith, z))) (own_ten (Refused r) out is));
    replied = λ is. absurd (refusal_apart r out (inl is));
    done = λ is. absurd (refusal_apart r out (inl is));
    failed = λ is. absurd (refusal_apart r out (inr is));
    kept = λ keeps. below_same act.limit old now left;
    exact = λ keeps other. left;
  }
  act_run act old now DeviceFault out counted left = record {
    any = inr (inr (counted.failed refl, left));
    logged = λ is. absurd (fault_no_ten (fault_exits out) is);
    replied = λ is. absurd (fault_no_done (fault_exits out) is);
    done = λ is. absurd (fault_no_done (fault_exits out) is);
    failed = λ is. left;
    kept = λ keeps. absurd (fault_no_keep (fault_exits out) keeps);
    exact = λ keeps other. absurd (fault_no_keep (fault_exits out) keeps);
  }
  act_run act old now LogFault out counted left = record {
    any = elim left [ inl opened ↦ inl (same_or_undone old now opened) | inr acted ↦ inr (inl acted) ];
    logged = λ is. left;
    replied = λ is. absurd (log_apart 0 (λ z. absurd (omega (arith, z))) (λ z. absurd (omega (arith, z))) (log_exits out) is);
    done = λ is. absurd (log_apart 0 (λ z. absurd (omega (arith, z))) (λ z. absurd (omega (arith, z))) (log_exits out) is);
    failed = λ is. absurd (log_apart 4 (λ z. absurd (omega (arith, z))) (λ z. absurd (omega (arith, z))) (log_exits out) is);
    kept = λ keeps. absurd (log_no_keep (log_exits out) keeps);
    exact = λ keeps other. absurd (log_no_keep (log_exits out) keeps);
  }
  act_run act old now NoMemory out counted left = record {
    any = inl left;
    logged = λ is. absurd (memory_no_ten (memory_exits out) is);
    replied = λ is. absurd (memory_apart (memory_exits out) (inl is));
    done = λ is. absurd (memory_apart (memory_exits out) (inl is));
    failed = λ is. absurd (memory_apart (memory_exits out) (inr is));
    kept = λ keeps. left;
    exact = λ keeps other. absurd (memory_no_keep (memory_exits out) keeps other);
  }
  act_run act old now (Missing name) out counted left = absurd left
  act_run act old now (There name) out counted left = absurd left
  act_run act old now Usage out counted left = absurd left
  act_run act old now InputFault out counted left = absurd left
  act_run act old now (Malformed at) out counted left = absurd left

  -- what a run leaves of the file whose pairs were printed
  opened_run : (limit : ℕ) (old now : History) → (status ≡ 4 → ⊥) → OpenedBelow limit old now → PrintRun limit old before after status now
  opened_run limit old now four opened = record {
    any = inl (below_same limit old now opened);
    failed = λ is. absurd (four is);
    kept = λ other eight. below_same limit old now opened;
    exact = λ other five eight. opened;
  }

  print_run : (limit : ℕ) (old now : History) (t : Ending) → Exits status t → CountedBy before after t → PrintLeft limit old t now → PrintRun limit old before after status now
  print_run limit old now (Replied reply) out counted left = opened_run limit old now (reply_no_fault reply out) (inr left.3)
  print_run limit old now (Refused r) out counted left = opened_run limit old now (λ is. refusal_apart r out (inr is)) left.1
  print_run limit old now DeviceFault out counted left = record {
    any = inr (counted.failed refl, left);
    failed = λ is. left;
    kept = λ four eight. absurd (neither 4 four eight (fault_exits out));
    exact = λ four five eight. absurd (neither 4 four eight (fault_exits out));
  }
  print_run limit old now LogFault out counted left = opened_run limit old now (log_apart 4 (λ z. absurd (omega (arith, z))) (λ z. absurd (omega (arith, z))) (log_exits out)) left
  print_run limit old now NoMemory out counted left = record {
    any = inl left;
    failed = λ is. absurd (memory_apart (memory_exits out) (inr is));
    kept = λ four eight. left;
    exact = λ four five eight. absurd (neither 5 five eight (memory_exits out));
  }
  print_run limit old now (Missing name) out counted left = absurd left
  print_run limit old now (There name) out counted left = absurd left
  print_run limit old now Usage out counted left = absurd left
  print_run limit old now InputFault out counted left = absurd left
  print_run limit old now (Malformed at) out counted left = absurd left

  -- what a run leaves of a file that was to be written anew, and at the name at which that is made
  repacked_run : (limit : ℕ) (old now : History) (made_old made_now : Option History) → Exits status (Replied Done) → HasRepacked old now made_now → RepackRun limit old made_old before after status now made_now
  repacked_run limit old now made_old made_now out has = record {
    done = λ is. has;
    stopped = λ other. inr (elim (done_eight out) [ inl zero ↦ absurd (other zero) | inr eight ↦ eight ], has);
    left = λ other. inl (inr has.1);
  }
    where
      done_eight : Exits status (Replied Done) → (status ≡ 0) ⊎ (status ≡ 8)
      done_eight (inl own) = inl own
      done_eight (inr (inl want)) = absurd (false≢true want.1)
      done_eight (inr (inr eight)) = inr eight

  halted_run : (limit : ℕ) (old now : History) (made_old made_now : Option History) → (status ≡ 0 → ⊥) → PrintRun limit old before after status now → IsLeftOf made_old made_now ⊎ (((status ≡ 4) ⊎ (status ≡ 8)) × Rose before after) → RepackRun limit old made_old before after status now made_now
  halted_run limit old now made_old made_now some run left = record { done = λ is. absurd (some is); stopped = λ other. inl run; left = λ other. left }

  stopped_run : (limit : ℕ) (old now : History) (made_old made_now : Option History) (t : Ending) → Exits status t → CountedBy before after t → NotRepacked limit old t now made_old made_now → RepackRun limit old made_old before after status now made_now
  stopped_run limit old now made_old made_now (Replied reply) out counted left =
      halted_run limit old now made_old made_now (full_some out) (opened_run limit old now (reply_no_fault reply out) (inr left.3)) (inl (inr left.4))
    where
      full : status_of (Replied reply) ≡ 6
      full = ap (λ r. status_of (Replied r)) left.2.2

      full_some : Exits status (Replied reply) → status ≡ 0 → ⊥
      full_some (inl own) is = absurd (omega (arith, own, full, is))
      full_some (inr (inl want)) is = absurd (omega (arith, want.0, is))
      full_some (inr (inr eight)) is = absurd (omega (arith, eight, is))
  stopped_run limit old now made_old made_now (Refused r) out counted left =
      halted_run limit old now made_old made_now (λ is. refusal_apart r out (inl is)) (opened_run limit old now (λ is. refusal_apart r out (inr is)) left.1) (inl (inl left.2))
  stopped_run limit old now made_old made_now DeviceFault out counted left =
      halted_run limit old now made_old made_now (fault_no_done (fault_exits out))
      (record {
        any = inr (counted.failed refl, left);
        failed = λ is. left;
        kept = λ four eight. absurd (neither 4 four eight (fault_exits out));
        exact = λ four five eight. absurd (neither 4 four eight (fault_exits out));
      })
      (inr (fault_exits out, counted.failed refl))
  stopped_run limit old now made_old made_now LogFault out counted left =
      halted_run limit old now made_old made_now (log_apart 0 (λ z. absurd (omega (arith, z))) (λ z. absurd (omega (arith, z))) (log_exits out))
      (opened_run limit old now (log_apart 4 (λ z. absurd (omega (arith, z))) (λ z. absurd (omega (arith, z))) (log_exits out)) left.0) (inl (inl left.1))
  stopped_run limit old now made_old made_now NoMemory out counted left =
      halted_run limit old now made_old made_now (λ is. memory_apart (memory_exits out) (inl is))
      (record {
        any = inl left.0;
        failed = λ is. absurd (memory_apart (memory_exits out) (inr is));
        kept = λ four eight. left.0;
        exact = λ four five eight. absurd (neither 5 five eight (memory_exits out));
      })
      (inl left.1)
  stopped_run limit old now made_old made_now (Missing name) out counted left = absurd left
  stopped_run limit old now made_old made_now (There name) out counted left = absurd left
  stopped_run limit old now made_old made_now Usage out counted left = absurd left
  stopped_run limit old now made_old made_now InputFault out counted left = absurd left
  stopped_run limit old now made_old made_now (Malformed at) out counted left = absurd left

  -- a file that is there wasn't taken
  untaken_run : (limit : ℕ) (file : List ℕ) (old : History) (made_old made_now : Option History) (t : Ending) → Exits status t → CountedBy before after t → made_now ≡ made_old → IsUntaken file (Some old) t → RepackRun limit old made_old before after status old made_now
  untaken_run limit file old made_old made_now t out counted new (inl missing) = let both : Some old ≡ None = missing.0 in cc
  untaken_run limit file old made_old made_now t out counted new (inr (inl is)) =
      stopped_run limit old old made_old made_now DeviceFault (subst (Exits status) is out) (subst (CountedBy before after) is counted) (inl (inr refl))
  untaken_run limit file old made_old made_now t out counted new (inr (inr is)) =
      stopped_run limit old old made_old made_now NoMemory (subst (Exits status) is out) (subst (CountedBy before after) is counted) (inr refl, inl new)

  abbrev LeftAnew : ℕ → History → Option History → Option History → Option History → Type 0
  LeftAnew limit old now made_old made_now = (h : History) × (now ≡ Some h) × RepackRun limit old made_old before after status h made_now

  repack_run : (limit : ℕ) (file : List ℕ) (old : History) (now made_old made_now : Option History) (t : Ending) → Exits status t → CountedBy before after t → RepackLeft limit file (Some old) now made_old made_now t → LeftAnew limit old now made_old made_now
  repack_run limit file old now made_old made_now t out counted (inl done) =
      let was : done.1.was ≡ old = same_held done.1.was old (Some old) done.1.there refl in (
        done.1.is,
        done.1.stands,
        repacked_run limit old done.1.is made_old made_now (subst (Exits status) done.0 out) (subst (λ h. HasRepacked h done.1.is made_now) was done.1.repacked),
      )
  repack_run limit file old now made_old made_now t out counted (inr (inl untaken)) = (old, untaken.0, untaken_run limit file old made_old made_now t out counted untaken.1 untaken.2)
  repack_run limit file old now made_old made_now t out counted (inr (inr halted)) =
      let was : halted.was ≡ old = same_held halted.was old (Some old) halted.there refl in (
        halted.is,
        halted.stands,
        stopped_run limit old halted.is made_old made_now t out counted (subst (λ h. NotRepacked limit h t halted.is made_old made_now) was halted.halted),
      )

  -- where no file was there
  repack_none : (limit : ℕ) (file : List ℕ) (now made_old made_now : Option History) (t : Ending) → RepackLeft limit file None now made_old made_now t → (now ≡ None) × (made_now ≡ made_old)
  repack_none limit file now made_old made_now t (inl done) = let both : None ≡ Some done.1.was = done.1.there in cc
  repack_none limit file now made_old made_now t (inr (inl untaken)) = (untaken.0, untaken.1)
  repack_none limit file now made_old made_now t (inr (inr halted)) = let both : None ≡ Some halted.was = halted.there in cc

  -- what a run leaves at the name of a file that was to be made
  making_run : (form : NewFile) (old now : Option History) (t : Ending) → Exits status t → CountedBy before after t → MakingLeaves form old t now → MakingRun form old before after status now
  making_run form old now (Replied reply) out counted left = record {
    any = inr (inl left.1);
    done = λ is. left.1;
    failed = λ is. absurd (reply_no_fault reply out is);
    too_long = λ is. absurd (done_no_six out is);
    kept = λ keeps. absurd (not_done status reply out keeps left.0);
  }
    where
      done_no_six : Exits status (Replied reply) → status ≡ 6 → ⊥
      done_no_six (inl own) is = let zero : status ≡ 0 = own ∙ ap (λ r. status_of (Replied r)) left.0 in absurd (omega (arith, zero, is))
      done_no_six (inr (inl want)) is = absurd (omega (arith, want.0, is))
      done_no_six (inr (inr eight)) is = absurd (omega (arith, eight, is))
  making_run form old now (There name) out counted left = record {
    any = inl left;
    done = λ is. absurd (there_apart out (inl is));
    failed = λ is. absurd (there_apart out (inr (inl is)));
    too_long = λ is. absurd (there_apart out (inr (inr is)));
    kept = λ keeps. inl left;
  }
    where
      there_apart : Exits status (There name) → (status ≡ 0) ⊎ (status ≡ 4) ⊎ (status ≡ 6) → ⊥
      there_apart (inl own) (inl other) = absurd (omega (arith, own, other))
      there_apart (inl own) (inr (inl other)) = absurd (omega (arith, own, other))
      there_apart (inl own) (inr (inr other)) = absurd (omega (arith, own, other))
      there_apart (inr (inl want)) (inl other) = absurd (omega (arith, want.0, other))
      there_apart (inr (inl want)) (inr (inl other)) = absurd (omega (arith, want.0, other))
      there_apart (inr (inl want)) (inr (inr other)) = absurd (omega (arith, want.0, other))
      there_apart (inr (inr eight)) (inl other) = absurd (omega (arith, eight, other))
      there_apart (inr (inr eight)) (inr (inl other)) = absurd (omega (arith, eight, other))
      there_apart (inr (inr eight)) (inr (inr other)) = absurd (omega (arith, eight, other))
  making_run form old now (Refused r) out counted left = record {
    any = inr (inr (inr (left.1, left.2)));
    done = λ is. absurd (refusal_apart r out (inl is));
    failed = λ is. absurd (refusal_apart r out (inr is));
    too_long = λ is. (left.1, left.2);
    kept = λ keeps. inr (left.1, left.2);
  }
  making_run form old now DeviceFault out counted left = record {
    any = inr (inr (inl (counted.failed refl, left)));
    done = λ is. absurd (fault_no_done (fault_exits out) is);
    failed = λ is. left;
    too_long = λ is. absurd (six (fault_exits out) is);
    kept = λ keeps. absurd (fault_no_keep (fault_exits out) keeps);
  }
    where
      six : (status ≡ 4) ⊎ (status ≡ 8) → status ≡ 6 → ⊥
      six (inl own) is = absurd (omega (arith, own, is))
      six (inr own) is = absurd (omega (arith, own, is))
  making_run form old now NoMemory out counted left = record {
    any = inl left;
    done = λ is. absurd (memory_apart (memory_exits out) (inl is));
    failed = λ is. absurd (memory_apart (memory_exits out) (inr is));
    too_long = λ is. absurd (six (memory_exits out) is);
    kept = λ keeps. inl left;
  }
    where
      six : (status ≡ 5) ⊎ (status ≡ 8) → status ≡ 6 → ⊥
      six (inl own) is = absurd (omega (arith, own, is))
      six (inr own) is = absurd (omega (arith, own, is))
  making_run form old now LogFault out counted left = absurd left
  making_run form old now (Missing name) out counted left = absurd left
  making_run form old now Usage out counted left = absurd left
  making_run form old now InputFault out counted left = absurd left
  making_run form old now (Malformed at) out counted left = absurd left

  -- what a run leaves at the name of a file that was to be made of the input
  restoring_run : (limit : ℕ) (input : Input) (old now : Option History) (t : Ending) → Exits status t → CountedBy before after t → (t ≡ Replied Restored → status ≡ 0) → RestoreLeaves limit input old t now → RestoringRun limit input old before after status now
  restoring_run limit input old now t out counted restored left = record {
    done = λ is. left.done (zero_status out is);
    there = left.there;
    kept = λ undone four. of undone four left.left;
  }
    where
      zero_status : Exits status t → status ≡ 0 → status_of t ≡ 0
      zero_status (inl own) is = sym own ∙ is
      zero_status (inr (inl want)) is = absurd (omega (arith, want.0, is))
      zero_status (inr (inr eight)) is = absurd (omega (arith, eight, is))

      of : (status ≡ 0 → ⊥) → (status ≡ 4 → ⊥) → (now ≡ old) ⊎ (t ≡ Replied Restored) ⊎ (t ≡ DeviceFault) → (now ≡ old) ⊎ ((status ≡ 8) × Rose before after)
      of undone four (inl same) = inl same
      of undone four (inr (inl done)) = absurd (undone (restored done))
      of undone four (inr (inr fault)) = elim (fault_exits (subst (Exits status) fault out)) [
        | inl is ↦ absurd (four is)
        | inr is ↦ inr (is, counted.failed fault)
      ]

  -- what a run leaves at the names of a backup
  backup_run : (suffix : List ℕ) (files : List (List ℕ)) (old now : List ℕ → Option History) (t : Ending) → Exits status t → CountedBy before after t → (t ≡ Replied Copied → status ≡ 0) → BackupLeaves suffix files old t now
      → BackupRun suffix files old before after status now
  backup_run suffix files old now t out counted silent left = record {
    done = λ is. left.done (ended t left.known out is);
    stopped = λ other. stopped_weaker suffix old now (t ≡ DeviceFault) (((status ≡ 4) ⊎ (status ≡ 8)) × Rose before after) (BackupStops t) (StopsWith status)
        (λ fault. (fault_exits (subst (Exits status) fault out), counted.failed fault)) (λ file held stops. (t, statuses out, stops)) files (left.stopped (λ done. other (silent done)));
  }
    where
      statuses : Exits status t → (status ≡ status_of t) ⊎ (status ≡ 5) ⊎ (status ≡ 8)
      statuses (inl own) = inl own
      statuses (inr (inl want)) = inr (inl want.0)
      statuses (inr (inr eight)) = inr (inr eight)

      ended : (t : Ending) → EndsBackup t → Exits status t → status ≡ 0 → t ≡ Replied Copied
      ended t known (inl own) is = backup_zero t known (sym own ∙ is)
      ended t known (inr (inl want)) is = absurd (omega (arith, want.0, is))
      ended t known (inr (inr eight)) is = absurd (omega (arith, eight, is))

  -- and at those of a verification
  verify_run : (suffix : List ℕ) (files : List (List ℕ)) (old now : List ℕ → Option History) (t : Ending) → Exits status t → CountedBy before after t → (t ≡ Replied Verified → status ≡ 0) → VerifyLeaves suffix files old t now
      → VerifyRun suffix files old before after status now
  verify_run suffix files old now t out counted silent left = record {
    done = λ is. left.done (ended t left.known out is);
    stopped = λ other. all_left_weaker suffix old now (t ≡ DeviceFault) (((status ≡ 4) ⊎ (status ≡ 8)) × Rose before after)
        (λ fault. (fault_exits (subst (Exits status) fault out), counted.failed fault)) files (left.stopped (λ done. other (silent done)));
  }
    where
      ended : (t : Ending) → EndsVerify t → Exits status t → status ≡ 0 → t ≡ Replied Verified
      ended t known (inl own) is = verified_zero t known (sym own ∙ is)
      ended t known (inr (inl want)) is = absurd (omega (arith, want.0, is))
      ended t known (inr (inr eight)) is = absurd (omega (arith, eight, is))

-- what an opening for turns leaves is as it was, or undone
pub opened_same : (options : Options) (old now : History) → TurnOpened options old now → SameOrUndone old now
opened_same options old now (inl same) = inr same.1
opened_same options old now (inr left) = same_or_undone old now left

-- how often calls of the files had failed by a run that is asked for this: where the files tell, as by every run
pub asked_counted : (tells : Bool) (ask : Option Ask) (before after : ℕ) (t : Ending) → tells ≡ true → CountedAsked tells ask before after t → CountedBy before after t
asked_counted tells None before after t told counted = counted
asked_counted tells (Some ask) before after t told counted = of ask.task counted
  where
    of : (task : Task) → CountedFor tells task before after t → CountedBy before after t
    of (On act) counted = counted
    of (Read look) counted = counted
    of Rescue counted = counted
    of (Print printout limit) counted = counted
    of (Repack limit) counted = counted
    of (Convert new made prefix) counted = counted
    of (Mend new) counted = counted
    of (Create form) counted = counted
    of (Restore limit) counted = counted
    of (Backup more suffix) counted = counted
    of (Verify more suffix) counted = counted
    of (Turns options) counted = record { never_falls = counted.never_falls; failed = λ is. counted.failed is told; sound = counted.sound }
    of (Merge into prefix limit) counted = record { never_falls = counted.never_falls; failed = λ is. counted.failed is told; sound = counted.sound }
    of (Move key into limit) counted = record { never_falls = counted.never_falls; failed = λ is. counted.failed is told; sound = counted.sound }
    of (Session limit) counted = record { never_falls = counted.never_falls; failed = λ is. counted.failed is told; sound = counted.sound }
    of (Generate commands seed) counted = record { never_falls = counted.never_falls; failed = λ is. counted.failed is told; sound = counted.sound }

pub asked_failed : (tells : Bool) (ask : Option Ask) (before after : ℕ) (t : Ending) → CountedAsked tells ask before after t → t ≡ DeviceFault → asks_openers ask ≡ false → Rose before after
asked_failed tells None before after t counted is none = counted.failed is
asked_failed tells (Some ask) before after t counted is none = of ask.task none counted
  where
    of : (task : Task) → has_openers task ≡ false → CountedFor tells task before after t → Rose before after
    of (On act) none counted = counted.failed is
    of (Read look) none counted = counted.failed is
    of Rescue none counted = counted.failed is
    of (Print printout limit) none counted = counted.failed is
    of (Repack limit) none counted = counted.failed is
    of (Convert new made prefix) none counted = counted.failed is
    of (Mend new) none counted = counted.failed is
    of (Create form) none counted = counted.failed is
    of (Restore limit) none counted = counted.failed is
    of (Backup more suffix) none counted = counted.failed is
    of (Verify more suffix) none counted = counted.failed is
    of (Turns options) none counted = absurd (false≢true (sym none))
    of (Merge into prefix limit) none counted = absurd (false≢true (sym none))
    of (Move key into limit) none counted = absurd (false≢true (sym none))
    of (Session limit) none counted = absurd (false≢true (sym none))
    of (Generate commands seed) none counted = absurd (false≢true (sym none))

pub asked_sound : (tells : Bool) (ask : Option Ask) (before after : ℕ) (t : Ending) → CountedAsked tells ask before after t → (t ≡ DeviceFault → ⊥) → after ≡ before
asked_sound tells None before after t counted other = counted.sound other
asked_sound tells (Some ask) before after t counted other = of ask.task counted
  where
    of : (task : Task) → CountedFor tells task before after t → after ≡ before
    of (On act) counted = counted.sound other
    of (Read look) counted = counted.sound other
    of Rescue counted = counted.sound other
    of (Print printout limit) counted = counted.sound other
    of (Repack limit) counted = counted.sound other
    of (Convert new made prefix) counted = counted.sound other
    of (Mend new) counted = counted.sound other
    of (Create form) counted = counted.sound other
    of (Restore limit) counted = counted.sound other
    of (Backup more suffix) counted = counted.sound other
    of (Verify more suffix) counted = counted.sound other
    of (Turns options) counted = counted.sound other
    of (Merge into prefix limit) counted = counted.sound other
    of (Move key into limit) counted = counted.sound other
    of (Session limit) counted = counted.sound other
    of (Generate commands seed) counted = counted.sound other

module _ (before after status : ℕ) where
  -- turns that were played have status 0 or 8
  pub played_exits : (reply : Reply) → reply ≡ Played → Exits status (Replied reply) → (status ≡ 0) ⊎ (status ≡ 8)
  played_exits reply is (inl own) = inl (own ∙ ap (λ r. status_of (Replied r)) is)
  played_exits reply is (inr (inl want)) = absurd (false≢true (subst (λ r. TakesMemory (Replied r)) is want.1))
  played_exits reply is (inr (inr eight)) = inr eight

  pub unheard_exits : Exits status InputFault → status ≡ 8
  unheard_exits (inl own) = own
  unheard_exits (inr (inl want)) = absurd (false≢true want.1)
  unheard_exits (inr (inr eight)) = eight

  pub malformed_exits : (at : ℕ) → Exits status (Malformed at) → (status ≡ 7) ⊎ (status ≡ 5) ⊎ (status ≡ 8)
  malformed_exits at (inl own) = inl own
  malformed_exits at (inr (inl want)) = inr (inl want.0)
  malformed_exits at (inr (inr eight)) = inr (inr eight)

  pub refused_seven : (r : Refusal) → Exits status (Refused r) → status ≡ 7 → ⊥
  refused_seven r (inl own) seven = refusal_not r 7 (λ z. absurd (omega (arith, z))) (λ z. absurd (omega (arith, z))) (sym own ∙ seven)
  refused_seven r (inr (inl want)) seven = absurd (omega (arith, want.0, seven))
  refused_seven r (inr (inr eight)) seven = absurd (omega (arith, eight, seven))

  pub either_not : (a b n : ℕ) → (a ≡ n → ⊥) → (b ≡ n → ⊥) → (status ≡ a) ⊎ (status ≡ b) → status ≡ n → ⊥
  either_not a b n p q (inl is) e = p (sym is ∙ e)
  either_not a b n p q (inr is) e = q (sym is ∙ e)

  pub malformed_kept : (status ≡ 7) ⊎ (status ≡ 5) ⊎ (status ≡ 8) → KeepsAll status → (status ≡ 5 → ⊥) → (status ≡ 7 → ⊥) → ⊥
  malformed_kept (inl is) keeps five seven = seven is
  malformed_kept (inr (inl is)) keeps five seven = five is
  malformed_kept (inr (inr is)) keeps five seven = keeps.2 is

  pub malformed_four : (status ≡ 7) ⊎ (status ≡ 5) ⊎ (status ≡ 8) → status ≡ 4 → ⊥
  malformed_four (inl is) four = absurd (omega (arith, is, four))
  malformed_four (inr (inl is)) four = absurd (omega (arith, is, four))
  malformed_four (inr (inr is)) four = absurd (omega (arith, is, four))

  pub played_kept : (status ≡ 0) ⊎ (status ≡ 8) → KeepsAll status → ⊥
  played_kept (inl is) keeps = keeps.0 is
  played_kept (inr is) keeps = keeps.2 is

  -- what a run leaves of the file of turns
  turns_run : (options : Options) (input : Input) (output : Output) (logs later : List Logged) (old now : History) (t : Ending) → Exits status t → CountedBy before after t → (status ≡ 0 → IsPlayed options input output logs later old now) → TurnsLeft options old t now
      → TurnsRun options input output old before after status now logs later
  turns_run options input output logs later old now (Replied reply) out counted whole left =
      let ends = played_exits reply left.0 out in
      record {
        any = inr (inl left.1);
        done = whole;
        failed = λ is. absurd (either_not 0 8 4 (λ z. absurd (omega (arith, z))) (λ z. absurd (omega (arith, z))) ends is);
        wanting = λ is. inr left.1;
        logged = λ is. inr left.1;
        unread = λ is. absurd (either_not 0 8 7 (λ z. absurd (omega (arith, z))) (λ z. absurd (omega (arith, z))) ends is);
        kept = λ keeps five seven. absurd (played_kept ends keeps);
      }
  turns_run options input output logs later old now (Refused r) out counted whole left = record {
    any = inl (opened_same options old now left);
    done = whole;
    failed = λ is. absurd (refusal_apart before after status r out (inr is));
    wanting = λ is. inl (opened_same options old now left);
    logged = λ is. inl (opened_same options old now left);
    unread = λ is. absurd (refused_seven r out is);
    kept = λ keeps five seven. left;
  }
  turns_run options input output logs later old now DeviceFault out counted whole left =
      let ends = fault_exits before after status out in
      record {
        any = inr (inr (counted.failed refl));
        done = whole;
        failed = λ is. counted.failed refl;
        wanting = λ is. absurd (either_not 4 8 5 (λ z. absurd (omega (arith, z))) (λ z. absurd (omega (arith, z))) ends is);
        logged = λ is. absurd (either_not 4 8 10 (λ z. absurd (omega (arith, z))) (λ z. absurd (omega (arith, z))) ends is);
        unread = λ is. absurd (either_not 4 8 7 (λ z. absurd (omega (arith, z))) (λ z. absurd (omega (arith, z))) ends is);
        kept = λ keeps five seven. absurd (fault_no_keep before after status ends keeps);
      }
  turns_run options input output logs later old now NoMemory out counted whole left =
      let ends = memory_exits before after status out in
      record {
        any = elim left [ inl same ↦ inl same | inr came ↦ inr (inl came) ];
        done = whole;
        failed = λ is. absurd (either_not 5 8 4 (λ z. absurd (omega (arith, z))) (λ z. absurd (omega (arith, z))) ends is);
        wanting = λ is. left;
        logged = λ is. left;
        unread = λ is. absurd (either_not 5 8 7 (λ z. absurd (omega (arith, z))) (λ z. absurd (omega (arith, z))) ends is);
        kept = λ keeps five seven. absurd (memory_no_keep before after status ends keeps five);
      }
  turns_run options input output logs later old now LogFault out counted whole left =
      let ends = log_exits before after status out in
      record {
        any = elim left [ inl same ↦ inl same | inr came ↦ inr (inl came) ];
        done = whole;
        failed = λ is. absurd (either_not 10 8 4 (λ z. absurd (omega (arith, z))) (λ z. absurd (omega (arith, z))) ends is);
        wanting = λ is. left;
        logged = λ is. left;
        unread = λ is. absurd (either_not 10 8 7 (λ z. absurd (omega (arith, z))) (λ z. absurd (omega (arith, z))) ends is);
        kept = λ keeps five seven. absurd (log_no_keep before after status ends keeps);
      }
  turns_run options input output logs later old now InputFault out counted whole left =
      let eight = unheard_exits out in
      record {
        any = inl (inr left);
        done = whole;
        failed = λ is. absurd (omega (arith, eight, is));
        wanting = λ is. inl (inr left);
        logged = λ is. inl (inr left);
        unread = λ is. left;
        kept = λ keeps five seven. absurd (keeps.2 eight);
      }
  turns_run options input output logs later old now (Malformed at) out counted whole left =
      let ends = malformed_exits at out in
      record {
        any = inl (inr left);
        done = whole;
        failed = λ is. absurd (malformed_four ends is);
        wanting = λ is. inl (inr left);
        logged = λ is. inl (inr left);
        unread = λ is. left;
        kept = λ keeps five seven. absurd (malformed_kept ends keeps five seven);
      }
  turns_run options input output logs later old now (Missing name) out counted whole left = absurd left
  turns_run options input output logs later old now (There name) out counted whole left = absurd left
  turns_run options input output logs later old now Usage out counted whole left = absurd left

  -- which is as it was, or undone, where the status says neither that they were done, nor of a fault, nor of want of
  -- memory
  turns_same : (options : Options) (old now : History) (t : Ending) → Exits status t → KeepsAll status → (status ≡ 5 → ⊥) → TurnsLeft options old t now → SameOrUndone old now
  turns_same options old now (Replied reply) out keeps five left = absurd (played_kept (played_exits reply left.0 out) keeps)
  turns_same options old now (Refused r) out keeps five left = opened_same options old now left
  turns_same options old now DeviceFault out keeps five left = absurd (fault_no_keep before after status (fault_exits before after status out) keeps)
  turns_same options old now NoMemory out keeps five left = absurd (memory_no_keep before after status (memory_exits before after status out) keeps five)
  turns_same options old now LogFault out keeps five left = absurd (log_no_keep before after status (log_exits before after status out) keeps)
  turns_same options old now InputFault out keeps five left = inr left
  turns_same options old now (Malformed at) out keeps five left = inr left
  turns_same options old now (Missing name) out keeps five left = absurd left
  turns_same options old now (There name) out keeps five left = absurd left
  turns_same options old now Usage out keeps five left = absurd left

module _ (before after status : ℕ) where
  -- what a run leaves at the name of a file that is to be made of the pairs of another one
  convert_same : (made : NewFile) (prefix : List ℕ) (held old now : Option History) → now ≡ old → (status ≡ 0 → ⊥) → ConvertRun made prefix held old before after status now
  convert_same made prefix held old now same some = record { done = λ is. absurd (some is); there = λ there. same; kept = λ zero four. inl same }

  convert_fault : (made : NewFile) (prefix : List ℕ) (held old now : Option History) → Exits status DeviceFault → CountedBy before after DeviceFault → (IsSome old → now ≡ old) → ConvertRun made prefix held old before after status now
  convert_fault made prefix held old now out counted there = record {
    done = λ is. absurd (fault_no_done before after status (fault_exits before after status out) is);
    there = there;
    kept = λ zero four. elim (fault_exits before after status out) [ inl is ↦ absurd (four is) | inr eight ↦ inr (eight, counted.failed refl) ];
  }

  memory_some : Exits status NoMemory → status ≡ 0 → ⊥
  memory_some out is = memory_apart before after status (memory_exits before after status out) (inl is)

  missing_some : (name : List ℕ) → Exits status (Missing name) → status ≡ 0 → ⊥
  missing_some name (inl own) is = absurd (omega (arith, own, is))
  missing_some name (inr (inl want)) is = absurd (omega (arith, want.0, is))
  missing_some name (inr (inr eight)) is = absurd (omega (arith, eight, is))

  there_some : (name : List ℕ) → Exits status (There name) → status ≡ 0 → ⊥
  there_some name (inl own) is = absurd (omega (arith, own, is))
  there_some name (inr (inl want)) is = absurd (omega (arith, want.0, is))
  there_some name (inr (inr eight)) is = absurd (omega (arith, eight, is))

  full_some : (len need : ℕ) → Exits status (Replied (Full len need)) → status ≡ 0 → ⊥
  full_some len need (inl own) is = absurd (omega (arith, own, is))
  full_some len need (inr (inl want)) is = absurd (omega (arith, want.0, is))
  full_some len need (inr (inr eight)) is = absurd (omega (arith, eight, is))

  convert_left : (made : NewFile) (prefix new : List ℕ) (h : History) (held old now : Option History) (t : Ending) → held ≡ Some h → Exits status t → CountedBy before after t → (t ≡ Replied Copied → status ≡ 0) → ConvertLeft made prefix (seen h) new old t now
      → ConvertRun made prefix held old before after status now
  convert_left made prefix new h held old now (Replied reply) there out counted silent (inl done) =
      let zero : status ≡ 0 = silent (ap Replied done.0) in
      record {
        done = λ is. record { was = h; there = there; converted = done.1 };
        there = λ some. absurd (false≢true (subst IsSome done.1.1 some));
        kept = λ other four. absurd (other zero);
      }
  convert_left made prefix new h held old now (Replied reply) there out counted silent (inr full) =
      convert_same made prefix held old now (full.3 ∙ sym full.1) (full_some full.2.0 full.2.1 (subst (λ r. Exits status (Replied r)) full.2.2 out))
  convert_left made prefix new h held old now (Refused r) there out counted silent left = convert_same made prefix held old now left.1 (λ is. refusal_apart before after status r out (inl is))
  convert_left made prefix new h held old now (There name) there out counted silent left = convert_same made prefix held old now left.3 (there_some name out)
  convert_left made prefix new h held old now DeviceFault there out counted silent left = convert_fault made prefix held old now out counted left
  convert_left made prefix new h held old now NoMemory there out counted silent left = convert_same made prefix held old now left (memory_some out)
  convert_left made prefix new h held old now LogFault there out counted silent left =
      convert_same made prefix held old now left (either_not before after status 10 8 0 (λ z. absurd (omega (arith, z))) (λ z. absurd (omega (arith, z))) (log_exits before after status out))
  convert_left made prefix new h held old now (Missing name) there out counted silent left = absurd left
  convert_left made prefix new h held old now Usage there out counted silent left = absurd left
  convert_left made prefix new h held old now InputFault there out counted silent left = absurd left
  convert_left made prefix new h held old now (Malformed at) there out counted silent left = absurd left

  convert_run : (made : NewFile) (prefix file new : List ℕ) (held old now : Option History) (t : Ending) → Exits status t → CountedBy before after t → (t ≡ Replied Copied → status ≡ 0) → ConvertLeaves made prefix file new held old t now → ConvertRun made prefix held old before after status now
  convert_run made prefix file new held old now t out counted silent (inl (same, inl missing)) = convert_same made prefix held old now same (missing_some file (subst (Exits status) missing.1 out))
  convert_run made prefix file new held old now t out counted silent (inl (same, inr (inl is))) = convert_fault made prefix held old now (subst (Exits status) is out) (subst (CountedBy before after) is counted) (λ some. same)
  convert_run made prefix file new held old now t out counted silent (inl (same, inr (inr is))) = convert_same made prefix held old now same (memory_some (subst (Exits status) is out))
  convert_run made prefix file new held old now t out counted silent (inr left) = convert_left made prefix new left.0 held old now t left.1 out counted silent left.2

  -- and of one that is to be made of what can be read of another one
  mend_same : (held old now : Option History) → now ≡ old → (status ≡ 0 → ⊥) → MendRun held old before after status now
  mend_same held old now same some = record { done = λ is. absurd (some is); there = λ there. same; kept = λ zero four. inl same }

  mend_fault : (held old now : Option History) → Exits status DeviceFault → CountedBy before after DeviceFault → (IsSome old → now ≡ old) → MendRun held old before after status now
  mend_fault held old now out counted there = record {
    done = λ is. absurd (fault_no_done before after status (fault_exits before after status out) is);
    there = there;
    kept = λ zero four. elim (fault_exits before after status out) [ inl is ↦ absurd (four is) | inr eight ↦ inr (eight, counted.failed refl) ];
  }

  mend_left : (new : List ℕ) (h : History) (held old now : Option History) (t : Ending) → held ≡ Some h → Exits status t → CountedBy before after t → (t ≡ Replied Copied → status ≡ 0) → MendLeft (seen h) new old t now
      → MendRun held old before after status now
  mend_left new h held old now (Replied reply) there out counted silent (inl done) =
      let zero : status ≡ 0 = silent (ap Replied done.0) in
      record {
        done = λ is. record { was = h; there = there; mends = done.1 };
        there = λ some. absurd (false≢true (subst IsSome done.1.1 some));
        kept = λ other four. absurd (other zero);
      }
  mend_left new h held old now (Replied reply) there out counted silent (inr full) =
      mend_same held old now (full.3 ∙ sym full.1) (full_some full.2.0 full.2.1 (subst (λ r. Exits status (Replied r)) full.2.2 out))
  mend_left new h held old now (Refused r) there out counted silent left = mend_same held old now left.1 (λ is. refusal_apart before after status r out (inl is))
  mend_left new h held old now (There name) there out counted silent left = mend_same held old now left.3 (there_some name out)
  mend_left new h held old now DeviceFault there out counted silent left = mend_fault held old now out counted left
  mend_left new h held old now NoMemory there out counted silent left = mend_same held old now left (memory_some out)
  mend_left new h held old now LogFault there out counted silent left = absurd left
  mend_left new h held old now (Missing name) there out counted silent left = absurd left
  mend_left new h held old now Usage there out counted silent left = absurd left
  mend_left new h held old now InputFault there out counted silent left = absurd left
  mend_left new h held old now (Malformed at) there out counted silent left = absurd left

  mend_run : (file new : List ℕ) (held old now : Option History) (t : Ending) → Exits status t → CountedBy before after t → (t ≡ Replied Copied → status ≡ 0) → MendLeaves file new held old t now → MendRun held old before after status now
  mend_run file new held old now t out counted silent (inl (same, inl missing)) = mend_same held old now same (missing_some file (subst (Exits status) missing.1 out))
  mend_run file new held old now t out counted silent (inl (same, inr (inl is))) = mend_fault held old now (subst (Exits status) is out) (subst (CountedBy before after) is counted) (λ some. same)
  mend_run file new held old now t out counted silent (inl (same, inr (inr is))) = mend_same held old now same (memory_some (subst (Exits status) is out))
  mend_run file new held old now t out counted silent (inr left) = mend_left new left.0 held old now t left.1 out counted silent left.2

  -- what a run leaves at the name of a file into which the pairs of another one are to be stored: the status isn't 0
  -- unless they were stored
  halt_some : (halt : Halt) → Exits status (of_halt halt) → status ≡ 0 → ⊥
  halt_some (H.Refused refusal) out is = refusal_apart before after status refusal out (inl is)
  halt_some H.Device out is = fault_no_done before after status (fault_exits before after status out) is
  halt_some H.Memory out is = memory_some out is
  halt_some H.Log out is = either_not before after status 10 8 0 (λ z. absurd (omega (arith, z))) (λ z. absurd (omega (arith, z))) (log_exits before after status out) is

  untaken_some : (name : List ℕ) (held : Option History) (t : Ending) → IsUntaken name held t → Exits status t → status ≡ 0 → ⊥
  untaken_some name held t (inl missing) out is = missing_some name (subst (Exits status) missing.1 out) is
  untaken_some name held t (inr (inl fault)) out is = halt_some H.Device (subst (Exits status) fault out) is
  untaken_some name held t (inr (inr wanting)) out is = memory_some (subst (Exits status) wanting out) is

  exits_so : (t : Ending) → Exits status t → (status ≡ status_of t) ⊎ (status ≡ 5) ⊎ (status ≡ 8)
  exits_so t (inl own) = inl own
  exits_so t (inr (inl want)) = inr (inl want.0)
  exits_so t (inr (inr eight)) = inr (inr eight)

  merge_answered : (answer : Result (Unit {0}) MergeFault) → Exits status (merge_told answer) → status ≡ 0 → answer ≡ Ok tt
  merge_answered (Ok v) out is = refl
  merge_answered (Err (M.Full len need)) out is = absurd (full_some len need out is)
  merge_answered (Err M.Starved) out is = absurd (memory_some out is)
  merge_answered (Err M.Read) out is = absurd (halt_some H.Device out is)
  merge_answered (Err M.Device) out is = absurd (halt_some H.Device out is)
  merge_answered (Err M.Log) out is = absurd (halt_some H.Log out is)
  merge_answered (Err M.Memory) out is = absurd (memory_some out is)

  module _ (limit : ℕ) (prefix file into : List ℕ) (held old now : Option History) where
    merged_all : (img : List ℕ) (k m : History) (t : Ending) → MergeLeft limit prefix img k m t → Exits status t → status ≡ 0 → MergedOn limit prefix img k m (Ok tt)
    merged_all img k m _ (merge_unopened halt opened safe) out is = absurd (halt_some halt out is)
    merged_all img k m _ (merge_ran answer on) out is = subst (MergedOn limit prefix img k m) (merge_answered answer out is) on

    merged_into : (h : History) (t : Ending) → held ≡ Some h → MergeInto limit prefix (seen h) into old now t → Exits status t → status ≡ 0 → WasMerged limit prefix held old now
    merged_into h t there (into_untaken same untaken) out is = absurd (untaken_some into old t untaken out is)
    merged_into h t there (into_taken k m stood stands left) out is = record { was = h; there = there; before = k; stood = stood; after = m; stands = stands; merged = merged_all (seen h) k m t left out is }

    merged_done : (t : Ending) → MergeLeaves limit prefix file into held old t now → Exits status t → status ≡ 0 → WasMerged limit prefix held old now
    merged_done t (file_untaken same untaken) out is = absurd (untaken_some file held t untaken out is)
    merged_done t (file_halted h halt there same right ends) out is = absurd (halt_some halt (subst (Exits status) ends out) is)
    merged_done t (file_read h there can left) out is = merged_into h t there left out is

    merge_run : (t : Ending) → Exits status t → MergeLeaves limit prefix file into held old t now → MergeRun limit prefix file into held old status now
    merge_run t out left = record { ending = t; exits = exits_so t out; left = left; done = λ is. merged_done t left out is }

  -- it is as it was, or undone, where the status says neither that they were stored, nor that there was no room for
  -- them, nor of a fault, nor of want of memory
  module _ (keeps : KeepsAll status) (five : status ≡ 5 → ⊥) (six : status ≡ 6 → ⊥) where
    merge_ended : (answer : Result (Unit {0}) MergeFault) → Exits status (merge_told answer) → ⊥
    merge_ended (Ok v) (inl own) = keeps.0 own
    merge_ended (Ok v) (inr (inl want)) = five want.0
    merge_ended (Ok v) (inr (inr eight)) = keeps.2 eight
    merge_ended (Err (M.Full len need)) (inl own) = six own
    merge_ended (Err (M.Full len need)) (inr (inl want)) = five want.0
    merge_ended (Err (M.Full len need)) (inr (inr eight)) = keeps.2 eight
    merge_ended (Err M.Starved) out = memory_no_keep before after status (memory_exits before after status out) keeps five
    merge_ended (Err M.Read) out = fault_no_keep before after status (fault_exits before after status out) keeps
    merge_ended (Err M.Device) out = fault_no_keep before after status (fault_exits before after status out) keeps
    merge_ended (Err M.Log) out = log_no_keep before after status (log_exits before after status out) keeps
    merge_ended (Err M.Memory) out = memory_no_keep before after status (memory_exits before after status out) keeps five

    merge_same : (limit : ℕ) (prefix img : List ℕ) (k m : History) (t : Ending) → Exits status t → MergeLeft limit prefix img k m t → SameOrUndone k m
    merge_same limit prefix img k m _ out (merge_unopened (H.Refused refusal) opened safe) = opened_same (session_options limit) k m opened.1
    merge_same limit prefix img k m _ out (merge_unopened H.Device opened safe) = absurd (fault_no_keep before after status (fault_exits before after status out) keeps)
    merge_same limit prefix img k m _ out (merge_unopened H.Memory opened safe) = opened
    merge_same limit prefix img k m _ out (merge_unopened H.Log opened safe) = opened
    merge_same limit prefix img k m _ out (merge_ran answer on) = absurd (merge_ended answer out)

    into_same : (limit : ℕ) (prefix img into : List ℕ) (old now : Option History) (t : Ending) → Exits status t → MergeInto limit prefix img into old now t → HeldOrUndone old now
    into_same limit prefix img into old now t out (into_untaken same untaken) = inl same
    into_same limit prefix img into old now t out (into_taken k m stood stands left) = held_kept old now k m stood stands (merge_same limit prefix img k m t out left)

    merge_kept : (limit : ℕ) (prefix file into : List ℕ) (held old now : Option History) (t : Ending) → Exits status t → MergeLeaves limit prefix file into held old t now → HeldOrUndone old now
    merge_kept limit prefix file into held old now t out (file_untaken same untaken) = inl same
    merge_kept limit prefix file into held old now t out (file_halted h halt there same right ends) = inl same
    merge_kept limit prefix file into held old now t out (file_read h there can left) = into_same limit prefix (seen h) into old now t out left

  -- What a run leaves at the names of a file whose key is to be moved into another one, and of that: the status isn't 0
  -- unless it was moved.
  key_some : Exits status (Replied KeyMissing) → status ≡ 0 → ⊥
  key_some (inl own) is = let one : status ≡ 1 = own in omega (arith, one, is)
  key_some (inr (inl want)) is = false≢true want.1
  key_some (inr (inr eight)) is = omega (arith, eight, is)

  move_answered : (answer : Result (Unit {0}) MoveFault) → Exits status (move_told answer) → status ≡ 0 → answer ≡ Ok tt
  move_answered (Ok v) out is = refl
  move_answered (Err V.KeyMissing) out is = absurd (key_some out is)
  move_answered (Err (V.Full len need)) out is = absurd (full_some len need out is)
  move_answered (Err V.Device) out is = absurd (halt_some H.Device out is)
  move_answered (Err V.Log) out is = absurd (halt_some H.Log out is)
  move_answered (Err V.Memory) out is = absurd (memory_some out is)

  module _ (limit : ℕ) (key file into : List ℕ) (held now_held old now : Option History) where
    moved_all : (from last i j : History) (t : Ending) → MoveLeft limit key from last i j t → Exits status t → status ≡ 0 → MovedOn limit key from last i j (Ok tt)
    moved_all from last i j _ (move_unopened halt same halted) out is = absurd (halt_some halt out is)
    moved_all from last i j _ (move_ran answer on) out is = subst (MovedOn limit key from last i j) (move_answered answer out is) on

    moved_into : (h from last : History) → held ≡ Some h → now_held ≡ Some last → WasOpened limit h from → (t : Ending) → MoveInto limit key into from last old now t → Exits status t → status ≡ 0 → WasMoved limit key held now_held old now
    moved_into h from last there stands opened t (other_untaken same kept untaken) out is = absurd (untaken_some into old t untaken out is)
    moved_into h from last there stands opened t (other_taken i j stood now_stands left) out is =
        record { was = h; there = there; from = from; opened = opened; now_from = last; stands = stands; before = i; stood = stood; after = j; now_stands = now_stands; moved = moved_all from last i j t left out is }

    moved_done : (t : Ending) → MoveLeaves limit key file into held now_held old now t → Exits status t → status ≡ 0 → WasMoved limit key held now_held old now
    moved_done t (from_untaken same kept untaken) out is = absurd (untaken_some file held t untaken out is)
    moved_done t (from_taken h last there stands (from_unopened halt halted same ends)) out is = absurd (halt_some halt (subst (Exits status) ends out) is)
    moved_done t (from_taken h last there stands (from_opened from opened left)) out is = moved_into h from last there stands opened t left out is

    move_run : (t : Ending) → Exits status t → MoveLeaves limit key file into held now_held old now t → MoveRun limit key file into held now_held old now status
    move_run t out left = record { ending = t; exits = exits_so t out; left = left; done = λ is. moved_done t left out is }

  -- each is as it was, or undone, where the status says neither that it was moved, nor that the key isn't there, nor
  -- that there was no room for it, nor of a fault, nor of want of memory
  module _ (keeps : KeepsAll status) (one : status ≡ 1 → ⊥) (five : status ≡ 5 → ⊥) (six : status ≡ 6 → ⊥) (limit : ℕ) (key file into : List ℕ) (held now_held old now : Option History) where
    move_ended : (answer : Result (Unit {0}) MoveFault) → Exits status (move_told answer) → ⊥
    move_ended (Ok v) (inl own) = keeps.0 own
    move_ended (Ok v) (inr (inl want)) = five want.0
    move_ended (Ok v) (inr (inr eight)) = keeps.2 eight
    move_ended (Err V.KeyMissing) (inl own) = one own
    move_ended (Err V.KeyMissing) (inr (inl want)) = five want.0
    move_ended (Err V.KeyMissing) (inr (inr eight)) = keeps.2 eight
    move_ended (Err (V.Full len need)) (inl own) = six own
    move_ended (Err (V.Full len need)) (inr (inl want)) = five want.0
    move_ended (Err (V.Full len need)) (inr (inr eight)) = keeps.2 eight
    move_ended (Err V.Device) out = fault_no_keep before after status (fault_exits before after status out) keeps
    move_ended (Err V.Log) out = log_no_keep before after status (log_exits before after status out) keeps
    move_ended (Err V.Memory) out = memory_no_keep before after status (memory_exits before after status out) keeps five

    halt_same : (h k : History) (halt : Halt) → Exits status (of_halt halt) → NotOpened limit h k halt → SameOrUndone h k
    halt_same h k (H.Refused refusal) out not = opened_same (session_options limit) h k not.halted.1
    halt_same h k H.Device out not = absurd (fault_no_keep before after status (fault_exits before after status out) keeps)
    halt_same h k H.Memory out not = not.halted
    halt_same h k H.Log out not = not.halted

    abbrev BothSame : Type 0
    BothSame = HeldOrUndone held now_held × HeldOrUndone old now

    opened_kept : (h from last : History) → held ≡ Some h → now_held ≡ Some last → WasOpened limit h from → last ≡ from → HeldOrUndone held now_held
    opened_kept h from last there stands opened same = held_kept held now_held h last there stands (subst (SameOrUndone h) (sym same) (opened_same (session_options limit) h from opened.is_opened.left))

    left_kept : (h from last i j : History) → held ≡ Some h → now_held ≡ Some last → WasOpened limit h from → old ≡ Some i → now ≡ Some j → (t : Ending) → Exits status t → MoveLeft limit key from last i j t → BothSame
    left_kept h from last i j there stands opened stood now_stands _ out (move_unopened halt same not) =
        (opened_kept h from last there stands opened same, held_kept old now i j stood now_stands (halt_same i j halt out not))
    left_kept h from last i j there stands opened stood now_stands _ out (move_ran answer on) = absurd (move_ended answer out)

    moving_kept : (h from last : History) → held ≡ Some h → now_held ≡ Some last → WasOpened limit h from → (t : Ending) → Exits status t → MoveInto limit key into from last old now t → BothSame
    moving_kept h from last there stands opened t out (other_untaken same kept untaken) = (opened_kept h from last there stands opened same, inl kept)
    moving_kept h from last there stands opened t out (other_taken i j stood now_stands left) = left_kept h from last i j there stands opened stood now_stands t out left

    move_kept : (t : Ending) → Exits status t → MoveLeaves limit key file into held now_held old now t → BothSame
    move_kept t out (from_untaken same kept untaken) = (inl same, inl kept)
    move_kept t out (from_taken h last there stands (from_unopened halt not same ends)) = (held_kept held now_held h last there stands (halt_same h last halt (subst (Exits status) ends out) not), inl same)
    move_kept t out (from_taken h last there stands (from_opened from opened left)) = moving_kept h from last there stands opened t out left

module _ (before after status : ℕ) where
  -- the statuses of the endings of generated commands
  done_exits : (text : List ℕ) → Exits status (Replied (Generated text)) → (status ≡ 0) ⊎ (status ≡ 8)
  done_exits text (inl own) = inl own
  done_exits text (inr (inl want)) = absurd (false≢true want.1)
  done_exits text (inr (inr eight)) = inr eight

  there_exits : (name : List ℕ) → Exits status (There name) → (status ≡ 9) ⊎ (status ≡ 5) ⊎ (status ≡ 8)
  there_exits name (inl own) = inl own
  there_exits name (inr (inl want)) = inr (inl want.0)
  there_exits name (inr (inr eight)) = inr (inr eight)

  -- what a run leaves at the name of their file, where nothing was done
  nothing_made : (commands seed : ℕ) (output : Output) (old now : Option History) → now ≡ old → (status ≡ 0 → ⊥) → (status ≡ 4 → ⊥) → GeneratingRun commands seed output old before after status now
  nothing_made commands seed output old now same zero four = record {
    done = λ is. absurd (zero is);
    there = λ some. same;
    failed = λ is. absurd (four is);
    kept = λ undone other. inl same;
  }

  -- and where all of them were
  all_made : (commands seed : ℕ) (output : Output) (old now : Option History) (s : Summary) → HasMade commands seed s old now → (status ≡ 0) ⊎ (status ≡ 8) → (status ≡ 0 → IsTrue output.tells → output.after ≡ output.before ++ summary_text s)
      → GeneratingRun commands seed output old before after status now
  all_made commands seed output old now s made ends shown = record {
    done = λ is. (s, made, shown is);
    there = λ some. absurd (false≢true (subst IsSome made.1 some));
    failed = λ is. absurd (either_not before after status 0 8 4 (λ z. absurd (omega (arith, z))) (λ z. absurd (omega (arith, z))) ends is);
    kept = λ undone other. elim ends [ inl zero ↦ absurd (undone zero) | inr eight ↦ inr (eight, inr (s, made)) ];
  }

  generating_run : (commands seed : ℕ) (output : Output) (old now : Option History) (t : Ending) → Exits status t → CountedBy before after t
      → ((text : List ℕ) → t ≡ Replied (Generated text) → status ≡ 0 → IsTrue output.tells → output.after ≡ output.before ++ text) → GenLeaves commands seed old t now → GeneratingRun commands seed output old before after status now
  generating_run commands seed output old now (Replied reply) out counted shown left =
      all_made commands seed output old now left.0 left.2 (done_exits (summary_text left.0) (subst (λ r. Exits status (Replied r)) left.1 out)) (shown (summary_text left.0) (ap Replied left.1))
  generating_run commands seed output old now (There name) out counted shown left = nothing_made commands seed output old now left (λ is. apart (there_exits name out) (inl is)) (λ is. apart (there_exits name out) (inr is))
    where
      apart : (status ≡ 9) ⊎ (status ≡ 5) ⊎ (status ≡ 8) → (status ≡ 0) ⊎ (status ≡ 4) → ⊥
      apart (inl nine) (inl is) = absurd (omega (arith, nine, is))
      apart (inl nine) (inr is) = absurd (omega (arith, nine, is))
      apart (inr more) other = memory_apart before after status more other
  generating_run commands seed output old now DeviceFault out counted shown left =
      let ends = fault_exits before after status out in
      record {
        done = λ is. absurd (fault_no_done before after status ends is);
        there = left;
        failed = λ is. counted.failed refl;
        kept = λ undone four. elim ends [ inl is ↦ absurd (four is) | inr eight ↦ inr (eight, inl (counted.failed refl)) ];
      }
  generating_run commands seed output old now NoMemory out counted shown left =
      let ends = memory_exits before after status out in
      nothing_made commands seed output old now left (λ is. memory_apart before after status ends (inl is)) (λ is. memory_apart before after status ends (inr is))
  generating_run commands seed output old now LogFault out counted shown left =
      let ends = log_exits before after status out in
      nothing_made commands seed output old now left
      (λ is. either_not before after status 10 8 0 (λ z. absurd (omega (arith, z))) (λ z. absurd (omega (arith, z))) ends is)
      (λ is. either_not before after status 10 8 4 (λ z. absurd (omega (arith, z))) (λ z. absurd (omega (arith, z))) ends is)
  generating_run commands seed output old now (Refused refusal) out counted shown left = absurd left
  generating_run commands seed output old now (Missing name) out counted shown left = absurd left
  generating_run commands seed output old now Usage out counted shown left = absurd left
  generating_run commands seed output old now InputFault out counted shown left = absurd left
  generating_run commands seed output old now (Malformed at) out counted shown left = absurd left

-- what was printed where all generated commands were done
pub summary_shown : (tells : Bool) (run : Run) (e t : Ending) (commands seed : ℕ) (name text : List ℕ) → PrintedFor e t → Printed tells run e → run.ask ≡ Some (record { file = name; task = Generate commands seed }) → t ≡ Replied (Generated text) → run.status ≡ 0 → IsTrue run.output.tells
    → run.output.after ≡ run.output.before ++ text
summary_shown tells run e t commands seed name text printed (inr part) asks is zero heard = absurd (omega (arith, part.exits, zero))
summary_shown tells run e t commands seed name text (inr want) (inl all) asks is zero heard = absurd (false≢true (subst TakesMemory is want.1))
summary_shown tells run e t commands seed name text (inl same) (inl all) asks is zero heard =
    let w = all.written (subst (λ a. IsTrue (ask_tells a tells run.output.tells)) (sym asks) heard) in
    let none : w.0 ≡ [] = subst (λ a. TextBefore a run.old e w.0) asks w.1 in
    w.2 ∙ (λ j. (run.output.before ++ none j) ++ text_of ((same ∙ is) j)) ∙ ap (λ before. before ++ text) (append-nil run.output.before)

module _ (run : Run) (logs later : List Logged) (t : Ending) (out : Exits run.status t) (counted : CountedBy run.faults_before run.faults_after t) (silent : IsSilent t → run.status ≡ 0) (left : Leaving run.input run.ask run.old t run.now)
    (whole : (options : Options) (name : List ℕ) (old now : History) → run.ask ≡ Some (record { file = name; task = Turns options }) → run.old name ≡ Some old → run.now name ≡ Some now → run.status ≡ 0 → IsPlayed options run.input run.output logs later old now)
    (serve : (limit : ℕ) (name : List ℕ) (old now : History) → run.ask ≡ Some (record { file = name; task = Session limit }) → run.old name ≡ Some old → run.now name ≡ Some now → SessionRun limit run.input run.output old run.faults_before run.faults_after run.status now logs later)
    (shown : (commands seed : ℕ) (name text : List ℕ) → run.ask ≡ Some (record { file = name; task = Generate commands seed }) → t ≡ Replied (Generated text) → run.status ≡ 0 → IsTrue run.output.tells → run.output.after ≡ run.output.before ++ text) where
  -- what the run leaves at the name of the task that it is asked for
  asked_left : (task : Task) (name : List ℕ) → run.ask ≡ Some (record { file = name; task = task }) → TaskLeaves run.input task name run.old t run.now
  asked_left task name asks = (subst (λ a. Leaving run.input a run.old t run.now) asks left).1

  acted : (act : Act) (name : List ℕ) (old : History) → ActsOn run act name old → (h : History) × (run.now name ≡ Some h) × ActRun act old run.faults_before run.faults_after run.status h
  acted act name old acts =
      let at = subst (λ o. OnLeaves act o t (run.now name)) acts.there (asked_left (On act) name acts.asks) in
      (at.0, at.1, act_run run.faults_before run.faults_after run.status act old at.0 t out counted at.2)

  made : (form : NewFile) (name : List ℕ) → run.ask ≡ Some (record { file = name; task = Create form }) → MakingRun form (run.old name) run.faults_before run.faults_after run.status (run.now name)
  made form name asks = making_run run.faults_before run.faults_after run.status form (run.old name) (run.now name) t out counted (asked_left (Create form) name asks)

  restoring : (limit : ℕ) (name : List ℕ) → run.ask ≡ Some (record { file = name; task = Restore limit }) → RestoringRun limit run.input (run.old name) run.faults_before run.faults_after run.status (run.now name)
  restoring limit name asks = restoring_run run.faults_before run.faults_after run.status limit run.input (run.old name) (run.now name) t out counted (λ done. silent (inl done)) (asked_left (Restore limit) name asks)

  backing_up : (more : List (List ℕ)) (suffix name : List ℕ) → run.ask ≡ Some (record { file = name; task = Backup more suffix }) → BackupRun suffix (name ∷ more) run.old run.faults_before run.faults_after run.status run.now
  backing_up more suffix name asks = backup_run run.faults_before run.faults_after run.status suffix (name ∷ more) run.old run.now t out counted (λ done. silent (inr (inl done))) (asked_left (Backup more suffix) name asks)

  verifying : (more : List (List ℕ)) (suffix name : List ℕ) → run.ask ≡ Some (record { file = name; task = Verify more suffix }) → VerifyRun suffix (name ∷ more) run.old run.faults_before run.faults_after run.status run.now
  verifying more suffix name asks = verify_run run.faults_before run.faults_after run.status suffix (name ∷ more) run.old run.now t out counted (λ done. silent (inr (inr (inl done)))) (asked_left (Verify more suffix) name asks)

  printed : (printout : Printout) (limit : ℕ) (name : List ℕ) (old : History) → PrintsOf run printout limit name old → (h : History) × (run.now name ≡ Some h) × PrintRun limit old run.faults_before run.faults_after run.status h
  printed printout limit name old of =
      let at = subst (λ o. PrintLeaves limit o t (run.now name)) of.there (asked_left (Print printout limit) name of.asks) in
      (at.0, at.1, print_run run.faults_before run.faults_after run.status limit old at.0 t out counted at.2)

  repacked : (limit : ℕ) (name : List ℕ) (old : History) → Repacks run limit name old
      → (h : History) × (run.now name ≡ Some h) × RepackRun limit old (run.old (temporary_name name)) run.faults_before run.faults_after run.status h (run.now (temporary_name name))
  repacked limit name old of =
      repack_run run.faults_before run.faults_after run.status limit name old (run.now name) (run.old (temporary_name name)) (run.now (temporary_name name)) t out counted
      (subst (λ o. RepackLeft limit name o (run.now name) (run.old (temporary_name name)) (run.now (temporary_name name)) t) of.there (asked_left (Repack limit) name of.asks))

  unrepacked : (limit : ℕ) (name : List ℕ) → run.ask ≡ Some (record { file = name; task = Repack limit }) → run.old name ≡ None → (run.now name ≡ None) × (run.now (temporary_name name) ≡ run.old (temporary_name name))
  unrepacked limit name asks none =
      repack_none run.faults_before run.faults_after run.status limit name (run.now name) (run.old (temporary_name name)) (run.now (temporary_name name)) t
      (subst (λ o. RepackLeft limit name o (run.now name) (run.old (temporary_name name)) (run.now (temporary_name name)) t) none (asked_left (Repack limit) name asks))

  converted : (made : NewFile) (prefix new name : List ℕ) → run.ask ≡ Some (record { file = name; task = Convert new made prefix })
      → (run.now name ≡ run.old name) × ConvertRun made prefix (run.old name) (run.old new) run.faults_before run.faults_after run.status (run.now new)
  converted made prefix new name asks =
      let at = asked_left (Convert new made prefix) name asks in
      (at.0, convert_run run.faults_before run.faults_after run.status made prefix name new (run.old name) (run.old new) (run.now new) t out counted (λ done. silent (inr (inl done))) at.1)

  mended : (new name : List ℕ) → run.ask ≡ Some (record { file = name; task = Mend new })
      → StaysSynced (run.old name) (run.now name) × MendRun (run.old name) (run.old new) run.faults_before run.faults_after run.status (run.now new)
  mended new name asks =
      let at = asked_left (Mend new) name asks in
      (at.0, mend_run run.faults_before run.faults_after run.status name new (run.old name) (run.old new) (run.now new) t out counted (λ done. silent (inr (inl done))) at.1)

  merged : (into prefix name : List ℕ) (limit : ℕ) → run.ask ≡ Some (record { file = name; task = Merge into prefix limit })
      → (run.now name ≡ run.old name) × MergeRun limit prefix name into (run.old name) (run.old into) run.status (run.now into)
  merged into prefix name limit asks =
      let at = asked_left (Merge into prefix limit) name asks in
      (at.0, merge_run run.faults_before run.faults_after run.status limit prefix name into (run.old name) (run.old into) (run.now into) t out at.1)

  moved : (key into name : List ℕ) (limit : ℕ) → run.ask ≡ Some (record { file = name; task = Move key into limit })
      → MoveRun limit key name into (run.old name) (run.now name) (run.old into) (run.now into) run.status
  moved key into name limit asks =
      move_run run.faults_before run.faults_after run.status limit key name into (run.old name) (run.now name) (run.old into) (run.now into) t out (asked_left (Move key into limit) name asks)

  turned : (options : Options) (name : List ℕ) (old : History) → run.ask ≡ Some (record { file = name; task = Turns options }) → run.old name ≡ Some old
      → (h : History) × (run.now name ≡ Some h) × TurnsRun options run.input run.output old run.faults_before run.faults_after run.status h logs later
  turned options name old asks there =
      let at = subst (λ o. TurnsLeave options o t (run.now name)) there (asked_left (Turns options) name asks) in
      (at.0, at.1, turns_run run.faults_before run.faults_after run.status options run.input run.output logs later old at.0 t out counted (whole options name old at.0 asks there at.1) at.2)

  served : (limit : ℕ) (name : List ℕ) (old : History) → run.ask ≡ Some (record { file = name; task = Session limit }) → run.old name ≡ Some old
      → (h : History) × (run.now name ≡ Some h) × SessionRun limit run.input run.output old run.faults_before run.faults_after run.status h logs later
  served limit name old asks there =
      let at = subst (λ o. StaysThere o (run.now name)) there (asked_left (Session limit) name asks) in
      (at.0, at.1, serve limit name old at.0 asks there at.1)

  generated : (commands seed : ℕ) (name : List ℕ) → run.ask ≡ Some (record { file = name; task = Generate commands seed }) → GeneratingRun commands seed run.output (run.old name) run.faults_before run.faults_after run.status (run.now name)
  generated commands seed name asks =
      generating_run run.faults_before run.faults_after run.status commands seed run.output (run.old name) (run.now name) t out counted (λ text is. shown commands seed name text asks is) (asked_left (Generate commands seed) name asks)

  others : (name : List ℕ) → ((ask : Ask) → run.ask ≡ Some ask → MayChange ask.task ask.file name → ⊥) → run.now name ≡ run.old name
  others name none = of run.ask left none
    where
      of : (ask : Option Ask) → Leaving run.input ask run.old t run.now → ((a : Ask) → ask ≡ Some a → MayChange a.task a.file name → ⊥) → run.now name ≡ run.old name
      of None left none = left name
      of (Some a) left none = left.0 name (none a refl)

  -- what is held at the name of a task on one file, where the status tells of no change
  on_kept : KeepsAll run.status → (act : Act) (name : List ℕ) (old : Option History) → OnLeaves act old t (run.now name) → HeldOrUndone old (run.now name)
  on_kept keeps act name None at = inl at
  on_kept keeps act name (Some old) at = elim ((act_run run.faults_before run.faults_after run.status act old at.0 t out counted at.2).kept keeps) [
    | inl undone ↦ inr (old, at.0, refl, at.1, undone)
    | inr same ↦ inl (at.1 ∙ ap Some same)
  ]

  print_kept : KeepsAll run.status → (limit : ℕ) (name : List ℕ) (old : Option History) → PrintLeaves limit old t (run.now name) → HeldOrUndone old (run.now name)
  print_kept keeps limit name None at = inl at
  print_kept keeps limit name (Some old) at = elim ((print_run run.faults_before run.faults_after run.status limit old at.0 t out counted at.2).kept keeps.1 keeps.2) [
    | inl undone ↦ inr (old, at.0, refl, at.1, undone)
    | inr same ↦ inl (at.1 ∙ ap Some same)
  ]

  repack_kept : KeepsAll run.status → (limit : ℕ) (name : List ℕ) → run.ask ≡ Some (record { file = name; task = Repack limit }) → (old : Option History) → run.old name ≡ old → HeldOrUndone old (run.now name)
  repack_kept keeps limit name asks None there = inl (unrepacked limit name asks there).0
  repack_kept keeps limit name asks (Some old) there =
      let at = repacked limit name old (record { asks = asks; there = there }) in
      elim (at.2.stopped keeps.0) [
        | inl stopped ↦
            elim (stopped.kept keeps.1 keeps.2) [
              | inl undone ↦ inr (old, at.0, refl, at.1, undone)
              | inr same ↦ inl (at.1 ∙ ap Some same)
            ]
        | inr eight ↦ absurd (keeps.2 eight.0)
      ]

  -- what is held at the name of a task, where the status tells of no change
  turns_kept : KeepsAll run.status → (run.status ≡ 5 → ⊥) → (options : Options) (name : List ℕ) (old : History) (at : (h : History) × (run.now name ≡ Some h) × TurnsLeft options old t h) → HeldOrUndone (Some old) (run.now name)
  turns_kept keeps other options name old at = elim (turns_same run.faults_before run.faults_after run.status options old at.0 t out keeps other at.2) [
    | inl undone ↦ inr (old, at.0, refl, at.1, undone)
    | inr same ↦ inl (at.1 ∙ ap Some same)
  ]

  -- at each name
  at_name : (name file : List ℕ) → HeldOrUndone (run.old file) (run.now file) → ((name ≡ file → ⊥) → run.now name ≡ run.old name) → HeldOrUndone (run.old name) (run.now name)
  at_name name file here other = elim (same_or_other name file) [
    | inl same ↦ subst (λ n. HeldOrUndone (run.old n) (run.now n)) (sym same) here
    | inr apart ↦ inl (other apart)
  ]

  file_kept : KeepsAll run.status → (run.status ≡ 5 → ⊥) → (options : Options) (name : List ℕ) (old : Option History) → TurnsLeave options old t (run.now name) → HeldOrUndone old (run.now name)
  file_kept keeps five options name None at = inl at
  file_kept keeps five options name (Some old) at = turns_kept keeps five options name old at

  session_kept : KeepsAll run.status → (limit : ℕ) (name : List ℕ) → (EndsMidway (Session limit) run.status → ⊥) → run.ask ≡ Some (record { file = name; task = Session limit })
      → (old : Option History) → run.old name ≡ old → StaysThere old (run.now name) → HeldOrUndone old (run.now name)
  session_kept keeps limit name midway asks None there at = inl at
  session_kept keeps limit name midway asks (Some old) there at =
      elim (opened_same (session_options limit) old at.0 ((serve limit name old at.0 asks there at.1).kept keeps (λ is. midway (inl is)) (λ is. midway (inr is)))) [
        | inl undone ↦ inr (old, at.0, refl, at.1, undone)
        | inr same ↦ inl (at.1 ∙ ap Some same)
      ]

  task_kept : KeepsAll run.status → (task : Task) (file name : List ℕ) → run.ask ≡ Some (record { file = file; task = task }) → (EndsMidway task run.status → ⊥) → SameElse task file run.old run.now → TaskLeaves run.input task file run.old t run.now
      → (IsCopyName (Some (record { file = file; task = task })) name → ⊥) → HeldOrUndone (run.old name) (run.now name)
  task_kept keeps (On act) file name asks midway same at copy = at_name name file (on_kept keeps act file (run.old file) at) (same name)
  task_kept keeps (Read look) file name asks midway same at copy = at_name name file (inl at) (same name)
  task_kept keeps Rescue file name asks midway same at copy = at_name name file (inl at) (same name)
  task_kept keeps (Print printout limit) file name asks midway same at copy = at_name name file (print_kept keeps limit file (run.old file) at) (same name)
  task_kept keeps (Repack limit) file name asks midway same at copy =
      at_name name file (repack_kept keeps limit file asks (run.old file) refl)
      (λ other. same name (λ may. elim may [ inl own ↦ other own | inr made ↦ copy (inr (inl (limit, file, refl, made))) ]))
  task_kept keeps (Convert new made prefix) file name asks midway same at copy =
      at_name name file (inl at.0)
      (λ other. at_other name new (λ is. same name (λ may. elim may [ inl own ↦ other own | inr made ↦ is made ])) ((converted made prefix new file asks).1.kept keeps.0 keeps.1))
    where
      at_other : (name new : List ℕ) → ((name ≡ new → ⊥) → run.now name ≡ run.old name) → (run.now new ≡ run.old new) ⊎ ((run.status ≡ 8) × Rose run.faults_before run.faults_after) → run.now name ≡ run.old name
      at_other name new apart (inr eight) = absurd (keeps.2 eight.0)
      at_other name new apart (inl kept) = elim (same_or_other name new) [
        | inl is ↦ subst (λ n. run.now n ≡ run.old n) (sym is) kept
        | inr other ↦ apart other
      ]
  task_kept keeps (Mend new) file name asks midway same at copy = elim (same_or_other name file) [
    | inl is ↦ absurd (copy (inr (inr (new, ap (λ n. Some (record { file = n; task = Mend new })) (sym is)))))
    | inr other ↦ inl (at_other name new (λ apart. same name (λ may. elim may [ inl own ↦ other own | inr made ↦ apart made ])) ((mended new file asks).1.kept keeps.0 keeps.1))
  ]
    where
      at_other : (name new : List ℕ) → ((name ≡ new → ⊥) → run.now name ≡ run.old name) → (run.now new ≡ run.old new) ⊎ ((run.status ≡ 8) × Rose run.faults_before run.faults_after) → run.now name ≡ run.old name
      at_other name new apart (inr eight) = absurd (keeps.2 eight.0)
      at_other name new apart (inl kept) = elim (same_or_other name new) [
        | inl is ↦ subst (λ n. run.now n ≡ run.old n) (sym is) kept
        | inr other ↦ apart other
      ]
  task_kept keeps (Merge into prefix limit) file name asks midway same at copy =
      at_name name into
      (merge_kept run.faults_before run.faults_after run.status keeps (λ is. midway (inl is)) (λ is. midway (inr is)) limit prefix file into (run.old file) (run.old into) (run.now into) t out at.1)
      (λ apart. elim (same_or_other name file) [
        | inl own ↦ subst (λ n. run.now n ≡ run.old n) (sym own) at.0
        | inr other ↦ same name (λ may. elim may [ inl own ↦ other own | inr made ↦ apart made ])
      ])
  task_kept keeps (Move key into limit) file name asks midway same at copy =
      let both = move_kept run.faults_before run.faults_after run.status keeps (λ is. midway (inl is)) (λ is. midway (inr (inl is))) (λ is. midway (inr (inr is))) limit key file into (run.old file) (run.now file) (run.old into) (run.now into) t out at in
      elim (same_or_other name file) [
        | inl own ↦ subst (λ n. HeldOrUndone (run.old n) (run.now n)) (sym own) both.0
        | inr other ↦ at_name name into both.1 (λ apart. same name (λ may. elim may [ inl own ↦ other own | inr made ↦ apart made ]))
      ]
  task_kept keeps (Create form) file name asks midway same at copy =
      at_name name file
      (elim ((making_run run.faults_before run.faults_after run.status form (run.old file) (run.now file) t out counted at).kept keeps) [
        | inl held ↦ inl held
        | inr empty ↦ absurd (midway empty.0)
      ])
      (same name)
  task_kept keeps (Restore limit) file name asks midway same at copy =
      at_name name file
      (elim ((restoring_run run.faults_before run.faults_after run.status limit run.input (run.old file) (run.now file) t out counted (λ done. silent (inl done)) at).kept keeps.0 keeps.1) [
        | inl held ↦ inl held
        | inr eight ↦ absurd (keeps.2 eight.0)
      ])
      (same name)
  task_kept keeps (Backup more suffix) file name asks midway same at copy =
      stopped_kept suffix run.old run.now _ (StopsWith run.status) (λ broken. elim broken.0 [ inl four ↦ keeps.1 four | inr eight ↦ keeps.2 eight ]) (file ∷ more)
      ((backup_run run.faults_before run.faults_after run.status suffix (file ∷ more) run.old run.now t out counted (λ done. silent (inr (inl done))) at).stopped keeps.0) name (λ among. copy (inl (more, suffix, file, inl (refl, among)))) (same name)
  task_kept keeps (Verify more suffix) file name asks midway same at copy =
      verify_kept suffix run.old run.now _ (λ broken. elim broken.0 [ inl four ↦ keeps.1 four | inr eight ↦ keeps.2 eight ]) (file ∷ more)
      ((verify_run run.faults_before run.faults_after run.status suffix (file ∷ more) run.old run.now t out counted (λ done. silent (inr (inr (inl done)))) at).stopped keeps.0) name (λ among. copy (inl (more, suffix, file, inr (refl, among)))) (same name)
  task_kept keeps (Turns options) file name asks midway same at copy = at_name name file (file_kept keeps midway options file (run.old file) at) (same name)
  task_kept keeps (Session limit) file name asks midway same at copy = at_name name file (session_kept keeps limit file midway asks (run.old file) refl at) (same name)
  task_kept keeps (Generate commands seed) file name asks midway same at copy =
      at_name name file
      (elim ((generating_run run.faults_before run.faults_after run.status commands seed run.output (run.old file) (run.now file) t out counted (λ text is zero. absurd (keeps.0 zero)) at).kept keeps.0 keeps.1) [
        | inl held ↦ inl held
        | inr eight ↦ absurd (keeps.2 eight.0)
      ])
      (same name)

  kept : KeepsAll run.status → ((ask : Ask) → run.ask ≡ Some ask → EndsMidway ask.task run.status → ⊥) → (name : List ℕ) → (IsCopyName run.ask name → ⊥) → HeldOrUndone (run.old name) (run.now name)
  kept keeps midway name copy = of run.ask left copy refl
    where
      of : (ask : Option Ask) → Leaving run.input ask run.old t run.now → (IsCopyName ask name → ⊥) → run.ask ≡ ask → HeldOrUndone (run.old name) (run.now name)
      of None left copy is = inl (left name)
      of (Some a) left copy is = task_kept keeps a.task a.file name is (midway a is) left.0 left.1 copy

  pub leaves_files : LeavesFiles run logs later
  leaves_files = record {
    others = others;
    acted = acted;
    absent = λ act name asks none. subst (λ o. OnLeaves act o t (run.now name)) none (asked_left (On act) name asks);
    made = made;
    restored = restoring;
    backed_up = backing_up;
    verified = verifying;
    read = λ look name asks. asked_left (Read look) name asks;
    rescued = λ name asks. asked_left Rescue name asks;
    printed = printed;
    unprinted = λ printout limit name asks none. subst (λ o. PrintLeaves limit o t (run.now name)) none (asked_left (Print printout limit) name asks);
    repacked = repacked;
    unrepacked = unrepacked;
    converted = converted;
    mended = mended;
    merged = merged;
    moved = moved;
    turned = turned;
    unturned = λ options name asks none. subst (λ o. TurnsLeave options o t (run.now name)) none (asked_left (Turns options) name asks);
    served = served;
    unserved = λ limit name asks none. subst (λ o. StaysThere o (run.now name)) none (asked_left (Session limit) name asks);
    generated = generated;
    kept = kept;
  }

-- what a run's status tells whatever the files tell
module _ (tells : Bool) (run : Run) (e t : Ending) (printed : PrintedFor e t) (prints : Printed tells run e) (failed : t ≡ DeviceFault → asks_openers run.ask ≡ false → Rose run.faults_before run.faults_after)
    (sound : (t ≡ DeviceFault → ⊥) → run.faults_after ≡ run.faults_before) (usage : t ≡ Usage → run.ask ≡ None) (usage_exact : run.ask ≡ None → (t ≡ Usage) ⊎ (t ≡ NoMemory))
    (heard : HeardBy run.input.faults_before run.input.faults_after t) (unread : ask_reads run.ask ≡ false → of_input t ≡ false) where
  -- the ending that is printed is the one that was found, where it isn't want of memory
  found : (e ≡ NoMemory → ⊥) → t ≡ e
  found other = elim printed [
    | inl same ↦ sym same
    | inr want ↦ absurd (other want.0)
  ]

  own_status : (n : ℕ) → (n ≡ 8 → ⊥) → run.status ≡ n → status_of e ≡ n
  own_status n other is = elim prints [
    | inl all ↦ sym all.exits ∙ is
    | inr part ↦ absurd (other (sym is ∙ part.exits))
  ]

  usage_asked : run.status ≡ 2 → run.ask ≡ None
  usage_asked is =
      let same : e ≡ Usage = usage_alone e (own_status 2 (λ x. absurd (omega (arith, x))) is) in
      usage (found (λ wants. let both : Usage ≡ NoMemory = sym same ∙ wants in cc) ∙ same)

  usage_status : run.ask ≡ None → Contains (2 ∷ 5 ∷ 8 ∷ []) run.status
  usage_status none = of (exits tells run e t printed prints) (usage_exact none)
    where
      of : Exits run.status t → (t ≡ Usage) ⊎ (t ≡ NoMemory) → Contains (2 ∷ 5 ∷ 8 ∷ []) run.status
      of (inl own) (inl is) = (0, omega arith, sym (own ∙ ap status_of is))
      of (inl own) (inr is) = (1, omega arith, sym (own ∙ ap status_of is))
      of (inr (inl want)) which = (1, omega arith, sym want.0)
      of (inr (inr eight)) which = (2, omega arith, sym eight)

  fault_rose : run.status ≡ 4 → asks_openers run.ask ≡ false → Rose run.faults_before run.faults_after
  fault_rose is none =
      let same : e ≡ DeviceFault = fault_alone e (own_status 4 (λ x. absurd (omega (arith, x))) is) in
      failed (found (λ wants. let both : DeviceFault ≡ NoMemory = sym same ∙ wants in cc) ∙ same) none

  fault_told : (run.status ≡ 4 → ⊥) → (run.status ≡ 8 → ⊥) → run.faults_after ≡ run.faults_before
  fault_told four eight = sound (λ is. elim (fault_exits run.faults_before run.faults_after run.status (subst (Exits run.status) is (exits tells run e t printed prints))) [
    | inl is ↦ four is
    | inr is ↦ eight is
  ])

  -- an ending that tells of the input comes where the input is read
  reads : of_input t ≡ true → ask_reads run.ask ≡ true
  reads tells = of (ask_reads run.ask) unread
    where
      of : (b : Bool) → (b ≡ false → of_input t ≡ false) → b ≡ true
      of true quiet = refl
      of false quiet = absurd (false≢true (sym (quiet refl) ∙ tells))

  output_rose : run.status ≡ 8 → Rose run.output.faults_before run.output.faults_after ⊎ ((ask_reads run.ask ≡ true) × Rose run.input.faults_before run.input.faults_after)
  output_rose is = elim prints [
    | inl all ↦
        (let same : e ≡ InputFault = eight_alone e (sym all.exits ∙ is) in
        let fault : t ≡ InputFault = found (λ wants. let both : InputFault ≡ NoMemory = sym same ∙ wants in cc) ∙ same in
        inr (reads (ap of_input fault), heard.failed fault))
    | inr part ↦ inl part.failed
  ]

  output_told : (run.status ≡ 8 → ⊥) → run.output.faults_after ≡ run.output.faults_before
  output_told other = elim prints [
    | inl all ↦ all.sound
    | inr part ↦ absurd (other part.exits)
  ]

  malformed : run.status ≡ 7 → ask_reads run.ask ≡ true
  malformed is =
      let tells : of_input e ≡ true = seven_tells e (own_status 7 (λ x. absurd (omega (arith, x))) is) in
      reads (ap of_input (found (λ wants. false≢true (sym (ap of_input wants) ∙ tells))) ∙ tells)

  input_told : (run.status ≡ 4 → ⊥) → (run.status ≡ 8 → ⊥) → run.input.faults_after ≡ run.input.faults_before
  input_told four eight = of heard.told
    where
      fault : Exits run.status InputFault → run.status ≡ 8
      fault (inl own) = own
      fault (inr (inl want)) = absurd (false≢true want.1)
      fault (inr (inr is)) = is

      of : (run.input.faults_after ≡ run.input.faults_before) ⊎ (t ≡ InputFault) ⊎ (t ≡ DeviceFault) → run.input.faults_after ≡ run.input.faults_before
      of (inl same) = same
      of (inr (inl is)) = absurd (eight (fault (subst (Exits run.status) is (exits tells run e t printed prints))))
      of (inr (inr is)) = elim (fault_exits run.faults_before run.faults_after run.status (subst (Exits run.status) is (exits tells run e t printed prints))) [
        | inl is ↦ absurd (four is)
        | inr is ↦ absurd (eight is)
      ]

  pub accounted : Accounted run
  accounted = record {
    usage = usage_asked;
    usage_exact = usage_status;
    device_fault = fault_rose;
    device_fault_told = fault_told;
    output_fault = output_rose;
    output_fault_told = output_told;
    malformed = malformed;
    input_fault_told = input_told;
    known = elim prints [
      | inl all ↦ subst Known (sym all.exits) (ending_known e)
      | inr part ↦ subst Known (sym part.exits) (8, omega arith, refl)
    ];
  }
