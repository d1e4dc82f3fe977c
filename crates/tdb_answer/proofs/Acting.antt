-- What acts on a file give, from what their parts gave.
use Rattle.std.proofs.Common.{◌≡◌, ◌⊎◌, ℕ, ◌≤◌, [], ◌∷◌, false, length, List, Option, None, Some, Ok, Err, refl, sym, ◌∙◌, ap, subst, inl, inr, arith}
use Rattle.std.specs.Prelude.{IsSome}
use Rattle.std.proofs.lemmas.Bool.{false≢true}
use Rattle.tdb_disk.specs.Count.{Rose}
use Rattle.tdb_disk.specs.History.{History, seen}
use Rattle.tdb_disk.specs.declared.files.TakeRefusal.{TakeRefusal}
use Rattle.tdb_disk.specs.declared.files.TakeRefusal.TheVariants as Take
use Rattle.tdb_cmdline.specs.declared.act.Act.{Act}
use Rattle.tdb_cmdline.specs.declared.act.Verb.{Verb}
use Rattle.tdb_cmdline.specs.declared.act.Verb.TheVariants.{Show, Insert, Store, Delete, Erase, Check, First, Next, TransactionStart, TransactionCommit, TransactionCancel, Quit}
use Rattle.tdb_steps.specs.Wiped.{at_end}
use Rattle.tdb_open.specs.declared.halt.Refusal.TheVariants.{TooLong}
use Rattle.tdb_cmdline.specs.declared.ask.Task.{Task}
use Rattle.tdb_cmdline.specs.declared.ask.Task.TheVariants.{Create, On, Read, Rescue, Print, Repack, Restore, Backup, Verify, Convert, Merge, Mend, Move, Turns, Session, Generate}
use Rattle.tdb_cmdline.specs.declared.lines.create.NewFile.{NewFile}
use Rattle.tdb_answer.specs.declared.commands.create.Creation as Making
use Rattle.tdb_answer.specs.declared.ending.Ending.{Ending}
use Rattle.tdb_answer.specs.declared.ending.Ending.TheVariants as E
use Rattle.tdb_answer.specs.declared.ending.Reply.{Reply}
use Rattle.tdb_answer.specs.declared.ending.Reply.TheVariants.{Done}
use Rattle.tdb_open.specs.declared.halt.Fault.{Fault}
use Rattle.tdb_open.specs.declared.halt.Fault.TheVariants as F
use Rattle.tdb_open.specs.declared.halt.Halt.{Halt}
use Rattle.tdb_open.specs.declared.halt.Halt.TheVariants.{Refused, Device, Memory, Log}
use Rattle.tdb_cmdline.specs.Ask.{Ask}
use Rattle.tdb_answer.specs.Acts.{reply_of, Does, Breaks, Leaves, Acted, ActedAndTold, OpenedAndActed}
use Rattle.tdb_answer.specs.Commands.Create.{CreateCause, CreateLeaves}
use Rattle.tdb_answer.specs.Commands.Merge.{file_untaken}
use Rattle.tdb_answer.specs.Commands.Moving.{from_untaken}
use Rattle.tdb_answer.specs.Ending.{TaskDue, Replies, Refuses, TaskCause, task_due, task_failed, task_wanting, task_unlogged, Untaken, MadeSo, of_halt}
use Rattle.tdb_answer.specs.Left.{ActLeaves, OnLeaves, MakingLeaves, TaskLeaves, Leaving}
use Rattle.tdb_answer.specs.Commands.Backup.{BackupCause}
use Rattle.tdb_answer.specs.Commands.Restore.{of_input, HeardBy}
use Rattle.tdb_answer.specs.Commands.Session.{StaysThere}
use Rattle.tdb_answer.specs.Commands.Turns.{TurnsLeave}
use Rattle.tdb_answer.specs.Commands.Verify.{VerifyCause}
use Rattle.tdb_commands.specs.declared.options.Options.{Options}
use Rattle.tdb_answer.specs.Reads.{AskEnds, GenCause}
use Rattle.tdb_answer.specs.Input.{Input}
use Rattle.tdb_open.specs.Opening.{opened_bytes, CanOpen, UndoneIfOpen, HaltsBelow, LeavesBelow, of_fault}
use Rattle.tdb_open.proofs.Openings.{same_or_undone}
use Rattle.tdb_answer.proofs.Damaged.{stays_synced}
use Rattle.tdb_answer.proofs.Printing.{print_wants}
use Rattle.tdb_answer.proofs.Repacking.{repack_wants}

-- a failed call behind an act that was done leaves what one in its midst may leave
done_breaks : (verb : Verb) (limit : ℕ) (old now : History) → Does limit verb old now → Breaks verb old now
done_breaks (Show key) limit old now does = does
done_breaks (Insert key value) limit old now does = does.changed.only
done_breaks (Store key value) limit old now does = does.changed.only
done_breaks (Delete key) limit old now does = record { out = []; accepted = does.changed.accepted; map = inr does.changed.map; only = does.changed.only }
done_breaks Erase limit old now does = at_end does.wiped
done_breaks Check limit old now does = does
done_breaks First limit old now does = does
done_breaks Next limit old now does = does
done_breaks TransactionStart limit old now does = does
done_breaks TransactionCommit limit old now does = does
done_breaks TransactionCancel limit old now does = does
done_breaks Quit limit old now does = does

-- the growth wasn't told of a file on which an act was done
pub growth_untold : (limit : ℕ) (verb : Verb) (old mid now : History) (fault : Fault) → Acted limit verb old mid (Ok Done) → now ≡ mid → (fault ≡ F.Device) ⊎ (fault ≡ F.Log) → ActedAndTold limit verb old now (Err fault)
growth_untold limit verb old mid now fault acted same (inl is) =
    subst (λ x. ActedAndTold limit verb old now (Err x)) (sym is) (subst (Breaks verb old) (sym same) (done_breaks verb limit old mid (acted.1.done (sym acted.0))))
growth_untold limit verb old mid now fault acted same (inr is) = subst (λ x. ActedAndTold limit verb old now (Err x)) (sym is) (subst (Leaves limit verb old) (sym same) acted.1)

module _ (act : Act) (old : History) where
  -- an opening that halted
  pub halted : (now : History) (halt : Halt) → HaltsBelow act.limit (seen old) halt → LeavesBelow act.limit halt old now → OpenedAndActed act old now (Err halt)
  halted now (Refused refusal) right left = (right, left)
  halted now Device right left = inl left
  halted now Memory right left = left
  halted now Log right left = inl left

  module _ (within : length (seen old) ≤ act.limit) (mid now : History) (can : CanOpen (seen old)) (undone : UndoneIfOpen old mid) (reads : seen mid ≡ opened_bytes (seen old)) where
    -- an act that replied over the opened file, and one that didn't
    pub replied : (reply : Reply) → Acted act.limit act.verb mid now (Ok reply) → OpenedAndActed act old now (Ok reply)
    replied reply acted = (within, can, acted.0 ∙ ap (reply_of act) reads, record { opened = mid; undone = undone; reads = reads; leaves = acted.1 })

    pub faulted : (fault : Fault) → ActedAndTold act.limit act.verb mid now (Err fault) → OpenedAndActed act old now (Err (of_fault fault))
    faulted F.Device acted = inr (record { opened = mid; undone = undone; reads = reads; breaks = acted })
    faulted F.Memory acted = subst (UndoneIfOpen old) (sym acted) undone
    faulted F.Log acted = inr (record { opened = mid; undone = undone; reads = reads; leaves = acted })

-- a count that rose from a later value rose
pub rose_earlier : (before mid now : ℕ) → before ≤ mid → Rose mid now → Rose before now
rose_earlier before mid now later rose = omega arith

module _ (act : Act) (name : List ℕ) (held : Option History) (before after : ℕ) where
  module _ (h : History) (there : held ≡ Some h) where
    due_there : (e : Ending) → Replies act (seen h) e ⊎ Refuses act.limit (seen h) e → TaskCause (On act) name held before after e
    due_there e due = task_due e (subst (λ o. TaskDue (On act) name o e) (sym there) due)

    left_there : (given : Option History) (e : Ending) (now : History) → given ≡ Some now → ActLeaves act h e now → OnLeaves act held e given
    left_there given e now is left = subst (λ o. OnLeaves act o e given) (sym there) (now, is, left)

    -- a file that was opened and acted on
    pub replied_cause : (now : History) (reply : Reply) → OpenedAndActed act h now (Ok reply) → TaskCause (On act) name held before after (E.Replied reply)
    replied_cause now reply acted = due_there (E.Replied reply) (inl (record { within = acted.0; can_open = acted.1; replied = ap E.Replied acted.2 }))

    pub replied_left : (given : Option History) (now : History) (reply : Reply) → given ≡ Some now → OpenedAndActed act h now (Ok reply) → OnLeaves act held (E.Replied reply) given
    replied_left given now reply is acted = left_there given (E.Replied reply) now is (acted.2, acted.3)

    -- one that wasn't
    pub halted_cause : (now : History) (halt : Halt) → OpenedAndActed act h now (Err halt) → (halt ≡ Device → Rose before after) → TaskCause (On act) name held before after (of_halt halt)
    halted_cause now (Refused refusal) acted rose = due_there (E.Refused refusal) (inr (record { refusal = refusal; right = acted.0; refused = refl }))
    halted_cause now Device acted rose = task_failed (rose refl)
    halted_cause now Memory acted rose = task_wanting
    halted_cause now Log acted rose = task_unlogged

    pub halted_left : (given : Option History) (now : History) (halt : Halt) → given ≡ Some now → OpenedAndActed act h now (Err halt) → OnLeaves act held (of_halt halt) given
    halted_left given now (Refused refusal) is acted = left_there given (E.Refused refusal) now is acted.1
    halted_left given now Device is acted = left_there given E.DeviceFault now is acted
    halted_left given now Memory is acted = left_there given E.NoMemory now is (same_or_undone h now acted)
    halted_left given now Log is acted = left_there given E.LogFault now is acted

-- a file that wasn't taken, and that a task misses where it isn't there
pub untaken_cause : (task : Task) (name : List ℕ) (held : Option History) (before after : ℕ) → TaskDue task name None (E.Missing name)
    → (refusal : TakeRefusal) (e : Ending) → (refusal ≡ Take.Missing → held ≡ None) → (refusal ≡ Take.There → ⊥) → (refusal ≡ Take.Failed → Rose before after) → Untaken name refusal e → TaskCause task name held before after e
untaken_cause task name held before after misses Take.Missing e gone free rose (inl is) = task_due e (subst (λ (q : Option History × Ending). TaskDue task name q.0 q.1) (λ j. (sym (gone refl) j, sym is j)) misses)
untaken_cause task name held before after misses Take.Missing e gone free rose (inr is) = subst (TaskCause task name held before after) (sym is) task_wanting
untaken_cause task name held before after misses Take.There e gone free rose is = absurd (free refl)
untaken_cause task name held before after misses Take.Failed e gone free rose is = subst (TaskCause task name held before after) (sym is) (task_failed (rose refl))
untaken_cause task name held before after misses Take.Memory e gone free rose is = subst (TaskCause task name held before after) (sym is) task_wanting

-- what is held where nothing was done
left_same : (act : Act) (held given : Option History) (e : Ending) → given ≡ held → ((h : History) → ActLeaves act h e h) → OnLeaves act held e given
left_same act None given e same leaves = same
left_same act (Some h) given e same leaves = (h, same, leaves h)

pub untaken_left : (act : Act) (name : List ℕ) (held given : Option History) (refusal : TakeRefusal) (e : Ending) → given ≡ held → (refusal ≡ Take.Missing → held ≡ None) → (refusal ≡ Take.There → ⊥) → Untaken name refusal e → OnLeaves act held e given
untaken_left act name held given Take.Missing e same gone free is = subst (λ o. OnLeaves act o e given) (sym (gone refl)) (same ∙ gone refl)
untaken_left act name held given Take.There e same gone free is = absurd (free refl)
untaken_left act name held given Take.Failed e same gone free is = subst (λ x. OnLeaves act held x given) (sym is) (left_same act held given E.DeviceFault same (λ h. inl (inl (inr refl))))
untaken_left act name held given Take.Memory e same gone free is = subst (λ x. OnLeaves act held x given) (sym is) (left_same act held given E.NoMemory same (λ h. inr refl))

-- a file that was to be made
module _ (form : NewFile) (name : List ℕ) (held : Option History) where
  pub made_cause : (before after : ℕ) (creation : Making.Creation) (e : Ending) → CreateCause form held before after creation → MadeSo name creation e → TaskCause (Create form) name held before after e
  made_cause before after Making.TheVariants.Made e cause is = task_due e (subst (λ o. TaskDue (Create form) name o e) (sym cause.0) (inl (cause.1, is)))
  made_cause before after Making.TheVariants.There e cause (inl is) = task_due e (there held cause)
    where
      there : (o : Option History) → IsSome o → TaskDue (Create form) name o e
      there None some = absurd (false≢true some)
      there (Some h) some = is
  made_cause before after Making.TheVariants.There e cause (inr is) = subst (TaskCause (Create form) name held before after) (sym is) task_wanting
  made_cause before after (Making.TheVariants.TooLong len) e cause is =
      task_due e (subst (λ o. TaskDue (Create form) name o e) (sym cause.0) (inr (cause.2, is ∙ ap (λ n. E.Refused (TooLong n)) cause.1)))
  made_cause before after Making.TheVariants.Device e cause is = subst (TaskCause (Create form) name held before after) (sym is) (task_failed cause)
  made_cause before after Making.TheVariants.Memory e cause is = subst (TaskCause (Create form) name held before after) (sym is) task_wanting

  pub made_left : (before after : ℕ) (given : Option History) (creation : Making.Creation) (e : Ending) → CreateCause form held before after creation → CreateLeaves form.form held creation given → MadeSo name creation e → MakingLeaves form held e given
  made_left before after given Making.TheVariants.Made e cause left is = subst (λ x. MakingLeaves form held x given) (sym is) (refl, left)
  made_left before after given Making.TheVariants.There e cause left (inl is) = subst (λ x. MakingLeaves form held x given) (sym is) left
  made_left before after given Making.TheVariants.There e cause left (inr is) = subst (λ x. MakingLeaves form held x given) (sym is) left
  made_left before after given (Making.TheVariants.TooLong len) e cause left is = subst (λ x. MakingLeaves form held x given) (sym is) (ap TooLong cause.1, cause.2, left)
  made_left before after given Making.TheVariants.Device e cause left is = subst (λ x. MakingLeaves form held x given) (sym is) left
  made_left before after given Making.TheVariants.Memory e cause left is = subst (λ x. MakingLeaves form held x given) (sym is) left

-- want of memory for the words leaves all as it is
on_wants : (act : Act) (held : Option History) → OnLeaves act held E.NoMemory held
on_wants act None = refl
on_wants act (Some h) = (h, refl, inr refl)

turns_want : (options : Options) (held : Option History) → TurnsLeave options held E.NoMemory held
turns_want options None = refl
turns_want options (Some h) = (h, refl, inl (inr refl))

stays_same : (held : Option History) → StaysThere held held
stays_same None = refl
stays_same (Some h) = (h, refl)

task_wants : (input : Input) (task : Task) (file : List ℕ) (held : List ℕ → Option History) → TaskLeaves input task file held E.NoMemory held
task_wants input (On act) file held = on_wants act (held file)
task_wants input (Read look) file held = refl
task_wants input Rescue file held = refl
task_wants input (Print printout limit) file held = print_wants limit (held file)
task_wants input (Repack limit) file held = repack_wants limit file held
task_wants input (Convert new made prefix) file held = (refl, inl (refl, inr (inr refl)))
task_wants input (Mend new) file held = (stays_synced (held file), inl (refl, inr (inr refl)))
task_wants input (Merge into prefix limit) file held = (refl, file_untaken refl (inr (inr refl)))
task_wants input (Move key into limit) file held = from_untaken refl refl (inr (inr refl))
task_wants input (Create form) file held = refl
task_wants input (Restore limit) file held = record { left = inl refl; done = λ is. absurd (omega (arith, is)); there = λ some. refl }
task_wants input (Backup more suffix) file held = record {
  known = tt;
  done = λ is. cc;
  stopped = λ other. inr (record { kept = inl (inl refl); copy = refl; left = inl (inl refl) }, λ name among. refl, inr (inr (inl refl)));
}
task_wants input (Verify more suffix) file held = record {
  known = inr tt;
  done = λ is. cc;
  stopped = λ other. inr (inl (record { own = inl (inl refl); copy = inl (inl refl); left = inl (inl refl) }), λ name among. refl);
}
task_wants input (Turns options) file held = turns_want options (held file)
task_wants input (Session limit) file held = stays_same (held file)
task_wants input (Generate commands seed) file held = refl

pub words_want : (input : Input) (ask : Option Ask) (held : List ℕ → Option History) → Leaving input ask held E.NoMemory held
words_want input None held = λ name. refl
words_want input (Some a) held = (λ other apart. refl, task_wants input a.task a.file held)

-- why a backup ended so is why its task did
pub backup_ends : (input : Input) (task : Task) (more : List (List ℕ)) (suffix name : List ℕ) (held : List ℕ → Option History) (before after : ℕ) (e : Ending) → task ≡ Backup more suffix → BackupCause (name ∷ more) held before after e
    → AskEnds input task name held before after e
backup_ends input task more suffix name held before after e is (inl ends) = inr (inl (record { more = more; suffix = suffix; backs_up = is; ends = ends }))
backup_ends input task more suffix name held before after e is (inr (inl fault)) = inl (inl (subst (TaskCause task name (held name) before after) (sym fault.0) (task_failed fault.1)))
backup_ends input task more suffix name held before after e is (inr (inr (inr unlogged))) = inl (inl (subst (TaskCause task name (held name) before after) (sym unlogged) task_unlogged))
backup_ends input task more suffix name held before after e is (inr (inr (inl wanting))) = inl (inl (subst (TaskCause task name (held name) before after) (sym wanting) task_wanting))

-- and why a verification ended so
pub verify_ends : (input : Input) (task : Task) (more : List (List ℕ)) (suffix name : List ℕ) (held : List ℕ → Option History) (before after : ℕ) (e : Ending) → task ≡ Verify more suffix → VerifyCause suffix (name ∷ more) held before after e
    → AskEnds input task name held before after e
verify_ends input task more suffix name held before after e is (inl ends) = inr (inr (inl (record { more = more; suffix = suffix; text = ends.0; verifies = is; ends = ends.1 })))
verify_ends input task more suffix name held before after e is (inr (inl fault)) = inl (inl (subst (TaskCause task name (held name) before after) (sym fault.0) (task_failed fault.1)))
verify_ends input task more suffix name held before after e is (inr (inr (inr unlogged))) = inl (inl (subst (TaskCause task name (held name) before after) (sym unlogged) task_unlogged))
verify_ends input task more suffix name held before after e is (inr (inr (inl wanting))) = inl (inl (subst (TaskCause task name (held name) before after) (sym wanting) task_wanting))

-- and why generated commands ended so
pub gen_ends : (input : Input) (task : Task) (commands seed : ℕ) (name : List ℕ) (held : List ℕ → Option History) (before after : ℕ) (e : Ending) → task ≡ Generate commands seed → GenCause commands seed name (held name) before after e → AskEnds input task name held before after e
gen_ends input task commands seed name held before after e is (inl cause) = inl (inl (subst (λ t. TaskCause t name (held name) before after e) (sym is) cause))
gen_ends input task commands seed name held before after e is (inr ends) = inr (inr (inr (inl (record { commands = commands; seed = seed; generates = is; none = ends.0; ends = ends.1 }))))

-- an ending that tells nothing of the input, which was left as it was
pub not_heard : (before after : ℕ) (e : Ending) → after ≡ before → of_input e ≡ false → HeardBy before after e
not_heard before after e same other = record { failed = λ is. absurd (false≢true (sym other ∙ ap of_input is)); told = inl same }
