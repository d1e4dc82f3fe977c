-- What the printing of a file's pairs gives, from what its parts gave.
use Rattle.std.proofs.Common.{◌≡◌, ◌≤◌, ℕ, length, List, [], Option, None, Some, refl, sym, ◌∙◌, ap, subst, inl, inr}
use Rattle.tdb_disk.specs.History.{History, seen}
use Rattle.tdb_disk.specs.declared.files.TakeRefusal.{TakeRefusal}
use Rattle.tdb_disk.specs.declared.files.TakeRefusal.TheVariants as Take
use Rattle.tdb_cmdline.specs.declared.printout.Printout.{Printout}
use Rattle.tdb_cmdline.specs.declared.ask.Task.TheVariants.{Print}
use Rattle.tdb_answer.specs.declared.ending.Ending.{Ending}
use Rattle.tdb_answer.specs.declared.ending.Ending.TheVariants as E
use Rattle.tdb_open.specs.declared.halt.Halt.{Halt}
use Rattle.tdb_open.specs.declared.halt.Halt.TheVariants as H
use Rattle.tdb_answer.specs.Commands.Print.{PrintEnds, PrintLeft, PrintLeaves, PrintText, printout_text}
use Rattle.tdb_answer.specs.Ending.{TaskDue, TaskCause, task_due, task_failed, task_wanting, task_unlogged, CountedBy, Untaken, of_halt}
use Rattle.tdb_answer.specs.Looks.{StandsBefore}
use Rattle.tdb_open.specs.Opening.{opened_bytes, CanOpen, HaltsBelow, LeavesBelow, UndoneIfOpen}
use Rattle.tdb_answer.proofs.Looking.{untaken_stands}
use Rattle.tdb_open.proofs.Openings.{same_or_undone}

-- before the line of an opening that halted nothing stands
pub halted_stands : (text : List ℕ) (halt : Halt) → StandsBefore text (of_halt halt) []
halted_stands text (H.Refused refusal) = refl
halted_stands text H.Device = (0, refl)
halted_stands text H.Memory = (0, refl)
halted_stands text H.Log = refl

-- what is left of a file whose opening halted
pub halted_print : (limit : ℕ) (old now : History) (halt : Halt) → HaltsBelow limit (seen old) halt → LeavesBelow limit halt old now → PrintLeft limit old (of_halt halt) now
halted_print limit old now (H.Refused refusal) right left = (right, left)
halted_print limit old now H.Device right left = left
halted_print limit old now H.Memory right left = same_or_undone old now left
halted_print limit old now H.Log right left = inr left

-- and of one that was opened, and whose pairs were printed or not
pub opened_print : (limit : ℕ) (old now : History) (e : Ending) → length (seen old) ≤ limit → CanOpen (seen old) → UndoneIfOpen old now → PrintEnds e → PrintLeft limit old e now
opened_print limit old now (E.Replied reply) within can undone ends = (within, can, ends, undone)
opened_print limit old now E.DeviceFault within can undone ends = inl (same_or_undone old now undone)
opened_print limit old now E.NoMemory within can undone ends = same_or_undone old now undone
opened_print limit old now E.LogFault within can undone ends = absurd ends
opened_print limit old now (E.Refused refusal) within can undone ends = absurd ends
opened_print limit old now (E.Missing name) within can undone ends = absurd ends
opened_print limit old now (E.There name) within can undone ends = absurd ends
opened_print limit old now E.Usage within can undone ends = absurd ends
opened_print limit old now E.InputFault within can undone ends = absurd ends
opened_print limit old now (E.Malformed at) within can undone ends = absurd ends

-- how it ended is why its task ends so
module _ (printout : Printout) (limit : ℕ) (name : List ℕ) (held : Option History) (h : History) (there : held ≡ Some h) (before after : ℕ) where
  due_there : (e : Ending) → TaskDue (Print printout limit) name (Some h) e → TaskCause (Print printout limit) name held before after e
  due_there e due = task_due e (subst (λ o. TaskDue (Print printout limit) name o e) (sym there) due)

  pub print_cause : (now : History) (e : Ending) → PrintLeft limit h e now → CountedBy before after e → TaskCause (Print printout limit) name held before after e
  print_cause now (E.Replied reply) left counted = due_there (E.Replied reply) (inl (record { within = left.0; can_open = left.1; printed = ap E.Replied left.2 }))
  print_cause now (E.Refused refusal) left counted = due_there (E.Refused refusal) (inr (record { refusal = refusal; right = left.0; refused = refl }))
  print_cause now E.DeviceFault left counted = task_failed (counted.failed refl)
  print_cause now E.NoMemory left counted = task_wanting
  print_cause now E.LogFault left counted = task_unlogged
  print_cause now (E.Missing n) left counted = absurd left
  print_cause now (E.There n) left counted = absurd left
  print_cause now E.Usage left counted = absurd left
  print_cause now E.InputFault left counted = absurd left
  print_cause now (E.Malformed at) left counted = absurd left

-- what is left at its name
pub print_left : (limit : ℕ) (held given : Option History) (h now : History) (e : Ending) → held ≡ Some h → given ≡ Some now → PrintLeft limit h e now → PrintLeaves limit held e given
print_left limit held given h now e there is left = subst (λ o. PrintLeaves limit o e given) (sym there) (now, is, left)

-- and where nothing was done
print_same : (limit : ℕ) (held given : Option History) (e : Ending) → given ≡ held → ((h : History) → PrintLeft limit h e h) → PrintLeaves limit held e given
print_same limit None given e same left = same
print_same limit (Some h) given e same left = (h, same, left h)

pub print_wants : (limit : ℕ) (held : Option History) → PrintLeaves limit held E.NoMemory held
print_wants limit held = print_same limit held held E.NoMemory refl (λ h. inr refl)

-- a file that wasn't taken
pub untaken_print : (limit : ℕ) (name : List ℕ) (held given : Option History) (refusal : TakeRefusal) (e : Ending) → given ≡ held → (refusal ≡ Take.Missing → held ≡ None) → (refusal ≡ Take.There → ⊥) → Untaken name refusal e → PrintLeaves limit held e given
untaken_print limit name held given Take.Missing e same gone free is = subst (λ o. PrintLeaves limit o e given) (sym (gone refl)) (same ∙ gone refl)
untaken_print limit name held given Take.There e same gone free is = absurd (free refl)
untaken_print limit name held given Take.Failed e same gone free is = subst (λ x. PrintLeaves limit held x given) (sym is) (print_same limit held given E.DeviceFault same (λ h. inl (inr refl)))
untaken_print limit name held given Take.Memory e same gone free is = subst (λ x. PrintLeaves limit held x given) (sym is) (print_same limit held given E.NoMemory same (λ h. inr refl))

pub untaken_print_text : (printout : Printout) (held : Option History) (name : List ℕ) (refusal : TakeRefusal) (e : Ending) → Untaken name refusal e → PrintText printout held e []
untaken_print_text printout None name refusal e is = refl
untaken_print_text printout (Some h) name refusal e is = untaken_stands (printout_text printout (opened_bytes (seen h))) name refusal e is
