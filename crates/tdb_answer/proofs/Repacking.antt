-- What the writing of a file anew in its place gives, from what its parts gave.
use Rattle.std.proofs.Common.{◌≡◌, ◌≤◌, ℕ, List, [], Option, None, Some, length, refl, sym, ◌∙◌, ap, subst, inl, inr}
use Rattle.std.specs.Prelude.{IsTrue, Bool, Result, Ok, Err, IfErr, false}
use Rattle.tdb_disk.specs.Count.{Rose}
use Rattle.tdb_disk.specs.History.{History, seen}
use Rattle.tdb_disk.specs.Names.{moved}
use Rattle.tdb_disk.specs.declared.files.TakeRefusal.{TakeRefusal}
use Rattle.tdb_disk.specs.declared.files.TakeRefusal.TheVariants as Take
use Rattle.tdb_space.specs.Form.{form_of}
use Rattle.tdb_cmdline.specs.declared.ask.Task.{Task}
use Rattle.tdb_cmdline.specs.declared.ask.Task.TheVariants.{Repack}
use Rattle.tdb_open.specs.declared.halt.Halt.{Halt}
use Rattle.tdb_open.specs.declared.halt.Halt.TheVariants as H
use Rattle.tdb_open.specs.Opening.{opened_bytes, CanOpen, HaltsBelow, LeavesBelow, UndoneIfOpen}
use Rattle.tdb_open.proofs.Openings.{same_or_undone}
use Rattle.tdb_answer.specs.declared.ending.Ending.{Ending}
use Rattle.tdb_answer.specs.declared.ending.Ending.TheVariants as E
use Rattle.tdb_answer.specs.declared.ending.Reply.TheVariants.{Done}
use Rattle.tdb_answer.specs.Commands.Backup.{IsLeftOf, IsUntaken, IsUntakenNew}
use Rattle.tdb_answer.specs.Commands.Repack.{NewStands, NotRepacked, NewUnmade, NewHeld, RepackStopped, RepackLeft, RepackLeaves}
use Rattle.tdb_answer.specs.Commands.Restore.{of_input}
use Rattle.tdb_answer.specs.Commands.Rewriting.{HoldsAnew, NotWrittenTo, anew_ending}
use Rattle.tdb_answer.specs.Ending.{Untaken, TaskCause, task_due, task_failed, task_wanting, task_unlogged, CountedBy, TaskDue, of_halt}
use Rattle.tdb_answer.specs.Input.{Input}
use Rattle.tdb_answer.specs.Reads.{AskEnds}

-- a new file wasn't taken: what stands at its name
pub untaken_unmade : (tells : Bool) (limit : ℕ) (img : List ℕ) (e : Ending) (old now : Option History) → IsUntakenNew tells e → IsTrue tells → IsLeftOf old now → NewUnmade limit img e old now
untaken_unmade tells limit img e old now (inl is) told left = subst (λ x. NewUnmade limit img x old now) (sym is) tt
untaken_unmade tells limit img e old now (inr (inl is)) told left = subst (λ x. NewUnmade limit img x old now) (sym is) left
untaken_unmade tells limit img e old now (inr (inr there)) told left = absurd (there.0 told)

pub untaken_asked : (tells : Bool) (e : Ending) → IsUntakenNew tells e → e ≡ E.Usage → ⊥
untaken_asked tells e (inl is) usage = let both : E.DeviceFault ≡ E.Usage = sym is ∙ usage in cc
untaken_asked tells e (inr (inl is)) usage = let both : E.NoMemory ≡ E.Usage = sym is ∙ usage in cc
untaken_asked tells e (inr (inr there)) usage = let both : E.There there.1.0 ≡ E.Usage = sym there.1.1 ∙ usage in cc

pub untaken_unread : (tells : Bool) (e : Ending) → IsUntakenNew tells e → of_input e ≡ false
untaken_unread tells e (inl is) = ap of_input is
untaken_unread tells e (inr (inl is)) = ap of_input is
untaken_unread tells e (inr (inr there)) = ap of_input there.1.1

-- one that was taken wasn't written to its end
pub unwritten_unmade : (limit : ℕ) (img : List ℕ) (e : Ending) (old now : Option History) → NotWrittenTo img [] (form_of img) limit e now → NewUnmade limit img e old now
unwritten_unmade limit img (E.Replied reply) old now left = left
unwritten_unmade limit img E.DeviceFault old now left = tt
unwritten_unmade limit img E.NoMemory old now left = inr left
unwritten_unmade limit img (E.Refused refusal) old now left = absurd left
unwritten_unmade limit img (E.Missing name) old now left = absurd left
unwritten_unmade limit img (E.There name) old now left = absurd left
unwritten_unmade limit img E.Usage old now left = absurd left
unwritten_unmade limit img E.LogFault old now left = absurd left
unwritten_unmade limit img E.InputFault old now left = absurd left
unwritten_unmade limit img (E.Malformed at) old now left = absurd left

-- no log refuses it
pub unmade_unlogged : (limit : ℕ) (img : List ℕ) (e : Ending) (old now : Option History) → NewUnmade limit img e old now → e ≡ E.LogFault → ⊥
unmade_unlogged limit img e old now left is = subst (λ x. NewUnmade limit img x old now) is left

pub anew_unlogged : (tells : Bool) (limit : ℕ) (img : List ℕ) (old now : Option History) (r : Result (Unit {0}) Ending) → IsTrue tells → IfErr r (λ e. IsTrue tells → NewUnmade limit img e old now) → anew_ending r ≡ E.LogFault → ⊥
anew_unlogged tells limit img old now (Ok done) told left is = cc
anew_unlogged tells limit img old now (Err e) told left is = unmade_unlogged limit img e old now (left told) is

-- a file on a disk, from its opening on
module _ (limit : ℕ) (was : History) (old now : Option History) where
  module _ (mid is : History) (within : length (seen was) ≤ limit) (can : CanOpen (seen was)) (undone : UndoneIfOpen was mid) (reads : seen mid ≡ opened_bytes (seen was)) (same : is ≡ mid) where
    pub opened_stands : HoldsAnew (seen mid) [] (form_of (seen mid)) now → NewStands limit was is now
    opened_stands holds =
        let new = subst (λ img. HoldsAnew img [] (form_of img) now) reads holds in
        record {
          within = within;
          can_open = can;
          undone = subst (UndoneIfOpen was) (sym same) undone;
          new = new.0;
          stands = new.1;
          repacked = new.2;
        }

    here : (e : Ending) → NewUnmade limit (opened_bytes (seen was)) e old now → NotRepacked limit was e mid old now
    here (E.Replied reply) left = (within, can, left.0, undone, left.1)
    here E.DeviceFault left = inl (same_or_undone was mid undone)
    here E.NoMemory left = (same_or_undone was mid undone, left)
    here (E.Refused refusal) left = absurd left
    here (E.Missing name) left = absurd left
    here (E.There name) left = absurd left
    here E.Usage left = absurd left
    here E.LogFault left = absurd left
    here E.InputFault left = absurd left
    here (E.Malformed at) left = absurd left

    pub opened_unmade : (e : Ending) → NewUnmade limit (seen mid) e old now → NotRepacked limit was e is old now
    opened_unmade e left = subst (λ h. NotRepacked limit was e h old now) (sym same) (here e (subst (λ img. NewUnmade limit img e old now) reads left))

  -- one whose opening halted
  halted_there : (is : History) (halt : Halt) → HaltsBelow limit (seen was) halt → LeavesBelow limit halt was is → now ≡ old → NotRepacked limit was (of_halt halt) is old now
  halted_there is (H.Refused refusal) right left same = (right, left, same)
  halted_there is H.Device right left same = left
  halted_there is H.Memory right left same = (same_or_undone was is left, inl same)
  halted_there is H.Log right left same = (inr left, same)

  pub halted_unmade : (is : History) (halt : Halt) (e : Ending) → e ≡ of_halt halt → HaltsBelow limit (seen was) halt → LeavesBelow limit halt was is → now ≡ old → NotRepacked limit was e is old now
  halted_unmade is halt e told right left same = subst (λ x. NotRepacked limit was x is old now) (sym told) (halted_there is halt right left same)

-- the file at a name that wasn't taken
pub untaken_stopped : (limit : ℕ) (file : List ℕ) (old now made_old made_now : Option History) (refusal : TakeRefusal) (e : Ending) → now ≡ old → made_now ≡ made_old → (refusal ≡ Take.Missing → old ≡ None) → (refusal ≡ Take.There → ⊥) → Untaken file refusal e
    → RepackStopped limit file old now made_old made_now e
untaken_stopped limit file old now made_old made_now Take.Missing e own new gone is_new (inl is) = inl (own, new, inl (gone refl, is))
untaken_stopped limit file old now made_old made_now Take.Missing e own new gone is_new (inr is) = inl (own, new, inr (inr is))
untaken_stopped limit file old now made_old made_now Take.There e own new gone is_new is = absurd (is_new refl)
untaken_stopped limit file old now made_old made_now Take.Failed e own new gone is_new is = inl (own, new, inr (inl is))
untaken_stopped limit file old now made_old made_now Take.Memory e own new gone is_new is = inl (own, new, inr (inr is))

-- the new file got the name of the file
pub renamed_left : (limit : ℕ) (file : List ℕ) (old mid now made_old made_mid made_now : Option History) → NewHeld limit old mid made_mid → now ≡ moved made_mid mid → made_now ≡ None → RepackLeft limit file old now made_old made_now (E.Replied Done)
renamed_left limit file old mid now made_old made_mid made_now held got gone =
    inl (
      refl,
      record {
        was = held.was;
        is = held.new.new;
        there = held.there;
        stands = got ∙ ap (λ o. moved o mid) held.new.stands;
        within = held.new.within;
        can_open = held.new.can_open;
        repacked = (held.new.repacked, gone);
      },
    )

-- it didn't get it
pub unnamed_left : (limit : ℕ) (file : List ℕ) (old mid now made_old made_mid made_now : Option History) → NewHeld limit old mid made_mid → now ≡ mid → RepackLeft limit file old now made_old made_now E.DeviceFault
unnamed_left limit file old mid now made_old made_mid made_now held same =
    inr (inr (record {
      was = held.was;
      is = held.is;
      there = held.there;
      stands = same ∙ held.stands;
      halted = inl (same_or_undone held.was held.is held.new.undone);
    }))

-- why the command ended so is why its task did
module _ (input : Input) (task : Task) (limit : ℕ) (name : List ℕ) (held : List ℕ → Option History) (before after : ℕ) (is : task ≡ Repack limit) where
  caused : (e : Ending) → TaskCause (Repack limit) name (held name) before after e → AskEnds input task name held before after e
  caused e cause = inl (inl (subst (λ t. TaskCause t name (held name) before after e) (sym is) cause))

  untaken_ends : (e : Ending) → IsUntaken name (held name) e → (e ≡ E.DeviceFault → Rose before after) → AskEnds input task name held before after e
  untaken_ends e (inl missing) rose = caused e (task_due e (subst (λ o. TaskDue (Repack limit) name o e) (sym missing.0) missing.1))
  untaken_ends e (inr (inl fault)) rose = caused e (subst (TaskCause (Repack limit) name (held name) before after) (sym fault) (task_failed (rose fault)))
  untaken_ends e (inr (inr wanting)) rose = caused e (subst (TaskCause (Repack limit) name (held name) before after) (sym wanting) task_wanting)

  halted_ends : (e : Ending) (was now : History) (made_old made_now : Option History) → held name ≡ Some was → NotRepacked limit was e now made_old made_now → (e ≡ E.DeviceFault → Rose before after) → AskEnds input task name held before after e
  halted_ends (E.Replied reply) was now made_old made_now there left rose =
      inr (inr (inr (inr (inl (record { limit = limit; was = was; repacks = is; there = there; ends = record { within = left.0; can_open = left.1; ends = inr (reply, left.2, refl) } })))))
  halted_ends (E.Refused refusal) was now made_old made_now there left rose =
      caused (E.Refused refusal) (task_due (E.Refused refusal) (subst (λ o. TaskDue (Repack limit) name o (E.Refused refusal)) (sym there) (record { refusal = refusal; right = left.0; refused = refl })))
  halted_ends E.DeviceFault was now made_old made_now there left rose = caused E.DeviceFault (task_failed (rose refl))
  halted_ends E.NoMemory was now made_old made_now there left rose = caused E.NoMemory task_wanting
  halted_ends E.LogFault was now made_old made_now there left rose = caused E.LogFault task_unlogged
  halted_ends (E.Missing n) was now made_old made_now there left rose = absurd left
  halted_ends (E.There n) was now made_old made_now there left rose = absurd left
  halted_ends E.Usage was now made_old made_now there left rose = absurd left
  halted_ends E.InputFault was now made_old made_now there left rose = absurd left
  halted_ends (E.Malformed at) was now made_old made_now there left rose = absurd left

  pub repack_ends : (e : Ending) (now made_old made_now : Option History) → RepackLeft limit name (held name) now made_old made_now e → CountedBy before after e → AskEnds input task name held before after e
  repack_ends e now made_old made_now (inl done) counted =
      inr (inr (inr (inr (inl (record { limit = limit; was = done.1.was; repacks = is; there = done.1.there; ends = record { within = done.1.within; can_open = done.1.can_open; ends = inl done.0 } })))))
  repack_ends e now made_old made_now (inr (inl untaken)) counted = untaken_ends e untaken.2 counted.failed
  repack_ends e now made_old made_now (inr (inr halted)) counted = halted_ends e halted.was halted.is made_old made_now halted.there halted.halted counted.failed

-- want of memory before the file is taken leaves all as it is
pub repack_wants : (limit : ℕ) (file : List ℕ) (held : List ℕ → Option History) → RepackLeaves limit file held E.NoMemory held
repack_wants limit file held = inr (inl (refl, refl, inr (inr refl)))
