-- What the making of another file of the pairs of one gives, from what its parts gave.
use Rattle.std.proofs.Common.{◌≡◌, ◌⊎◌, ◌<◌, ℕ, List, [], Option, None, Some, refl, sym, ◌∙◌, ap, subst, inl, inr}
use Rattle.std.specs.Prelude.{IsSome, Result, Ok, Err, IfErr, false}
use Rattle.std.proofs.lemmas.Bool.{false≢true}
use Rattle.tdb_disk.specs.Count.{Rose}
use Rattle.tdb_disk.specs.History.{History, seen}
use Rattle.tdb_disk.specs.declared.files.TakeRefusal.{TakeRefusal}
use Rattle.tdb_disk.specs.declared.files.TakeRefusal.TheVariants as Take
use Rattle.tdb_cmdline.specs.declared.ask.Task.{Task}
use Rattle.tdb_cmdline.specs.declared.ask.Task.TheVariants.{Convert}
use Rattle.tdb_cmdline.specs.declared.lines.create.NewFile.{NewFile}
use Rattle.tdb_open.specs.Creating.{new_length}
use Rattle.tdb_open.specs.declared.halt.Halt.{Halt}
use Rattle.tdb_open.specs.declared.halt.Halt.TheVariants as H
use Rattle.tdb_open.specs.declared.halt.Refusal.TheVariants.{TooLong}
use Rattle.tdb_open.specs.Opening.{IsRefusedToReadBelow, ReadHaltsBelow}
use Rattle.tdb_answer.specs.declared.ending.Ending.{Ending}
use Rattle.tdb_answer.specs.declared.ending.Ending.TheVariants as E
use Rattle.tdb_answer.specs.declared.ending.Reply.TheVariants.{Copied}
use Rattle.tdb_answer.specs.declared.ending.Unprinted.{Unprinted}
use Rattle.tdb_answer.specs.declared.ending.Unprinted.TheVariants as Rest
use Rattle.tdb_answer.specs.Commands.Backup.{IsUntaken}
use Rattle.tdb_answer.specs.Commands.Convert.{CanConvert, IsConverted, WasConverted, IsTooLarge, ConvertLeft, EndsUnconverted, ConvertLeaves, ToldLeft}
use Rattle.tdb_answer.specs.Commands.Restore.{of_input}
use Rattle.tdb_answer.specs.Commands.Rewriting.{made_form, NotWrittenTo, EndsUnwritten, anew_ending}
use Rattle.tdb_answer.specs.Ending.{Untaken, TaskCause, TaskDue, task_due, task_failed, task_wanting, task_unlogged, CountedBy, of_halt}
use Rattle.tdb_answer.specs.Input.{Input}
use Rattle.tdb_answer.specs.Looks.{StandsBefore, before_reply, ending_of}
use Rattle.tdb_answer.specs.Reads.{AskEnds}

module _ (made : NewFile) (prefix img new : List ℕ) (old now : Option History) where
  abbrev Left : Ending → Type 0
  Left e = ConvertLeft made prefix img new old e now

  -- the new file wasn't taken
  pub new_untaken : (refusal : TakeRefusal) (e : Ending) → CanConvert made img → now ≡ old → (refusal ≡ Take.Missing → ⊥) → (refusal ≡ Take.There → IsSome old) → Untaken new refusal e → Left e
  new_untaken Take.Missing e can same is_new there is = absurd (is_new refl)
  new_untaken Take.There e can same is_new there (inl is) = subst Left (sym is) (can, there refl, refl, same)
  new_untaken Take.There e can same is_new there (inr is) = subst Left (sym is) same
  new_untaken Take.Failed e can same is_new there is = subst Left (sym is) (λ some. same)
  new_untaken Take.Memory e can same is_new there is = subst Left (sym is) same

  -- it was taken, and wasn't written to its end
  no_file : old ≡ None → IsSome old → now ≡ old
  no_file none some = absurd (false≢true (subst IsSome none some))

  pub new_unwritten : (e : Ending) → CanConvert made img → old ≡ None → NotWrittenTo img prefix (made_form made.form) made.limit e now → Left e
  new_unwritten (E.Replied reply) can none left = inr (can, none, left.0, left.1)
  new_unwritten E.DeviceFault can none left = no_file none
  new_unwritten E.NoMemory can none left = left ∙ sym none
  new_unwritten (E.Refused refusal) can none left = absurd left
  new_unwritten (E.Missing name) can none left = absurd left
  new_unwritten (E.There name) can none left = absurd left
  new_unwritten E.Usage can none left = absurd left
  new_unwritten E.LogFault can none left = absurd left
  new_unwritten E.InputFault can none left = absurd left
  new_unwritten (E.Malformed at) can none left = absurd left

  -- it would be too long, and was removed, or wasn't
  pub new_large : (len : ℕ) → CanConvert made img → old ≡ None → now ≡ None → made.limit < new_length made.form → len ≡ new_length made.form → Left (E.Refused (TooLong len))
  new_large len can none gone most is = (inr (can, (none, most, ap TooLong is)), gone ∙ sym none)

  pub new_fault : old ≡ None → Left E.DeviceFault
  new_fault none = no_file none

  -- the file to be read wasn't opened
  read_halted : (halt : Halt) → ReadHaltsBelow made.limit img halt → now ≡ old → Left (of_halt halt)
  read_halted (H.Refused refusal) right same = (inl right, same)
  read_halted H.Device right same = λ some. same
  read_halted H.Memory right same = same
  read_halted H.Log right same = same

  pub new_halted : (halt : Halt) (e : Ending) → e ≡ of_halt halt → ReadHaltsBelow made.limit img halt → now ≡ old → Left e
  new_halted halt e is right same = subst Left (sym is) (read_halted halt right same)

-- its ending
pub unwritten_unconverted : (e : Ending) → EndsUnwritten e → EndsUnconverted e
unwritten_unconverted (E.Replied reply) ends = ends
unwritten_unconverted E.DeviceFault ends = tt
unwritten_unconverted E.NoMemory ends = tt
unwritten_unconverted (E.Refused refusal) ends = absurd ends
unwritten_unconverted (E.Missing name) ends = absurd ends
unwritten_unconverted (E.There name) ends = absurd ends
unwritten_unconverted E.Usage ends = absurd ends
unwritten_unconverted E.LogFault ends = absurd ends
unwritten_unconverted E.InputFault ends = absurd ends
unwritten_unconverted (E.Malformed at) ends = absurd ends

pub untaken_unconverted : (name : List ℕ) (refusal : TakeRefusal) (e : Ending) → Untaken name refusal e → EndsUnconverted e
untaken_unconverted name Take.Missing e (inl is) = subst EndsUnconverted (sym is) tt
untaken_unconverted name Take.Missing e (inr is) = subst EndsUnconverted (sym is) tt
untaken_unconverted name Take.There e (inl is) = subst EndsUnconverted (sym is) tt
untaken_unconverted name Take.There e (inr is) = subst EndsUnconverted (sym is) tt
untaken_unconverted name Take.Failed e is = subst EndsUnconverted (sym is) tt
untaken_unconverted name Take.Memory e is = subst EndsUnconverted (sym is) tt

pub halted_unconverted : (halt : Halt) (e : Ending) → e ≡ of_halt halt → EndsUnconverted e
halted_unconverted halt e is = subst EndsUnconverted (sym is) (of halt)
  where
    of : (halt : Halt) → EndsUnconverted (of_halt halt)
    of (H.Refused refusal) = tt
    of H.Device = tt
    of H.Memory = tt
    of H.Log = tt

-- it is no usage, tells nothing of the input, and nothing stands before its line
pub unconverted_asked : (e : Ending) → EndsUnconverted e → e ≡ E.Usage → ⊥
unconverted_asked e ends is = subst EndsUnconverted is ends

pub unconverted_unread : (e : Ending) → EndsUnconverted e → of_input e ≡ false
unconverted_unread (E.Replied reply) ends = refl
unconverted_unread (E.Refused refusal) ends = refl
unconverted_unread (E.Missing name) ends = refl
unconverted_unread (E.There name) ends = refl
unconverted_unread E.Usage ends = refl
unconverted_unread E.DeviceFault ends = refl
unconverted_unread E.NoMemory ends = refl
unconverted_unread E.LogFault ends = refl
unconverted_unread E.InputFault ends = absurd ends
unconverted_unread (E.Malformed at) ends = absurd ends

pub unconverted_stands : (text : List ℕ) (e : Ending) → EndsUnconverted e → StandsBefore text e []
unconverted_stands text (E.Replied reply) ends = subst (λ r. [] ≡ before_reply r text) (sym ends.2) refl
unconverted_stands text (E.Refused refusal) ends = refl
unconverted_stands text (E.Missing name) ends = refl
unconverted_stands text (E.There name) ends = refl
unconverted_stands text E.DeviceFault ends = (0, refl)
unconverted_stands text E.NoMemory ends = (0, refl)
unconverted_stands text E.LogFault ends = refl
unconverted_stands text E.Usage ends = absurd ends
unconverted_stands text E.InputFault ends = absurd ends
unconverted_stands text (E.Malformed at) ends = absurd ends

-- no log refuses the making of the new file
pub making_unlogged : (r : Result (Unit {0}) Ending) → IfErr r (λ e. e ≡ E.LogFault → ⊥) → anew_ending r ≡ E.LogFault → ⊥
making_unlogged (Ok done) other is = cc
making_unlogged (Err e) other is = other is

-- the file to be read wasn't taken
pub file_untaken : (made : NewFile) (prefix file new : List ℕ) (held old now : Option History) (refusal : TakeRefusal) (e : Ending) → now ≡ old → (refusal ≡ Take.Missing → held ≡ None) → (refusal ≡ Take.There → ⊥) → Untaken file refusal e
    → ConvertLeaves made prefix file new held old e now
file_untaken made prefix file new held old now Take.Missing e same gone is_new (inl is) = inl (same, inl (gone refl, is))
file_untaken made prefix file new held old now Take.Missing e same gone is_new (inr is) = inl (same, inr (inr is))
file_untaken made prefix file new held old now Take.There e same gone is_new is = absurd (is_new refl)
file_untaken made prefix file new held old now Take.Failed e same gone is_new is = inl (same, inr (inl is))
file_untaken made prefix file new held old now Take.Memory e same gone is_new is = inl (same, inr (inr is))

-- the new file is told
told_converted : (made : NewFile) (prefix file new : List ℕ) (held old mid now : Option History) → WasConverted made prefix held old mid → now ≡ mid → ConvertLeaves made prefix file new held old (E.Replied Copied) now
told_converted made prefix file new held old mid now was same =
    inr (was.was, was.there, inl (refl, subst (IsConverted made prefix (seen was.was) old) (sym same) was.converted))

-- it isn't: it was removed, or a call failed
untold_removed : (made : NewFile) (prefix file new : List ℕ) (held old mid now : Option History) → WasConverted made prefix held old mid → now ≡ None → ConvertLeaves made prefix file new held old E.NoMemory now
untold_removed made prefix file new held old mid now was gone = inr (was.was, was.there, gone ∙ sym was.converted.1)

untold_fault : (made : NewFile) (prefix file new : List ℕ) (held old mid now : Option History) → WasConverted made prefix held old mid → ConvertLeaves made prefix file new held old E.DeviceFault now
untold_fault made prefix file new held old mid now was = inr (was.was, was.there, λ some. absurd (false≢true (subst IsSome was.converted.1 some)))

-- so however the telling ended
pub told_left : (made : NewFile) (prefix file new : List ℕ) (held old mid now : Option History) (r : Result Ending Unprinted) → WasConverted made prefix held old mid → ToldLeft mid r now → ConvertLeaves made prefix file new held old (ending_of r) now
told_left made prefix file new held old mid now (Ok e) was left =
    subst (λ x. ConvertLeaves made prefix file new held old x now) (sym left.0) (told_converted made prefix file new held old mid now was left.1)
told_left made prefix file new held old mid now (Err Rest.Files) was left = untold_removed made prefix file new held old mid now was left
told_left made prefix file new held old mid now (Err Rest.Fault) was left = untold_fault made prefix file new held old mid now was
told_left made prefix file new held old mid now (Err Rest.Pairs) was left = absurd left
told_left made prefix file new held old mid now (Err Rest.Report) was left = absurd left

-- why the command ended so is why its task did
module _ (input : Input) (task : Task) (made : NewFile) (prefix new name : List ℕ) (held : List ℕ → Option History) (before after : ℕ) (is : task ≡ Convert new made prefix) where
  caused : (e : Ending) → TaskCause (Convert new made prefix) name (held name) before after e → AskEnds input task name held before after e
  caused e cause = inl (inl (subst (λ t. TaskCause t name (held name) before after e) (sym is) cause))

  untaken_ends : (e : Ending) → IsUntaken name (held name) e → (e ≡ E.DeviceFault → Rose before after) → AskEnds input task name held before after e
  untaken_ends e (inl missing) rose = caused e (task_due e (subst (λ o. TaskDue (Convert new made prefix) name o e) (sym missing.0) missing.1))
  untaken_ends e (inr (inl fault)) rose = caused e (subst (TaskCause (Convert new made prefix) name (held name) before after) (sym fault) (task_failed (rose fault)))
  untaken_ends e (inr (inr wanting)) rose = caused e (subst (TaskCause (Convert new made prefix) name (held name) before after) (sym wanting) task_wanting)

  left_ends : (e : Ending) (h : History) (now : Option History) → held name ≡ Some h → ConvertLeft made prefix (seen h) new (held new) e now → (e ≡ E.DeviceFault → Rose before after) → AskEnds input task name held before after e
  left_ends (E.Replied reply) h now there (inl done) rose =
      inr (inr (inr (inr (inr (inl (record { new = new; made = made; prefix = prefix; was = h; converts = is; there = there; ends = record { within = done.1.0.0; can_read = done.1.0.1; ends = inr (inr (inl (done.1.1, ap E.Replied done.0))) } }))))))
  left_ends (E.Replied reply) h now there (inr full) rose =
      inr (inr (inr (inr (inr (inl (record { new = new; made = made; prefix = prefix; was = h; converts = is; there = there; ends = record { within = full.0.0; can_read = full.0.1; ends = inr (inr (inr (reply, full.1, full.2, refl))) } }))))))
  left_ends (E.Refused refusal) h now there left rose = of left.0
    where
      of : IsRefusedToReadBelow made.limit (seen h) refusal ⊎ (CanConvert made (seen h) × IsTooLarge made (held new) refusal) → AskEnds input task name held before after (E.Refused refusal)
      of (inl right) = caused (E.Refused refusal) (task_due (E.Refused refusal) (subst (λ o. TaskDue (Convert new made prefix) name o (E.Refused refusal)) (sym there) (record { refusal = refusal; right = right; refused = refl })))
      of (inr large) =
          inr (inr (inr (inr (inr (inl (record { new = new; made = made; prefix = prefix; was = h; converts = is; there = there; ends = record { within = large.0.0; can_read = large.0.1; ends = inr (inl (refusal, large.1, refl)) } }))))))
  left_ends (E.There n) h now there left rose =
      inr (inr (inr (inr (inr (inl (record { new = new; made = made; prefix = prefix; was = h; converts = is; there = there; ends = record { within = left.0.0; can_read = left.0.1; ends = inl (left.1, ap E.There left.2) } }))))))
  left_ends E.DeviceFault h now there left rose = caused E.DeviceFault (task_failed (rose refl))
  left_ends E.NoMemory h now there left rose = caused E.NoMemory task_wanting
  left_ends E.LogFault h now there left rose = caused E.LogFault task_unlogged
  left_ends (E.Missing n) h now there left rose = absurd left
  left_ends E.Usage h now there left rose = absurd left
  left_ends E.InputFault h now there left rose = absurd left
  left_ends (E.Malformed at) h now there left rose = absurd left

  pub convert_ends : (e : Ending) (now : Option History) → ConvertLeaves made prefix name new (held name) (held new) e now → CountedBy before after e → AskEnds input task name held before after e
  convert_ends e now (inl untaken) counted = untaken_ends e untaken.1 counted.failed
  convert_ends e now (inr left) counted = left_ends e left.0 now left.1 left.2 counted.failed
