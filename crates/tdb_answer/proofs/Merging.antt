-- What the storing of the pairs of a file into another one gives, from what its parts gave.
use Rattle.std.proofs.Common.{◌≡◌, ◌⊎◌, ◌<◌, ◌≤◌, ℕ, List, [], Option, None, Some, Result, Ok, Err, refl, sym, ◌∙◌, ap, subst, inl, inr, arith}
use Rattle.std.specs.Prelude.{Bool, IsTrue, false}
use Rattle.tdb_disk.specs.Count.{Rose, HasCauseOf}
use Rattle.tdb_disk.specs.History.{History, seen}
use Rattle.tdb_disk.specs.declared.files.TakeRefusal.{TakeRefusal}
use Rattle.tdb_disk.specs.declared.files.TakeRefusal.TheVariants as Take
use Rattle.tdb_space.specs.Form.{Form, form_of, form_in}
use Rattle.tdb_space.specs.Accepted.{AcceptWith}
use Rattle.tdb_space.specs.Pairs.{order_of}
use Rattle.tdb_words.specs.declared.header.Header.{Header}
use Rattle.tdb_rewrite.specs.Rewritten.{chosen}
use Rattle.tdb_merge.specs.Faults.{UnlessDevice, OnDevice}
use Rattle.tdb_merge.specs.Merged.{Merges}
use Rattle.tdb_merge.specs.declared.fault.MergeFault.{MergeFault}
use Rattle.tdb_merge.specs.declared.fault.MergeFault.TheVariants as M
use Rattle.tdb_cmdline.specs.declared.ask.Task.{Task}
use Rattle.tdb_cmdline.specs.declared.ask.Task.TheVariants.{Merge}
use Rattle.tdb_open.specs.Loading.{OpensToTurn, IsOpened}
use Rattle.tdb_open.specs.Opening.{OpensSafely, IsCheckedOn, ReadHaltsBelow}
use Rattle.tdb_open.specs.declared.halt.Halt.{Halt}
use Rattle.tdb_open.specs.declared.halt.Halt.TheVariants as H
use Rattle.tdb_open.specs.declared.opening.Opened.{Opened}
use Rattle.tdb_answer.specs.declared.ending.Ending.{Ending}
use Rattle.tdb_answer.specs.declared.ending.Ending.TheVariants as E
use Rattle.tdb_answer.specs.declared.ending.Reply.TheVariants.{Done, Full}
use Rattle.tdb_answer.specs.Commands.Backup.{IsUntaken}
use Rattle.tdb_answer.specs.Commands.Merge.{merge_told, CanMerge, MergeSo, no_other, other_refused, all_merged, no_room, MergedOn, MergeLeft, merge_unopened, merge_ran, MergeInto, into_untaken, into_taken, MergeLeaves, file_untaken, file_halted, file_read, EndsMerge, CountedPair}
use Rattle.tdb_answer.specs.Commands.Restore.{of_input}
use Rattle.tdb_answer.specs.Commands.Session.{session_options}
use Rattle.tdb_answer.specs.Ending.{Untaken, TaskCause, TaskDue, task_due, task_failed, task_wanting, task_unlogged, CountedBy, CountedIf, of_halt}
use Rattle.tdb_answer.specs.Input.{Input}
use Rattle.tdb_answer.specs.Reads.{AskEnds}

-- the pairs that a view of an opened file shows are those of its bytes, read in their own form
pub view_accepted : (img : List ℕ) (o : Opened) (h : Header) → h ≡ o.header → IsCheckedOn img o → AcceptWith (form_in h) img []
view_accepted img o h is checked = subst (λ f. AcceptWith f img []) (sym (ap form_in (is ∙ checked.header))) checked.accepted

pub merged_on : (limit : ℕ) (prefix img : List ℕ) (o : Opened) (h : Header) (f : Form) (old opened now : History) (answer : Result (Unit {0}) MergeFault) → h ≡ o.header → IsCheckedOn img o → f ≡ form_of (seen opened)
    → OpensToTurn (session_options limit) (seen old) → IsOpened (session_options limit) old opened → OpensSafely old opened → Merges f (chosen prefix (order_of (form_in h) img)) opened now answer → MergedOn limit prefix img old now answer
merged_on limit prefix img o h f old opened now answer is checked form opens left safe merges = record {
  opened = opened;
  opens = opens;
  is_opened = left;
  safe = safe;
  merges = subst (λ (q : Form × Form). Merges q.0 (chosen prefix (order_of q.1 img)) opened now answer) (λ j. (form j, ap form_in (is ∙ checked.header) j)) merges;
}

-- its endings
pub told_known : (answer : Result (Unit {0}) MergeFault) → EndsMerge (merge_told answer)
told_known (Ok v) = tt
told_known (Err (M.Full len need)) = tt
told_known (Err M.Starved) = tt
told_known (Err M.Read) = tt
told_known (Err M.Device) = tt
told_known (Err M.Log) = tt
told_known (Err M.Memory) = tt

pub halted_known : (halt : Halt) (e : Ending) → e ≡ of_halt halt → EndsMerge e
halted_known halt e is = subst EndsMerge (sym is) (of halt)
  where
    of : (halt : Halt) → EndsMerge (of_halt halt)
    of (H.Refused refusal) = tt
    of H.Device = tt
    of H.Memory = tt
    of H.Log = tt

pub untaken_known : (name : List ℕ) (refusal : TakeRefusal) (e : Ending) → (refusal ≡ Take.There → ⊥) → Untaken name refusal e → EndsMerge e
untaken_known name Take.Missing e other (inl is) = subst EndsMerge (sym is) tt
untaken_known name Take.Missing e other (inr is) = subst EndsMerge (sym is) tt
untaken_known name Take.There e other is = absurd (other refl)
untaken_known name Take.Failed e other is = subst EndsMerge (sym is) tt
untaken_known name Take.Memory e other is = subst EndsMerge (sym is) tt

-- a file wasn't taken
pub not_taken : (name : List ℕ) (held : Option History) (refusal : TakeRefusal) (e : Ending) → (refusal ≡ Take.Missing → held ≡ None) → (refusal ≡ Take.There → ⊥) → Untaken name refusal e → IsUntaken name held e
not_taken name held Take.Missing e gone other (inl is) = inl (gone refl, is)
not_taken name held Take.Missing e gone other (inr is) = inr (inr is)
not_taken name held Take.There e gone other is = absurd (other refl)
not_taken name held Take.Failed e gone other is = inr (inl is)
not_taken name held Take.Memory e gone other is = inr (inr is)

-- it is no usage, and tells nothing of the input
pub merge_asked : (e : Ending) → EndsMerge e → e ≡ E.Usage → ⊥
merge_asked e ends is = subst EndsMerge is ends

pub merge_unread : (e : Ending) → EndsMerge e → of_input e ≡ false
merge_unread (E.Replied reply) ends = refl
merge_unread (E.Refused refusal) ends = refl
merge_unread (E.Missing name) ends = refl
merge_unread (E.There name) ends = refl
merge_unread E.Usage ends = refl
merge_unread E.DeviceFault ends = refl
merge_unread E.NoMemory ends = refl
merge_unread E.LogFault ends = refl
merge_unread E.InputFault ends = absurd ends
merge_unread (E.Malformed at) ends = absurd ends

-- how often the disks had failed, of which the second hadn't while its file was opened
module _ (tells : Bool) (start last before mid after : ℕ) (same : mid ≡ before) (rises : mid ≤ after) where
  calm : (e : Ending) → (e ≡ E.DeviceFault → ⊥) → last ≡ start → after ≡ mid → CountedPair tells start last before after e
  calm e other read quiet = record {
    read_never_falls = omega (arith, read);
    never_falls = omega (arith, same, rises);
    failed = λ is. absurd (other is);
    sound = λ x. (read, quiet ∙ same);
  }

  pub merge_counted : (answer : Result (Unit {0}) MergeFault) → UnlessDevice answer (after ≡ mid) → (IsTrue tells → OnDevice answer (Rose mid after)) → HasCauseOf M.Read start last answer → CountedPair tells start last before after (merge_told answer)
  merge_counted (Ok v) quiet rose read = calm (E.Replied Done) (λ is. cc) read.done quiet
  merge_counted (Err (M.Full len need)) quiet rose read = calm (E.Replied (Full len need)) (λ is. cc) (read.refused (λ is. cc)) quiet
  merge_counted (Err M.Starved) quiet rose read = calm E.NoMemory (λ is. cc) (read.refused (λ is. cc)) quiet
  merge_counted (Err M.Read) quiet rose read = record {
    read_never_falls = read.never_falls;
    never_falls = omega (arith, same, rises);
    failed = λ is told. inl (read.failed refl);
    sound = λ other. absurd (other refl);
  }
  merge_counted (Err M.Device) quiet rose read = record {
    read_never_falls = read.never_falls;
    never_falls = omega (arith, same, rises);
    failed = λ is told. inr (subst (λ n. Rose n after) same (rose told));
    sound = λ other. absurd (other refl);
  }
  merge_counted (Err M.Log) quiet rose read = calm E.LogFault (λ is. cc) (read.refused (λ is. cc)) quiet
  merge_counted (Err M.Memory) quiet rose read = calm E.NoMemory (λ is. cc) (read.refused (λ is. cc)) quiet

-- the disk with the second file was given back
pub pair_given : (tells : Bool) (start last before mid now first end : ℕ) (e : Ending) → mid ≡ before → first ≡ 0 → CountedPair tells start last first end e → (end ≡ 0 → now ≡ mid) → (0 < end → Rose mid now) → mid ≤ now → CountedPair tells start last before now e
pair_given tells start last before mid now first end e took fresh counted sound faulty later = record {
  read_never_falls = counted.read_never_falls;
  never_falls = omega (arith, took, later);
  failed = λ is told. elim (counted.failed is told) [
    | inl read ↦ inl read
    | inr files ↦
        (let some : 0 < end = omega (arith, files, fresh) in
        inr (subst (λ n. Rose n now) took (faulty some)))
  ];
  sound = λ other. (let both = counted.sound other in (both.0, sound (both.1 ∙ fresh) ∙ took));
}

-- the files alone had failed, or the first disk alone
pub pair_untaken : (tells : Bool) (read before after : ℕ) (e : Ending) → CountedBy before after e → CountedPair tells read read before after e
pair_untaken tells read before after e counted = record {
  read_never_falls = omega arith;
  never_falls = counted.never_falls;
  failed = λ is told. inr (counted.failed is);
  sound = λ other. (refl, counted.sound other);
}

module _ (tells : Bool) (start last files : ℕ) (falls : start ≤ last) where
  halted_calm : (e : Ending) → (e ≡ E.DeviceFault → ⊥) → last ≡ start → CountedPair tells start last files files e
  halted_calm e other read = record { read_never_falls = falls; never_falls = omega arith; failed = λ is. absurd (other is); sound = λ x. (read, refl) }

  halted_so : (halt : Halt) → (halt ≡ H.Device → Rose start last) → ((halt ≡ H.Device → ⊥) → last ≡ start) → CountedPair tells start last files files (of_halt halt)
  halted_so (H.Refused refusal) failed refused = halted_calm (E.Refused refusal) (λ is. cc) (refused (λ is. let wrong : H.Refused refusal ≡ H.Device = is in cc))
  halted_so H.Device failed refused = record { read_never_falls = falls; never_falls = omega arith; failed = λ is told. inl (failed refl); sound = λ other. absurd (other refl) }
  halted_so H.Memory failed refused = halted_calm E.NoMemory (λ is. cc) (refused (λ is. let wrong : H.Memory ≡ H.Device = is in cc))
  halted_so H.Log failed refused = halted_calm E.LogFault (λ is. cc) (refused (λ is. let wrong : H.Log ≡ H.Device = is in cc))

  pub pair_halted : (halt : Halt) (e : Ending) → e ≡ of_halt halt → (halt ≡ H.Device → Rose start last) → ((halt ≡ H.Device → ⊥) → last ≡ start) → CountedPair tells start last files files e
  pair_halted halt e is failed refused = subst (CountedPair tells start last files files) (sym is) (halted_so halt failed refused)

-- the second disk alone had failed, where its file wasn't opened
module _ (tells : Bool) (read before after : ℕ) where
  pub other_halted : (e : Ending) → CountedIf tells before after e → CountedPair tells read read before after e
  other_halted e counted = record {
    read_never_falls = omega arith;
    never_falls = counted.never_falls;
    failed = λ is told. inr (counted.failed is told);
    sound = λ other. (refl, counted.sound other);
  }

-- the disk with the first file was given back
pub file_given : (tells : Bool) (before mid between now start last : ℕ) (e : Ending) → mid ≡ before → start ≡ 0 → CountedPair tells start last mid between e → (last ≡ 0 → now ≡ between) → (0 < last → Rose between now) → between ≤ now → CountedIf tells before now e
file_given tells before mid between now start last e took fresh counted sound faulty later = record {
  never_falls = omega (arith, took, counted.never_falls, later);
  failed = λ is told. elim (counted.failed is told) [
    | inl disk ↦
        (let some : 0 < last = omega (arith, disk, fresh) in
        let rose = faulty some in
        omega (arith, rose, took, counted.never_falls))
    | inr files ↦ omega (arith, files, took, later)
  ];
  sound = λ other. (let both = counted.sound other in sound (both.0 ∙ fresh) ∙ both.1 ∙ took);
}

pub counted_so : (tells : Bool) (before after : ℕ) (e : Ending) → CountedBy before after e → CountedIf tells before after e
counted_so tells before after e counted = record { never_falls = counted.never_falls; failed = λ is told. counted.failed is; sound = λ other. counted.sound other }

-- why the command ended so is why its task did
module _ (input : Input) (task : Task) (into prefix name : List ℕ) (limit : ℕ) (held : List ℕ → Option History) (before after : ℕ) (is : task ≡ Merge into prefix limit) where
  abbrev Why : Ending → Type 0
  Why e = AskEnds input task name held before after e

  caused : (e : Ending) → TaskCause (Merge into prefix limit) name (held name) before after e → Why e
  caused e cause = inl (inl (subst (λ t. TaskCause t name (held name) before after e) (sym is) cause))

  -- what the files tell of it
  by_pair : (e : Ending) (h : History) → held name ≡ Some h → CanMerge limit (seen h) → MergeSo limit into (held into) e → Why e
  by_pair e h there can so = inr (inr (inr (inr (inr (inr (inr (inl (record { into = into; prefix = prefix; limit = limit; was = h; merges = is; there = there; ends = record { can_merge = can; so = so } }))))))))

  by_untaken : (e : Ending) → (e ≡ E.DeviceFault) ⊎ (e ≡ E.NoMemory) → (e ≡ E.DeviceFault → Rose before after) → Why e
  by_untaken e (inl fault) rose = subst Why (sym fault) (caused E.DeviceFault (task_failed (rose fault)))
  by_untaken e (inr wanting) rose = subst Why (sym wanting) (caused E.NoMemory task_wanting)

  -- the first file was opened; what became of the second
  left_so : (h k : History) (now : History) (e : Ending) → held name ≡ Some h → CanMerge limit (seen h) → held into ≡ Some k → MergeLeft limit prefix (seen h) k now e → (e ≡ E.DeviceFault → Rose before after) → Why e
  left_so h k now _ there can stands (merge_unopened (H.Refused refusal) opened safe) rose = by_pair (E.Refused refusal) h there can (other_refused k refusal stands opened.0)
  left_so h k now _ there can stands (merge_unopened H.Device opened safe) rose = caused E.DeviceFault (task_failed (rose refl))
  left_so h k now _ there can stands (merge_unopened H.Memory opened safe) rose = caused E.NoMemory task_wanting
  left_so h k now _ there can stands (merge_unopened H.Log opened safe) rose = caused E.LogFault task_unlogged
  left_so h k now _ there can stands (merge_ran (Ok v) on) rose = by_pair (E.Replied Done) h there can (all_merged k stands on.opens)
  left_so h k now _ there can stands (merge_ran (Err (M.Full len need)) on) rose = by_pair (E.Replied (Full len need)) h there can (no_room k len need stands on.opens)
  left_so h k now _ there can stands (merge_ran (Err M.Starved) on) rose = caused E.NoMemory task_wanting
  left_so h k now _ there can stands (merge_ran (Err M.Read) on) rose = caused E.DeviceFault (task_failed (rose refl))
  left_so h k now _ there can stands (merge_ran (Err M.Device) on) rose = caused E.DeviceFault (task_failed (rose refl))
  left_so h k now _ there can stands (merge_ran (Err M.Log) on) rose = caused E.LogFault task_unlogged
  left_so h k now _ there can stands (merge_ran (Err M.Memory) on) rose = caused E.NoMemory task_wanting

  into_so : (h : History) (now : Option History) (e : Ending) → held name ≡ Some h → CanMerge limit (seen h) → MergeInto limit prefix (seen h) into (held into) now e → (e ≡ E.DeviceFault → Rose before after) → Why e
  into_so h now e there can (into_untaken same (inl missing)) rose = by_pair e h there can (subst (MergeSo limit into (held into)) (sym missing.1) (no_other missing.0))
  into_so h now e there can (into_untaken same (inr other)) rose = by_untaken e other rose
  into_so h now e there can (into_taken k m stands gives left) rose = left_so h k m e there can stands left rose

  -- the first file wasn't opened
  halted_why : (h : History) (halt : Halt) → held name ≡ Some h → ReadHaltsBelow limit (seen h) halt → (of_halt halt ≡ E.DeviceFault → Rose before after) → Why (of_halt halt)
  halted_why h (H.Refused refusal) there right rose =
      caused (E.Refused refusal) (task_due (E.Refused refusal) (subst (λ o. TaskDue (Merge into prefix limit) name o (E.Refused refusal)) (sym there) (record { refusal = refusal; right = right; refused = refl })))
  halted_why h H.Device there right rose = caused E.DeviceFault (task_failed (rose refl))
  halted_why h H.Memory there right rose = caused E.NoMemory task_wanting
  halted_why h H.Log there right rose = caused E.LogFault task_unlogged

  ends_so : (e : Ending) (now : Option History) → MergeLeaves limit prefix name into (held name) (held into) e now → (e ≡ E.DeviceFault → Rose before after) → Why e
  ends_so e now (file_untaken same (inl missing)) rose = caused e (task_due e (subst (λ o. TaskDue (Merge into prefix limit) name o e) (sym missing.0) missing.1))
  ends_so e now (file_untaken same (inr other)) rose = by_untaken e other rose
  ends_so e now (file_halted h halt there same right ends) rose = subst Why (sym ends) (halted_why h halt there right (λ fault. rose (ends ∙ fault)))
  ends_so e now (file_read h there can left) rose = into_so h now e there can left rose

  pub merge_ends : (tells : Bool) (e : Ending) (now : Option History) → IsTrue tells → MergeLeaves limit prefix name into (held name) (held into) e now → CountedIf tells before after e → Why e
  merge_ends tells e now told left counted = ends_so e now left (λ fault. counted.failed fault told)
