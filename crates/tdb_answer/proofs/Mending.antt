-- What the making of another file of what can be read of one gives, from what its parts gave.
use Rattle.std.proofs.Common.{◌≡◌, ◌⊎◌, ◌+◌, ◌*◌, ◌^◌, ◌<◌, ◌≤◌, ℕ, List, [], Option, None, Some, length, refl, sym, ◌∙◌, ap, subst, inl, inr, arith}
use Rattle.std.specs.Prelude.{IsSome, Result, Ok, Err, false}
use Rattle.std.proofs.lemmas.Bool.{false≢true}
use Rattle.tdb_disk.specs.Count.{Rose}
use Rattle.tdb_disk.specs.History.{History, Tried, seen, synced}
use Rattle.tdb_disk.specs.declared.files.TakeRefusal.{TakeRefusal}
use Rattle.tdb_disk.specs.declared.files.TakeRefusal.TheVariants as Take
use Rattle.tdb_words.specs.declared.header.Header.{Header}
use Rattle.tdb_words.specs.Header.{header_at}
use Rattle.tdb_space.specs.Form.{Form, form_in, form_of, data_start}
use Rattle.tdb_space.specs.Pairs.{order_of}
use Rattle.tdb_check.specs.Front.{Refuses}
use Rattle.tdb_check.specs.Seen.{Names}
use Rattle.tdb_check.specs.declared.front.FrontRefusal as Front
use Rattle.tdb_check.specs.declared.refusal.CheckRefusal as Check
use Rattle.tdb_backup.specs.declared.refusal.CopyRefusal.{CopyRefusal}
use Rattle.tdb_rewrite.specs.Readable.{Readable}
use Rattle.tdb_rewrite.specs.Rewritten.{IsBare, Rewritten, RewriteCause, chosen}
use Rattle.tdb_cmdline.specs.declared.ask.Task.{Task}
use Rattle.tdb_cmdline.specs.declared.ask.Task.TheVariants.{Mend}
use Rattle.tdb_mend.specs.declared.file.MendedFile.{MendedFile}
use Rattle.tdb_mend.specs.Files.{looked_at, file_front_fault, file_mended as mended, file_bytes_mended as bytes_mended, IsFileMendFault}
use Rattle.tdb_mend.specs.View.{file_length, mended_length, mended_view, mended_form, mended_header, view_length, length_within}
use Rattle.tdb_open.specs.Creating.{IsNewFile, new_file_header}
use Rattle.tdb_open.specs.declared.creating.NewForm.{NewForm}
use Rattle.tdb_open.specs.declared.halt.Halt.{Halt}
use Rattle.tdb_open.specs.declared.halt.Halt.TheVariants as H
use Rattle.tdb_open.specs.declared.limits.TheConstants.{LONGEST_FILE}
use Rattle.tdb_open.specs.Opening.{of_front, of_check}
use Rattle.tdb_answer.specs.declared.ending.Ending.{Ending}
use Rattle.tdb_answer.specs.declared.ending.Ending.TheVariants as E
use Rattle.tdb_answer.specs.declared.ending.Reply.TheVariants.{Done, Copied}
use Rattle.tdb_answer.specs.declared.ending.Unprinted.{Unprinted}
use Rattle.tdb_answer.specs.declared.ending.Unprinted.TheVariants as Rest
use Rattle.tdb_answer.specs.Commands.Backup.{IsUntaken, CountedBoth}
use Rattle.tdb_answer.specs.Commands.Mend.{IsReadAs, IsMended, WasMended, MendLeft, EndsUnmended, MendLeaves, MendToldLeft, MendText, StaysSynced, new_form, mended_line}
use Rattle.tdb_answer.specs.Commands.Restore.{of_input}
use Rattle.tdb_answer.specs.Commands.Rewriting.{made_form, IsNotWritten, NotWrittenTo, EndsUnwritten}
use Rattle.tdb_answer.specs.Damaged.{CanMend, MendHalts}
use Rattle.tdb_answer.specs.Ending.{Untaken, TaskCause, TaskDue, task_due, task_failed, task_wanting, CountedBy, of_halt}
use Rattle.tdb_answer.specs.Input.{Input}
use Rattle.tdb_answer.specs.Looks.{StandsBefore, before_reply, ending_of}
use Rattle.tdb_answer.specs.Reads.{AskEnds}

-- a new file is bare, by the header that it was made of
pub mending_bare : (form : NewForm) (h : Header) (fresh : List ℕ) → h ≡ new_file_header form → IsNewFile form.size form.order form.hash fresh → IsBare (form_in h) fresh
mending_bare form h fresh is file =
    let size : (form_of fresh).chains ≡ form.size = ap (λ f. f.chains) file.form in
    let ends : length fresh ≡ 168 + 4 * ((form_of fresh).chains + 1) = omega (arith, file.long, size) in
    subst (λ f. IsBare f fresh) (file.form ∙ sym (ap form_in is))
    (record {
      accepted = file.accepted;
      ends = ends;
      no_area = elim file.accepted.area_ok [ inl none ↦ none | inr place ↦ absurd (omega (arith, place.above, place.within, ends)) ];
    })

-- the form of the new file is that of what is read
pub mending_form : (img : List ℕ) (h : Header) → h ≡ header_at (mended img) → form_in h ≡ new_form img
mending_form img h is = ap form_in is

-- the front of a file is refused, or it can't be mended
pub front_unmended : (img : List ℕ) → length img ≤ LONGEST_FILE → (e : Front.FrontRefusal) → Refuses (looked_at img) e → MendHalts img (of_front e)
front_unmended img within (Front.TheVariants.Short len) h = (within, inl (refl, h))
front_unmended img within (Front.TheVariants.Header fault) h = (within, h.0, h.1)
front_unmended img within Front.TheVariants.Io h = tt

pub check_unmended : (img : List ℕ) → length img ≤ LONGEST_FILE → file_front_fault img ≡ None → (e : Check.CheckRefusal) → Names e (IsFileMendFault img) → MendHalts img (of_check e)
check_unmended img within front (Check.TheVariants.Corrupt what at) h = (within, inr (front, h))
check_unmended img within front Check.TheVariants.Io h = tt
check_unmended img within front Check.TheVariants.Memory h = tt

-- the view of what a file is read as shows its pairs, and the new file holds these, or hasn't room for them
module _ (m was : MendedFile) (base img : List ℕ) (is : m ≡ was) (same : base ≡ img) (read : IsReadAs was img) where
  pub view_readable : Readable (mended_form m) (mended_view m base)
  view_readable = subst (λ (q : MendedFile × List ℕ). Readable (mended_form q.0) (mended_view q.0 q.1)) (λ j. (sym is j, sym same j)) read.readable

  view_order : order_of (mended_form m) (mended_view m base) ≡ order_of (new_form img) (mended img)
  view_order = (λ j. order_of (mended_form (is j)) (mended_view (is j) (same j))) ∙ read.pairs

  module _ (form : NewForm) (h : Header) (as_new : h ≡ new_file_header form) where
    form_is : form_in h ≡ made_form form
    form_is = ap form_in as_new

    pub view_rewritten : (now : List ℕ) → Rewritten (form_in h) now (chosen [] (order_of (mended_form m) (mended_view m base))) → Rewritten (made_form form) now (chosen [] (order_of (new_form img) (mended img)))
    view_rewritten now done = subst (λ (q : Form × List (List ℕ × List ℕ)). Rewritten q.0 now (chosen [] q.1)) (λ j. (form_is j, view_order j)) done

    pub view_unwritten : (now : List ℕ) (limit : ℕ) (e : CopyRefusal) → RewriteCause (form_in h) now (chosen [] (order_of (mended_form m) (mended_view m base))) limit e → IsNotWritten (mended img) [] (made_form form) limit e
    view_unwritten now limit e cause = (now, subst (λ (q : Form × List (List ℕ × List ℕ)). RewriteCause q.0 now (chosen [] q.1) limit e) (λ j. (form_is j, view_order j)) cause)

-- the heads of its chains stand within the file
pub read_short : (m : MendedFile) (img : List ℕ) (h : Header) → h ≡ mended_header m → IsReadAs m img → file_length m ≤ LONGEST_FILE → 172 + 4 * h.hash_size < 2 ^ 32
read_short m img h is read within =
    let shown : data_start (mended_form m) ≤ mended_length m = subst (λ n. data_start (mended_form m) ≤ n) (view_length m img) read.readable.long in
    let low : mended_length m ≤ file_length m = length_within m in
    subst (λ x. 172 + 4 * x.hash_size < 2 ^ 32) (sym is) (omega (arith, shown, low, within))

module _ (img new : List ℕ) (old now : Option History) where
  abbrev Left : Ending → Type 0
  Left e = MendLeft img new old e now

  -- the new file wasn't taken
  pub mend_untaken : (refusal : TakeRefusal) (e : Ending) → CanMend img → now ≡ old → (refusal ≡ Take.Missing → ⊥) → (refusal ≡ Take.There → IsSome old) → Untaken new refusal e → Left e
  mend_untaken Take.Missing e can same is_new there is = absurd (is_new refl)
  mend_untaken Take.There e can same is_new there (inl is) = subst Left (sym is) (can, there refl, refl, same)
  mend_untaken Take.There e can same is_new there (inr is) = subst Left (sym is) same
  mend_untaken Take.Failed e can same is_new there is = subst Left (sym is) (λ some. same)
  mend_untaken Take.Memory e can same is_new there is = subst Left (sym is) same

  -- it was taken, and wasn't written to its end
  no_file : old ≡ None → IsSome old → now ≡ old
  no_file none some = absurd (false≢true (subst IsSome none some))

  pub mend_unwritten : (e : Ending) → CanMend img → old ≡ None → NotWrittenTo (mended img) [] (new_form img) LONGEST_FILE e now → Left e
  mend_unwritten (E.Replied reply) can none left = inr (can, none, left.0, left.1)
  mend_unwritten E.DeviceFault can none left = no_file none
  mend_unwritten E.NoMemory can none left = left ∙ sym none
  mend_unwritten (E.Refused refusal) can none left = absurd left
  mend_unwritten (E.Missing name) can none left = absurd left
  mend_unwritten (E.There name) can none left = absurd left
  mend_unwritten E.Usage can none left = absurd left
  mend_unwritten E.LogFault can none left = absurd left
  mend_unwritten E.InputFault can none left = absurd left
  mend_unwritten (E.Malformed at) can none left = absurd left

  -- the file can't be mended
  of_halted : (halt : Halt) → MendHalts img halt → now ≡ old → Left (of_halt halt)
  of_halted (H.Refused refusal) right same = (right, same)
  of_halted H.Device right same = λ some. same
  of_halted H.Memory right same = same
  of_halted H.Log right same = absurd right

  pub mend_halted : (halt : Halt) (e : Ending) → e ≡ of_halt halt → MendHalts img halt → now ≡ old → Left e
  mend_halted halt e is right same = subst Left (sym is) (of_halted halt right same)

-- its ending
pub unwritten_unmended : (e : Ending) → EndsUnwritten e → EndsUnmended e
unwritten_unmended (E.Replied reply) ends = ends
unwritten_unmended E.DeviceFault ends = tt
unwritten_unmended E.NoMemory ends = tt
unwritten_unmended (E.Refused refusal) ends = absurd ends
unwritten_unmended (E.Missing name) ends = absurd ends
unwritten_unmended (E.There name) ends = absurd ends
unwritten_unmended E.Usage ends = absurd ends
unwritten_unmended E.LogFault ends = absurd ends
unwritten_unmended E.InputFault ends = absurd ends
unwritten_unmended (E.Malformed at) ends = absurd ends

pub untaken_unmended : (name : List ℕ) (refusal : TakeRefusal) (e : Ending) → Untaken name refusal e → EndsUnmended e
untaken_unmended name Take.Missing e (inl is) = subst EndsUnmended (sym is) tt
untaken_unmended name Take.Missing e (inr is) = subst EndsUnmended (sym is) tt
untaken_unmended name Take.There e (inl is) = subst EndsUnmended (sym is) tt
untaken_unmended name Take.There e (inr is) = subst EndsUnmended (sym is) tt
untaken_unmended name Take.Failed e is = subst EndsUnmended (sym is) tt
untaken_unmended name Take.Memory e is = subst EndsUnmended (sym is) tt

pub halted_unmended : (halt : Halt) (e : Ending) → e ≡ of_halt halt → (halt ≡ H.Log → ⊥) → EndsUnmended e
halted_unmended halt e is other = subst EndsUnmended (sym is) (of halt other)
  where
    of : (halt : Halt) → (halt ≡ H.Log → ⊥) → EndsUnmended (of_halt halt)
    of (H.Refused refusal) other = tt
    of H.Device other = tt
    of H.Memory other = tt
    of H.Log other = absurd (other refl)

-- it is no usage, tells nothing of the input, no log refuses it, and nothing stands before its line
pub unmended_asked : (e : Ending) → EndsUnmended e → e ≡ E.Usage → ⊥
unmended_asked e ends is = subst EndsUnmended is ends

pub unmended_unlogged : (e : Ending) → EndsUnmended e → e ≡ E.LogFault → ⊥
unmended_unlogged e ends is = subst EndsUnmended is ends

pub unmended_unread : (e : Ending) → EndsUnmended e → of_input e ≡ false
unmended_unread (E.Replied reply) ends = refl
unmended_unread (E.Refused refusal) ends = refl
unmended_unread (E.Missing name) ends = refl
unmended_unread (E.There name) ends = refl
unmended_unread E.Usage ends = refl
unmended_unread E.DeviceFault ends = refl
unmended_unread E.NoMemory ends = refl
unmended_unread E.LogFault ends = refl
unmended_unread E.InputFault ends = absurd ends
unmended_unread (E.Malformed at) ends = absurd ends

pub unmended_stands : (text : List ℕ) (e : Ending) → EndsUnmended e → StandsBefore text e []
unmended_stands text (E.Replied reply) ends = subst (λ r. [] ≡ before_reply r text) (sym ends.2) refl
unmended_stands text (E.Refused refusal) ends = refl
unmended_stands text (E.Missing name) ends = refl
unmended_stands text (E.There name) ends = refl
unmended_stands text E.DeviceFault ends = (0, refl)
unmended_stands text E.NoMemory ends = (0, refl)
unmended_stands text E.LogFault ends = refl
unmended_stands text E.Usage ends = absurd ends
unmended_stands text E.InputFault ends = absurd ends
unmended_stands text (E.Malformed at) ends = absurd ends

pub unmended_text : (held : Option History) (e : Ending) → EndsUnmended e → MendText held e []
unmended_text None e ends = refl
unmended_text (Some h) e ends = unmended_stands _ e ends

-- the file to be read wasn't taken
pub file_unmended : (file new : List ℕ) (held old now : Option History) (refusal : TakeRefusal) (e : Ending) → now ≡ old → (refusal ≡ Take.Missing → held ≡ None) → (refusal ≡ Take.There → ⊥) → Untaken file refusal e → MendLeaves file new held old e now
file_unmended file new held old now Take.Missing e same gone is_new (inl is) = inl (same, inl (gone refl, is))
file_unmended file new held old now Take.Missing e same gone is_new (inr is) = inl (same, inr (inr is))
file_unmended file new held old now Take.There e same gone is_new is = absurd (is_new refl)
file_unmended file new held old now Take.Failed e same gone is_new is = inl (same, inr (inl is))
file_unmended file new held old now Take.Memory e same gone is_new is = inl (same, inr (inr is))

-- what is read has the bytes that it had
pub synced_there : (held now : Option History) (h k : History) → held ≡ Some h → now ≡ Some k → Tried synced h k → StaysSynced held now
synced_there held now h k there given tried = subst (λ o. StaysSynced o now) (sym there) (k, given, tried)

-- what the line of a file says that was mended
pub line_text : (held : Option History) (h : History) (n : ℕ) (e : Ending) (text : List ℕ) → held ≡ Some h → n ≡ bytes_mended (seen h) → StandsBefore (mended_line n) e text → MendText held e text
line_text held h n e text there is stands = subst (λ o. MendText o e text) (sym there) (subst (λ k. StandsBefore (mended_line k) e text) is stands)

-- no call failed where it was mended
pub mended_counted : (disk mid after before now : ℕ) → mid ≡ disk → CountedBoth mid after before now (E.Replied Done) → CountedBoth disk after before now (E.Replied Copied)
mended_counted disk mid after before now same counted = record {
  disk_never_falls = omega (arith, same, counted.disk_never_falls);
  never_falls = counted.never_falls;
  failed = λ is. cc;
  sound = λ other. (let both = counted.sound (λ is. cc) in (both.0 ∙ same, both.1));
}

-- it wasn't told, and nothing was printed
pub untold_asked : (e : Ending) → (e ≡ E.NoMemory) ⊎ (e ≡ E.DeviceFault) → EndsUnmended e
untold_asked e (inl is) = subst EndsUnmended (sym is) tt
untold_asked e (inr is) = subst EndsUnmended (sym is) tt

-- the new file is told, or it isn't: it was removed, or a call failed
pub mend_told_left : (file new : List ℕ) (held old mid now : Option History) (r : Result Ending Unprinted) → WasMended held old mid → MendToldLeft mid r now → MendLeaves file new held old (ending_of r) now
mend_told_left file new held old mid now (Ok (E.Replied reply)) was left =
    inr (was.was, was.there, inl (left.0, subst (IsMended (seen was.was) old) (sym left.1) was.mends))
mend_told_left file new held old mid now (Ok E.NoMemory) was left = inr (was.was, was.there, left ∙ sym was.mends.1)
mend_told_left file new held old mid now (Ok E.DeviceFault) was left = inr (was.was, was.there, λ some. absurd (false≢true (subst IsSome was.mends.1 some)))
mend_told_left file new held old mid now (Ok (E.Refused refusal)) was left = absurd left
mend_told_left file new held old mid now (Ok (E.Missing name)) was left = absurd left
mend_told_left file new held old mid now (Ok (E.There name)) was left = absurd left
mend_told_left file new held old mid now (Ok E.Usage) was left = absurd left
mend_told_left file new held old mid now (Ok E.LogFault) was left = absurd left
mend_told_left file new held old mid now (Ok E.InputFault) was left = absurd left
mend_told_left file new held old mid now (Ok (E.Malformed at)) was left = absurd left
mend_told_left file new held old mid now (Err Rest.Files) was left = inr (was.was, was.there, left ∙ sym was.mends.1)
mend_told_left file new held old mid now (Err Rest.Fault) was left = inr (was.was, was.there, λ some. absurd (false≢true (subst IsSome was.mends.1 some)))
mend_told_left file new held old mid now (Err Rest.Pairs) was left = absurd left
mend_told_left file new held old mid now (Err Rest.Report) was left = absurd left

-- why the command ended so is why its task did
module _ (input : Input) (task : Task) (new name : List ℕ) (held : List ℕ → Option History) (before after : ℕ) (is : task ≡ Mend new) where
  caused : (e : Ending) → TaskCause (Mend new) name (held name) before after e → AskEnds input task name held before after e
  caused e cause = inl (inl (subst (λ t. TaskCause t name (held name) before after e) (sym is) cause))

  untaken_ends : (e : Ending) → IsUntaken name (held name) e → (e ≡ E.DeviceFault → Rose before after) → AskEnds input task name held before after e
  untaken_ends e (inl missing) rose = caused e (task_due e (subst (λ o. TaskDue (Mend new) name o e) (sym missing.0) missing.1))
  untaken_ends e (inr (inl fault)) rose = caused e (subst (TaskCause (Mend new) name (held name) before after) (sym fault) (task_failed (rose fault)))
  untaken_ends e (inr (inr wanting)) rose = caused e (subst (TaskCause (Mend new) name (held name) before after) (sym wanting) task_wanting)

  left_ends : (e : Ending) (h : History) (now : Option History) → held name ≡ Some h → MendLeft (seen h) new (held new) e now → (e ≡ E.DeviceFault → Rose before after) → AskEnds input task name held before after e
  left_ends (E.Replied reply) h now there (inl done) rose =
      inr (inr (inr (inr (inr (inr (inl (record { new = new; was = h; mends = is; there = there; ends = record { can_mend = done.1.0; ends = inr (inl (done.1.1, ap E.Replied done.0)) } })))))))
  left_ends (E.Replied reply) h now there (inr full) rose =
      inr (inr (inr (inr (inr (inr (inl (record { new = new; was = h; mends = is; there = there; ends = record { can_mend = full.0; ends = inr (inr (reply, full.1, full.2, refl)) } })))))))
  left_ends (E.Refused refusal) h now there left rose =
      caused (E.Refused refusal) (task_due (E.Refused refusal) (subst (λ o. TaskDue (Mend new) name o (E.Refused refusal)) (sym there) (record { refusal = refusal; right = left.0; refused = refl })))
  left_ends (E.There n) h now there left rose =
      inr (inr (inr (inr (inr (inr (inl (record { new = new; was = h; mends = is; there = there; ends = record { can_mend = left.0; ends = inl (left.1, ap E.There left.2) } })))))))
  left_ends E.DeviceFault h now there left rose = caused E.DeviceFault (task_failed (rose refl))
  left_ends E.NoMemory h now there left rose = caused E.NoMemory task_wanting
  left_ends E.LogFault h now there left rose = absurd left
  left_ends (E.Missing n) h now there left rose = absurd left
  left_ends E.Usage h now there left rose = absurd left
  left_ends E.InputFault h now there left rose = absurd left
  left_ends (E.Malformed at) h now there left rose = absurd left

  pub mend_ends : (e : Ending) (now : Option History) → MendLeaves name new (held name) (held new) e now → CountedBy before after e → AskEnds input task name held before after e
  mend_ends e now (inl untaken) counted = untaken_ends e untaken.1 counted.failed
  mend_ends e now (inr left) counted = left_ends e left.0 now left.1 left.2 counted.failed
