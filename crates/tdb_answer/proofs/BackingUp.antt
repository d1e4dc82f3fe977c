-- What the copying of a file gives, from what its parts gave.
use Rattle.std.proofs.Common.{◌≡◌, ◌⊎◌, ◌^◌, ◌<◌, ◌≤◌, ℕ, List, [], ◌∷◌, Option, None, Some, length, append-nil, refl, sym, ◌∙◌, ap, subst, inl, inr, arith}
use Rattle.std.specs.Prelude.{IsTrue, Bool, slice_index}
use Rattle.std.specs.Map.{lookup}
use Rattle.tdb_words.specs.declared.header.Header.{Header}
use Rattle.tdb_disk.specs.Count.{Rose}
use Rattle.tdb_disk.specs.History.{History, seen, synced, called}
use Rattle.tdb_disk.specs.Names.{moved}
use Rattle.tdb_disk.proofs.Runs.{quiet_synced}
use Rattle.tdb_space.specs.Form.{Form, form_of, form_in}
use Rattle.tdb_space.specs.Pairs.{order_of, same_key}
use Rattle.tdb_space.specs.Accepted.{AcceptWith}
use Rattle.tdb_space.proofs.Opening.Undone.{read_as_it_is, old_length}
use Rattle.tdb_space.proofs.RecoverySteps.Steps.{restored_length}
use Rattle.tdb_backup.specs.Building.{HoldsPairs, BackupRefused}
use Rattle.tdb_backup.specs.Growths.{CopyHeard, growths_of}
use Rattle.tdb_log.specs.Logs.{Logged, ToldAll}
use Rattle.tdb_log.specs.declared.log.LogRefusal.TheVariants as L
use Rattle.tdb_answer.specs.Commands.Create.{new_file_of}
use Rattle.tdb_backup.specs.Room.{room_in}
use Rattle.tdb_backup.specs.declared.refusal.BackupRefusal.{BackupRefusal}
use Rattle.tdb_backup.specs.declared.refusal.BackupRefusal.TheVariants as B
use Rattle.tdb_backup.specs.declared.refusal.CopyRefusal.TheVariants as C
use Rattle.tdb_disk.specs.declared.files.TakeRefusal.{TakeRefusal}
use Rattle.tdb_disk.specs.declared.files.TakeRefusal.TheVariants as Take
use Rattle.tdb_open.specs.declared.limits.TheConstants.{LONGEST_FILE}
use Rattle.tdb_open.specs.declared.opening.Opened.{Opened}
use Rattle.tdb_answer.specs.declared.ending.Ending.{Ending}
use Rattle.tdb_answer.specs.declared.ending.Ending.TheVariants.{Replied, Refused, Missing, There, DeviceFault, NoMemory}
use Rattle.tdb_answer.specs.declared.ending.Reply.TheVariants as Reply
use Rattle.tdb_open.specs.declared.halt.Halt.{Halt}
use Rattle.tdb_open.specs.declared.halt.Halt.TheVariants as H
use Rattle.tdb_answer.specs.Commands.Backup.{IsCopyOf, IsNotBackedUp, CopyingHeard, RefusalHeard, copy_growths, of_backup, IsLeftOf, Stopped, EndsAt, BackupEnds, BackupCause, IsUntakenNew, CopyMade, copy_made, copy_full, copy_failed, copy_wanting, copy_untold, DiskCopied, disk_copied, disk_refused, disk_full, disk_failed, disk_wanting, disk_unlogged, IsUntaken, FileCopied, file_untaken, file_taken, BackedUpOne, EndsBackup, CountedBoth}
use Rattle.tdb_open.specs.Creating.{IsNewFile, new_image}
use Rattle.tdb_answer.specs.Ending.{CountedBy, Untaken, of_halt}
use Rattle.tdb_open.specs.Opening.{opened_bytes, CanOpen, IsCheckedOn, UndoneIfOpen, LookBroken, HeldOrUndone, HeldBroken, HaltsRightly, HaltLeaves}
use Rattle.tdb_answer.proofs.Held.{held_kept}
use Rattle.tdb_open.proofs.Openings.{same_or_undone}

-- what a file is read as is no longer than the longest
pub opened_short : (img : List ℕ) → CanOpen img → length (opened_bytes img) < 2 ^ 32
opened_short img can = elim can.opens.undo [
  | inl shut ↦ omega (arith, can.within, ap length (read_as_it_is (form_of img) img shut))
  | inr undo ↦ omega (arith, can.within, restored_length (form_of img) img undo, (old_length (form_of img) img undo).within)
]

module _ (img fresh : List ℕ) (o : Opened) (of_source of_copy : Header) (as_source : of_source ≡ o.header) (as_copy : of_copy ≡ o.header) (checked : IsCheckedOn img o) where
  source_form : form_in of_source ≡ form_of img
  source_form = ap form_in as_source ∙ ap form_in checked.header

  copy_form : form_in of_copy ≡ form_of img
  copy_form = ap form_in as_copy ∙ ap form_in checked.header

  pub source_accepted : AcceptWith (form_in of_source) img []
  source_accepted = subst (λ f. AcceptWith f img []) (sym source_form) checked.accepted

  module _ (file : IsNewFile o.header.hash_size o.header.order o.header.hash fresh) where
    fresh_is : fresh ≡ new_file_of (form_of img)
    fresh_is = file.bytes ∙ ap (λ f. new_image f.chains f.order f.hash) (ap form_in checked.header)

    -- the new file holds nothing yet, and is short enough
    pub fresh_holds : HoldsPairs LONGEST_FILE (new_file_of (form_of img)) (form_in of_copy) fresh []
    fresh_holds = record {
      accepted = subst (λ f. AcceptWith f fresh []) (file.form ∙ sym (ap form_in as_copy)) file.accepted;
      map = λ k. ap (lookup (same_key k)) (subst (λ f. order_of f fresh ≡ []) (file.form ∙ sym (ap form_in as_copy)) file.empty);
      room = ap (λ i. Some (room_in (form_in of_copy) i)) (sym fresh_is);
      header = λ i _. ap (λ b. slice_index b i) fresh_is;
    }

    pub fresh_short : (size : ℕ) → length img < 2 ^ 32 → length fresh ≡ size → size < 2 ^ 32
    fresh_short size short is = omega (arith, is, short, file.long, checked.accepted.long, ap (λ f. f.chains) (ap form_in checked.header))

  -- what was copied, or wasn't, by the form of the image
  pub as_copied : (now : List ℕ) → HoldsPairs LONGEST_FILE (new_file_of (form_of img)) (form_in of_copy) now (order_of (form_in of_source) img) → HoldsPairs LONGEST_FILE (new_file_of (form_of img)) (form_of img) now (order_of (form_of img) img)
  as_copied now holds = subst (λ (q : Form × Form). HoldsPairs LONGEST_FILE (new_file_of (form_of img)) q.0 now (order_of q.1 img)) (λ j. (copy_form j, source_form j)) holds

  pub as_refused : (now : List ℕ) (e : BackupRefusal) → BackupRefused (new_file_of (form_of img)) (form_in of_copy) now (order_of (form_in of_source) img) LONGEST_FILE e → IsNotBackedUp img e
  as_refused now e cause = (now, subst (λ (q : Form × Form). BackupRefused (new_file_of (form_of img)) q.0 now (order_of q.1 img) LONGEST_FILE e) (λ j. (copy_form j, source_form j)) cause)

  -- and what logs heard of it
  pub as_told : (old new : List Logged) → ToldAll (growths_of LONGEST_FILE (form_in of_copy) (new_file_of (form_of img)) (order_of (form_in of_source) img)) old new → ToldAll (copy_growths img) old new
  as_told old new told = subst (λ (q : Form × Form). ToldAll (growths_of LONGEST_FILE q.0 (new_file_of (form_of img)) (order_of q.1 img)) old new) (λ j. (copy_form j, source_form j)) told

  pub as_heard : (old new : List Logged) (e : BackupRefusal) → CopyHeard LONGEST_FILE (form_in of_copy) (new_file_of (form_of img)) (order_of (form_in of_source) img) old new e → RefusalHeard img old new e
  as_heard old new e heard = subst (λ (q : Form × Form). CopyHeard LONGEST_FILE q.0 (new_file_of (form_of img)) (order_of q.1 img) old new e) (λ j. (copy_form j, source_form j)) heard

-- a sync puts the copy on the medium
pub copied_synced : (img : List ℕ) (old now : History) → HoldsPairs LONGEST_FILE (new_file_of (form_of img)) (form_of img) (seen old) (order_of (form_of img) img) → now ≡ called old synced → IsCopyOf img now
copied_synced img old now holds done =
    let same : seen now ≡ seen old = ap seen done in
    let h : HoldsPairs LONGEST_FILE (new_file_of (form_of img)) (form_of img) (seen now) (order_of (form_of img) img) = subst (λ i. HoldsPairs LONGEST_FILE (new_file_of (form_of img)) (form_of img) i (order_of (form_of img) img)) (sym same) holds in
    record {
      accepted = subst (λ f. AcceptWith f (seen now) []) (sym h.accepted.form) h.accepted;
      form = h.accepted.form;
      map = h.map;
      built = h;
      quiet = quiet_synced old now done;
    }

-- a new file wasn't taken
pub untaken_anew : (tells : Bool) (name : List ℕ) (refusal : TakeRefusal) (e : Ending) → (refusal ≡ Take.Missing → ⊥) → (refusal ≡ Take.There → IsTrue tells → ⊥) → Untaken name refusal e → IsUntakenNew tells e
untaken_anew tells name Take.Missing e is_new gone is = absurd (is_new refl)
untaken_anew tells name Take.There e is_new gone (inl is) = inr (inr (gone refl, (name, is)))
untaken_anew tells name Take.There e is_new gone (inr is) = inr (inl is)
untaken_anew tells name Take.Failed e is_new gone is = inl is
untaken_anew tells name Take.Memory e is_new gone is = inr (inl is)

-- how often the files failed where a file wasn't taken
other_counted : (before after : ℕ) (e : Ending) → after ≡ before → (e ≡ DeviceFault → ⊥) → CountedBy before after e
other_counted before after e same other = record { never_falls = omega (arith, same); failed = λ is. absurd (other is); sound = λ o. same }

fault_counted : (before after : ℕ) (e : Ending) → e ≡ DeviceFault → before ≤ after → Rose before after → CountedBy before after e
fault_counted before after e is low rose = record { never_falls = low; failed = λ o. rose; sound = λ other. absurd (other is) }

pub untaken_counted : (before after : ℕ) (name : List ℕ) (refusal : TakeRefusal) (e : Ending) → before ≤ after → (refusal ≡ Take.Failed → Rose before after) → ((refusal ≡ Take.Failed → ⊥) → after ≡ before) → Untaken name refusal e
    → CountedBy before after e
untaken_counted before after name Take.Missing e low rose same (inl is) = other_counted before after e (same (λ o. cc)) (λ o. let both : Missing name ≡ DeviceFault = sym is ∙ o in cc)
untaken_counted before after name Take.Missing e low rose same (inr is) = other_counted before after e (same (λ o. cc)) (λ o. let both : NoMemory ≡ DeviceFault = sym is ∙ o in cc)
untaken_counted before after name Take.There e low rose same (inl is) = other_counted before after e (same (λ o. cc)) (λ o. let both : There name ≡ DeviceFault = sym is ∙ o in cc)
untaken_counted before after name Take.There e low rose same (inr is) = other_counted before after e (same (λ o. cc)) (λ o. let both : NoMemory ≡ DeviceFault = sym is ∙ o in cc)
untaken_counted before after name Take.Failed e low rose same is = fault_counted before after e is low (rose refl)
untaken_counted before after name Take.Memory e low rose same is = other_counted before after e (same (λ o. cc)) (λ o. let both : NoMemory ≡ DeviceFault = sym is ∙ o in cc)

module _ (tells : Bool) (e : Ending) (untaken : IsUntakenNew tells e) where
  pub untaken_known : EndsBackup e
  untaken_known = elim untaken [
    | inl is ↦ subst EndsBackup (sym is) tt
    | inr other ↦
        elim other [
          | inl is ↦ subst EndsBackup (sym is) tt
          | inr there ↦ subst EndsBackup (sym there.1.1) tt
        ]
  ]

  pub untaken_made : (img : List ℕ) (old now : Option History) → IsTrue tells → IsLeftOf old now → CopyMade img old now e
  untaken_made img old now told left = elim untaken [
    | inl is ↦ subst (CopyMade img old now) (sym is) copy_failed
    | inr other ↦
        elim other [
          | inl is ↦ subst (CopyMade img old now) (sym is) (copy_wanting left)
          | inr there ↦ absurd (there.0 told)
        ]
  ]

-- only the files were called
pub files_alone : (disk disk_after before after : ℕ) (e : Ending) → disk_after ≡ disk → CountedBy before after e → CountedBoth disk disk_after before after e
files_alone disk disk_after before after e same counted = record {
  disk_never_falls = omega (arith, same);
  never_falls = counted.never_falls;
  failed = λ is. inr (counted.failed is);
  sound = λ other. (same, counted.sound other);
}

-- a copy that was refused: its ending, what stands at its name where it was removed, and how often calls had failed
module _ (img : List ℕ) (old now : Option History) (gone : now ≡ None) where
  copy_removed : (r : BackupRefusal) → IsNotBackedUp img r → CopyMade img old now (of_backup r)
  copy_removed (B.Copy C.Read) refused = copy_failed
  copy_removed (B.Copy C.Write) refused = copy_failed
  copy_removed (B.Copy (C.Full len need)) refused = copy_full len need refused gone
  copy_removed (B.Copy C.Memory) refused = copy_wanting (inr gone)
  copy_removed (B.Log L.Failed) refused = copy_untold (inr gone)
  copy_removed (B.Log L.Memory) refused = copy_wanting (inr gone)

  pub removed_made : (r : BackupRefusal) (e : Ending) → e ≡ of_backup r → IsNotBackedUp img r → CopyMade img old now e
  removed_made r e is refused = subst (CopyMade img old now) (sym is) (copy_removed r refused)

copy_known : (r : BackupRefusal) → EndsBackup (of_backup r)
copy_known (B.Copy C.Read) = tt
copy_known (B.Copy C.Write) = tt
copy_known (B.Copy (C.Full len need)) = inr (len, need, refl)
copy_known (B.Copy C.Memory) = tt
copy_known (B.Log L.Failed) = tt
copy_known (B.Log L.Memory) = tt

pub refused_known : (r : BackupRefusal) (e : Ending) → e ≡ of_backup r → EndsBackup e
refused_known r e is = subst EndsBackup (sym is) (copy_known r)

-- the copying of a file on a disk, from its opening on
module _ (was : History) (old now : Option History) where
  pub opened_copied : (mid is : History) (e : Ending) → CanOpen (seen was) → UndoneIfOpen was mid → seen mid ≡ opened_bytes (seen was) → is ≡ mid → CopyMade (seen mid) old now e → DiskCopied was is old now e
  opened_copied mid is e can undone reads same made = subst (λ h. DiskCopied was h old now e) (sym same) (of e (subst (λ i. CopyMade i old now e) reads made))
    where
      of : (e : Ending) → CopyMade (opened_bytes (seen was)) old now e → DiskCopied was mid old now e
      of _ (copy_made copy there copy_of) = disk_copied copy can undone there copy_of
      of _ (copy_full len need full gone) = disk_full len need can (same_or_undone was mid undone) full gone
      of _ copy_failed = disk_failed (inl (same_or_undone was mid undone))
      of _ (copy_wanting left) = disk_wanting (same_or_undone was mid undone) left
      of _ (copy_untold left) = disk_unlogged (same_or_undone was mid undone) left

  pub halted_copied : (is : History) (halt : Halt) (e : Ending) → e ≡ of_halt halt → HaltsRightly (seen was) halt → HaltLeaves halt was is → now ≡ old → DiskCopied was is old now e
  halted_copied is halt e told right left same = subst (DiskCopied was is old now) (sym told) (of halt right left)
    where
      of : (halt : Halt) → HaltsRightly (seen was) halt → HaltLeaves halt was is → DiskCopied was is old now (of_halt halt)
      of (H.Refused refusal) right left = disk_refused refusal right (same_or_undone was is left) same
      of H.Device right left = disk_failed left
      of H.Memory right left = disk_wanting (same_or_undone was is left) (inl same)
      of H.Log right left = disk_unlogged (same_or_undone was is left) (inl same)

pub halted_known : (halt : Halt) (e : Ending) → e ≡ of_halt halt → EndsBackup e
halted_known halt e is = subst EndsBackup (sym is) (of halt)
  where
    of : (halt : Halt) → EndsBackup (of_halt halt)
    of (H.Refused refusal) = tt
    of H.Device = tt
    of H.Memory = tt
    of H.Log = tt

pub halted_other : (halt : Halt) → of_halt halt ≡ Replied Reply.Copied → ⊥
halted_other (H.Refused refusal) is = cc
halted_other H.Device is = cc
halted_other H.Memory is = cc
halted_other H.Log is = cc

pub untaken_other : (file : List ℕ) (refusal : TakeRefusal) (e : Ending) → Untaken file refusal e → e ≡ Replied Reply.Copied → ⊥
untaken_other file Take.Missing e (inl is) copied = let both : Missing file ≡ Replied Reply.Copied = sym is ∙ copied in cc
untaken_other file Take.Missing e (inr is) copied = let both : NoMemory ≡ Replied Reply.Copied = sym is ∙ copied in cc
untaken_other file Take.There e (inl is) copied = let both : There file ≡ Replied Reply.Copied = sym is ∙ copied in cc
untaken_other file Take.There e (inr is) copied = let both : NoMemory ≡ Replied Reply.Copied = sym is ∙ copied in cc
untaken_other file Take.Failed e is copied = let both : DeviceFault ≡ Replied Reply.Copied = sym is ∙ copied in cc
untaken_other file Take.Memory e is copied = let both : NoMemory ≡ Replied Reply.Copied = sym is ∙ copied in cc

-- a file wasn't taken
pub untaken_file : (file : List ℕ) (old now made_old made_now : Option History) (refusal : TakeRefusal) (e : Ending) → now ≡ old → made_now ≡ made_old → (refusal ≡ Take.Missing → old ≡ None) → (refusal ≡ Take.There → ⊥) → Untaken file refusal e
    → FileCopied file old now made_old made_now e
untaken_file file old now made_old made_now Take.Missing e own new gone is_new (inl is) = file_untaken own new (inl (gone refl, is))
untaken_file file old now made_old made_now Take.Missing e own new gone is_new (inr is) = file_untaken own new (inr (inr is))
untaken_file file old now made_old made_now Take.There e own new gone is_new is = absurd (is_new refl)
untaken_file file old now made_old made_now Take.Failed e own new gone is_new is = file_untaken own new (inr (inl is))
untaken_file file old now made_old made_now Take.Memory e own new gone is_new is = file_untaken own new (inr (inr is))

pub untaken_ends : (file : List ℕ) (refusal : TakeRefusal) (e : Ending) → Untaken file refusal e → EndsBackup e
untaken_ends file Take.Missing e (inl is) = subst EndsBackup (sym is) tt
untaken_ends file Take.Missing e (inr is) = subst EndsBackup (sym is) tt
untaken_ends file Take.There e (inl is) = subst EndsBackup (sym is) tt
untaken_ends file Take.There e (inr is) = subst EndsBackup (sym is) tt
untaken_ends file Take.Failed e is = subst EndsBackup (sym is) tt
untaken_ends file Take.Memory e is = subst EndsBackup (sym is) tt

-- how often the files failed, by how often a disk and they did, that was taken and given back
pub given_counted : (before mid between now start last : ℕ) (e : Ending) → mid ≡ before → start ≡ 0 → CountedBoth start last mid between e → (last ≡ 0 → now ≡ between) → (0 < last → Rose between now) → between ≤ now → CountedBy before now e
given_counted before mid between now start last e took fresh counted sound faulty later = record {
  never_falls = omega (arith, took, counted.never_falls, later);
  failed = λ is. elim (counted.failed is) [
    | inl disk ↦
        (let some : 0 < last = omega (arith, disk, fresh) in
        let rose = faulty some in
        omega (arith, rose, took, counted.never_falls))
    | inr files ↦ omega (arith, files, took, later)
  ];
  sound = λ other. (let both = counted.sound other in sound (both.0 ∙ fresh) ∙ both.1 ∙ took);
}

-- the file was copied and the copy has its name, or it hasn't
module _ (file at_copy at_new : List ℕ) (old mid : List ℕ → Option History) (before between : ℕ) where
  -- what was found of a file that was copied
  pub record Found : Type 0 where
    pub was : History
    pub is : History
    pub copy : History
    pub there : old file ≡ Some was
    pub can_open : CanOpen (seen was)
    pub stands : mid file ≡ Some is
    pub undone : UndoneIfOpen was is
    pub made : mid at_new ≡ Some copy
    pub copy_of : IsCopyOf (opened_bytes (seen was)) copy

  disk_found : (was is : History) (e : Ending) → old file ≡ Some was → mid file ≡ Some is → DiskCopied was is (old at_new) (mid at_new) e → e ≡ Replied Reply.Copied → Found
  disk_found was is _ there stands (disk_copied copy can undone made copy_of) done = record { was = was; is = is; copy = copy; there = there; can_open = can; stands = stands; undone = undone; made = made; copy_of = copy_of }
  disk_found was is _ there stands (disk_refused refusal right kept same) done = cc
  disk_found was is _ there stands (disk_full len need can kept full gone) done = cc
  disk_found was is _ there stands (disk_failed left) done = cc
  disk_found was is _ there stands (disk_wanting kept left) done = cc
  disk_found was is _ there stands (disk_unlogged kept left) done = cc

  found : (e : Ending) → FileCopied file (old file) (mid file) (old at_new) (mid at_new) e → e ≡ Replied Reply.Copied → Found
  found e (file_untaken own new (inl missing)) done = absurd (let both : Missing file ≡ Replied Reply.Copied = sym missing.1 ∙ done in cc)
  found e (file_untaken own new (inr (inl is))) done = absurd (let both : DeviceFault ≡ Replied Reply.Copied = sym is ∙ done in cc)
  found e (file_untaken own new (inr (inr is))) done = absurd (let both : NoMemory ≡ Replied Reply.Copied = sym is ∙ done in cc)
  found e (file_taken was is there stands on_disk) done = disk_found was is e there stands on_disk done

  -- why it wasn't copied, and what is left then
  left_held : (was is : History) → old file ≡ Some was → mid file ≡ Some is → LookBroken was is → HeldOrUndone (old file) (mid file) ⊎ HeldBroken (old file) (mid file)
  left_held was is there stands (inl kept) = inl (held_kept (old file) (mid file) was is there stands kept)
  left_held was is there stands (inr broken) = inr (was, is, there, stands, broken)

  abbrev Here : Ending → Type 0
  Here e = BackupCause (file ∷ []) old before between e × (mid at_copy ≡ old at_copy → Stopped (e ≡ DeviceFault) file at_copy at_new old mid)

  at_there : (was : History) (e : Ending) → old file ≡ Some was → EndsAt file (Some was) e → BackupEnds (file ∷ []) old e
  at_there was e there ends = inl (subst (λ o. EndsAt file o e) (sym there) ends)

  disk_stopped : (was is : History) (e : Ending) → old file ≡ Some was → mid file ≡ Some is → DiskCopied was is (old at_new) (mid at_new) e → (e ≡ Replied Reply.Copied → ⊥) → (e ≡ DeviceFault → Rose before between) → Here e
  disk_stopped was is _ there stands (disk_copied copy can undone made copy_of) other rose = absurd (other refl)
  disk_stopped was is _ there stands (disk_refused refusal right kept same) other rose = (
    inl (at_there was (Refused refusal) there (inl (refusal, right, refl))),
    λ copy. record { kept = inl (held_kept (old file) (mid file) was is there stands kept); copy = copy; left = inl (inl same) },
  )
  disk_stopped was is _ there stands (disk_full len need can kept full gone) other rose = (
    inl (at_there was (Replied (Reply.Full len need)) there (inr (record { can_open = can; len = len; need = need; no_room = full; full = refl }))),
    λ copy. record { kept = inl (held_kept (old file) (mid file) was is there stands kept); copy = copy; left = inl (inr gone) },
  )
  disk_stopped was is _ there stands (disk_failed left) other rose = (
    inr (inl (refl, rose refl)),
    λ copy. record { kept = elim (left_held was is there stands left) [ inl kept ↦ inl kept | inr broken ↦ inr (refl, broken) ]; copy = copy; left = inr refl },
  )
  disk_stopped was is _ there stands (disk_wanting kept left) other rose = (
    inr (inr (inl refl)),
    λ copy. record { kept = inl (held_kept (old file) (mid file) was is there stands kept); copy = copy; left = inl left },
  )
  disk_stopped was is _ there stands (disk_unlogged kept left) other rose = (
    inr (inr (inr refl)),
    λ copy. record { kept = inl (held_kept (old file) (mid file) was is there stands kept); copy = copy; left = inl left },
  )

  untaken_cause : (e : Ending) → IsUntaken file (old file) e → (e ≡ DeviceFault → Rose before between) → BackupCause (file ∷ []) old before between e
  untaken_cause e (inl missing) rose = inl (inl (subst (λ o. EndsAt file o e) (sym missing.0) missing.1))
  untaken_cause e (inr (inl is)) rose = inr (inl (is, rose is))
  untaken_cause e (inr (inr is)) rose = inr (inr (inl is))

  here : (e : Ending) → FileCopied file (old file) (mid file) (old at_new) (mid at_new) e → (e ≡ Replied Reply.Copied → ⊥) → (e ≡ DeviceFault → Rose before between) → Here e
  here e (file_untaken own new untaken) other rose = (untaken_cause e untaken rose, λ copy. record { kept = inl (inl own); copy = copy; left = inl (inl new) })
  here e (file_taken was is there stands on_disk) other rose = disk_stopped was is e there stands on_disk other rose

  module _ (e : Ending) (ended : FileCopied file (old file) (mid file) (old at_new) (mid at_new) e) where
    pub one_stopped : (e ≡ Replied Reply.Copied → ⊥) → (e ≡ DeviceFault → Rose before between) → mid at_copy ≡ old at_copy → BackedUpOne file at_copy at_new old mid before between e
    one_stopped other rose copy =
        let h = here e ended other rose in
        record {
          cause = h.0;
          copied = λ is. absurd (other is);
          stopped = λ _. h.1 copy;
        }

    -- the copy has its name
    pub one_copied : (now : List ℕ → Option History) (after : ℕ) → e ≡ Replied Reply.Copied → now file ≡ mid file → now at_copy ≡ moved (mid at_new) (mid at_copy) → now at_new ≡ None → BackedUpOne file at_copy at_new old now before after e
    one_copied now after is own copy gone =
        let f = found e ended is in
        record {
          cause = inl (inr (record { was = f.was; there = f.there; can_open = f.can_open }, is));
          copied = λ _. record {
            was = f.was;
            is = f.is;
            copy = f.copy;
            there = f.there;
            can_open = f.can_open;
            stands = own ∙ f.stands;
            undone = f.undone;
            copied = copy ∙ ap (λ o. moved o (mid at_copy)) f.made;
            copy_of = f.copy_of;
            gone = gone;
          };
          stopped = λ other. absurd (other is);
        }

    -- it didn't get it
    pub one_unnamed : (now : List ℕ → Option History) (after : ℕ) → e ≡ Replied Reply.Copied → ((name : List ℕ) → now name ≡ mid name) → mid at_copy ≡ old at_copy → Rose before after → BackedUpOne file at_copy at_new old now before after DeviceFault
    one_unnamed now after is same copy rose =
        let f = found e ended is in
        record {
          cause = inr (inl (refl, rose));
          copied = λ other. cc;
          stopped = λ _. record {
            kept = inl (subst (λ o. HeldOrUndone (old file) o) (sym (same file)) (held_kept (old file) (mid file) f.was f.is f.there f.stands (same_or_undone f.was f.is f.undone)));
            copy = same at_copy ∙ copy;
            left = inr refl;
          };
        }

-- what logs heard of the growths of a copy: none yet, or all of them
module _ (img : List ℕ) where
  pub untold_yet : (logs : List Logged) → RefusalHeard img logs logs (B.Copy C.Write)
  untold_yet logs = record { given = []; rest = order_of (form_of img) img; split = refl; told = refl }

  pub told_but : (old new : List Logged) → ToldAll (copy_growths img) old new → RefusalHeard img old new (B.Copy C.Write)
  told_but old new told = record { given = order_of (form_of img) img; rest = []; split = sym (append-nil (order_of (form_of img) img)); told = told }

  -- no new file was taken
  pub untaken_told : (tells : Bool) (e : Ending) (logs : List Logged) → IsTrue tells → IsUntakenNew tells e → CopyingHeard img e logs logs
  untaken_told tells e logs told (inl is) = inr (B.Copy C.Write, inr is, untold_yet logs)
  untaken_told tells e logs told (inr (inl is)) = inr (B.Copy C.Memory, inl is, untold_yet logs)
  untaken_told tells e logs told (inr (inr there)) = absurd (there.0 told)

  no_copy : (r : BackupRefusal) → Replied Reply.Copied ≡ of_backup r → ⊥
  no_copy (B.Copy C.Read) is = cc
  no_copy (B.Copy C.Write) is = cc
  no_copy (B.Copy (C.Full len need)) is = cc
  no_copy (B.Copy C.Memory) is = cc
  no_copy (B.Log L.Failed) is = cc
  no_copy (B.Log L.Memory) is = cc

  -- a copy was made, and then it ended so
  pub made_told : (old new : List Logged) → CopyingHeard img (Replied Reply.Copied) old new → ToldAll (copy_growths img) old new
  made_told old new (inl (is, told)) = told
  made_told old new (inr (r, inl is, heard)) = absurd (no_copy r is)
  made_told old new (inr (r, inr is, heard)) = absurd (let both : Replied Reply.Copied ≡ DeviceFault = is in cc)

  pub made_as : (e : Ending) (old new : List Logged) → (e ≡ Replied Reply.Verified) ⊎ (e ≡ DeviceFault) ⊎ (e ≡ NoMemory) → ToldAll (copy_growths img) old new → CopyingHeard img e old new
  made_as e old new (inl is) told = inl (inr is, told)
  made_as e old new (inr (inl is)) told = inr (B.Copy C.Write, inr is, told_but old new told)
  made_as e old new (inr (inr is)) told = inr (B.Copy C.Memory, inl is, told_but old new told)

  -- it was verified, and that wasn't told for want of memory
  no_verified : (r : BackupRefusal) → Replied Reply.Verified ≡ of_backup r → ⊥
  no_verified (B.Copy C.Read) is = cc
  no_verified (B.Copy C.Write) is = cc
  no_verified (B.Copy (C.Full len need)) is = cc
  no_verified (B.Copy C.Memory) is = cc
  no_verified (B.Log L.Failed) is = cc
  no_verified (B.Log L.Memory) is = cc

  pub verified_but : (old new : List Logged) → CopyingHeard img (Replied Reply.Verified) old new → CopyingHeard img NoMemory old new
  verified_but old new (inl (is, told)) = made_as NoMemory old new (inr (inr refl)) told
  verified_but old new (inr (r, inl is, heard)) = absurd (no_verified r is)
  verified_but old new (inr (r, inr is, heard)) = absurd (let both : Replied Reply.Verified ≡ DeviceFault = is in cc)
