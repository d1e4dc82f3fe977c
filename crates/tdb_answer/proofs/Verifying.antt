-- What the verification of files gives, from what its parts gave.
use Rattle.std.proofs.Common.{◌≡◌, ◌⊎◌, ◌+◌, ℕ, true, false, List, [], ◌∷◌, ◌++◌, Option, None, Some, Result, Ok, Err, length, take, refl, sym, ◌∙◌, ap, subst, inl, inr, arith}
use Rattle.std.specs.Prelude.{Bool, IfErr, codes}
use Rattle.std.proofs.lemmas.Bool.{false≢true}
use Rattle.std.proofs.lemmas.List.{append_assoc, append-nil, append_cancel_left}
use Rattle.std.proofs.Math.Seq.{take-append-add}
use Rattle.tdb_disk.specs.Count.{Rose, HasCauseOf}
use Rattle.tdb_disk.specs.History.{History, seen}
use Rattle.tdb_answer.specs.declared.commands.verify.Unverified.{Unverified}
use Rattle.tdb_answer.specs.declared.commands.verify.Unverified.TheVariants.{Ends, Unprinted}
use Rattle.tdb_answer.specs.declared.ending.Ending.{Ending}
use Rattle.tdb_answer.specs.declared.ending.Ending.TheVariants.{Replied, Refused, Missing, There, Usage, DeviceFault, InputFault, Malformed, NoMemory, LogFault}
use Rattle.tdb_answer.specs.declared.ending.Reply.TheVariants as Reply
use Rattle.tdb_disk.specs.declared.files.TakeRefusal.{TakeRefusal}
use Rattle.tdb_disk.specs.declared.files.TakeRefusal.TheVariants as Take
use Rattle.tdb_open.specs.declared.halt.Halt.{Halt}
use Rattle.tdb_open.specs.declared.halt.Halt.TheVariants as H
use Rattle.tdb_cmdline.specs.CopyNames.{copy_name, temporary_name, IsNameOf, IsNameAmong, IsForRestoreAmong, NamesDiffer}
use Rattle.tdb_answer.specs.Commands.Backup.{AllStay, IsLeftOf, Stopped, BackupCause, BackedUpOne, EndsAt, EndsBackup, HasKeys}
use Rattle.tdb_answer.specs.Commands.Verify.{AtNames, at_names, restoring_line, count_line, tells_fault, IsFaulty, KeysOf, own_keys, copy_keys, Tells, StopsAt, is_missing, is_refused, is_unrestored, VerifyEnds, FileFront, VerifyFront, IsUntold, VerifyText, Verified, VerifiedAll, LeftThere, LeftAt, EndsUnverified, EndsVerify, VerifyLeaves, VerifyCause, OwnKeys, NotOpened, file_missing, file_refused, file_failed, file_wanting, file_unlogged, Took, TookPart, LineUntold, IsKnown, KeysFound, FileTold, FileText, FileUntold, AllTold, SomeUntold}
use Rattle.tdb_answer.specs.Ending.{status_of, Untaken, of_halt}
use Rattle.tdb_open.specs.Opening.{CanOpen, HaltsRightly, HaltLeaves, HeldOrUndone, HeldBroken}
use Rattle.tdb_answer.proofs.Copies.{Held, among_or_other, refusal_some}
use Rattle.tdb_answer.proofs.Held.{same_or_other, same_held, held_kept, held_undone}

-- an ending of a verification that isn't done isn't that of one that is, and has another status than 0
pub unverified_some : (e : Ending) → EndsUnverified e → status_of e ≡ 0 → ⊥
unverified_some (Replied reply) full zero = absurd (let six : status_of (Replied reply) ≡ 6 = ap (λ r. status_of (Replied r)) full.2 in omega (arith, six, zero))
unverified_some (Refused r) known zero = absurd (refusal_some r zero)
unverified_some (Missing name) known zero = absurd (omega (arith, zero))
unverified_some (There name) known zero = absurd (omega (arith, zero))
unverified_some DeviceFault known zero = absurd (omega (arith, zero))
unverified_some NoMemory known zero = absurd (omega (arith, zero))
unverified_some LogFault known zero = absurd (omega (arith, zero))
unverified_some Usage known zero = absurd known
unverified_some InputFault known zero = absurd known
unverified_some (Malformed at) known zero = absurd known

pub not_copied : (e : Ending) → EndsUnverified e → e ≡ Replied Reply.Copied → ⊥
not_copied e known is = unverified_some e known (ap status_of is)

not_verified : (e : Ending) → EndsUnverified e → e ≡ Replied Reply.Verified → ⊥
not_verified e known is = unverified_some e known (ap status_of is)

pub verified_zero : (e : Ending) → EndsVerify e → status_of e ≡ 0 → e ≡ Replied Reply.Verified
verified_zero e (inl is) zero = is
verified_zero e (inr known) zero = absurd (unverified_some e known zero)

-- the endings of a copy that wasn't made are among them
pub copy_unverified : (e : Ending) → EndsBackup e → (e ≡ Replied Reply.Copied → ⊥) → EndsUnverified e
copy_unverified (Replied reply) (inl is) other = absurd (other (ap Replied is))
copy_unverified (Replied reply) (inr full) other = full
copy_unverified (Refused refusal) known other = tt
copy_unverified (Missing name) known other = tt
copy_unverified (There name) known other = tt
copy_unverified DeviceFault known other = tt
copy_unverified NoMemory known other = tt
copy_unverified LogFault known other = tt
copy_unverified Usage known other = absurd known
copy_unverified InputFault known other = absurd known
copy_unverified (Malformed at) known other = absurd known

-- a line that wasn't told ends the verification without a failed call of the files
pub line_known : (u : Unverified) → (u ≡ Ends NoMemory) ⊎ (u ≡ Unprinted) → IsKnown u
line_known u (inl is) = subst IsKnown (sym is) tt
line_known u (inr is) = subst IsKnown (sym is) tt

pub line_cause : (before after : ℕ) (r : Result (Unit {0}) Unverified) → after ≡ before → IfErr r (λ u. (u ≡ Ends NoMemory) ⊎ (u ≡ Unprinted)) → HasCauseOf (Ends DeviceFault) before after r
line_cause before after (Ok v) same known = record { never_falls = omega (arith, same); failed = tt; refused = tt; done = same }
line_cause before after (Err u) same known = record {
  never_falls = omega (arith, same);
  failed = λ is. elim known [
    | inl memory ↦ (let both : Ends NoMemory ≡ Ends DeviceFault = sym memory ∙ is in cc)
    | inr unprinted ↦ (let both : Unprinted ≡ Ends DeviceFault = sym unprinted ∙ is in cc)
  ];
  refused = λ other. same;
  done = tt;
}

-- the names of a file are different
pub copy_apart : (suffix file : List ℕ) → (suffix ≡ [] → ⊥) → copy_name suffix file ≡ file → ⊥
copy_apart suffix file some is = some (append_cancel_left file suffix [] (is ∙ sym (append-nil file)))

pub temporary_apart : (file : List ℕ) → temporary_name file ≡ file → ⊥
temporary_apart file is = let wrong : codes ".tmp" ≡ [] = append_cancel_left file (codes ".tmp") [] (is ∙ sym (append-nil file)) in cc

pub names_apart : (suffix file : List ℕ) → (suffix ≡ codes ".tmp" → ⊥) → temporary_name file ≡ copy_name suffix file → ⊥
names_apart suffix file other is = other (sym (append_cancel_left file (codes ".tmp") suffix is))

-- a copy for which memory was wanting
pub copy_wanting : (file at_copy at_new : List ℕ) (held : Held) (count : ℕ) → BackedUpOne file at_copy at_new held held count count NoMemory
copy_wanting file at_copy at_new held count = record {
  cause = inr (inr (inl refl));
  copied = λ is. cc;
  stopped = λ other. record { kept = inl (inl refl); copy = refl; left = inl (inl refl) };
}

-- nothing was written
pub took_nothing : (told : Bool) (written : List ℕ) → Took told written [] written
took_nothing told written heard = sym (append-nil written)

took_more : (told : Bool) (before mid after first rest : List ℕ) → Took told before first mid → Took told mid rest after → Took told before (first ++ rest) after
took_more told before mid after first rest one two heard = two heard ∙ ap (λ x. x ++ rest) (one heard) ∙ append_assoc before first rest

took_front : (told : Bool) (before mid after first line : List ℕ) → Took told before first mid → TookPart told mid line after → TookPart told before (first ++ line) after
took_front told before mid after first line one two heard =
    let p = two heard in
    (length first + p.0, p.1 ∙ ap (λ x. x ++ take p.0 line) (one heard) ∙ append_assoc before first (take p.0 line) ∙ ap (λ x. before ++ x) (sym (take-append-add first line p.0)))

-- a file that was taken wasn't opened, or it wasn't taken
pub halted_file : (file : List ℕ) (old now : Option History) (was is : History) (halt : Halt) (e : Ending) → old ≡ Some was → now ≡ Some is → HaltsRightly (seen was) halt → HaltLeaves halt was is → e ≡ of_halt halt → NotOpened file old now e
halted_file file old now was is halt e there stands right left told = subst (NotOpened file old now) (sym told) (of halt right left)
  where
    of : (halt : Halt) → HaltsRightly (seen was) halt → HaltLeaves halt was is → NotOpened file old now (of_halt halt)
    of (H.Refused refusal) right left = file_refused was refusal there (held_undone old now was is there stands left) right
    of H.Device right (inl kept) = file_failed (inl (held_kept old now was is there stands kept))
    of H.Device right (inr broken) = file_failed (inr (was, is, there, stands, broken))
    of H.Memory right left = file_wanting (held_undone old now was is there stands left)
    of H.Log right left = file_unlogged (held_undone old now was is there stands left)

pub untaken_file : (file : List ℕ) (old now : Option History) (refusal : TakeRefusal) (e : Ending) → now ≡ old → (refusal ≡ Take.Missing → old ≡ None) → (refusal ≡ Take.There → ⊥) → Untaken file refusal e → NotOpened file old now e
untaken_file file old now Take.Missing e same gone is_new (inl is) = subst (NotOpened file old now) (sym is) (file_missing (gone refl) (same ∙ gone refl))
untaken_file file old now Take.Missing e same gone is_new (inr is) = subst (NotOpened file old now) (sym is) (file_wanting (inl same))
untaken_file file old now Take.There e same gone is_new is = absurd (is_new refl)
untaken_file file old now Take.Failed e same gone is_new is = subst (NotOpened file old now) (sym is) (file_failed (inl (inl same)))
untaken_file file old now Take.Memory e same gone is_new is = subst (NotOpened file old now) (sym is) (file_wanting (inl same))

-- a file that wasn't opened for a fault is one that has a fault
pub faulty : (file : List ℕ) (old now : Option History) (e : Ending) → NotOpened file old now e → tells_fault e ≡ true → IsFaulty old
faulty file old now _ (file_missing none gone) tells = absurd (false≢true tells)
faulty file old now _ (file_refused was refusal there kept right) tells = record { was = was; refusal = refusal; there = there; right = right; fault = tells }
faulty file old now _ (file_failed left) tells = absurd (false≢true tells)
faulty file old now _ (file_wanting kept) tells = absurd (false≢true tells)
faulty file old now _ (file_unlogged kept) tells = absurd (false≢true tells)

pub faulty_kept : (file : List ℕ) (old now : Option History) (e : Ending) → NotOpened file old now e → tells_fault e ≡ true → HeldOrUndone old now
faulty_kept file old now _ (file_missing none gone) tells = absurd (false≢true tells)
faulty_kept file old now _ (file_refused was refusal there kept right) tells = kept
faulty_kept file old now _ (file_failed left) tells = absurd (false≢true tells)
faulty_kept file old now _ (file_wanting kept) tells = absurd (false≢true tells)
faulty_kept file old now _ (file_unlogged kept) tells = absurd (false≢true tells)

module _ (told : Bool) (suffix file : List ℕ) (old mid : Held) (copy_same : mid (copy_name suffix file) ≡ old (copy_name suffix file)) (temporary_same : mid (temporary_name file) ≡ old (temporary_name file)) where
  abbrev At : Held → AtNames
  At held = at_names suffix file held

  -- the file was opened
  pub opened_found : (keys : ℕ) (written : List ℕ) → OwnKeys (old file) (mid file) keys → KeysFound told file (At old) (At mid) written written keys
  opened_found keys written o = record {
    text = [];
    keys_of = subst (λ n. KeysOf file (old file) (old (copy_name suffix file)) n []) (sym o.number) (own_keys o.was o.there o.can_open);
    verified = inl (record { was = o.was; is = o.is; there = o.there; can_open = o.can_open; stands = o.stands; undone = o.undone; copy = copy_same; temporary = temporary_same });
    took = took_nothing told written;
  }

  -- it wasn't, and nothing else changed
  own_left : (broken : Type 0) → HeldOrUndone (old file) (mid file) ⊎ (broken × HeldBroken (old file) (mid file)) → LeftThere broken (At old) (At mid)
  own_left broken own = inl (record { own = own; copy = inl (inl copy_same); left = inl (inl temporary_same) })

  pub not_opened : (e : Ending) (written : List ℕ) → NotOpened file (old file) (mid file) e → tells_fault e ≡ false → FileUntold told suffix file (At old) (At mid) written written (Ends e)
  not_opened _ written (file_missing none gone) other = ([], inl (is_missing none), own_left _ (inl (inl (gone ∙ sym none))), took_nothing told written)
  not_opened _ written (file_refused was refusal there kept right) other = ([], inl (is_refused was refusal there right other), own_left _ (inl kept), took_nothing told written)
  not_opened _ written (file_failed left) other = ([], inr (inl refl, inl refl), own_left (DeviceFault ≡ DeviceFault) (elim left [ inl kept ↦ inl kept | inr broken ↦ inr (refl, broken) ]), took_nothing told written)
  not_opened _ written (file_wanting kept) other = ([], inr (inr (inl refl), inl refl), own_left _ (inl kept), took_nothing told written)
  not_opened _ written (file_unlogged kept) other = ([], inr (inr (inr refl), inl refl), own_left _ (inl kept), took_nothing told written)

  module _ (fault : IsFaulty (old file)) (kept : HeldOrUndone (old file) (mid file)) (before between : List ℕ) where
    -- that it is restored wasn't told
    pub restoring_untold : (u : Unverified) → LineUntold told (restoring_line file) before between u → FileUntold told suffix file (At old) (At mid) before between u
    restoring_untold (Ends e) line = ([], inr (inr (inl line.0), inl refl), own_left (e ≡ DeviceFault) (inl kept), line.1)
    restoring_untold Unprinted line = (restoring_line file, inr (inl (fault, refl)), own_left ⊥ (inl kept), line)

    module _ (took : Took told before (restoring_line file) between) (now : Held) (faults_before faults_after : ℕ) where
      -- it was restored from its copy
      pub restored_found : (keys : ℕ) → BackedUpOne (copy_name suffix file) file (temporary_name file) mid now faults_before faults_after (Replied Reply.Copied) → HasKeys (mid (copy_name suffix file)) keys
          → KeysFound told file (At old) (At now) before between keys
      restored_found keys one has =
          let c = one.copied refl in
          record {
            text = restoring_line file;
            keys_of = subst (λ n. KeysOf file (old file) (old (copy_name suffix file)) n (restoring_line file)) (sym (has.number))
                (copy_keys has.was fault (sym copy_same ∙ has.there) (subst (λ h. CanOpen (seen h)) (same_held c.was has.was (mid (copy_name suffix file)) c.there has.there) c.can_open));
            verified = inr (record {
              faulty = fault;
              was = c.was;
              is = c.is;
              restored = c.copy;
              there = sym copy_same ∙ c.there;
              can_open = c.can_open;
              stands = c.stands;
              undone = c.undone;
              own = c.copied;
              copy_of = c.copy_of;
              gone = c.gone;
            });
            took = took;
          }

      -- it wasn't
      pub not_restored : (e : Ending) → (e ≡ Replied Reply.Copied → ⊥) → BackedUpOne (copy_name suffix file) file (temporary_name file) mid now faults_before faults_after e → FileUntold told suffix file (At old) (At now) before between (Ends e)
      not_restored e other one = (restoring_line file, why one.cause, left (one.stopped other), took)
        where
          untold : IsUntold e → FileText suffix file (old file) (old (copy_name suffix file)) e (restoring_line file)
          untold is = inr (is, inr (inl (fault, refl)))

          why : BackupCause (copy_name suffix file ∷ []) mid faults_before faults_after e → FileText suffix file (old file) (old (copy_name suffix file)) e (restoring_line file)
          why (inl (inl ends)) = inl (is_unrestored e fault (subst (λ o. EndsAt (copy_name suffix file) o e) copy_same ends))
          why (inl (inr both)) = absurd (other both.1)
          why (inr (inl failed)) = untold (inl failed.0)
          why (inr (inr wanting)) = untold (inr wanting)

          left : Stopped (e ≡ DeviceFault) (copy_name suffix file) file (temporary_name file) mid now → LeftThere (e ≡ DeviceFault) (At old) (At now)
          left s = inl (record {
            own = inl (subst (HeldOrUndone (old file)) (sym s.copy) kept);
            copy = subst (λ o. HeldOrUndone o (now (copy_name suffix file)) ⊎ ((e ≡ DeviceFault) × HeldBroken o (now (copy_name suffix file)))) copy_same s.kept;
            left = subst (λ o. IsLeftOf o (now (temporary_name file)) ⊎ (e ≡ DeviceFault)) temporary_same s.left;
          })

-- the number of keys of a file is told, or isn't
module _ (told : Bool) (suffix file : List ℕ) (old now : AtNames) (before between after : List ℕ) (keys : ℕ) (found : KeysFound told file old now before between keys) where
  pub count_told : Took told between (count_line file keys) after → FileTold told file old now before after
  count_told took = record {
    text = found.text ++ count_line file keys;
    tells = record { keys = keys; before = found.text; keys_of = found.keys_of; all = refl };
    verified = found.verified;
    took = took_more told before between after found.text (count_line file keys) found.took took;
  }

  front_of : (n : ℕ) (text : List ℕ) → KeysOf file old.own old.copy n text → FileFront file old.own old.copy text
  front_of _ _ (own_keys h there can) = inl refl
  front_of _ _ (copy_keys h fault there can) = inr (inl (fault, refl))

  verified_left : (broken : Type 0) → Verified old now → LeftThere broken old now
  verified_left broken (inl o) = inl (record { own = inl (held_undone old.own now.own o.was o.is o.there o.stands o.undone); copy = inl (inl o.copy); left = inl (inl o.temporary) })
  verified_left broken (inr restored) = inr restored

  pub count_untold : (u : Unverified) → LineUntold told (count_line file keys) between after u → FileUntold told suffix file old now before after u
  count_untold (Ends e) line = (
    found.text,
    inr (inr (inl line.0), front_of keys found.text found.keys_of),
    verified_left (e ≡ DeviceFault) found.verified,
    subst (λ t. Took told before t after) (append-nil found.text) (took_more told before between after found.text [] found.took line.1),
  )
  count_untold Unprinted line = (
    found.text ++ count_line file keys,
    inr (inr (record { keys = keys; before = found.text; keys_of = found.keys_of; all = refl })),
    verified_left ⊥ found.verified,
    took_front told before between after found.text (count_line file keys) found.took line,
  )

-- what is printed of files that weren't all verified is a front
stops_front : (file at_copy : List ℕ) (own copy : Option History) (e : Ending) (text : List ℕ) → StopsAt file at_copy own copy e text → FileFront file own copy text
stops_front file at_copy own copy _ _ (is_missing none) = inl refl
stops_front file at_copy own copy _ _ (is_refused h refusal there right other) = inl refl
stops_front file at_copy own copy _ _ (is_unrestored e fault ends) = inr (inl (fault, refl))

pub ends_front : (suffix : List ℕ) (files : List (List ℕ)) (held : Held) (e : Ending) (text : List ℕ) → VerifyEnds suffix files held e text → VerifyFront suffix files held text
ends_front suffix [] held e text ends = ends.1
ends_front suffix (file ∷ files) held e text (inl stops) = inl (stops_front file (copy_name suffix file) (held file) (held (copy_name suffix file)) e text stops)
ends_front suffix (file ∷ files) held e text (inr on) = inr (on.0, on.1, on.2, ends_front suffix files held e on.1 on.3, on.4)

pub front_wanting : (suffix : List ℕ) (files : List (List ℕ)) (held : Held) (e : Ending) (text : List ℕ) → VerifyText suffix files held e text → VerifyText suffix files held NoMemory text
front_wanting suffix files held e text (inl ends) = inr (inr (inl refl), ends_front suffix files held e text ends)
front_wanting suffix files held e text (inr untold) = inr (inr (inl refl), untold.1)

-- what a failed call leaves may be told in other words
left_weaker : (A B : Type 0) → (A → B) → (old now : AtNames) → LeftThere A old now → LeftThere B old now
left_weaker A B more old now (inl u) = inl (record {
  own = elim u.own [ inl kept ↦ inl kept | inr breaks ↦ inr (more breaks.0, breaks.1) ];
  copy = elim u.copy [ inl kept ↦ inl kept | inr breaks ↦ inr (more breaks.0, breaks.1) ];
  left = elim u.left [ inl left ↦ inl left | inr breaks ↦ inr (more breaks) ];
})
left_weaker A B more old now (inr restored) = inr restored

pub all_left_weaker : (suffix : List ℕ) (old now : Held) (A B : Type 0) → (A → B) → (files : List (List ℕ)) → LeftAt A suffix files old now → LeftAt B suffix files old now
all_left_weaker suffix old now A B more [] left = left
all_left_weaker suffix old now A B more (file ∷ files) (inl both) = inl (both.0, all_left_weaker suffix old now A B more files both.1)
all_left_weaker suffix old now A B more (file ∷ files) (inr both) = inr (left_weaker A B more (at_names suffix file old) (at_names suffix file now) both.0, both.1)

-- at each name but those at which files are restored stands what stood there, or it was undone
copy_kept : (old now : AtNames) → Verified old now → HeldOrUndone old.copy now.copy
copy_kept old now (inl o) = inl o.copy
copy_kept old now (inr r) = held_undone old.copy now.copy r.was r.is r.there r.stands r.undone

copy_left : (broken : Type 0) → (broken → ⊥) → (old now : AtNames) → LeftThere broken old now → HeldOrUndone old.copy now.copy
copy_left broken never old now (inl u) = elim u.copy [ inl kept ↦ kept | inr breaks ↦ absurd (never breaks.0) ]
copy_left broken never old now (inr r) = copy_kept old now (inr r)

not_restored_there : (suffix file name : List ℕ) (files : List (List ℕ)) → (name ≡ copy_name suffix file → ⊥) → (IsForRestoreAmong (file ∷ files) name → ⊥) → (IsNameAmong true suffix files name → ⊥) → IsNameAmong true suffix (file ∷ files) name → ⊥
not_restored_there suffix file name files copy apart none (inl (inl is)) = apart (inl is)
not_restored_there suffix file name files copy apart none (inl (inr (inl is))) = copy is
not_restored_there suffix file name files copy apart none (inl (inr (inr is))) = apart (inr (inl is))
not_restored_there suffix file name files copy apart none (inr among) = none among

module _ (suffix : List ℕ) (old now : Held) (broken : Type 0) (never : broken → ⊥) where
  pub verify_kept : (files : List (List ℕ)) → LeftAt broken suffix files old now → (name : List ℕ) → (IsForRestoreAmong files name → ⊥) → ((IsNameAmong true suffix files name → ⊥) → now name ≡ old name) → HeldOrUndone (old name) (now name)
  verify_kept [] left name apart other = absurd left
  verify_kept (file ∷ files) (inl both) name apart other = elim (same_or_other name (copy_name suffix file)) [
    | inl here ↦ subst (λ n. HeldOrUndone (old n) (now n)) (sym here) (copy_kept (at_names suffix file old) (at_names suffix file now) both.0)
    | inr copy ↦ verify_kept files both.1 name (λ among. apart (inr (inr among))) (λ none. other (not_restored_there suffix file name files copy apart none))
  ]
  verify_kept (file ∷ files) (inr both) name apart other = elim (same_or_other name (copy_name suffix file)) [
    | inl here ↦ subst (λ n. HeldOrUndone (old n) (now n)) (sym here) (copy_left broken never (at_names suffix file old) (at_names suffix file now) both.0)
    | inr copy ↦
        elim (among_or_other true suffix files name) [
          | inl among ↦ inl (both.1 name among)
          | inr none ↦ inl (other (not_restored_there suffix file name files copy apart none))
        ]
  ]

-- what is held at the names of a file is the same
same_names : (suffix file : List ℕ) (a b : Held) → ((name : List ℕ) → IsNameOf true suffix file name → a name ≡ b name) → at_names suffix file a ≡ at_names suffix file b
same_names suffix file a b same = λ j. record {
  own = same file (inl refl) j;
  copy = same (copy_name suffix file) (inr (inl refl)) j;
  temporary = same (temporary_name file) (inr (inr refl)) j;
}

-- nothing changed before at the names of the files that come then
module _ (suffix : List ℕ) (old mid : Held) where
  at_same : (file : List ℕ) (files : List (List ℕ)) → AllStay true suffix (file ∷ files) old mid → at_names suffix file mid ≡ at_names suffix file old
  at_same file files same = same_names suffix file mid old (λ name own. same name (inl own))

  ends_since : (files : List (List ℕ)) (e : Ending) (text : List ℕ) → AllStay true suffix files old mid → VerifyEnds suffix files mid e text → VerifyEnds suffix files old e text
  ends_since [] e text same ends = ends
  ends_since (file ∷ files) e text same (inl stops) = inl (subst (λ (a : AtNames). StopsAt file (copy_name suffix file) a.own a.copy e text) (at_same file files same) stops)
  ends_since (file ∷ files) e text same (inr on) =
      inr (on.0, on.1, subst (λ (a : AtNames). Tells file a.own a.copy on.0) (at_same file files same) on.2, ends_since files e on.1 (λ name among. same name (inr among)) on.3, on.4)

  front_since : (files : List (List ℕ)) (text : List ℕ) → AllStay true suffix files old mid → VerifyFront suffix files mid text → VerifyFront suffix files old text
  front_since [] text same front = front
  front_since (file ∷ files) text same (inl front) = inl (subst (λ (a : AtNames). FileFront file a.own a.copy text) (at_same file files same) front)
  front_since (file ∷ files) text same (inr on) =
      inr (on.0, on.1, subst (λ (a : AtNames). Tells file a.own a.copy on.0) (at_same file files same) on.2, front_since files on.1 (λ name among. same name (inr among)) on.3, on.4)

  module _ (now : Held) where
    verified_since : (files : List (List ℕ)) → AllStay true suffix files old mid → VerifiedAll suffix files mid now → VerifiedAll suffix files old now
    verified_since [] same all = tt
    verified_since (file ∷ files) same all =
        (subst (λ a. Verified a (at_names suffix file now)) (at_same file files same) all.0, verified_since files (λ name among. same name (inr among)) all.1)

    left_since : (broken : Type 0) (files : List (List ℕ)) → AllStay true suffix files old mid → LeftAt broken suffix files mid now → LeftAt broken suffix files old now
    left_since broken [] same left = left
    left_since broken (file ∷ files) same (inl both) =
        inl (subst (λ a. Verified a (at_names suffix file now)) (at_same file files same) both.0, left_since broken files (λ name among. same name (inr among)) both.1)
    left_since broken (file ∷ files) same (inr both) =
        inr (subst (λ a. LeftThere broken a (at_names suffix file now)) (at_same file files same) both.0, λ name among. both.1 name among ∙ same name (inr among))

-- from what is left of the files that are still to be verified follows what is left of all
pub record Carries (told : Bool) (suffix : List ℕ) (all : List (List ℕ)) (old : Held) (before : List ℕ) (rest : List (List ℕ)) (mid : Held) (between : List ℕ) : Type 0 where
  pub told_all : (now : Held) (after : List ℕ) → ((name : List ℕ) → (IsNameAmong true suffix rest name → ⊥) → now name ≡ mid name) → AllTold told suffix rest mid now between after → AllTold told suffix all old now before after
  pub ends : (now : Held) (after : List ℕ) (u : Unverified) → ((name : List ℕ) → (IsNameAmong true suffix rest name → ⊥) → now name ≡ mid name) → SomeUntold told suffix rest mid now between after u → SomeUntold told suffix all old now before after u

-- one file, and those behind it
module _ (told : Bool) (suffix file : List ℕ) (files : List (List ℕ)) (differ : NamesDiffer true suffix (file ∷ files)) (old mid : Held) (before between : List ℕ) (others : (name : List ℕ) → (IsNameOf true suffix file name → ⊥) → mid name ≡ old name) where
  rest_stays : AllStay true suffix files old mid
  rest_stays name among = others name (λ own. differ.0 name own among)

  -- it wasn't verified, so the others weren't looked at
  pub ended_there : (u : Unverified) → FileUntold told suffix file (at_names suffix file old) (at_names suffix file mid) before between u → SomeUntold told suffix (file ∷ files) old mid before between u
  ended_there (Ends e) one = (one.0, elim one.1 [ inl stops ↦ inl (inl stops) | inr untold ↦ inr (untold.0, inl untold.1) ], inr (one.2, rest_stays), one.3)
  ended_there Unprinted one = (one.0, inl one.1, inr (one.2, rest_stays), one.3)

  -- it was
  module _ (one : FileTold told file (at_names suffix file old) (at_names suffix file mid) before between) where
    module _ (now : Held) (later : (name : List ℕ) → (IsNameAmong true suffix files name → ⊥) → now name ≡ mid name) where
      at_own : (name : List ℕ) → IsNameOf true suffix file name → now name ≡ mid name
      at_own name is = later name (λ among. differ.0 name is among)

      first : Verified (at_names suffix file old) (at_names suffix file now)
      first = subst (Verified (at_names suffix file old)) (sym (same_names suffix file now mid at_own)) one.verified

    pub went_on : Carries told suffix (file ∷ files) old before files mid between
    went_on = record {
      told_all = λ now after later rest. record {
        text = one.text ++ rest.text;
        tells = inr (one.text, rest.text, one.tells, ends_since suffix old mid files (Replied Reply.Verified) rest.text rest_stays rest.tells, refl);
        verified = (first now later, verified_since suffix old mid now files rest_stays rest.verified);
        took = took_more told before between after one.text rest.text one.took rest.took;
      };
      ends = λ now after u later rest. of now after later u rest;
    }
      where
        text_on : (e : Ending) (text : List ℕ) → VerifyText suffix files mid e text → VerifyText suffix (file ∷ files) old e (one.text ++ text)
        text_on e text (inl ends) = inl (inr (one.text, text, one.tells, ends_since suffix old mid files e text rest_stays ends, refl))
        text_on e text (inr untold) = inr (untold.0, inr (one.text, text, one.tells, front_since suffix old mid files text rest_stays untold.1, refl))

        of : (now : Held) (after : List ℕ) (later : (name : List ℕ) → (IsNameAmong true suffix files name → ⊥) → now name ≡ mid name) (u : Unverified) → SomeUntold told suffix files mid now between after u → SomeUntold told suffix (file ∷ files) old now before after u
        of now after later (Ends e) rest = (
          one.text ++ rest.0,
          text_on e rest.0 rest.1,
          inl (first now later, left_since suffix old mid now (e ≡ DeviceFault) files rest_stays rest.2),
          took_more told before between after one.text rest.0 one.took rest.3,
        )
        of now after later Unprinted rest = (
          one.text ++ rest.0,
          inr (one.text, rest.0, one.tells, front_since suffix old mid files rest.0 rest_stays rest.1, refl),
          inl (first now later, left_since suffix old mid now ⊥ files rest_stays rest.2),
          took_front told before between after one.text rest.0 one.took rest.3,
        )

-- one more file was verified, or ended the verification
module _ (told : Bool) (suffix : List ℕ) (all : List (List ℕ)) (start : Held) (first : List ℕ) (file : List ℕ) (files : List (List ℕ)) (differ : NamesDiffer true suffix (file ∷ files)) (old mid : Held) (before between : List ℕ)
    (others : (name : List ℕ) → (IsNameOf true suffix file name → ⊥) → mid name ≡ old name) (carries : Carries told suffix all start first (file ∷ files) old before) where
  pub carries_end : (u : Unverified) → FileUntold told suffix file (at_names suffix file old) (at_names suffix file mid) before between u → SomeUntold told suffix all start mid first between u
  carries_end u one = carries.ends mid between u (λ name none. others name (λ own. none (inl own))) (ended_there told suffix file files differ old mid before between others u one)

  pub carries_on : FileTold told file (at_names suffix file old) (at_names suffix file mid) before between → Carries told suffix all start first files mid between
  carries_on one =
      let on = went_on told suffix file files differ old mid before between others one in
      record {
        told_all = λ now after later rest. carries.told_all now after (further now later) (on.told_all now after later rest);
        ends = λ now after u later rest. carries.ends now after u (further now later) (on.ends now after u later rest);
      }
    where
      further : (now : Held) → ((name : List ℕ) → (IsNameAmong true suffix files name → ⊥) → now name ≡ mid name) → (name : List ℕ) → (IsNameAmong true suffix (file ∷ files) name → ⊥) → now name ≡ old name
      further now later name none = later name (λ among. none (inr among)) ∙ others name (λ own. none (inl own))

-- nothing is left to be verified
pub carries_all : (told : Bool) (suffix : List ℕ) (all : List (List ℕ)) (old : Held) (before : List ℕ) (mid : Held) (between : List ℕ) → Carries told suffix all old before [] mid between → AllTold told suffix all old mid before between
carries_all told suffix all old before mid between carries =
    carries.told_all mid between (λ name none. refl) (record { text = []; tells = (refl, refl); verified = tt; took = took_nothing told between })

-- how a verification ends, from how its files did
module _ (told : Bool) (suffix : List ℕ) (files : List (List ℕ)) (old now : Held) (before after : List ℕ) where
  pub told_leaves : AllTold told suffix files old now before after → VerifyLeaves suffix files old (Replied Reply.Verified) now
  told_leaves all = record { known = inl refl; done = λ is. all.verified; stopped = λ other. absurd (other refl) }

  pub ends_leaves : (e : Ending) → EndsUnverified e → SomeUntold told suffix files old now before after (Ends e) → VerifyLeaves suffix files old e now
  ends_leaves e known some = record { known = inr known; done = λ is. absurd (not_verified e known is); stopped = λ other. some.2 }

  pub untold_leaves : SomeUntold told suffix files old now before after Unprinted → VerifyLeaves suffix files old NoMemory now
  untold_leaves some = record {
    known = inr tt;
    done = λ is. cc;
    stopped = λ other. all_left_weaker suffix old now ⊥ (NoMemory ≡ DeviceFault) (λ never. absurd never) files some.2;
  }

  pub ends_cause : (faults_before faults_after : ℕ) (e : Ending) → (e ≡ DeviceFault → Rose faults_before faults_after) → SomeUntold told suffix files old now before after (Ends e) → VerifyCause suffix files old faults_before faults_after e
  ends_cause faults_before faults_after e rose some = of some.1
    where
      of : VerifyText suffix files old e some.0 → VerifyCause suffix files old faults_before faults_after e
      of (inl ends) = inl (some.0, ends)
      of (inr untold) = elim untold.0 [ inl is ↦ inr (inl (is, rose is)) | inr is ↦ inr (inr is) ]
