use Rattle.std.proofs.Common.{◌≡◌, ◌∷◌, ◌+◌, ℕ, List, [], false, drop, rules, refl, sym, ◌∙◌, ap, subst, inl, inr, arith}
use Rattle.std.proofs.Math.ListN.{drop_of_length-le}
use Rattle.tdb_answer.specs.declared.ending.Ending.TheVariants.{Replied, DeviceFault}
use Rattle.tdb_answer.specs.declared.ending.Reply.TheVariants.{Copied}
use Rattle.tdb_cmdline.specs.CopyNames.{copy_name, new_name, IsNameOf, IsNameAmong, NamesDiffer}
use Rattle.tdb_answer.specs.Commands.Backup.{BackedUpOne}
use Rattle.tdb_cmdline.proofs.Items.{rest_of}
use Rattle.tdb_answer.specs.Heard.{CopiedHeard}
use Rattle.tdb_answer.proofs.Copies.{Carries, all_done, went_on, ended_there, carries_on, carries_end}
use Rattle.tdb_answer.proofs.Hearing.{BackupCarries, backup_on, backup_end}
use Rattle.tdb_answer.specs.Takes.{MayTakeEach, copies_take}
use Rattle.tdb_answer.proofs.commands.backup.back_up.Goals as goal

-- the first file wasn't copied
pub returns-then-not-is_copied-clause-done : goal.returns-then-not-is_copied-clause-done
returns-then-not-is_copied-clause-done g c told =
    let suffix = c.args.suffix.now in
    let call = c.back_up_file-ending in
    ended_there suffix c.args.file.now c.args.more.now c.requires.fits.differ (g.F.Files.held c.args.files.now) (g.F.Files.held call.new.files) (g.F.Files.faults c.args.files.now) (g.F.Files.faults call.new.files)
    call.ensures.others call.result call.ensures.known (c.is_copied.ensures.other (search rules)) (call.ensures.done told)

-- it was
pub loop-name-init : goal.loop-name-init
loop-name-init g c =
    let suffix = c.args.suffix.now in
    let file = c.args.file.now in
    let names = c.args.more.now in
    let call = c.back_up_file-ending in
    let old = g.F.Files.held c.args.files.now in
    let mid = g.F.Files.held call.new.files in
    let before = g.F.Files.faults c.args.files.now in
    let between = g.F.Files.faults call.new.files in
    let is : call.result ≡ Replied Copied = c.is_copied.ensures.copied (search rules) in
    let sound : between ≡ before = call.ensures.counted.sound (λ fault. let both : Replied Copied ≡ DeviceFault = sym is ∙ fault in cc) in
    record {
      take = c.requires.take.1.1;
      free = call.ensures.given_back;
      sound = sound;
      others = λ other none. call.ensures.others other (λ own. none (inl own));
      differ = c.requires.fits.differ.1;
      within = λ other among. inr among;
      stays = λ other among. call.ensures.others other (λ own. c.requires.fits.differ.0 other own among);
      hears = λ told e after rest. inr (g.L.Logs.logs call.new.logs, subst (λ x. CopiedHeard (old file) x (g.L.Logs.logs c.args.logs.now) (g.L.Logs.logs call.new.logs)) is (call.ensures.heard told), rest);
      carries = λ told now after e rest later.
          went_on suffix file names c.requires.fits.differ old mid before between call.ensures.others sound
          (subst (BackedUpOne file (copy_name suffix file) (new_name suffix file) old mid before between) is (call.ensures.done told)) now after e rest later;
    }

-- one more file wasn't copied
pub returns-then-not-is_copied-2-clause-done : goal.returns-then-not-is_copied-2-clause-done
returns-then-not-is_copied-2-clause-done g c told =
    let suffix = c.args.suffix.now in
    let xs = c.args.more.now in
    let i = c.loop-name.name-index in
    let x = c.name-item.result in
    let rest = drop (i + 1) xs in
    let call = c.back_up_file-ending-in-loop-name in
    let held = g.F.Files.held in
    let faults = g.F.Files.faults in
    let all = c.args.file.now ∷ xs in
    let eq : drop i xs ≡ x ∷ rest = rest_of xs i x (omega (arith, c.loop-name-test.true)) c.name-item.is in
    let value : c.as_str.result.now ≡ x = c.as_str.ensures in
    carries_end suffix all (held c.args.files.now) (faults c.args.files.now) x rest (held c.loop-name.files) (held call.new.files) (faults c.loop-name.files) (faults call.new.files)
    (subst (NamesDiffer false suffix) eq c.loop-name.invariant.differ)
    (subst (λ l. Carries suffix all (held c.args.files.now) (faults c.args.files.now) l (held c.loop-name.files) (faults c.loop-name.files)) eq (c.loop-name.invariant.carries told))
    (λ name other. call.ensures.others name (λ own. other (subst (λ f. IsNameOf false suffix f name) value own)))
    call.result call.ensures.known (c.is_copied-in-loop-name.ensures.other (search rules))
    (subst (λ f. BackedUpOne f (copy_name suffix f) (new_name suffix f) (held c.loop-name.files) (held call.new.files) (faults c.loop-name.files) (faults call.new.files) call.result) value (call.ensures.done told))

-- it was
pub loop-name-preserved : goal.loop-name-preserved
loop-name-preserved g c =
    let suffix = c.args.suffix.now in
    let xs = c.args.more.now in
    let i = c.loop-name.name-index in
    let x = c.name-item.result in
    let rest = drop (i + 1) xs in
    let call = c.back_up_file-ending-in-loop-name in
    let held = g.F.Files.held in
    let faults = g.F.Files.faults in
    let all = c.args.file.now ∷ xs in
    let eq : drop i xs ≡ x ∷ rest = rest_of xs i x (omega (arith, c.loop-name-test.true)) c.name-item.is in
    let value : c.as_str.result.now ≡ x = c.as_str.ensures in
    let is : call.result ≡ Replied Copied = c.is_copied-in-loop-name.ensures.copied (search rules) in
    let sound : faults call.new.files ≡ faults c.loop-name.files = call.ensures.counted.sound (λ fault. let both : Replied Copied ≡ DeviceFault = sym is ∙ fault in cc) in
    let differ : NamesDiffer false suffix (x ∷ rest) = subst (NamesDiffer false suffix) eq c.loop-name.invariant.differ in
    let within : (name : List ℕ) → IsNameAmong false suffix (x ∷ rest) name → IsNameAmong false suffix all name = subst (λ l. (name : List ℕ) → IsNameAmong false suffix l name → IsNameAmong false suffix all name) eq c.loop-name.invariant.within in
    let stays : (name : List ℕ) → IsNameAmong false suffix (x ∷ rest) name → held c.loop-name.files name ≡ held c.args.files.now name = subst (λ l. (name : List ℕ) → IsNameAmong false suffix l name → held c.loop-name.files name ≡ held c.args.files.now name) eq c.loop-name.invariant.stays in
    let logs = g.L.Logs.logs in
    let others : (name : List ℕ) → (IsNameOf false suffix x name → ⊥) → held call.new.files name ≡ held c.loop-name.files name = λ name other. call.ensures.others name (λ own. other (subst (λ f. IsNameOf false suffix f name) value own)) in
    record {
      take = (subst (λ l. MayTakeEach g.F.Files.may_take (copies_take suffix l)) eq c.loop-name.invariant.take).1.1;
      free = call.ensures.given_back;
      sound = sound ∙ c.loop-name.invariant.sound;
      others = λ other none. others other (λ own. none (within other (inl own))) ∙ c.loop-name.invariant.others other none;
      differ = differ.1;
      within = λ other among. within other (inr among);
      stays = λ other among. others other (λ own. differ.0 other own among) ∙ stays other (inr among);
      hears = λ told.
          backup_on all (held c.args.files.now) (logs c.args.logs.now) x rest (logs c.loop-name.logs) (subst (λ l. BackupCarries all (held c.args.files.now) (logs c.args.logs.now) l (logs c.loop-name.logs)) eq (c.loop-name.invariant.hears told)) (logs call.new.logs)
          (subst (λ o. CopiedHeard o (Replied Copied) (logs c.loop-name.logs) (logs call.new.logs)) (ap (held c.loop-name.files) value ∙ stays x (inl (inl refl)))
          (subst (λ e. CopiedHeard (held c.loop-name.files c.as_str.result.now) e (logs c.loop-name.logs) (logs call.new.logs)) is (call.ensures.heard told)));
      carries = λ told.
          carries_on suffix all (held c.args.files.now) (faults c.args.files.now) x rest (held c.loop-name.files) (held call.new.files) (faults c.loop-name.files) (faults call.new.files)
          differ
          (subst (λ l. Carries suffix all (held c.args.files.now) (faults c.args.files.now) l (held c.loop-name.files) (faults c.loop-name.files)) eq (c.loop-name.invariant.carries told))
          others sound
          (subst (λ f. BackedUpOne f (copy_name suffix f) (new_name suffix f) (held c.loop-name.files) (held call.new.files) (faults c.loop-name.files) (faults call.new.files) (Replied Copied)) value
          (subst (BackedUpOne c.as_str.result.now (copy_name suffix c.as_str.result.now) (new_name suffix c.as_str.result.now) (held c.loop-name.files) (held call.new.files) (faults c.loop-name.files) (faults call.new.files)) is (call.ensures.done told)));
    }

-- all were
pub returns-clause-done : goal.returns-clause-done
returns-clause-done g c told =
    let suffix = c.args.suffix.now in
    let xs = c.args.more.now in
    let i = c.loop-name.name-index in
    let held = g.F.Files.held in
    let faults = g.F.Files.faults in
    let all = c.args.file.now ∷ xs in
    let none : drop i xs ≡ [] = drop_of_length-le xs (omega (arith, c.loop-name-test.false)) in
    subst (λ l. Carries suffix all (held c.args.files.now) (faults c.args.files.now) l (held c.loop-name.files) (faults c.loop-name.files)) none (c.loop-name.invariant.carries told)
    (held c.loop-name.files) (faults c.loop-name.files) (Replied Copied) (all_done suffix (held c.loop-name.files) (faults c.loop-name.files)) (λ name other. refl)

-- what logs heard of them
pub returns-then-not-is_copied-clause-heard : goal.returns-then-not-is_copied-clause-heard
returns-then-not-is_copied-clause-heard g c told = inl (c.is_copied.ensures.other (search rules), c.back_up_file-ending.ensures.heard told)

pub returns-then-not-is_copied-2-clause-heard : goal.returns-then-not-is_copied-2-clause-heard
returns-then-not-is_copied-2-clause-heard g c told =
    let suffix = c.args.suffix.now in
    let xs = c.args.more.now in
    let i = c.loop-name.name-index in
    let x = c.name-item.result in
    let rest = drop (i + 1) xs in
    let call = c.back_up_file-ending-in-loop-name in
    let held = g.F.Files.held in
    let logs = g.L.Logs.logs in
    let all = c.args.file.now ∷ xs in
    let eq : drop i xs ≡ x ∷ rest = rest_of xs i x (omega (arith, c.loop-name-test.true)) c.name-item.is in
    let value : c.as_str.result.now ≡ x = c.as_str.ensures in
    let stays : (name : List ℕ) → IsNameAmong false suffix (x ∷ rest) name → held c.loop-name.files name ≡ held c.args.files.now name = subst (λ l. (name : List ℕ) → IsNameAmong false suffix l name → held c.loop-name.files name ≡ held c.args.files.now name) eq c.loop-name.invariant.stays in
    backup_end all (held c.args.files.now) (logs c.args.logs.now) x rest (logs c.loop-name.logs) (subst (λ l. BackupCarries all (held c.args.files.now) (logs c.args.logs.now) l (logs c.loop-name.logs)) eq (c.loop-name.invariant.hears told))
    call.result (logs call.new.logs) (c.is_copied-in-loop-name.ensures.other (search rules))
    (subst (λ o. CopiedHeard o call.result (logs c.loop-name.logs) (logs call.new.logs)) (ap (held c.loop-name.files) value ∙ stays x (inl (inl refl))) (call.ensures.heard told))

pub returns-clause-heard : goal.returns-clause-heard
returns-clause-heard g c told =
    let xs = c.args.more.now in
    let i = c.loop-name.name-index in
    let held = g.F.Files.held in
    let logs = g.L.Logs.logs in
    let all = c.args.file.now ∷ xs in
    let none : drop i xs ≡ [] = drop_of_length-le xs (omega (arith, c.loop-name-test.false)) in
    subst (λ l. BackupCarries all (held c.args.files.now) (logs c.args.logs.now) l (logs c.loop-name.logs)) none (c.loop-name.invariant.hears told) (Replied Copied) (logs c.loop-name.logs) (refl, λ is. cc)

-- the files may be taken
pub back_up_file-ending-requires-clause-take : goal.back_up_file-ending-requires-clause-take
back_up_file-ending-requires-clause-take g c = (c.requires.take.0, (c.requires.take.1.0, cc))

pub back_up_file-ending-requires-in-loop-name-clause-take : goal.back_up_file-ending-requires-in-loop-name-clause-take
back_up_file-ending-requires-in-loop-name-clause-take g c =
    let suffix = c.args.suffix.now in
    let xs = c.args.more.now in
    let i = c.loop-name.name-index in
    let x = c.name-item.result in
    let rest = drop (i + 1) xs in
    let eq : drop i xs ≡ x ∷ rest = rest_of xs i x (omega (arith, c.loop-name-test.true)) c.name-item.is in
    let value : c.as_str.result.now ≡ x = c.as_str.ensures in
    let first = subst (λ l. MayTakeEach g.F.Files.may_take (copies_take suffix l)) eq c.loop-name.invariant.take in
    subst (λ f. MayTakeEach g.F.Files.may_take (copies_take suffix (f ∷ []))) (sym value) (first.0, (first.1.0, cc))
