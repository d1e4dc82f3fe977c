use Rattle.std.proofs.Common.{◌≡◌, ◌∷◌, ◌+◌, ℕ, List, [], true, drop, rules, refl, sym, ◌∙◌, subst, Err, inl, inr, arith}
use Rattle.std.proofs.Math.ListN.{drop_of_length-le}
use Rattle.tdb_cmdline.specs.CopyNames.{IsNameOf, IsNameAmong, NamesDiffer}
use Rattle.tdb_answer.specs.Commands.Verify.{at_names, FileTold, FileUntold}
use Rattle.tdb_cmdline.proofs.Items.{rest_of}
use Rattle.tdb_answer.proofs.Verifying.{Carries, ended_there, went_on, carries_end, carries_on, carries_all}
use Rattle.tdb_answer.specs.declared.ending.Ending.TheVariants.{Replied}
use Rattle.tdb_answer.specs.declared.ending.Reply.TheVariants.{Verified}
use Rattle.tdb_answer.specs.Heard.{VerifyHeard, count_ending}
use Rattle.tdb_answer.proofs.Hearing.{VerifyCarries, verify_on, verify_end, heard_at}
use Rattle.tdb_answer.specs.Takes.{MayTakeEach, verified_take}
use Rattle.tdb_answer.proofs.commands.verify.verify_files.Goals as goal

-- the first file wasn't verified
pub returns-in_err-verify_file-clause-untold : goal.returns-in_err-verify_file-clause-untold
returns-in_err-verify_file-clause-untold g c =
    let suffix = c.args.suffix.now in
    let call = c.verify_file in
    let u = c.in_err-verify_file.field-0.0 in
    let old = g.F.Files.held c.args.files.now in
    let now = g.F.Files.held call.new.files in
    let before = g.K.Sink.written c.args.output.now in
    let after = g.K.Sink.written call.new.output in
    let is : c.from_residual.result ≡ Err u = search rules in
    rw is (λ told. ended_there g.K.Sink.tells suffix c.args.file.now c.args.more.now c.requires.fits.differ old now before after call.ensures.others u (c.in_err-verify_file.ensures.untold told))

-- it was
pub loop-name-init : goal.loop-name-init
loop-name-init g c =
    let suffix = c.args.suffix.now in
    let file = c.args.file.now in
    let names = c.args.more.now in
    let call = c.verify_file in
    let old = g.F.Files.held c.args.files.now in
    let mid = g.F.Files.held call.new.files in
    record {
      take = c.requires.take.1.1.1;
      free = call.ensures.given_back;
      sound = c.in_ok-verify_file.ensures.cause.done;
      heard = c.in_ok-verify_file.ensures.output_cause.done;
      others = λ other none. call.ensures.others other (λ own. none (inl own));
      differ = c.requires.fits.differ.1;
      within = λ other among. inr among;
      stays = λ other among. call.ensures.others other (λ own. c.requires.fits.differ.0 other own among);
      hears = λ told e after rest. inr (g.L.Logs.logs call.new.logs, c.in_ok-verify_file.ensures.heard told, rest);
      carries = λ told. went_on g.K.Sink.tells suffix file names c.requires.fits.differ old mid (g.K.Sink.written c.args.output.now) (g.K.Sink.written call.new.output) call.ensures.others (c.in_ok-verify_file.ensures.told told);
    }

-- one more file wasn't verified
pub returns-in_err-verify_file-2-clause-untold : goal.returns-in_err-verify_file-2-clause-untold
returns-in_err-verify_file-2-clause-untold g c =
    let suffix = c.args.suffix.now in
    let xs = c.args.more.now in
    let i = c.loop-name.name-index in
    let x = c.name-item.result in
    let rest = drop (i + 1) xs in
    let call = c.verify_file-in-loop-name in
    let held = g.F.Files.held in
    let written = g.K.Sink.written in
    let all = c.args.file.now ∷ xs in
    let u = c.in_err-verify_file-2.field-0.0 in
    let eq : drop i xs ≡ x ∷ rest = rest_of xs i x (omega (arith, c.loop-name-test.true)) c.name-item.is in
    let value : c.as_str.result.now ≡ x = c.as_str.ensures in
    let is : c.from_residual-in_err-verify_file-2.result ≡ Err u = search rules in
    rw is (λ told.
    carries_end g.K.Sink.tells suffix all (held c.args.files.now) (written c.args.output.now) x rest (subst (NamesDiffer true suffix) eq c.loop-name.invariant.differ) (held c.loop-name.files) (held call.new.files) (written c.loop-name.output) (written call.new.output)
    (λ name other. call.ensures.others name (λ own. other (subst (λ f. IsNameOf true suffix f name) value own)))
    (subst (λ l. Carries g.K.Sink.tells suffix all (held c.args.files.now) (written c.args.output.now) l (held c.loop-name.files) (written c.loop-name.output)) eq (c.loop-name.invariant.carries told))
    u (subst (λ f. FileUntold g.K.Sink.tells suffix f (at_names suffix f (held c.loop-name.files)) (at_names suffix f (held call.new.files)) (written c.loop-name.output) (written call.new.output) u) value (c.in_err-verify_file-2.ensures.untold told)))

-- it was
pub loop-name-preserved : goal.loop-name-preserved
loop-name-preserved g c =
    let suffix = c.args.suffix.now in
    let xs = c.args.more.now in
    let i = c.loop-name.name-index in
    let x = c.name-item.result in
    let rest = drop (i + 1) xs in
    let call = c.verify_file-in-loop-name in
    let held = g.F.Files.held in
    let written = g.K.Sink.written in
    let all = c.args.file.now ∷ xs in
    let eq : drop i xs ≡ x ∷ rest = rest_of xs i x (omega (arith, c.loop-name-test.true)) c.name-item.is in
    let value : c.as_str.result.now ≡ x = c.as_str.ensures in
    let differ : NamesDiffer true suffix (x ∷ rest) = subst (NamesDiffer true suffix) eq c.loop-name.invariant.differ in
    let within : (name : List ℕ) → IsNameAmong true suffix (x ∷ rest) name → IsNameAmong true suffix all name = subst (λ l. (name : List ℕ) → IsNameAmong true suffix l name → IsNameAmong true suffix all name) eq c.loop-name.invariant.within in
    let stays : (name : List ℕ) → IsNameAmong true suffix (x ∷ rest) name → held c.loop-name.files name ≡ held c.args.files.now name = subst (λ l. (name : List ℕ) → IsNameAmong true suffix l name → held c.loop-name.files name ≡ held c.args.files.now name) eq c.loop-name.invariant.stays in
    let logs = g.L.Logs.logs in
    let others : (name : List ℕ) → (IsNameOf true suffix x name → ⊥) → held call.new.files name ≡ held c.loop-name.files name = λ name other. call.ensures.others name (λ own. other (subst (λ f. IsNameOf true suffix f name) value own)) in
    record {
      take = (subst (λ l. MayTakeEach g.F.Files.may_take (verified_take suffix l)) eq c.loop-name.invariant.take).1.1.1;
      free = call.ensures.given_back;
      sound = c.in_ok-verify_file-2.ensures.cause.done ∙ c.loop-name.invariant.sound;
      heard = c.in_ok-verify_file-2.ensures.output_cause.done ∙ c.loop-name.invariant.heard;
      others = λ other none. others other (λ own. none (within other (inl own))) ∙ c.loop-name.invariant.others other none;
      differ = differ.1;
      within = λ other among. within other (inr among);
      stays = λ other among. others other (λ own. differ.0 other own among) ∙ stays other (inr among);
      hears = λ told.
          verify_on suffix all (held c.args.files.now) (logs c.args.logs.now) x rest (logs c.loop-name.logs) (subst (λ l. VerifyCarries suffix all (held c.args.files.now) (logs c.args.logs.now) l (logs c.loop-name.logs)) eq (c.loop-name.invariant.hears told)) (logs call.new.logs)
          (heard_at suffix (held c.loop-name.files) (held c.args.files.now) c.as_str.result.now x rest (Replied Verified) (logs c.loop-name.logs) (logs call.new.logs) value stays (c.in_ok-verify_file-2.ensures.heard told));
      carries = λ told.
          carries_on g.K.Sink.tells suffix all (held c.args.files.now) (written c.args.output.now) x rest differ (held c.loop-name.files) (held call.new.files) (written c.loop-name.output) (written call.new.output) others
          (subst (λ l. Carries g.K.Sink.tells suffix all (held c.args.files.now) (written c.args.output.now) l (held c.loop-name.files) (written c.loop-name.output)) eq (c.loop-name.invariant.carries told))
          (subst (λ f. FileTold g.K.Sink.tells f (at_names suffix f (held c.loop-name.files)) (at_names suffix f (held call.new.files)) (written c.loop-name.output) (written call.new.output)) value (c.in_ok-verify_file-2.ensures.told told));
    }

-- all were
pub returns-clause-told : goal.returns-clause-told
returns-clause-told g c told =
    let suffix = c.args.suffix.now in
    let xs = c.args.more.now in
    let i = c.loop-name.name-index in
    let held = g.F.Files.held in
    let written = g.K.Sink.written in
    let all = c.args.file.now ∷ xs in
    let none : drop i xs ≡ [] = drop_of_length-le xs (omega (arith, c.loop-name-test.false)) in
    carries_all g.K.Sink.tells suffix all (held c.args.files.now) (written c.args.output.now) (held c.loop-name.files) (written c.loop-name.output)
    (subst (λ l. Carries g.K.Sink.tells suffix all (held c.args.files.now) (written c.args.output.now) l (held c.loop-name.files) (written c.loop-name.output)) none (c.loop-name.invariant.carries told))

-- what logs heard of them
pub returns-in_err-verify_file-clause-heard : goal.returns-in_err-verify_file-clause-heard
returns-in_err-verify_file-clause-heard g c told =
    let held = g.F.Files.held c.args.files.now in
    let logs = g.L.Logs.logs c.args.logs.now in
    let later = g.L.Logs.logs c.verify_file.new.logs in
    let all = c.args.file.now ∷ c.args.more.now in
    let u = c.in_err-verify_file.field-0.0 in
    let is : c.from_residual.result ≡ Err u = search rules in
    subst (λ r. VerifyHeard c.args.suffix.now all held (count_ending r) logs later) (sym is)
    (verify_end c.args.suffix.now all held logs c.args.file.now c.args.more.now logs (λ e after heard. heard) u later c.in_err-verify_file.ensures.known (c.in_err-verify_file.ensures.heard told))

pub returns-in_err-verify_file-2-clause-heard : goal.returns-in_err-verify_file-2-clause-heard
returns-in_err-verify_file-2-clause-heard g c told =
    let suffix = c.args.suffix.now in
    let xs = c.args.more.now in
    let i = c.loop-name.name-index in
    let x = c.name-item.result in
    let rest = drop (i + 1) xs in
    let call = c.verify_file-in-loop-name in
    let held = g.F.Files.held in
    let logs = g.L.Logs.logs in
    let all = c.args.file.now ∷ xs in
    let u = c.in_err-verify_file-2.field-0.0 in
    let eq : drop i xs ≡ x ∷ rest = rest_of xs i x (omega (arith, c.loop-name-test.true)) c.name-item.is in
    let value : c.as_str.result.now ≡ x = c.as_str.ensures in
    let stays : (name : List ℕ) → IsNameAmong true suffix (x ∷ rest) name → held c.loop-name.files name ≡ held c.args.files.now name = subst (λ l. (name : List ℕ) → IsNameAmong true suffix l name → held c.loop-name.files name ≡ held c.args.files.now name) eq c.loop-name.invariant.stays in
    let is : c.from_residual-in_err-verify_file-2.result ≡ Err u = search rules in
    subst (λ r. VerifyHeard suffix all (held c.args.files.now) (count_ending r) (logs c.args.logs.now) (logs call.new.logs)) (sym is)
    (verify_end suffix all (held c.args.files.now) (logs c.args.logs.now) x rest (logs c.loop-name.logs) (subst (λ l. VerifyCarries suffix all (held c.args.files.now) (logs c.args.logs.now) l (logs c.loop-name.logs)) eq (c.loop-name.invariant.hears told))
    u (logs call.new.logs) c.in_err-verify_file-2.ensures.known
    (heard_at suffix (held c.loop-name.files) (held c.args.files.now) c.as_str.result.now x rest (count_ending {A = Unit {0}} (Err u)) (logs c.loop-name.logs) (logs call.new.logs) value stays (c.in_err-verify_file-2.ensures.heard told)))

pub returns-clause-heard : goal.returns-clause-heard
returns-clause-heard g c told =
    let suffix = c.args.suffix.now in
    let xs = c.args.more.now in
    let i = c.loop-name.name-index in
    let held = g.F.Files.held in
    let logs = g.L.Logs.logs in
    let all = c.args.file.now ∷ xs in
    let none : drop i xs ≡ [] = drop_of_length-le xs (omega (arith, c.loop-name-test.false)) in
    subst (λ l. VerifyCarries suffix all (held c.args.files.now) (logs c.args.logs.now) l (logs c.loop-name.logs)) none (c.loop-name.invariant.hears told) (Replied Verified) (logs c.loop-name.logs) (refl, λ is. cc)

-- nothing else changed
pub returns-in_err-verify_file-2-clause-others : goal.returns-in_err-verify_file-2-clause-others
returns-in_err-verify_file-2-clause-others g c other none =
    let suffix = c.args.suffix.now in
    let xs = c.args.more.now in
    let i = c.loop-name.name-index in
    let x = c.name-item.result in
    let rest = drop (i + 1) xs in
    let eq : drop i xs ≡ x ∷ rest = rest_of xs i x (omega (arith, c.loop-name-test.true)) c.name-item.is in
    let value : c.as_str.result.now ≡ x = c.as_str.ensures in
    let within : IsNameAmong true suffix (x ∷ rest) other → IsNameAmong true suffix (c.args.file.now ∷ xs) other = subst (λ l. IsNameAmong true suffix l other → IsNameAmong true suffix (c.args.file.now ∷ xs) other) eq (c.loop-name.invariant.within other) in
    c.verify_file-in-loop-name.ensures.others other (λ own. none (within (inl (subst (λ f. IsNameOf true suffix f other) value own)))) ∙ c.loop-name.invariant.others other none

-- the files may be taken
pub verify_file-requires-clause-take : goal.verify_file-requires-clause-take
verify_file-requires-clause-take g c = (c.requires.take.0, (c.requires.take.1.0, (c.requires.take.1.1.0, cc)))

pub verify_file-requires-in-loop-name-clause-take : goal.verify_file-requires-in-loop-name-clause-take
verify_file-requires-in-loop-name-clause-take g c =
    let suffix = c.args.suffix.now in
    let xs = c.args.more.now in
    let i = c.loop-name.name-index in
    let x = c.name-item.result in
    let rest = drop (i + 1) xs in
    let eq : drop i xs ≡ x ∷ rest = rest_of xs i x (omega (arith, c.loop-name-test.true)) c.name-item.is in
    let value : c.as_str.result.now ≡ x = c.as_str.ensures in
    let first = subst (λ l. MayTakeEach g.F.Files.may_take (verified_take suffix l)) eq c.loop-name.invariant.take in
    subst (λ f. MayTakeEach g.F.Files.may_take (verified_take suffix (f ∷ []))) (sym value) (first.0, (first.1.0, (first.1.1.0, cc)))
