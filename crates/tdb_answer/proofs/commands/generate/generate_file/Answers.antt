use Rattle.std.proofs.Common.{◌≡◌, ◌≤◌, true, false, Result, Ok, Err, None, refl, sym, ◌∙◌, ap, subst, inl, inr, arith, ◌<◌, List, ℕ}
use Rattle.std.proofs.lemmas.Result.{IfErr-at_err}
use Rattle.tdb_disk.specs.Count.{HasCauseOf, Rose}
use Rattle.tdb_gen.specs.Taking.{UnlessIo}
use Rattle.tdb_gen.specs.declared.fault.GenFault.{GenFault}
use Rattle.tdb_gen.specs.declared.fault.GenFault.TheVariants as F
use Rattle.tdb_cmdline.specs.declared.ask.Task.TheVariants.{Generate}
use Rattle.tdb_answer.specs.Commands.Generate.{of_gen, FilledSo}
use Rattle.tdb_answer.specs.Ending.{task_failed, CountedIf}
use Rattle.tdb_answer.proofs.Acting.{rose_earlier}
use Rattle.tdb_answer.proofs.Held.{same_or_other}
use Rattle.tdb_answer.proofs.Restoring.{none_held, untaken_new}
use Rattle.tdb_answer.proofs.Generating.{done_cause, broken_cause, done_left, broken_left, failed_left, untaken_left, done_heard, broken_heard, kept_heard, untaken_heard, broken_asked, broken_unread, broken_counted, given_counted}
use Rattle.tdb_answer.proofs.commands.generate.generate_file.Goals as goal
use Rattle.tdb_answer.proofs.commands.generate.generate_file.Goals.{After-give}

-- no file was at the name
fresh : (g : _) (c : After-give g) → g.F.D.Disk.tells ≡ true → g.F.Files.held c.args.files.now c.args.name.now ≡ None
fresh g c told = none_held (g.F.Files.held c.args.files.now c.args.name.now) (λ some. let wrong = (c.in-Ok.ensures.there told).1 (some, refl) in cc)

-- the file was given back
back : (g : _) (c : After-give g) (other : List ℕ) → g.F.Files.is_taken c.give.new.self other ≡ false
back g c other = elim (same_or_other other c.args.name.now) [
  | inl same ↦ subst (λ n. g.F.Files.is_taken c.give.new.self n ≡ false) (sym same) c.give.ensures.free
  | inr apart ↦ c.give.ensures.taken_others other apart ∙ c.in-Ok.ensures.taken_others other apart ∙ c.requires.free other
]

-- what was done on the disk, by its answer
filled : (g : _) (c : After-give g) (answer : Result (List ℕ) GenFault) → c.fill-disk.result.1 ≡ answer → g.F.D.Disk.tells ≡ true
    → FilledSo c.args.commands c.args.seed (g.F.D.Disk.history c.fill-disk.result.0) (g.L.Logs.logs c.args.logs.now) (g.L.Logs.logs c.fill-disk.new.logs) answer
filled g c answer is told =
    subst (FilledSo c.args.commands c.args.seed (g.F.D.Disk.history c.fill-disk.result.0) (g.L.Logs.logs c.args.logs.now) (g.L.Logs.logs c.fill-disk.new.logs)) is (c.fill-disk.ensures.generated told)

-- the file wasn't taken
pub returns-in-Err-clause-cause : goal.returns-in-Err-clause-cause
returns-in-Err-clause-cause g c told =
    inl (untaken_new (Generate c.args.commands c.args.seed) c.args.name.now (g.F.Files.held c.args.files.now c.args.name.now) _ _ (λ h. refl) c.in-Err.refusal _
    (λ is. c.in-Err.ensures.missing_how (ap Err is) refl) (λ is. ((c.in-Err.ensures.there told).0 (ap Err is)).0)
    (λ is. c.in-Err.ensures.cause.failed is) c.untaken.ensures)

pub returns-in-Err-clause-left : goal.returns-in-Err-clause-left
returns-in-Err-clause-left g c told =
    untaken_left c.args.commands c.args.seed c.args.name.now (g.F.Files.held c.args.files.now c.args.name.now) (g.F.Files.held c.take.new.self c.args.name.now) c.in-Err.refusal c.untaken.result
    (c.in-Err.ensures.refused_held c.args.name.now) (λ is. c.in-Err.ensures.missing_how (ap Err is) refl) c.untaken.ensures

-- all commands were done
pub returns-in-Ok-filled-clause-cause : goal.returns-in-Ok-filled-clause-cause
returns-in-Ok-filled-clause-cause g c told =
    let a = (goal.at.returns-in-Ok-filled-clause-cause g c).After-give in
    done_cause c.args.commands c.args.seed c.args.name.now (g.F.Files.held c.args.files.now c.args.name.now) _ _ (fresh g a told) c.in-Ok-filled.text (g.F.D.Disk.history c.fill-disk.result.0) _ _ (filled g a (Ok c.in-Ok-filled.text) c.in-Ok-filled.is told)

pub returns-in-Ok-filled-clause-left : goal.returns-in-Ok-filled-clause-left
returns-in-Ok-filled-clause-left g c told =
    let a = (goal.at.returns-in-Ok-filled-clause-left g c).After-give in
    done_left c.args.commands c.args.seed (g.F.Files.held c.args.files.now c.args.name.now) (g.F.Files.held c.give.new.self c.args.name.now) c.in-Ok-filled.text (g.F.D.Disk.history c.fill-disk.result.0) _ _
    (fresh g a told) (c.give.ensures.held told) (filled g a (Ok c.in-Ok-filled.text) c.in-Ok-filled.is told)

pub returns-in-Err-clause-told : goal.returns-in-Err-clause-told
returns-in-Err-clause-told g c told =
    untaken_heard c.args.commands c.args.seed (g.L.Logs.logs c.args.logs.now) (g.L.Logs.logs c.args.logs.now) c.args.name.now (g.F.Files.held c.take.new.self c.args.name.now) c.in-Err.refusal c.untaken.result
    refl (λ is. c.in-Err.ensures.missing_how (ap Err is) refl) c.untaken.ensures

pub returns-in-Ok-filled-clause-told : goal.returns-in-Ok-filled-clause-told
returns-in-Ok-filled-clause-told g c told =
    let a = (goal.at.returns-in-Ok-filled-clause-told g c).After-give in
    done_heard c.args.commands c.args.seed _ _ c.in-Ok-filled.text (g.F.D.Disk.history c.fill-disk.result.0) (g.F.Files.held c.give.new.self c.args.name.now) (c.give.ensures.held told) (filled g a (Ok c.in-Ok-filled.text) c.in-Ok-filled.is told)

-- its disk failed
pub returns-in-Err-Io-clause-cause : goal.returns-in-Err-Io-clause-cause
returns-in-Err-Io-clause-cause g c told =
    let start = g.F.D.Disk.faults c.in-Ok.disk in
    let last = g.F.D.Disk.faults c.fill-disk.result.0 in
    let rose : Rose start last = IfErr-at_err (λ e. e ≡ F.Io → Rose start last) c.in-Err-Io.is (c.fill-disk.ensures.cause told).failed (rw c.in-Err-Io.is at c.in-Err-Io.field-0-is) in
    let some : 0 < last = omega (arith, rose, c.in-Ok.ensures.disk_faults) in
    inl (task_failed (rose_earlier (g.F.Files.faults c.args.files.now) (g.F.Files.faults c.take.new.self) (g.F.Files.faults c.give.new.self) c.in-Ok.ensures.cause.never_falls (c.give.ensures.faulty some)))

-- not all commands were done, and it was removed
pub returns-in-Ok-remove : goal.returns-in-Ok-remove
returns-in-Ok-remove g c =
    let a = (goal.at.returns-in-Ok-remove g c).After-give in
    let before = g.F.Files.faults c.args.files.now in
    let given = g.F.Files.faults c.give.new.self in
    let after = g.F.Files.faults c.remove.new.self in
    let r = c.in-Err-filled.fault in
    let e = c.from.result in
    let is = c.from.ensures in
    let start = g.F.D.Disk.faults c.in-Ok.disk in
    let last = g.F.D.Disk.faults c.fill-disk.result.0 in
    let counted : CountedIf g.F.D.Disk.tells before after e = subst (λ n. CountedIf g.F.D.Disk.tells before n e) (sym c.in-Ok-remove.ensures.cause.done)
    (given_counted g.F.D.Disk.tells before (g.F.Files.faults c.take.new.self) given start last e
    c.in-Ok.ensures.cause.done c.in-Ok.ensures.disk_faults
    (broken_counted g.F.D.Disk.tells start last r e is c.fill-disk.ensures.rises
    (λ told. (subst (HasCauseOf F.Io start last) c.in-Err-filled.is (c.fill-disk.ensures.cause told)).failed) (subst (λ r. UnlessIo r (last ≡ start)) c.in-Err-filled.is c.fill-disk.ensures.quiet))
    c.give.ensures.sound c.give.ensures.faulty c.give.ensures.faults) in
    record {
      cause = λ told. broken_cause c.args.commands c.args.seed c.args.name.now (g.F.Files.held c.args.files.now c.args.name.now) before after r e is (λ io. counted.failed (is ∙ ap of_gen io) told);
      left = λ told. broken_left c.args.commands c.args.seed (g.F.Files.held c.args.files.now c.args.name.now) (g.F.Files.held c.remove.new.self c.args.name.now) r e (fresh g a told) (c.in-Ok-remove.ensures.gone told) is;
      others = λ other apart. c.remove.ensures.others other apart ∙ c.give.ensures.held_others other apart ∙ c.in-Ok.ensures.held_others other apart;
      given_back = λ other. c.remove.ensures.taken other ∙ back g a other;
      counted = counted;
      asked = broken_asked r e is;
      unread = broken_unread r e is;
      told = λ told. broken_heard c.args.commands c.args.seed _ _ r e (g.F.D.Disk.history c.fill-disk.result.0) (g.F.Files.held c.remove.new.self c.args.name.now) is (filled g a (Err c.in-Err-filled.fault) c.in-Err-filled.is told);
    }

-- it couldn't be removed
pub returns-in-Err-remove : goal.returns-in-Err-remove
returns-in-Err-remove g c =
    let a = (goal.at.returns-in-Err-remove g c).After-give in
    let before = g.F.Files.faults c.args.files.now in
    let given = g.F.Files.faults c.give.new.self in
    let after = g.F.Files.faults c.remove.new.self in
    let later : before ≤ given = omega (arith, c.in-Ok.ensures.cause.done, c.give.ensures.faults) in
    let rose : Rose before after = rose_earlier before given after later c.in-Err-remove.ensures.cause.failed in
    record {
      cause = λ told. inl (task_failed rose);
      left = λ told. failed_left c.args.commands c.args.seed (g.F.Files.held c.args.files.now c.args.name.now) (g.F.Files.held c.remove.new.self c.args.name.now) (fresh g a told);
      others = λ other apart. c.remove.ensures.others other apart ∙ c.give.ensures.held_others other apart ∙ c.in-Ok.ensures.held_others other apart;
      given_back = λ other. c.remove.ensures.taken other ∙ back g a other;
      counted = record { never_falls = omega (arith, later, c.in-Err-remove.ensures.cause.never_falls); failed = λ is told. rose; sound = λ other. absurd (other refl) };
      asked = λ is. cc;
      unread = refl;
      told = λ told. kept_heard c.args.commands c.args.seed _ _ c.in-Err-filled.fault (g.F.D.Disk.history c.fill-disk.result.0) (g.F.Files.held c.remove.new.self c.args.name.now) (filled g a (Err c.in-Err-filled.fault) c.in-Err-filled.is told);
    }
