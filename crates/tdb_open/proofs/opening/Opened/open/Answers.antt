use Rattle.std.proofs.Common.{rules, ◌≡◌, Err, subst, sym}
use Rattle.std.specs.Prelude.{IsTrue}
use Rattle.std.proofs.lemmas.Result.{IfOk-weaker, IfErr-weaker, on_ok_weaker}
use Rattle.tdb_disk.specs.Count.{HasCauseOf}
use Rattle.tdb_disk.specs.History.{seen}
use Rattle.tdb_open.specs.declared.halt.Halt.TheVariants.{Device}
use Rattle.tdb_open.specs.Opening.{IsOpenedOn, UndoneIfOpen, HaltsRightly, HaltLeaves, of_log}
use Rattle.tdb_open.specs.Notices.{OpeningHeard}
use Rattle.tdb_open.proofs.Errors.{if_this_err}
use Rattle.tdb_open.proofs.Notices.{log_rightly, refused_leaves, refused_heard, answer_heard, refused_cause}
use Rattle.tdb_open.proofs.opening.Opened.open.Goals as goal

-- a log refuses to be told of the answer
pub returns-in_err-tell_verdict-clause-refused : goal.returns-in_err-tell_verdict-clause-refused
returns-in_err-tell_verdict-clause-refused g c =
    let img = seen (g.D.Disk.history c.args.disk.now) in
    let e = c.in_err-tell_verdict.field-0.0 in
    if_this_err (λ halt. IsTrue g.D.Disk.tells → HaltsRightly img halt) c.from_residual.result (of_log e) (search rules) (λ told. log_rightly e img)

pub returns-in_err-tell_verdict-clause-halted : goal.returns-in_err-tell_verdict-clause-halted
returns-in_err-tell_verdict-clause-halted g c =
    let old = g.D.Disk.history c.args.disk.now in
    let now = g.D.Disk.history c.found-answer.new.disk in
    let answer = c.found-answer.result in
    let e = c.in_err-tell_verdict.field-0.0 in
    if_this_err (λ halt. IsTrue g.D.Disk.tells → HaltLeaves halt old now) c.from_residual.result (of_log e) (search rules)
    (λ told. refused_leaves e _ _ old now answer (on_ok_weaker answer (λ (h : IsTrue g.D.Disk.tells → UndoneIfOpen old now). h told) c.found-answer.ensures.left)
    (IfErr-weaker answer (λ halt. IsTrue g.D.Disk.tells → HaltLeaves halt old now) (λ halt. HaltLeaves halt old now) (λ halt h. h told) c.found-answer.ensures.halted) c.in_err-tell_verdict.ensures.refused)

pub returns-in_err-tell_verdict-clause-heard : goal.returns-in_err-tell_verdict-clause-heard
returns-in_err-tell_verdict-clause-heard g c told =
    let img = seen (g.D.Disk.history c.args.disk.now) in
    let answer = c.found-answer.result in
    let e = c.in_err-tell_verdict.field-0.0 in
    let old = g.L.Logs.logs c.args.logs.now in
    let mid = g.L.Logs.logs c.found-answer.new.logs in
    let new = g.L.Logs.logs c.tell_verdict.new.logs in
    let is : c.from_residual.result ≡ Err (of_log e) = search rules in
    subst (OpeningHeard img old new) (sym is)
    (refused_heard e img old mid new answer
    (IfOk-weaker answer (λ o. IsTrue g.D.Disk.tells → IsOpenedOn img o) (λ o. IsOpenedOn img o) (λ o h. h told) c.found-answer.ensures.opened)
    (IfErr-weaker answer (λ halt. IsTrue g.D.Disk.tells → HaltsRightly img halt) (λ halt. HaltsRightly img halt) (λ halt h. h told) c.found-answer.ensures.refused)
    (c.found-answer.ensures.heard told) c.in_err-tell_verdict.ensures.refused)

pub returns-in_err-tell_verdict-clause-cause : goal.returns-in_err-tell_verdict-clause-cause
returns-in_err-tell_verdict-clause-cause g c =
    let e = c.in_err-tell_verdict.field-0.0 in
    let is : c.from_residual.result ≡ Err (of_log e) = search rules in
    subst (HasCauseOf Device (g.D.Disk.faults c.args.disk.now) (g.D.Disk.faults c.found-answer.new.disk)) (sym is)
    (refused_cause e _ _ _ _ c.found-answer.result c.found-answer.ensures.cause c.in_err-tell_verdict.ensures.refused)

-- it is told
pub returns-clause-heard : goal.returns-clause-heard
returns-clause-heard g c told =
    answer_heard (seen (g.D.Disk.history c.args.disk.now)) (g.L.Logs.logs c.args.logs.now) (g.L.Logs.logs c.found-answer.new.logs) (g.L.Logs.logs c.tell_verdict.new.logs) c.found-answer.result
    (c.found-answer.ensures.heard told) c.in_ok-tell_verdict.ensures.told
