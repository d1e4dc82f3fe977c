use Rattle.std.proofs.Common.{rules, ◌≡◌, List, ℕ, Err, subst, sym}
use Rattle.std.specs.Prelude.{IsTrue, IfOk, IfErr}
use Rattle.std.proofs.lemmas.Result.{IfOk-weaker, IfErr-weaker}
use Rattle.tdb_disk.specs.Count.{HasCauseOf}
use Rattle.tdb_disk.specs.History.{seen}
use Rattle.tdb_open.specs.declared.halt.Halt.TheVariants.{Device}
use Rattle.tdb_open.specs.Opening.{CanRead, IsCheckedOn, ReadHaltsRightly, of_log}
use Rattle.tdb_open.specs.Notices.{ReadingHeard}
use Rattle.tdb_open.proofs.Errors.{if_this_err}
use Rattle.tdb_open.proofs.Notices.{read_refused_rightly, read_refused_heard, read_heard, refused_cause}
use Rattle.tdb_open.proofs.opening.Opened.open_to_read.Goals as goal
use Rattle.tdb_open.proofs.opening.Opened.open_to_read.Goals.{After-inspect-answer}

-- what the look at the file told of it
module _ (g : _) (c : After-inspect-answer g) (told : IsTrue g.D.Disk.tells) where
  abbrev img : List ℕ
  img = seen (g.D.Disk.history c.args.disk.now)

  can : IfOk c.inspect-answer.result (λ o. CanRead img)
  can = IfOk-weaker c.inspect-answer.result (λ o. IsTrue g.D.Disk.tells → CanRead img) (λ o. CanRead img) (λ o h. h told) c.inspect-answer.ensures.can_read

  sound : IfOk c.inspect-answer.result (λ o. IsCheckedOn img o)
  sound = IfOk-weaker c.inspect-answer.result (λ o. IsTrue g.D.Disk.tells → IsCheckedOn img o) (λ o. IsCheckedOn img o) (λ o h. h told) c.inspect-answer.ensures.checked

  right : IfErr c.inspect-answer.result (λ halt. ReadHaltsRightly img halt)
  right = IfErr-weaker c.inspect-answer.result (λ halt. IsTrue g.D.Disk.tells → ReadHaltsRightly img halt) (λ halt. ReadHaltsRightly img halt) (λ halt h. h told) c.inspect-answer.ensures.refused

-- a log refuses to be told of the answer
pub returns-in_err-tell_verdict-clause-refused : goal.returns-in_err-tell_verdict-clause-refused
returns-in_err-tell_verdict-clause-refused g c =
    let a = (goal.at.returns-in_err-tell_verdict-clause-refused g c).After-inspect-answer in
    let img = seen (g.D.Disk.history c.args.disk.now) in
    if_this_err (λ halt. IsTrue g.D.Disk.tells → ReadHaltsRightly img halt) c.from_residual.result _ (search rules)
    (λ told. read_refused_rightly c.in_err-tell_verdict.field-0.0 img _ _ c.inspect-answer.result (can g a told) (right g a told) c.in_err-tell_verdict.ensures.refused)

pub returns-in_err-tell_verdict-clause-heard : goal.returns-in_err-tell_verdict-clause-heard
returns-in_err-tell_verdict-clause-heard g c told =
    let a = (goal.at.returns-in_err-tell_verdict-clause-heard g c).After-inspect-answer in
    let img = seen (g.D.Disk.history c.args.disk.now) in
    let e = c.in_err-tell_verdict.field-0.0 in
    let old = g.L.Logs.logs c.args.logs.now in
    let new = g.L.Logs.logs c.tell_verdict.new.logs in
    let is : c.from_residual.result ≡ Err (of_log e) = search rules in
    subst (ReadingHeard img old new) (sym is) (read_refused_heard e img old new c.inspect-answer.result (can g a told) (sound g a told) (right g a told) c.in_err-tell_verdict.ensures.refused)

pub returns-in_err-tell_verdict-clause-cause : goal.returns-in_err-tell_verdict-clause-cause
returns-in_err-tell_verdict-clause-cause g c =
    let e = c.in_err-tell_verdict.field-0.0 in
    let is : c.from_residual.result ≡ Err (of_log e) = search rules in
    subst (HasCauseOf Device (g.D.Disk.faults c.args.disk.now) (g.D.Disk.faults c.inspect-answer.new.disk)) (sym is)
    (refused_cause e _ _ _ _ c.inspect-answer.result c.inspect-answer.ensures.cause c.in_err-tell_verdict.ensures.refused)

-- it is told
pub returns-clause-heard : goal.returns-clause-heard
returns-clause-heard g c told =
    read_heard (seen (g.D.Disk.history c.args.disk.now)) (g.L.Logs.logs c.args.logs.now) (g.L.Logs.logs c.tell_verdict.new.logs) c.inspect-answer.result c.inspect-answer.ensures.no_log c.in_ok-tell_verdict.ensures.told
