-- Each opener with a command has its line; where memory is wanting, those before it have theirs.
use Rattle.std.proofs.Common.{◌+◌, ◌∷◌, [], ◌++◌, refl, sym, ◌∙◌, ap, subst, arith, inl, inr, append-nil}
use Rattle.std.proofs.lemmas.Result.{err_from_is_err_and}
use Rattle.tdb_commands.specs.declared.line.Line.TheVariants.{Unfinished}
use Rattle.tdb_world.specs.Courses.Unfinished.{AreUnfinished}
use Rattle.tdb_world.proofs.Courses.Finishing.{one_more, told_some}
use Rattle.tdb_world.proofs.course.ending.finish_report.Goals as goal
use Rattle.tdb_world.proofs.course.ending.finish_report.Goals.{then-is_busy+in_ok-push, else-is_busy}

pub returns-in_err-push-clause-err : goal.returns-in_err-push-clause-err
returns-in_err-push-clause-err c =
    let q = err_from_is_err_and c.from_residual.result c.from_residual.ensures.1 in
    let so_far = c.loop-place.invariant in
    let low = c.loop-place-test.true in
    let all = c.joined-place-end.ensures in
    let rest = told_some c.args.world.now c.loop-place.place c.joined-place-end.result so_far.0 (omega (arith, low)) so_far.2 in
    rw q.1 (so_far.0, rest.0, c.in_err-push.ensures.err ∙ so_far.1, subst (λ n. AreUnfinished c.args.world.now 0 n (so_far.0 ++ rest.0)) all rest.1)

pub loop-place-preserved : goal.loop-place-preserved
loop-place-preserved c =
    let old = c.args.report.now.lines in
    let place = c.loop-place.place in
    elim c.if-is_busy.branch [
      | then-is_busy+in_ok-push w ↦
          one_more c.args.world.now old c.loop-place.report.lines c.if-is_busy.report.lines (Unfinished (place + 1) ∷ []) place c.loop-place.invariant (ap (λ r. r.lines) w.report-is ∙ w.in_ok-push.ensures.ok)
          (inl (c.is_busy.ensures.yes w.if-is_busy.true, refl))
      | else-is_busy w ↦
          one_more c.args.world.now old c.loop-place.report.lines c.if-is_busy.report.lines [] place c.loop-place.invariant (ap (λ r. r.lines) w.report-is ∙ sym (append-nil c.loop-place.report.lines))
          (inr (c.is_busy.ensures.no w.if-is_busy.false, refl))
    ]
