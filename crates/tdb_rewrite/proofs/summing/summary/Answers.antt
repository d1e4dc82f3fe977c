-- The check's counts are those that are summed up.
use Rattle.std.proofs.Common.{◌≡◌, sym, subst}
use Rattle.tdb_check.specs.Report.{IsFormOf, Counted}
use Rattle.tdb_space.specs.Accepted.{Accept}
use Rattle.tdb_rewrite.specs.Summary.{SumsUp}
use Rattle.tdb_rewrite.proofs.Walking.{moved}
use Rattle.tdb_rewrite.proofs.summing.summary.Goals as goal

pub returns-clause-summed_up : goal.returns-clause-summed_up
returns-clause-summed_up g c told stated =
    let f = g.S.Space.form c.args.s.now in
    let img = g.S.Space.image c.args.s.now in
    let k = g.S.Space.form c.check.new.s in
    let v = g.S.Space.image c.check.new.s in
    let form : k ≡ f = c.check.ensures.looked.form in
    let image : v ≡ img = c.check.ensures.looked.image in
    let checked = c.in_ok-report.ensures.accepted told stated in
    let summed = c.in_ok-sum_up.ensures.summed_up told (moved IsFormOf k f v img (sym form) (sym image) stated) (subst Accept (sym image) checked.0)
    (subst (λ i. Counted i c.in_ok-report.report) (sym image) checked.1) in
    (checked.0, subst (λ i. SumsUp i c.in_ok-sum_up.field-0) image summed)
