-- The bytes that the undo changed, and the stray ones.
use Rattle.std.proofs.Common.{◌≡◌, ◌+◌, drop, ◌∙◌, ap}
use Rattle.std.proofs.lemmas.Result.{err_from_is_err_and}
use Rattle.tdb_disk.specs.History.{seen}
use Rattle.tdb_mend.specs.Mended.{bytes_changed}
use Rattle.tdb_mend.specs.View.{mended_start, mended_view}
use Rattle.tdb_mend.proofs.Overlays.{same_then}
use Rattle.tdb_mend.proofs.mending.count_mended.Goals as goal

pub returns-in_err-stray-clause-first_fault : goal.returns-in_err-stray-clause-first_fault
returns-in_err-stray-clause-first_fault g c =
    let p = err_from_is_err_and c.from_residual.result c.from_residual.ensures.1 in
    rw (p.1, p.2) (λ told form. c.in_err-stray.ensures.first_fault told form)

pub returns-in_err-changed-clause-same : goal.returns-in_err-changed-clause-same
returns-in_err-changed-clause-same g c =
    same_then (seen (g.D.Disk.history c.args.d.now)) (seen (g.D.Disk.history c.survey_file.new.d)) c.args.file.now c.survey_file.new.file c.count_changed.new.file (ap (λ s. seen s.history) c.survey_file.ensures.disk) c.survey_file.ensures.same
    c.count_changed.ensures.same

pub returns-clause-same : goal.returns-clause-same
returns-clause-same g c =
    same_then (seen (g.D.Disk.history c.args.d.now)) (seen (g.D.Disk.history c.survey_file.new.d)) c.args.file.now c.survey_file.new.file c.count_changed.new.file (ap (λ s. seen s.history) c.survey_file.ensures.disk) c.survey_file.ensures.same
    c.count_changed.ensures.same

pub returns-clause-sound : goal.returns-clause-sound
returns-clause-sound g c told form =
    let base = seen (g.D.Disk.history c.args.d.now) in
    let file = c.survey_file.new.file in
    let kept = ap (λ s. seen s.history) c.survey_file.ensures.disk in
    let was = c.in_ok-stray.ensures.sound told form in
    let at = c.survey_file.ensures.same.bounds.start in
    let same : c.in_ok-changed.changed ≡ bytes_changed (drop (mended_start c.args.file.now) base) (mended_view c.args.file.now base) =
    c.in_ok-changed.ensures.count told ∙ (λ j. bytes_changed (drop (at j) (kept j)) (mended_view file (kept j))) ∙ ap (bytes_changed (drop (mended_start c.args.file.now) base)) c.survey_file.ensures.same.view in
    (was.0, (λ j. same j + was.1 j))
