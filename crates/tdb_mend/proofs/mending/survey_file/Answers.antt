-- The view of the file shows it over its disk, and leaves both as they are.
use Rattle.std.proofs.Common.{◌≡◌, ℕ, List, sym, ◌∙◌, ap, subst}
use Rattle.std.specs.Prelude.{IsTrue, IfOk}
use Rattle.tdb_disk.specs.History.{seen}
use Rattle.tdb_check.specs.Report.{IsFormOf}
use Rattle.tdb_mend.specs.declared.file.MendedFile.{MendedFile}
use Rattle.tdb_mend.specs.Mended.{IsSoundButStrays, strays}
use Rattle.tdb_mend.specs.View.{mended_form, mended_length, mended_start, mended_view, SameFile}
use Rattle.tdb_mend.proofs.Overlays.{first_name, third_name}
use Rattle.tdb_mend.proofs.mending.survey_file.Goals as goal

pub returns-clause-sound : goal.returns-clause-sound
returns-clause-sound g c =
    let base = seen (g.D.Disk.history c.args.d.now) in
    let d = ap (λ x. seen (g.D.Disk.history x)) c.new-view.ensures.disk in
    subst (λ (m : MendedFile). IfOk c.survey.result (λ n. IsTrue g.D.Disk.tells → IsFormOf (mended_form m) (mended_view m base) → IsSoundButStrays (mended_view m base) × (n ≡ strays (mended_view m base)))) c.new-view.ensures.file
    (subst (λ (x : List ℕ). IfOk c.survey.result (λ n. IsTrue g.D.Disk.tells → IsFormOf (mended_form c.new-view.result.file.now) (mended_view c.new-view.result.file.now x) → IsSoundButStrays (mended_view c.new-view.result.file.now x) × (n ≡ strays (mended_view c.new-view.result.file.now x)))) d c.survey.ensures.sound)

pub returns-clause-same : goal.returns-clause-same
returns-clause-same g c =
    let base = seen (g.D.Disk.history c.args.d.now) in
    let looked = c.survey.ensures.looked in
    let file = c.new-view.ensures.file in
    let new = c.survey.new.s.file.now in
    let d = ap (λ x. seen (g.D.Disk.history x)) c.new-view.ensures.disk in
    let h = ap (λ s. seen s.history) looked.disk in
    let kept = first_name _ _ _ _ looked.under in
    let long : g.D.Disk.size c.survey.new.s.disk.now ≡ g.D.Disk.size c.args.d.now = ap (λ s. s.size) looked.disk ∙ ap (λ x. g.D.Disk.size x) c.new-view.ensures.disk in
    subst (λ m. SameFile base c.args.file.now m) (sym (c.file-1.given.1 (sym c.new-view.ensures.same_file ∙ sym kept)))
    (record {
      view = ap (mended_view new) (sym (h ∙ d)) ∙ looked.image ∙ (λ j. mended_view (file j) (d j));
      bounds = record {
        form = looked.form ∙ ap mended_form file;
        file = sym c.survey.new.s.sized ∙ long ∙ c.requires.sized;
        start = third_name _ _ _ _ _ _ _ _ looked.under ∙ ap mended_start file;
        length = looked.size ∙ ap mended_length file;
      };
    })
