-- The view of the file shows it over its disk, and no call of it writes the disk.
use Rattle.std.proofs.Common.{◌≡◌, List, ℕ, None, Some, take, refl, sym, ◌∙◌, ap, subst}
use Rattle.std.proofs.lemmas.Result.{IfOk-weaker, IfErr-weaker}
use Rattle.tdb_disk.specs.History.{seen}
use Rattle.tdb_space.specs.Form.{form_of}
use Rattle.tdb_check.specs.Seen.{Names}
use Rattle.tdb_mend.specs.declared.file.MendedFile.{MendedFile}
use Rattle.tdb_mend.specs.Mended.{mend_fault, read_as}
use Rattle.tdb_mend.specs.View.{mended_form, mended_view}
use Rattle.tdb_mend.proofs.Overlays.{first_name}
use Rattle.tdb_mend.proofs.mending.undo_file.Goals as goal

pub returns-clause-read : goal.returns-clause-read
returns-clause-read g c =
    let file = c.new-view.ensures.file in
    let d = ap (λ x. seen (g.D.Disk.history x)) c.new-view.ensures.disk in
    let then = ap (λ s. seen s.history) (c.undo_in.ensures.wrote.disk refl) ∙ d in
    let last = c.file-1.given.1 (sym c.new-view.ensures.same_file ∙ sym (first_name _ _ _ _ c.undo_in.ensures.wrote.under)) in
    IfOk-weaker c.undo_in.result _ _
    (λ left h told.
    subst (λ (q : MendedFile × List ℕ × MendedFile × List ℕ). mended_form q.0 ≡ form_of (mended_view q.0 q.1) → (mend_fault (mended_form q.0) (mended_view q.0 q.1) ≡ None) × (take left (mended_view q.2 q.3) ≡ read_as (mended_view q.0 q.1)))
    (λ j. (file j, d j, sym last j, then j)) (h told))
    c.undo_in.ensures.read

pub returns-clause-bad : goal.returns-clause-bad
returns-clause-bad g c =
    let file = c.new-view.ensures.file in
    let d = ap (λ x. seen (g.D.Disk.history x)) c.new-view.ensures.disk in
    IfErr-weaker c.undo_in.result _ _
    (λ e h told.
    subst (λ (q : MendedFile × List ℕ). mended_form q.0 ≡ form_of (mended_view q.0 q.1) → Names e (λ fault. mend_fault (mended_form q.0) (mended_view q.0 q.1) ≡ Some fault)) (λ j. (file j, d j)) (h told))
    c.undo_in.ensures.bad
