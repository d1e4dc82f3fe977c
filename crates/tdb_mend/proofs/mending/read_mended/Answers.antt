-- What the pages show, or the fault that the undo or the header has.
use Rattle.std.proofs.Common.{◌≡◌, ◌-◌, Some, take, drop, sym, ◌∙◌, ap, subst, arith}
use Rattle.std.proofs.lemmas.Result.{err_from_is_err_and}
use Rattle.tdb_disk.specs.History.{Tried, seen, synced}
use Rattle.tdb_words.specs.Header.{HeaderOk, header_at}
use Rattle.tdb_space.specs.Form.{form_in, form_of}
use Rattle.tdb_space.specs.FirstFault.{front_fault}
use Rattle.tdb_check.proofs.Following.{names_then}
use Rattle.tdb_txn.specs.Txn.{txn_image}
use Rattle.tdb_mend.specs.Mended.{mend_fault, read_as, in_area, in_read}
use Rattle.tdb_mend.specs.View.{mended_view}
use Rattle.tdb_mend.proofs.Faults.{front_but}
use Rattle.tdb_mend.proofs.Overlays.{all_behind, cut_view, synced_same}
use Rattle.tdb_mend.proofs.mending.read_mended.Goals as goal

-- the undo area has a fault
pub returns-in_err-left-clause-refused : goal.returns-in_err-left-clause-refused
returns-in_err-left-clause-refused g c =
    let p = err_from_is_err_and c.from_residual.result c.from_residual.ensures.1 in
    rw (p.1, p.2)
    (λ told hh.
    (let first = synced_same (g.D.Disk.history c.args.d.now) (g.D.Disk.history c.start.new.d) c.start.ensures.tried in
    let whole = all_behind c.in-Ok.pages _ (seen (g.D.Disk.history c.start.new.d)) c.args.database.now.start (c.length.result - c.args.database.now.start) (omega (arith, c.length.ensures)) (c.in-Ok.ensures.image told ∙ first) in
    let form = ap form_in hh.header in
    names_then c.in_err-left.field-0.0 _ _ (λ fault h. in_area fault ((λ j. mend_fault (sym form j) (sym whole j)) ∙ h)) (c.in_err-left.ensures.bad told (form ∙ ap form_of (sym whole)))))

pub returns-in_err-left-clause-tried : goal.returns-in_err-left-clause-tried
returns-in_err-left-clause-tried g c = subst (Tried synced (g.D.Disk.history c.args.d.now)) (sym (ap (λ s. s.history) c.undo_file.ensures.disk)) c.start.ensures.tried

-- the header that is read has one
pub returns-in_err-header-clause-refused : goal.returns-in_err-header-clause-refused
returns-in_err-header-clause-refused g c =
    let p = err_from_is_err_and c.from_residual-in_err-header.result c.from_residual-in_err-header.ensures.1 in
    rw (p.1, p.2)
    (λ told hh.
    (let m = c.undo_file.new.file in
    let first = synced_same (g.D.Disk.history c.args.d.now) (g.D.Disk.history c.start.new.d) c.start.ensures.tried in
    let whole = all_behind c.in-Ok.pages _ (seen (g.D.Disk.history c.start.new.d)) c.args.database.now.start (c.length.result - c.args.database.now.start) (omega (arith, c.length.ensures)) (c.in-Ok.ensures.image told ∙ first) in
    let form = ap form_in hh.header in
    let r = c.in_ok-left.ensures.read told (form ∙ ap form_of (sym whole)) in
    let view = ap (λ s. take c.in_ok-left.left (drop m.start (txn_image m.pages (seen s.history)))) c.undo_file.ensures.disk
    ∙ cut_view m _ c.in_ok-left.left (omega (arith, c.in_ok-left.ensures.within, c.undo_file.ensures.length)) ∙ r.1 ∙ ap read_as whole in
    names_then c.in_err-header.field-0.0 _ _
    (λ fault h. in_read fault ((λ j. mend_fault (sym form j) (sym whole j)) ∙ r.0) (front_but _ fault (subst (λ x. front_fault x ≡ Some fault) view h)))
    (c.in_err-header.ensures.refused told)))

pub returns-in_err-header-clause-tried : goal.returns-in_err-header-clause-tried
returns-in_err-header-clause-tried g c = subst (Tried synced (g.D.Disk.history c.args.d.now)) (sym (ap (λ s. s.history) (c.shown_header.ensures.disk ∙ c.undo_file.ensures.disk))) c.start.ensures.tried

pub returns-clause-tried : goal.returns-clause-tried
returns-clause-tried g c = subst (Tried synced (g.D.Disk.history c.args.d.now)) (sym (ap (λ s. s.history) (c.shown_header.ensures.disk ∙ c.undo_file.ensures.disk))) c.start.ensures.tried

pub returns-clause-read : goal.returns-clause-read
returns-clause-read g c told hh =
    let m = c.undo_file.new.file in
    let first = synced_same (g.D.Disk.history c.args.d.now) (g.D.Disk.history c.start.new.d) c.start.ensures.tried in
    let whole = all_behind c.in-Ok.pages _ (seen (g.D.Disk.history c.start.new.d)) c.args.database.now.start (c.length.result - c.args.database.now.start) (omega (arith, c.length.ensures)) (c.in-Ok.ensures.image told ∙ first) in
    let form = ap form_in hh.header in
    let r = c.in_ok-left.ensures.read told (form ∙ ap form_of (sym whole)) in
    let view = ap (λ s. take c.in_ok-left.left (drop m.start (txn_image m.pages (seen s.history)))) c.undo_file.ensures.disk
    ∙ cut_view m _ c.in_ok-left.left (omega (arith, c.in_ok-left.ensures.within, c.undo_file.ensures.length)) ∙ r.1 ∙ ap read_as whole in
    let header = c.in_ok-header.ensures.header told in (
      (λ j. mend_fault (sym form j) (sym whole j)) ∙ r.0,
      subst HeaderOk view header.0,
      ap (mended_view c.shown_header.new.file) (sym (ap (λ s. seen s.history) c.undo_file.ensures.disk ∙ first)) ∙ c.shown_header.ensures.same.view ∙ view,
      header.1 ∙ ap header_at view,
    )

pub returns-clause-length : goal.returns-clause-length
returns-clause-length g c = c.shown_header.ensures.same.bounds.file ∙ c.undo_file.ensures.file ∙ c.in-Ok.ensures.start
