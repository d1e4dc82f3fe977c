-- What is so read was checked, and its stray bytes count for nothing.
use Rattle.std.proofs.Common.{◌+◌, ◌<◌, drop, sym, ◌∙◌, ap, subst}
use Rattle.std.proofs.lemmas.Result.{err_from_is_err_and}
use Rattle.tdb_disk.specs.History.{Tried, synced}
use Rattle.tdb_check.proofs.Following.{names_then}
use Rattle.tdb_mend.specs.Mended.{bytes_changed, strays, IsFirstButStrays, IsSoundButStrays, in_read}
use Rattle.tdb_mend.specs.View.{mended_view}
use Rattle.tdb_mend.proofs.Mends.{read_now, own_form, pairs_mended}
use Rattle.tdb_mend.proofs.Overlays.{synced_same}
use Rattle.tdb_mend.proofs.Strays.{strays_count_for_nothing, mended_header_same}
use Rattle.tdb_mend.proofs.mending.mend.Goals as goal

pub returns-in_err-file-clause-refused : goal.returns-in_err-file-clause-refused
returns-in_err-file-clause-refused g c =
    let p = err_from_is_err_and c.from_residual.result c.from_residual.ensures.1 in
    rw (p.1, p.2) (λ told hh. c.in_err-file.ensures.refused told hh)

pub returns-in_err-changed-clause-refused : goal.returns-in_err-changed-clause-refused
returns-in_err-changed-clause-refused g c =
    let p = err_from_is_err_and c.from_residual-in_err-changed.result c.from_residual-in_err-changed.ensures.1 in
    rw (p.1, p.2)
    (λ told hh.
    (let first = synced_same (g.D.Disk.history c.args.d.now) (g.D.Disk.history c.read_mended.new.d) c.read_mended.ensures.tried in
    let r = c.in_ok-file.ensures.read told hh in
    names_then c.in_err-changed.field-0.0 _ _ (λ fault h. in_read fault r.0 (subst (λ x. IsFirstButStrays x fault) (read_now _ _ _ c.in_ok-file.file first r) h))
    (c.in_err-changed.ensures.first_fault told (own_form _ _ _ c.in_ok-file.file first r))))

pub returns-in_err-changed-clause-tried : goal.returns-in_err-changed-clause-tried
returns-in_err-changed-clause-tried g c = subst (Tried synced (g.D.Disk.history c.args.d.now)) (sym (ap (λ s. s.history) c.count_mended.ensures.disk)) c.read_mended.ensures.tried

pub returns-clause-tried : goal.returns-clause-tried
returns-clause-tried g c = subst (Tried synced (g.D.Disk.history c.args.d.now)) (sym (ap (λ s. s.history) c.count_mended.ensures.disk)) c.read_mended.ensures.tried

pub returns-clause-length : goal.returns-clause-length
returns-clause-length g c = c.count_mended.ensures.same.bounds.file ∙ c.in_ok-file.ensures.length

pub returns-clause-accepted : goal.returns-clause-accepted
returns-clause-accepted g c told hh =
    let first = synced_same (g.D.Disk.history c.args.d.now) (g.D.Disk.history c.read_mended.new.d) c.read_mended.ensures.tried in
    let r = c.in_ok-file.ensures.read told hh in
    let sound = subst IsSoundButStrays (read_now _ _ _ c.in_ok-file.file first r) (c.in_ok-changed.ensures.sound told (own_form _ _ _ c.in_ok-file.file first r)).0 in
    (record { no_fault = r.0; sound = sound }, (strays_count_for_nothing _ sound).0)

pub returns-clause-shown : goal.returns-clause-shown
returns-clause-shown g c told hh =
    let first = synced_same (g.D.Disk.history c.args.d.now) (g.D.Disk.history c.read_mended.new.d) c.read_mended.ensures.tried in
    let r = c.in_ok-file.ensures.read told hh in
    let shown = read_now _ _ _ c.in_ok-file.file first r in
    let sound = subst IsSoundButStrays shown (c.in_ok-changed.ensures.sound told (own_form _ _ _ c.in_ok-file.file first r)).0 in (
      ap (mended_view c.count_mended.new.file) (sym first) ∙ c.count_mended.ensures.same.view ∙ shown,
      c.header-header.ensures ∙ r.3 ∙ sym (mended_header_same _ sound),
    )

pub returns-clause-same_pairs : goal.returns-clause-same_pairs
returns-clause-same_pairs g c told hh =
    let first = synced_same (g.D.Disk.history c.args.d.now) (g.D.Disk.history c.read_mended.new.d) c.read_mended.ensures.tried in
    let r = c.in_ok-file.ensures.read told hh in
    let shown = read_now _ _ _ c.in_ok-file.file first r in
    let sound = subst IsSoundButStrays shown (c.in_ok-changed.ensures.sound told (own_form _ _ _ c.in_ok-file.file first r)).0 in
    pairs_mended _ _ _ sound (c.header-header.ensures ∙ r.3) (ap (mended_view c.count_mended.new.file) (sym first) ∙ c.count_mended.ensures.same.view ∙ shown)

pub returns-clause-bytes : goal.returns-clause-bytes
returns-clause-bytes g c told hh =
    let first = synced_same (g.D.Disk.history c.args.d.now) (g.D.Disk.history c.read_mended.new.d) c.read_mended.ensures.tried in
    let r = c.in_ok-file.ensures.read told hh in
    let shown = read_now _ _ _ c.in_ok-file.file first r in
    (c.in_ok-changed.ensures.sound told (own_form _ _ _ c.in_ok-file.file first r)).1 ∙ (λ j. bytes_changed (drop (c.in_ok-file.ensures.start j) (first j)) (shown j) + strays (shown j))

pub returns-clause-chains : goal.returns-clause-chains
returns-clause-chains g c = subst (λ h. 0 < h.hash_size) (sym c.header-header.ensures) c.in_ok-file.ensures.chains
