-- Each way out, before anything is written and after.
use Rattle.std.proofs.Common.{◌≡◌, ◌%◌, None, Some, length, take, drop, slice_index, sym, subst, ◌∙◌, ap}
use Rattle.std.proofs.lemmas.Result.{err_from_is_err_and}
use Rattle.tdb_disk.specs.History.{seen}
use Rattle.tdb_disk.specs.Stop.{Quiet, LeavesOnly}
use Rattle.tdb_space.specs.Form.{form_in, SameHeader}
use Rattle.tdb_space.specs.Opening.{Undoable, restored, entry_fault, last_covering, given_back}
use Rattle.tdb_space.specs.Undoing.{old_size}
use Rattle.tdb_undo.specs.Area.{Stands}
use Rattle.tdb_undo.specs.Refusal.{IsIo}
use Rattle.tdb_undo.specs.Entries.{entries_in, entries_stop, lengths}
use Rattle.tdb_undo.specs.Recovery.{ReadFrom, Undoing}
use Rattle.tdb_undo.proofs.Found.{names_then, io_names, still_alike, read_from, header_bad, entries_bad, undoable}
use Rattle.tdb_undo.proofs.Whole.{same_entries}
use Rattle.tdb_undo.proofs.recovering.undo.Goals as goal

pub returns-in_err-len-clause-stops : goal.returns-in_err-len-clause-stops
returns-in_err-len-clause-stops g c told quiet sized u mild words is =
    still_alike (form_in c.args.h.now) (g.D.Disk.history c.args.d.now) _ c.len.ensures.history quiet sized u

pub returns-in-Some-clause-stops : goal.returns-in-Some-clause-stops
returns-in-Some-clause-stops g c told quiet sized u mild words is =
    still_alike (form_in c.args.h.now) (g.D.Disk.history c.args.d.now) _ c.len.ensures.history quiet sized u

pub returns-in_err-read-clause-stops : goal.returns-in_err-read-clause-stops
returns-in_err-read-clause-stops g c told quiet sized u mild words is =
    still_alike (form_in c.args.h.now) (g.D.Disk.history c.args.d.now) _ (c.read.ensures.history ∙ c.len.ensures.history) quiet sized u

pub returns-in_err-total-clause-stops : goal.returns-in_err-total-clause-stops
returns-in_err-total-clause-stops g c told quiet sized u mild words is =
    still_alike (form_in c.args.h.now) (g.D.Disk.history c.args.d.now) _ (c.test_entries.ensures.still ∙ (c.read.ensures.history ∙ c.len.ensures.history)) quiet sized u

pub returns-in-Some-clause-bad : goal.returns-in-Some-clause-bad
returns-in-Some-clause-bad g c told is =
    (header_bad (form_in c.args.h.now) (seen (g.D.Disk.history c.args.d.now)) c.args.area.now is c.in_ok-len.len (g.met.D.Disk.told_size c.args.d.now told ∙ sym c.in_ok-len.ensures.length) (c.in-Some.what, c.in-Some.at) (sym c.content_fault.ensures ∙ c.in-Some.is), c.len.ensures.history)

pub returns-in_err-total-clause-bad : goal.returns-in_err-total-clause-bad
returns-in_err-total-clause-bad g c =
    let p = err_from_is_err_and c.from_residual-in_err-total.result c.from_residual-in_err-total.ensures.1 in
    rw (p.1, p.2) (λ told is. names_then c.in_err-total.field-0.0 _ _ (λ fault bad. (entries_bad (form_in c.args.h.now) (seen (g.D.Disk.history c.args.d.now)) c.args.area.now is c.in_ok-len.len (g.met.D.Disk.told_size c.args.d.now told ∙ sym c.in_ok-len.ensures.length) (Some fault) (sym c.content_fault.ensures ∙ c.in_default.is) (subst (λ k. entry_fault (entries_stop c.args.area.now) c.args.area.now.header.key_len (entries_in c.args.h.now.order (seen k) c.args.area.now) ≡ Some fault) (c.read.ensures.history ∙ c.len.ensures.history) bad), (c.test_entries.ensures.still ∙ (c.read.ensures.history ∙ c.len.ensures.history)))) (c.in_err-total.ensures.bad told))

pub returns-in_err-write_back-clause-stops : goal.returns-in_err-write_back-clause-stops
returns-in_err-write_back-clause-stops g c told quiet sized u mild words is =
    let r = read_from (form_in c.args.h.now) (seen (g.D.Disk.history c.args.d.now)) c.args.area.now c.read.new.buf c.test_entries.new.front is (c.in_ok-read.ensures.bytes told ∙ ap (λ k. take 64 (drop 0 (seen k))) c.len.ensures.history) (λ i low. c.in_ok-total.ensures.front told i low ∙ ap (λ k. given_back (last_covering (entries_in c.args.h.now.order (seen k) c.args.area.now) i) i (slice_index c.read.new.buf i)) (c.read.ensures.history ∙ c.len.ensures.history)) in
    subst (λ k. Quiet k → length (seen k) % 4 ≡ 0 → Undoable (form_in c.args.h.now) (seen k) → SameHeader (seen k) (restored (form_in c.args.h.now) (seen k)) → old_size (form_in c.args.h.now) (seen k) % 4 ≡ 0 → ReadFrom (form_in c.args.h.now) (seen k) c.args.area.now c.read.new.buf c.test_entries.new.front → LeavesOnly k (g.D.Disk.history c.write_back.new.d) (Undoing (form_in c.args.h.now) (seen k))) (c.test_entries.ensures.still ∙ (c.read.ensures.history ∙ c.len.ensures.history)) (c.write_back.ensures.stops told) quiet sized u mild words r

pub returns-clause-stops : goal.returns-clause-stops
returns-clause-stops g c told quiet sized u mild words is =
    let r = read_from (form_in c.args.h.now) (seen (g.D.Disk.history c.args.d.now)) c.args.area.now c.read.new.buf c.test_entries.new.front is (c.in_ok-read.ensures.bytes told ∙ ap (λ k. take 64 (drop 0 (seen k))) c.len.ensures.history) (λ i low. c.in_ok-total.ensures.front told i low ∙ ap (λ k. given_back (last_covering (entries_in c.args.h.now.order (seen k) c.args.area.now) i) i (slice_index c.read.new.buf i)) (c.read.ensures.history ∙ c.len.ensures.history)) in
    subst (λ k. Quiet k → length (seen k) % 4 ≡ 0 → Undoable (form_in c.args.h.now) (seen k) → SameHeader (seen k) (restored (form_in c.args.h.now) (seen k)) → old_size (form_in c.args.h.now) (seen k) % 4 ≡ 0 → ReadFrom (form_in c.args.h.now) (seen k) c.args.area.now c.read.new.buf c.test_entries.new.front → LeavesOnly k (g.D.Disk.history c.write_back.new.d) (Undoing (form_in c.args.h.now) (seen k))) (c.test_entries.ensures.still ∙ (c.read.ensures.history ∙ c.len.ensures.history)) (c.write_back.ensures.stops told) quiet sized u mild words r

pub returns-in_err-write_back-clause-bad : goal.returns-in_err-write_back-clause-bad
returns-in_err-write_back-clause-bad g c =
    let p = err_from_is_err_and c.from_residual-in_err-write_back.result c.from_residual-in_err-write_back.ensures.1 in
    rw (p.1, p.2) (λ told is. (
    let u2 = undoable (form_in c.args.h.now) (seen (g.D.Disk.history c.args.d.now)) c.args.area.now is c.in_ok-len.len (g.met.D.Disk.told_size c.args.d.now told ∙ sym c.in_ok-len.ensures.length) (subst (λ n. Stands (form_in c.args.h.now) n c.args.area.now) (sym c.in_ok-len.ensures.length) c.requires.stands) c.requires.open_gate (entries_bad (form_in c.args.h.now) (seen (g.D.Disk.history c.args.d.now)) c.args.area.now is c.in_ok-len.len (g.met.D.Disk.told_size c.args.d.now told ∙ sym c.in_ok-len.ensures.length) None (sym c.content_fault.ensures ∙ c.in_default.is) (subst (λ k. entry_fault (entries_stop c.args.area.now) c.args.area.now.header.key_len (entries_in c.args.h.now.order (seen k) c.args.area.now) ≡ None) (c.read.ensures.history ∙ c.len.ensures.history) (c.in_ok-total.ensures.sound told).0)) in
    let r = read_from (form_in c.args.h.now) (seen (g.D.Disk.history c.args.d.now)) c.args.area.now c.read.new.buf c.test_entries.new.front is (c.in_ok-read.ensures.bytes told ∙ ap (λ k. take 64 (drop 0 (seen k))) c.len.ensures.history) (λ i low. c.in_ok-total.ensures.front told i low ∙ ap (λ k. given_back (last_covering (entries_in c.args.h.now.order (seen k) c.args.area.now) i) i (slice_index c.read.new.buf i)) (c.read.ensures.history ∙ c.len.ensures.history)) in
    io_names c.in_err-write_back.field-0.0 _ (subst (λ k. Undoable (form_in c.args.h.now) (seen k) → ReadFrom (form_in c.args.h.now) (seen k) c.args.area.now c.read.new.buf c.test_entries.new.front → IsIo c.in_err-write_back.field-0.0) (c.test_entries.ensures.still ∙ (c.read.ensures.history ∙ c.len.ensures.history)) (c.in_err-write_back.ensures.refusal told) u2 r)))

pub returns-clause-restored : goal.returns-clause-restored
returns-clause-restored g c told sized is =
    let u2 = undoable (form_in c.args.h.now) (seen (g.D.Disk.history c.args.d.now)) c.args.area.now is c.in_ok-len.len (g.met.D.Disk.told_size c.args.d.now told ∙ sym c.in_ok-len.ensures.length) (subst (λ n. Stands (form_in c.args.h.now) n c.args.area.now) (sym c.in_ok-len.ensures.length) c.requires.stands) c.requires.open_gate (entries_bad (form_in c.args.h.now) (seen (g.D.Disk.history c.args.d.now)) c.args.area.now is c.in_ok-len.len (g.met.D.Disk.told_size c.args.d.now told ∙ sym c.in_ok-len.ensures.length) None (sym c.content_fault.ensures ∙ c.in_default.is) (subst (λ k. entry_fault (entries_stop c.args.area.now) c.args.area.now.header.key_len (entries_in c.args.h.now.order (seen k) c.args.area.now) ≡ None) (c.read.ensures.history ∙ c.len.ensures.history) (c.in_ok-total.ensures.sound told).0)) in
    let r = read_from (form_in c.args.h.now) (seen (g.D.Disk.history c.args.d.now)) c.args.area.now c.read.new.buf c.test_entries.new.front is (c.in_ok-read.ensures.bytes told ∙ ap (λ k. take 64 (drop 0 (seen k))) c.len.ensures.history) (λ i low. c.in_ok-total.ensures.front told i low ∙ ap (λ k. given_back (last_covering (entries_in c.args.h.now.order (seen k) c.args.area.now) i) i (slice_index c.read.new.buf i)) (c.read.ensures.history ∙ c.len.ensures.history)) in
    (u2, subst (λ k. length (seen k) % 4 ≡ 0 → Undoable (form_in c.args.h.now) (seen k) → ReadFrom (form_in c.args.h.now) (seen k) c.args.area.now c.read.new.buf c.test_entries.new.front → seen (g.D.Disk.history c.write_back.new.d) ≡ restored (form_in c.args.h.now) (seen k)) (c.test_entries.ensures.still ∙ (c.read.ensures.history ∙ c.len.ensures.history)) (c.in_ok-write_back.ensures.restored told) sized u2 r)

pub returns-clause-sum : goal.returns-clause-sum
returns-clause-sum g c told is =
    (c.in_ok-total.ensures.sound told).1 ∙ ap (λ k. lengths (entries_in c.args.h.now.order (seen k) c.args.area.now)) (c.read.ensures.history ∙ c.len.ensures.history) ∙ ap lengths (same_entries (form_in c.args.h.now) (seen (g.D.Disk.history c.args.d.now)) c.args.area.now is)
