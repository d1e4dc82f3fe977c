-- Both runs of writes.
use Rattle.std.proofs.Common.{refl}
use Rattle.std.proofs.lemmas.Result.{err_from_is_err_and}
use Rattle.tdb_disk.specs.History.{seen}
use Rattle.tdb_space.specs.Form.{form_in}
use Rattle.tdb_undo.proofs.Whole.{no_entry_fault, first_alike, both_alike, all_written}
use Rattle.tdb_undo.proofs.giving.give_all.Goals as goal

pub returns-in_err-write_entries-clause-stops : goal.returns-in_err-write_entries-clause-stops
returns-in_err-write_entries-clause-stops g c told quiet sized u mild r =
    first_alike (form_in c.args.h.now) (seen (g.D.Disk.history c.args.d.now)) c.args.area.now c.args.before.now c.args.after.now u r (g.D.Disk.history c.args.d.now) (g.D.Disk.history c.write_entries.new.d) refl quiet sized mild (c.write_entries.ensures.stops told (no_entry_fault (form_in c.args.h.now) (seen (g.D.Disk.history c.args.d.now)) c.args.area.now r.area u))

pub returns-in_err-write_front-clause-stops : goal.returns-in_err-write_front-clause-stops
returns-in_err-write_front-clause-stops g c told quiet sized u mild r =
    both_alike (form_in c.args.h.now) (seen (g.D.Disk.history c.args.d.now)) c.args.area.now c.args.before.now c.args.after.now u r (g.D.Disk.history c.args.d.now) (g.D.Disk.history c.write_entries.new.d) (g.D.Disk.history c.write_front.new.d) refl quiet sized mild (c.write_entries.ensures.stops told (no_entry_fault (form_in c.args.h.now) (seen (g.D.Disk.history c.args.d.now)) c.args.area.now r.area u)) (c.write_front.ensures.stops told)

pub returns-clause-stops : goal.returns-clause-stops
returns-clause-stops g c told quiet sized u mild r =
    both_alike (form_in c.args.h.now) (seen (g.D.Disk.history c.args.d.now)) c.args.area.now c.args.before.now c.args.after.now u r (g.D.Disk.history c.args.d.now) (g.D.Disk.history c.write_entries.new.d) (g.D.Disk.history c.write_front.new.d) refl quiet sized mild (c.write_entries.ensures.stops told (no_entry_fault (form_in c.args.h.now) (seen (g.D.Disk.history c.args.d.now)) c.args.area.now r.area u)) (c.write_front.ensures.stops told)

pub returns-clause-written : goal.returns-clause-written
returns-clause-written g c told u r =
    all_written (form_in c.args.h.now) (seen (g.D.Disk.history c.args.d.now)) c.args.area.now c.args.before.now c.args.after.now u r (seen (g.D.Disk.history c.write_entries.new.d)) (seen (g.D.Disk.history c.write_front.new.d)) (c.in_ok-write_entries.ensures.given told (no_entry_fault (form_in c.args.h.now) (seen (g.D.Disk.history c.args.d.now)) c.args.area.now r.area u)) (c.in_ok-write_front.ensures.put told)

pub returns-in_err-write_entries-clause-refusal : goal.returns-in_err-write_entries-clause-refusal
returns-in_err-write_entries-clause-refusal g c =
    let p = err_from_is_err_and c.from_residual.result c.from_residual.ensures.1 in
    rw (p.1, p.2) (λ told u r. c.in_err-write_entries.ensures.refusal told (no_entry_fault (form_in c.args.h.now) (seen (g.D.Disk.history c.args.d.now)) c.args.area.now r.area u))
