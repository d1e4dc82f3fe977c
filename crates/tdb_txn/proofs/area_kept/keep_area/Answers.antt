-- The file grows, or the disk fails.
use Rattle.std.proofs.Common.{refl}
use Rattle.tdb_disk.specs.History.{seen}
use Rattle.tdb_txn.proofs.KeptArea.{kept_stops, kept_done}
use Rattle.tdb_txn.proofs.area_kept.keep_area.Goals as goal

pub returns-in_err-grow-clause-stops : goal.returns-in_err-grow-clause-stops
returns-in_err-grow-clause-stops g c told b quiet keeps =
    let h = g.D.Disk.history c.args.d.now in
    kept_stops c.args.plan (seen h) b keeps h (g.D.Disk.history c.grow.new.self) quiet refl c.grow.ensures.tried

pub returns-clause-stops : goal.returns-clause-stops
returns-clause-stops g c told b quiet keeps =
    let h = g.D.Disk.history c.args.d.now in
    kept_stops c.args.plan (seen h) b keeps h (g.D.Disk.history c.grow.new.self) quiet refl c.grow.ensures.tried

pub returns-clause-planned : goal.returns-clause-planned
returns-clause-planned g c told b quiet keeps =
    let h = g.D.Disk.history c.args.d.now in
    kept_done c.args.plan (seen h) b keeps h (g.D.Disk.history c.grow.new.self) quiet refl (c.in_ok-grow.ensures.done told)
