-- The plan is one that keeps the area.
use Rattle.std.proofs.Common.{refl, sym, ◌∙◌}
use Rattle.tdb_disk.specs.History.{seen}
use Rattle.tdb_txn.specs.Txn.{txn_image}
use Rattle.tdb_txn.proofs.Committed.{keeps}
use Rattle.tdb_txn.proofs.txn.Txn.keep.Goals as goal

pub returns-in_err-keep_area-clause-stops : goal.returns-in_err-keep_area-clause-stops
returns-in_err-keep_area-clause-stops g c told quiet may =
    let r = seen (g.D.Disk.history c.args.d.now) in
    let long = sym (g.met.D.Disk.told_size c.args.d.now told ∙ c.requires.sized) in
    c.keep_area.ensures.stops told (txn_image c.args.self r) quiet (keeps c.args.self _ r c.args.area may refl long long refl refl refl c.shrink_to_fit.ensures.list)

pub returns-clause-stops : goal.returns-clause-stops
returns-clause-stops g c told quiet may =
    let r = seen (g.D.Disk.history c.args.d.now) in
    let long = sym (g.met.D.Disk.told_size c.args.d.now told ∙ c.requires.sized) in
    c.keep_area.ensures.stops told (txn_image c.args.self r) quiet (keeps c.args.self _ r c.args.area may refl long long refl refl refl c.shrink_to_fit.ensures.list)

pub returns-clause-planned : goal.returns-clause-planned
returns-clause-planned g c told quiet may =
    let r = seen (g.D.Disk.history c.args.d.now) in
    let long = sym (g.met.D.Disk.told_size c.args.d.now told ∙ c.requires.sized) in
    c.in_ok-keep_area.ensures.planned told (txn_image c.args.self r) quiet (keeps c.args.self _ r c.args.area may refl long long refl refl refl c.shrink_to_fit.ensures.list)
