-- The plan is one that places the area.
use Rattle.std.proofs.Common.{◌+◌, refl, sym, subst, ◌∙◌}
use Rattle.tdb_disk.specs.Count.{RoseBy}
use Rattle.tdb_disk.specs.History.{seen}
use Rattle.tdb_space.specs.Form.{Form}
use Rattle.tdb_undo.specs.Placing.{clearing_syncs}
use Rattle.tdb_txn.specs.Txn.{txn_image}
use Rattle.tdb_txn.proofs.Committed.{places}
use Rattle.tdb_txn.proofs.txn.Txn.place.Goals as goal

pub returns-in_err-place_area-clause-stops : goal.returns-in_err-place_area-clause-stops
returns-in_err-place_area-clause-stops g c told quiet x may =
    let r = seen (g.D.Disk.history c.args.d.now) in
    let long = sym (g.met.D.Disk.told_size c.args.d.now told ∙ c.requires.sized) in
    c.place_area.ensures.stops told x (txn_image c.args.self r) quiet (places c.args.self _ r x may c.requires.fits refl long long refl refl c.shrink_to_fit.ensures.list)

pub returns-clause-stops : goal.returns-clause-stops
returns-clause-stops g c told quiet x may =
    let r = seen (g.D.Disk.history c.args.d.now) in
    let long = sym (g.met.D.Disk.told_size c.args.d.now told ∙ c.requires.sized) in
    c.place_area.ensures.stops told x (txn_image c.args.self r) quiet (places c.args.self _ r x may c.requires.fits refl long long refl refl c.shrink_to_fit.ensures.list)

pub returns-clause-planned : goal.returns-clause-planned
returns-clause-planned g c told quiet x may =
    let r = seen (g.D.Disk.history c.args.d.now) in
    let long = sym (g.met.D.Disk.told_size c.args.d.now told ∙ c.requires.sized) in
    c.in_ok-place_area.ensures.planned told x (txn_image c.args.self r) quiet (places c.args.self _ r x may c.requires.fits refl long long refl refl c.shrink_to_fit.ensures.list)

pub returns-clause-as_often : goal.returns-clause-as_often
returns-clause-as_often g c told x may =
    let r = seen (g.D.Disk.history c.args.d.now) in
    let long = sym (g.met.D.Disk.told_size c.args.d.now told ∙ c.requires.sized) in
    subst (λ (f : Form). RoseBy (clearing_syncs f.order r + 3) (g.D.Disk.syncs c.args.d.now) (g.D.Disk.syncs c.place_area.new.d)) may.header
    (c.in_ok-place_area.ensures.as_often told x (txn_image c.args.self r) (places c.args.self _ r x may c.requires.fits refl long long refl refl c.shrink_to_fit.ensures.list))
