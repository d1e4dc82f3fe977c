-- The area is placed, or the disk fails.
use Rattle.std.proofs.Common.{◌-◌, refl, sym, subst}
use Rattle.tdb_disk.specs.History.{seen}
use Rattle.tdb_undo.specs.Placing.{IsPlaced}
use Rattle.tdb_txn.proofs.PlacedArea.{placed_planned}
use Rattle.tdb_txn.proofs.area_placed.place_area.Goals as goal

pub returns-in_err-ensure-clause-stops : goal.returns-in_err-ensure-clause-stops
returns-in_err-ensure-clause-stops g c told x b quiet places = c.ensure.ensures.stops told quiet places.leads.before (sym places.leads.header)

pub returns-clause-stops : goal.returns-clause-stops
returns-clause-stops g c told x b quiet places = c.ensure.ensures.stops told quiet places.leads.before (sym places.leads.header)

pub returns-clause-planned : goal.returns-clause-planned
returns-clause-planned g c told x b quiet places =
    let r = seen (g.D.Disk.history c.args.d.now) in
    let new = g.D.Disk.history c.ensure.new.d in
    placed_planned c.args.plan r x b (seen new) places
    (subst (λ f. IsPlaced f r (seen new) c.args.plan.area (c.args.plan.area_length - 24)) places.leads.header (c.in_ok-ensure.ensures.placed told places.leads.before (sym places.leads.header)))
    new (c.in_ok-ensure.ensures.quiet told) refl

pub returns-clause-as_often : goal.returns-clause-as_often
returns-clause-as_often g c told x b places = c.in_ok-ensure.ensures.as_often told places.leads.before (sym places.leads.header)
