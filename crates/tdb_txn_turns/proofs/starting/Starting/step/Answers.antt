-- The first two turns take a lock, and make no call on the disk.
use Rattle.std.proofs.Common.{subst, sym, arith}
use Rattle.tdb_txn_turns.specs.Starts.{StartLeads}
use Rattle.tdb_txn_turns.specs.declared.starting.Starting.TheVariants.{Begun, Claimed}
use Rattle.tdb_txn_turns.proofs.Starts.{still_made, still_stops}
use Rattle.tdb_space.specs.Form.{form_in}
use Rattle.tdb_txn_turns.proofs.starting.Starting.step.Goals as goal

pub returns-in-Begun-clause-leads : goal.returns-in-Begun-clause-leads
returns-in-Begun-clause-leads g c =
    let f = form_in c.args.h.now in
    let len = g.D.Disk.size c.args.d.now in
    subst (λ s. StartLeads f len s c.claim.result) (sym c.in-Begun.is) (c.claim.ensures.leads f len)

pub returns-in-Begun-clause-made : goal.returns-in-Begun-clause-made
returns-in-Begun-clause-made g c told =
    let f = form_in c.args.h.now in
    let len = g.D.Disk.size c.args.d.now in
    still_made f len Begun c.claim.result (g.D.Disk.history c.args.d.now) (omega arith) (c.claim.ensures.leads f len)

pub returns-in-Begun-clause-stops : goal.returns-in-Begun-clause-stops
returns-in-Begun-clause-stops g c = still_stops (g.D.Disk.history c.args.d.now)

pub returns-in-Claimed-clause-leads : goal.returns-in-Claimed-clause-leads
returns-in-Claimed-clause-leads g c =
    let f = form_in c.args.h.now in
    let len = g.D.Disk.size c.args.d.now in
    subst (λ s. StartLeads f len s c.read_all.result) (sym c.in-Claimed.is) (c.read_all.ensures.leads f len)

pub returns-in-Claimed-clause-made : goal.returns-in-Claimed-clause-made
returns-in-Claimed-clause-made g c told =
    let f = form_in c.args.h.now in
    let len = g.D.Disk.size c.args.d.now in
    still_made f len Claimed c.read_all.result (g.D.Disk.history c.args.d.now) (omega arith) (c.read_all.ensures.leads f len)

pub returns-in-Claimed-clause-stops : goal.returns-in-Claimed-clause-stops
returns-in-Claimed-clause-stops g c = still_stops (g.D.Disk.history c.args.d.now)
