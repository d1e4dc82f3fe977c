-- The undo area is filled, or the disk failed.
use Rattle.std.proofs.Common.{subst}
use Rattle.tdb_disk.specs.History.{seen}
use Rattle.tdb_undo.specs.Area.{area_of}
use Rattle.tdb_undo.specs.Content.{RunsFit}
use Rattle.tdb_txn.specs.Commit.{scheme_of}
use Rattle.tdb_txn.specs.CommitStates.{planned_plan}
use Rattle.tdb_txn.proofs.FilledIn.{runs_fit, now_accepted, form_now, has_area, fill_stops, fill_done}
use Rattle.tdb_txn.proofs.states.Planned.fill.Goals as goal

pub returns-in_err-put_content-clause-stops : goal.returns-in_err-put_content-clause-stops
returns-in_err-put_content-clause-stops g c told r b state =
    fill_stops (planned_plan c.args.self) (g.D.Disk.history c.args.d.now) (g.D.Disk.history c.put_content.new.d) r b state (c.put_content.ensures.stops told)

pub returns-clause-stops : goal.returns-clause-stops
returns-clause-stops g c told r b state =
    fill_stops (planned_plan c.args.self) (g.D.Disk.history c.args.d.now) (g.D.Disk.history c.put_content.new.d) r b state (c.put_content.ensures.stops told)

pub returns-clause-filled : goal.returns-clause-filled
returns-clause-filled g c told r b state =
    let plan = planned_plan c.args.self in
    let h = g.D.Disk.history c.args.d.now in
    let accepted = now_accepted plan h (g.D.Disk.history c.put_content.new.d) r b state in
    let form = form_now plan h (g.D.Disk.history c.put_content.new.d) r b state in
    let fits : RunsFit (area_of plan.header.order (seen h)) (g.D.Disk.size c.args.d.now) plan.runs =
    subst (λ n. RunsFit (area_of plan.header.order (seen h)) n plan.runs) (g.met.D.Disk.told_size c.args.d.now told) (runs_fit (scheme_of plan) (seen h) b accepted state.awaits) in
    let done = c.in_ok-put_content.ensures.filled told accepted form (has_area plan h (g.D.Disk.history c.put_content.new.d) r b state) fits in
    (fill_done plan h (g.D.Disk.history c.put_content.new.d) r b state done.0 done.1, done.2)
