use Rattle.std.proofs.Common.{subst, sym}
use Rattle.tdb_disk.specs.History.{seen}
use Rattle.tdb_check.specs.Front.{Refuses}
use Rattle.tdb_open.specs.Opening.{HaltsAtFault}
use Rattle.tdb_open.proofs.Openings.{front_at_fault}
use Rattle.tdb_open.proofs.opening.Opened.undone.Goals as goal

-- a front that is refused
pub returns-in-Err-clause-refused : goal.returns-in-Err-clause-refused
returns-in-Err-clause-refused g c told =
    let img = seen (g.D.Disk.history c.args.disk.now) in
    subst (HaltsAtFault img) (sym c.after_undo.ensures)
    (front_at_fault img c.in-Err.front (subst (λ h. Refuses (seen h) c.in-Err.front) c.in_ok-len.ensures.history (c.in-Err.ensures.refused told)))
