-- The gate as it was or shut.
use Rattle.tdb_disk.specs.History.{seen}
use Rattle.tdb_space.specs.Form.{form_in}
use Rattle.tdb_undo.proofs.Gates.{undoable_gate}
use Rattle.tdb_undo.proofs.gate.shut_gate.Goals as goal

pub returns-in_err-set_gate-clause-stops : goal.returns-in_err-set_gate-clause-stops
returns-in_err-set_gate-clause-stops g c told quiet u =
    c.set_gate.ensures.stops told quiet (undoable_gate (form_in c.args.h.now) (seen (g.D.Disk.history c.args.d.now)) u)

pub returns-clause-stops : goal.returns-clause-stops
returns-clause-stops g c told quiet u =
    c.set_gate.ensures.stops told quiet (undoable_gate (form_in c.args.h.now) (seen (g.D.Disk.history c.args.d.now)) u)

pub returns-clause-shut : goal.returns-clause-shut
returns-clause-shut g c told u =
    (c.in_ok-set_gate.ensures.set told (undoable_gate (form_in c.args.h.now) (seen (g.D.Disk.history c.args.d.now)) u), c.in_ok-set_gate.ensures.quiet told (undoable_gate (form_in c.args.h.now) (seen (g.D.Disk.history c.args.d.now)) u), c.in_ok-set_gate.ensures.syncs told (undoable_gate (form_in c.args.h.now) (seen (g.D.Disk.history c.args.d.now)) u))
