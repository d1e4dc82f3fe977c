-- The gate shut or open, the file reopens.
use Rattle.std.proofs.Common.{◌≡◌, ◌⊎◌}
use Rattle.tdb_disk.specs.History.{seen}
use Rattle.tdb_disk.proofs.Runs.{leaves_weaker}
use Rattle.tdb_words.specs.declared.record.TheConstants.{GATE_OPEN}
use Rattle.tdb_space.specs.Form.{form_in}
use Rattle.tdb_space.specs.Undoing.{Reopens}
use Rattle.tdb_space.specs.Gate.{with_gate_word}
use Rattle.tdb_undo.proofs.Gates.{ready_gate, opened_reopens}
use Rattle.tdb_undo.proofs.gate.open_gate.Goals as goal

pub returns-in_err-set_gate-clause-stops : goal.returns-in_err-set_gate-clause-stops
returns-in_err-set_gate-clause-stops g c told quiet accepted is ready =
    leaves_weaker (g.D.Disk.history c.args.d.now) (g.D.Disk.history c.set_gate.new.d) (λ x. (x ≡ (seen (g.D.Disk.history c.args.d.now))) ⊎ (x ≡ with_gate_word GATE_OPEN (form_in c.args.h.now) (seen (g.D.Disk.history c.args.d.now)))) (Reopens (seen (g.D.Disk.history c.args.d.now))) (λ image left. opened_reopens (form_in c.args.h.now) (seen (g.D.Disk.history c.args.d.now)) image accepted is ready left)
    (c.set_gate.ensures.stops told quiet (ready_gate (form_in c.args.h.now) (seen (g.D.Disk.history c.args.d.now)) accepted is ready))

pub returns-clause-stops : goal.returns-clause-stops
returns-clause-stops g c told quiet accepted is ready =
    leaves_weaker (g.D.Disk.history c.args.d.now) (g.D.Disk.history c.set_gate.new.d) (λ x. (x ≡ (seen (g.D.Disk.history c.args.d.now))) ⊎ (x ≡ with_gate_word GATE_OPEN (form_in c.args.h.now) (seen (g.D.Disk.history c.args.d.now)))) (Reopens (seen (g.D.Disk.history c.args.d.now))) (λ image left. opened_reopens (form_in c.args.h.now) (seen (g.D.Disk.history c.args.d.now)) image accepted is ready left)
    (c.set_gate.ensures.stops told quiet (ready_gate (form_in c.args.h.now) (seen (g.D.Disk.history c.args.d.now)) accepted is ready))

pub returns-clause-open : goal.returns-clause-open
returns-clause-open g c told accepted is ready =
    (c.in_ok-set_gate.ensures.set told (ready_gate (form_in c.args.h.now) (seen (g.D.Disk.history c.args.d.now)) accepted is ready), c.in_ok-set_gate.ensures.quiet told (ready_gate (form_in c.args.h.now) (seen (g.D.Disk.history c.args.d.now)) accepted is ready), c.in_ok-set_gate.ensures.syncs told (ready_gate (form_in c.args.h.now) (seen (g.D.Disk.history c.args.d.now)) accepted is ready))
