use Rattle.std.proofs.Common.{ℕ, List, [], Some, sym, subst}
use Rattle.tdb_disk.specs.History.{seen}
use Rattle.tdb_space.specs.Form.{Form, form_in, form_of}
use Rattle.tdb_rescue.specs.Text.{rescued_text}
use Rattle.tdb_answer.specs.Commands.Rescue.{RescueEnds, RescueText}
use Rattle.tdb_answer.specs.Looks.{StandsBefore, ending_of}
use Rattle.tdb_answer.proofs.Looking.{began_as, nothing}
use Rattle.tdb_answer.proofs.Printing.{halted_stands}
use Rattle.tdb_answer.proofs.Rescuing.{printed_rescue, halted_rescue}
use Rattle.tdb_answer.proofs.commands.rescue.rescue_on_disk.Goals as goal

-- the pairs that can be read were printed, or not
pub returns-in-Ok-clause-ends : goal.returns-in-Ok-clause-ends
returns-in-Ok-clause-ends g c told =
    printed_rescue (seen (g.D.Disk.history c.args.disk.now)) (ending_of c.print_rescued.result) (c.in-Ok.ensures.header told).0 c.print_rescued.ensures.ends

pub returns-in-Ok-clause-began : goal.returns-in-Ok-clause-began
returns-in-Ok-clause-began g c told heard =
    let old = g.D.Disk.history c.args.disk.now in
    let says = (c.in-Ok.ensures.header told).1 in
    began_as (StandsBefore (rescued_text (form_in c.in-Ok.header) (seen (g.D.Disk.history c.read_header.new.disk)))) (RescueText (Some old)) (g.K.Sink.written c.args.output.now) (g.K.Sink.written c.print_rescued.new.output) c.print_rescued.result
    (λ e text stands. subst (λ (q : Form × List ℕ). StandsBefore (rescued_text q.0 q.1) e text) (λ j. (form_in (says j), seen (c.in-Ok.ensures.history j))) stands) (c.print_rescued.ensures.began told heard)

-- the header is refused, or a call failed
pub returns-in-Err-clause-ends : goal.returns-in-Err-clause-ends
returns-in-Err-clause-ends g c told =
    let img = seen (g.D.Disk.history c.args.disk.now) in
    subst (RescueEnds img) (sym c.from.ensures) (halted_rescue img c.in-Err.halt (c.in-Err.ensures.refused told))

pub returns-in-Err-clause-began : goal.returns-in-Err-clause-began
returns-in-Err-clause-began g c told heard =
    let old = g.D.Disk.history c.args.disk.now in
    let text = rescued_text (form_of (seen old)) (seen old) in
    nothing (RescueText (Some old)) c.from.result (g.K.Sink.written c.args.output.now) (subst (λ e. StandsBefore text e []) (sym c.from.ensures) (halted_stands text c.in-Err.halt))
