use Rattle.std.proofs.Common.{[], Some, sym, subst}
use Rattle.tdb_disk.specs.History.{seen}
use Rattle.tdb_answer.specs.Commands.Print.{PrintLeft, PrintText, printout_text}
use Rattle.tdb_answer.specs.Looks.{StandsBefore, ending_of}
use Rattle.tdb_open.specs.Opening.{UndoneIfOpen, opened_bytes}
use Rattle.tdb_open.specs.Notices.{BelowHeard}
use Rattle.tdb_answer.specs.Heard.{ToldFor}
use Rattle.tdb_answer.proofs.Hearing.{opened_alone, halted_heard, print_unlogged}
use Rattle.tdb_answer.proofs.Looking.{began_as, nothing}
use Rattle.tdb_answer.proofs.Printing.{halted_stands, halted_print, opened_print}
use Rattle.tdb_answer.proofs.commands.print.print_on_disk.Goals as goal

-- the pairs of the opened file were printed, or not
pub returns-in-Ok-clause-left : goal.returns-in-Ok-clause-left
returns-in-Ok-clause-left g c told =
    let old = g.D.Disk.history c.args.disk.now in
    opened_print c.args.limit old (g.D.Disk.history c.print_opened.new.disk) (ending_of c.print_opened.result) (c.in-Ok.ensures.within told) (c.in-Ok.ensures.opened told).can_open
    (subst (UndoneIfOpen old) (sym c.print_opened.ensures.history) (c.in-Ok.ensures.left told)) c.print_opened.ensures.ends

pub returns-in-Ok-clause-began : goal.returns-in-Ok-clause-began
returns-in-Ok-clause-began g c told heard =
    let old = g.D.Disk.history c.args.disk.now in
    let opened = seen (g.D.Disk.history c.open_below.new.disk) in
    began_as (StandsBefore (printout_text c.args.printout opened)) (PrintText c.args.printout (Some old)) (g.K.Sink.written c.args.output.now) (g.K.Sink.written c.print_opened.new.output) c.print_opened.result
    (λ e text stands. subst (λ img. StandsBefore (printout_text c.args.printout img) e text) (c.in-Ok.ensures.reads told) stands) (c.print_opened.ensures.began told heard)

-- the opening halted
pub returns-in-Err-clause-left : goal.returns-in-Err-clause-left
returns-in-Err-clause-left g c told =
    let old = g.D.Disk.history c.args.disk.now in
    let now = g.D.Disk.history c.open_below.new.disk in
    subst (λ e. PrintLeft c.args.limit old e now) (sym c.from.ensures) (halted_print c.args.limit old now c.in-Err.halt (c.in-Err.ensures.refused told) (c.in-Err.ensures.halted told))

pub returns-in-Err-clause-began : goal.returns-in-Err-clause-began
returns-in-Err-clause-began g c told heard =
    let old = g.D.Disk.history c.args.disk.now in
    let text = printout_text c.args.printout (opened_bytes (seen old)) in
    nothing (PrintText c.args.printout (Some old)) c.from.result (g.K.Sink.written c.args.output.now) (subst (λ e. StandsBefore text e []) (sym c.from.ensures) (halted_stands text c.in-Err.halt))

-- what logs heard of it
pub returns-in-Ok-clause-heard : goal.returns-in-Ok-clause-heard
returns-in-Ok-clause-heard g c told =
    opened_alone (opened_bytes (seen (g.D.Disk.history c.args.disk.now))) (BelowHeard c.args.limit (seen (g.D.Disk.history c.args.disk.now))) (ending_of c.print_opened.result) c.in-Ok.opened (g.L.Logs.logs c.args.logs.now) (g.L.Logs.logs c.open_below.new.logs) (c.in-Ok.ensures.opened told).counted (c.in-Ok.ensures.heard told)
    (print_unlogged (ending_of c.print_opened.result) c.print_opened.ensures.ends)

pub returns-in-Err-clause-heard : goal.returns-in-Err-clause-heard
returns-in-Err-clause-heard g c told =
    halted_heard (opened_bytes (seen (g.D.Disk.history c.args.disk.now))) (BelowHeard c.args.limit (seen (g.D.Disk.history c.args.disk.now))) c.in-Err.halt c.from.result (ToldFor c.from.result []) (g.L.Logs.logs c.args.logs.now) (g.L.Logs.logs c.open_below.new.logs) (c.in-Err.ensures.heard told) c.from.ensures
