use Rattle.std.proofs.Common.{◌≡◌, [], true, Err, Some, refl, sym, ap, subst}
use Rattle.std.proofs.lemmas.Bool.{and_parts}
use Rattle.tdb_disk.specs.History.{began}
use Rattle.tdb_disk.specs.declared.files.Take.TheVariants.{Existing, New}
use Rattle.tdb_cmdline.specs.declared.ask.Task.TheVariants.{Print}
use Rattle.tdb_answer.specs.Commands.Print.{PrintText}
use Rattle.tdb_answer.specs.Looks.{ending_of}
use Rattle.tdb_answer.proofs.Acting.{untaken_cause}
use Rattle.tdb_answer.specs.Heard.{PrintHeard}
use Rattle.tdb_answer.proofs.Hearing.{print_untaken}
use Rattle.tdb_answer.proofs.Held.{held_there}
use Rattle.tdb_answer.proofs.Looking.{files_counted, nothing}
use Rattle.tdb_answer.proofs.Printing.{print_cause, print_left, untaken_print, untaken_print_text}
use Rattle.tdb_answer.proofs.commands.print.print_on_file.Goals as goal
use Rattle.tdb_answer.proofs.commands.print.print_on_file.Goals.{After-give}

-- it isn't to be made
not_new : Existing ≡ New → ⊥
not_new is = cc

-- the file that was taken is what was held at its name
there : (g : _) (c : After-give g) → g.F.D.Disk.tells ≡ true → g.F.Files.held c.args.files.now c.args.name.now ≡ Some (g.F.D.Disk.history c.in-Ok.disk)
there g c told = held_there (g.F.Files.held c.args.files.now c.args.name.now) (began []) (g.F.D.Disk.history c.in-Ok.disk)
    (λ none. let wrong = (c.in-Ok.ensures.missing told).1 (none, not_new) in cc) (c.in-Ok.ensures.disk told)

pub returns-in-Ok-clause-cause : goal.returns-in-Ok-clause-cause
returns-in-Ok-clause-cause g c told =
    let e = ending_of c.print_on_disk-printed.result in
    print_cause c.args.printout c.args.limit c.args.name.now (g.F.Files.held c.args.files.now c.args.name.now) (g.F.D.Disk.history c.in-Ok.disk) (there g ((goal.at.returns-in-Ok-clause-cause g c).After-give) told)
    (g.F.Files.faults c.args.files.now) (g.F.Files.faults c.give.new.self) (g.F.D.Disk.history c.print_on_disk-printed.new.disk) e (c.print_on_disk-printed.ensures.left told)
    (files_counted (g.F.Files.faults c.args.files.now) (g.F.Files.faults c.take.new.self) (g.F.Files.faults c.give.new.self) (g.F.D.Disk.faults c.in-Ok.disk) (g.F.D.Disk.faults c.print_on_disk-printed.new.disk) e
    c.in-Ok.ensures.cause.done c.in-Ok.ensures.disk_faults c.print_on_disk-printed.ensures.counted c.give.ensures.sound c.give.ensures.faulty c.give.ensures.faults)

pub returns-in-Ok-clause-left : goal.returns-in-Ok-clause-left
returns-in-Ok-clause-left g c told =
    print_left c.args.limit (g.F.Files.held c.args.files.now c.args.name.now) (g.F.Files.held c.give.new.self c.args.name.now) (g.F.D.Disk.history c.in-Ok.disk) (g.F.D.Disk.history c.print_on_disk-printed.new.disk) (ending_of c.print_on_disk-printed.result)
    (there g ((goal.at.returns-in-Ok-clause-left g c).After-give) told) (c.give.ensures.held told) (c.print_on_disk-printed.ensures.left told)

pub returns-in-Ok-clause-began : goal.returns-in-Ok-clause-began
returns-in-Ok-clause-began g c both =
    let parts = and_parts g.K.Sink.tells g.F.D.Disk.tells both in
    rw (there g ((goal.at.returns-in-Ok-clause-began g c).After-give) parts.1) (c.print_on_disk-printed.ensures.began parts.1 parts.0)

-- the file wasn't taken
pub returns-in-Err-clause-cause : goal.returns-in-Err-clause-cause
returns-in-Err-clause-cause g c told =
    untaken_cause (Print c.args.printout c.args.limit) c.args.name.now (g.F.Files.held c.args.files.now c.args.name.now) _ _ refl c.in-Err.refusal _
    (λ is. ((c.in-Err.ensures.missing told).0 (ap Err is)).0) (λ is. not_new (c.in-Err.ensures.there_how (ap Err is)))
    (λ is. c.in-Err.ensures.cause.failed is) c.untaken.ensures

pub returns-in-Err-clause-left : goal.returns-in-Err-clause-left
returns-in-Err-clause-left g c told =
    untaken_print c.args.limit c.args.name.now (g.F.Files.held c.args.files.now c.args.name.now) (g.F.Files.held c.take.new.self c.args.name.now) c.in-Err.refusal c.untaken.result
    (c.in-Err.ensures.refused_held c.args.name.now) (λ is. ((c.in-Err.ensures.missing told).0 (ap Err is)).0) (λ is. not_new (c.in-Err.ensures.there_how (ap Err is))) c.untaken.ensures

pub returns-in-Err-clause-began : goal.returns-in-Err-clause-began
returns-in-Err-clause-began g c =
    let held = g.F.Files.held c.args.files.now c.args.name.now in
    λ both. nothing (PrintText c.args.printout held) c.untaken.result (g.K.Sink.written c.args.output.now) (untaken_print_text c.args.printout held c.args.name.now c.in-Err.refusal c.untaken.result c.untaken.ensures)

-- what logs heard of it
pub returns-in-Ok-clause-heard : goal.returns-in-Ok-clause-heard
returns-in-Ok-clause-heard g c told =
    subst (λ o. PrintHeard c.args.limit o (ending_of c.print_on_disk-printed.result) (g.L.Logs.logs c.args.logs.now) (g.L.Logs.logs c.print_on_disk-printed.new.logs)) (sym (there g ((goal.at.returns-in-Ok-clause-heard g c).After-give) told)) (c.print_on_disk-printed.ensures.heard told)

pub returns-in-Err-clause-heard : goal.returns-in-Err-clause-heard
returns-in-Err-clause-heard g c told =
    print_untaken c.args.name.now c.in-Err.refusal c.untaken.result (g.L.Logs.logs c.args.logs.now) (λ is. not_new (c.in-Err.ensures.there_how (ap Err is))) c.untaken.ensures
    c.args.limit (g.F.Files.held c.args.files.now c.args.name.now) (λ is. ((c.in-Err.ensures.missing told).0 (ap Err is)).0)
