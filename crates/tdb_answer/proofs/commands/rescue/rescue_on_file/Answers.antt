use Rattle.std.proofs.Common.{◌≡◌, [], true, Err, Some, refl, ap}
use Rattle.std.proofs.lemmas.Bool.{and_parts}
use Rattle.tdb_disk.specs.History.{began, seen}
use Rattle.tdb_disk.specs.declared.files.Take.TheVariants.{ReadOnly, New}
use Rattle.tdb_cmdline.specs.declared.ask.Task.TheVariants.{Rescue}
use Rattle.tdb_answer.specs.Commands.Rescue.{RescueText}
use Rattle.tdb_answer.specs.Looks.{ending_of}
use Rattle.tdb_answer.proofs.Acting.{untaken_cause}
use Rattle.tdb_answer.proofs.Held.{held_there}
use Rattle.tdb_answer.proofs.Looking.{files_counted, nothing}
use Rattle.tdb_answer.proofs.Rescuing.{rescue_cause, rescue_unlogged, untaken_rescue}
use Rattle.tdb_answer.proofs.Unlogged.{untaken_unlogged}
use Rattle.tdb_answer.proofs.commands.rescue.rescue_on_file.Goals as goal
use Rattle.tdb_answer.proofs.commands.rescue.rescue_on_file.Goals.{After-give}

-- the file that was taken is what was held at its name
there : (g : _) (c : After-give g) → g.F.D.Disk.tells ≡ true → g.F.Files.held c.args.files.now c.args.name.now ≡ Some (g.F.D.Disk.history c.in-Ok.disk)
there g c told = held_there (g.F.Files.held c.args.files.now c.args.name.now) (began []) (g.F.D.Disk.history c.in-Ok.disk)
    (λ none. let alone : ReadOnly ≡ New → ⊥ = (λ e. cc) in let wrong = (c.in-Ok.ensures.missing told).1 (none, alone) in cc) (c.in-Ok.ensures.disk told)

pub returns-in-Ok-clause-cause : goal.returns-in-Ok-clause-cause
returns-in-Ok-clause-cause g c told =
    let e = ending_of c.rescue_on_disk-printed.result in
    rescue_cause c.args.name.now (g.F.D.Disk.history c.in-Ok.disk) (g.F.Files.held c.args.files.now c.args.name.now) (g.F.Files.faults c.args.files.now) (g.F.Files.faults c.give.new.self) e
    (there g ((goal.at.returns-in-Ok-clause-cause g c).After-give) told) (c.rescue_on_disk-printed.ensures.ends told)
    (files_counted (g.F.Files.faults c.args.files.now) (g.F.Files.faults c.take.new.self) (g.F.Files.faults c.give.new.self) (g.F.D.Disk.faults c.in-Ok.disk) (g.F.D.Disk.faults c.rescue_on_disk-printed.new.disk) e
    c.in-Ok.ensures.cause.done c.in-Ok.ensures.disk_faults c.rescue_on_disk-printed.ensures.counted c.give.ensures.sound c.give.ensures.faulty c.give.ensures.faults)

pub returns-in-Ok-clause-began : goal.returns-in-Ok-clause-began
returns-in-Ok-clause-began g c both =
    let parts = and_parts g.K.Sink.tells g.F.D.Disk.tells both in
    rw (there g ((goal.at.returns-in-Ok-clause-began g c).After-give) parts.1) (c.rescue_on_disk-printed.ensures.began parts.1 parts.0)

pub returns-in-Ok-clause-unlogged : goal.returns-in-Ok-clause-unlogged
returns-in-Ok-clause-unlogged g c told = rescue_unlogged (seen (g.F.D.Disk.history c.in-Ok.disk)) (ending_of c.rescue_on_disk-printed.result) (c.rescue_on_disk-printed.ensures.ends told)

-- the file wasn't taken
pub returns-in-Err-clause-cause : goal.returns-in-Err-clause-cause
returns-in-Err-clause-cause g c told =
    untaken_cause Rescue c.args.name.now (g.F.Files.held c.args.files.now c.args.name.now) _ _ refl c.in-Err.refusal _
    (λ is. ((c.in-Err.ensures.missing told).0 (ap Err is)).0) (λ is. let new : ReadOnly ≡ New = c.in-Err.ensures.there_how (ap Err is) in cc)
    (λ is. c.in-Err.ensures.cause.failed is) c.untaken.ensures

pub returns-in-Err-clause-began : goal.returns-in-Err-clause-began
returns-in-Err-clause-began g c =
    let held = g.F.Files.held c.args.files.now c.args.name.now in
    λ both. nothing (RescueText held) c.untaken.result (g.K.Sink.written c.args.output.now) (untaken_rescue held c.args.name.now c.in-Err.refusal c.untaken.result c.untaken.ensures)

pub returns-in-Err-clause-unlogged : goal.returns-in-Err-clause-unlogged
returns-in-Err-clause-unlogged g c told = untaken_unlogged c.args.name.now c.in-Err.refusal c.untaken.result c.untaken.ensures
