use Rattle.std.proofs.Common.{◌≡◌, [], true, Err, Some, refl, sym, ap, subst}
use Rattle.tdb_disk.specs.History.{began}
use Rattle.tdb_cmdline.specs.declared.ask.Task.TheVariants.{Read}
use Rattle.tdb_answer.specs.Looks.{LookText, ending_of}
use Rattle.tdb_answer.proofs.Acting.{untaken_cause}
use Rattle.tdb_answer.specs.Heard.{LookHeard}
use Rattle.tdb_answer.proofs.Hearing.{look_untaken}
use Rattle.tdb_answer.proofs.Held.{held_there}
use Rattle.tdb_answer.proofs.Looking.{look_cause, files_counted, nothing, untaken_text}
use Rattle.tdb_answer.proofs.look.look_on_file.Goals as goal
use Rattle.tdb_answer.proofs.look.look_on_file.Goals.{After-give}

-- the file that was taken is what was held at its name
there : (g : _) (c : After-give g) → g.F.D.Disk.tells ≡ true → g.F.Files.held c.args.files.now c.args.name.now ≡ Some (g.F.D.Disk.history c.in-Ok.disk)
there g c told = held_there (g.F.Files.held c.args.files.now c.args.name.now) (began []) (g.F.D.Disk.history c.in-Ok.disk)
    (λ none. let wrong = (c.in-Ok.ensures.missing told).1 (none, λ e. cc) in cc) (c.in-Ok.ensures.disk told)

-- the look ended
pub returns-in-Ok-clause-cause : goal.returns-in-Ok-clause-cause
returns-in-Ok-clause-cause g c told =
    let e = ending_of c.look_on_disk-looked.result in
    look_cause c.args.look.now c.args.name.now (g.F.D.Disk.history c.in-Ok.disk) (g.F.Files.held c.args.files.now c.args.name.now) (g.F.Files.faults c.args.files.now) (g.F.Files.faults c.give.new.self) e
    (there g ((goal.at.returns-in-Ok-clause-cause g c).After-give) told) (c.look_on_disk-looked.ensures.ends told)
    (files_counted (g.F.Files.faults c.args.files.now) (g.F.Files.faults c.take.new.self) (g.F.Files.faults c.give.new.self) (g.F.D.Disk.faults c.in-Ok.disk) (g.F.D.Disk.faults c.look_on_disk-looked.new.disk) e
    c.in-Ok.ensures.cause.done c.in-Ok.ensures.disk_faults c.look_on_disk-looked.ensures.counted c.give.ensures.sound c.give.ensures.faulty c.give.ensures.faults)

-- the file wasn't taken
pub returns-in-Err-clause-cause : goal.returns-in-Err-clause-cause
returns-in-Err-clause-cause g c told =
    untaken_cause (Read c.args.look.now) c.args.name.now (g.F.Files.held c.args.files.now c.args.name.now) _ _ refl c.in-Err.refusal _
    (λ is. ((c.in-Err.ensures.missing told).0 (ap Err is)).0) (λ is. let new = c.in-Err.ensures.there_how (ap Err is) in cc)
    (λ is. c.in-Err.ensures.cause.failed is) c.untaken.ensures

pub returns-in-Err-clause-began : goal.returns-in-Err-clause-began
returns-in-Err-clause-began g c told =
    let held = g.F.Files.held c.args.files.now c.args.name.now in
    nothing (LookText c.args.look.now held) c.untaken.result (g.K.Sink.written c.args.output.now) (untaken_text c.args.look.now held c.args.name.now c.in-Err.refusal c.untaken.result c.untaken.ensures)

-- what logs heard of it
pub returns-in-Ok-clause-heard : goal.returns-in-Ok-clause-heard
returns-in-Ok-clause-heard g c told =
    subst (λ o. LookHeard o (ending_of c.look_on_disk-looked.result) (g.L.Logs.logs c.args.logs.now) (g.L.Logs.logs c.look_on_disk-looked.new.logs)) (sym (there g ((goal.at.returns-in-Ok-clause-heard g c).After-give) told)) (c.look_on_disk-looked.ensures.heard told)

pub returns-in-Err-clause-heard : goal.returns-in-Err-clause-heard
returns-in-Err-clause-heard g c told =
    look_untaken c.args.name.now c.in-Err.refusal c.untaken.result (g.L.Logs.logs c.args.logs.now) (λ is. let new = c.in-Err.ensures.there_how (ap Err is) in cc) c.untaken.ensures
    (g.F.Files.held c.args.files.now c.args.name.now) (λ is. ((c.in-Err.ensures.missing told).0 (ap Err is)).0)
