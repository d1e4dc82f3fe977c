use Rattle.std.proofs.Common.{◌≡◌, [], ◌<◌, true, Ok, Err, Some, sym, ap, subst, arith}
use Rattle.std.proofs.lemmas.Bool.{and_parts}
use Rattle.tdb_disk.specs.Count.{Rose}
use Rattle.tdb_disk.specs.History.{began}
use Rattle.tdb_disk.specs.declared.files.Take.TheVariants.{Existing, New}
use Rattle.tdb_answer.specs.declared.ending.Ending.TheVariants.{DeviceFault}
use Rattle.tdb_answer.specs.Commands.Session.{SessionHeard}
use Rattle.tdb_answer.specs.Input.{Input, input_by}
use Rattle.tdb_answer.specs.Looks.{ending_of}
use Rattle.tdb_answer.proofs.Acting.{rose_earlier}
use Rattle.tdb_answer.proofs.Held.{held_there}
use Rattle.tdb_answer.proofs.Sessions.{cause_session, began_session, untaken_session, untaken_held, file_heard, session_heard}
use Rattle.tdb_answer.proofs.commands.session.session_on_file.Goals as goal
use Rattle.tdb_answer.proofs.commands.session.session_on_file.Goals.{After-give}

-- it isn't to be made
not_new : Existing ≡ New → ⊥
not_new is = cc

-- the file that was taken is what was held at its name
there : (g : _) (c : After-give g) → g.F.D.Disk.tells ≡ true → g.F.Files.held c.args.files.now c.args.name.now ≡ Some (g.F.D.Disk.history c.in-Ok.disk)
there g c told = held_there (g.F.Files.held c.args.files.now c.args.name.now) (began []) (g.F.D.Disk.history c.in-Ok.disk)
    (λ none. let wrong = (c.in-Ok.ensures.missing told).1 (none, not_new) in cc) (c.in-Ok.ensures.disk told)

-- what the input had
abbrev heard : (g : _) (c : After-give g) → Input
heard g c = input_by g.S.Source.tells (g.S.Source.left c.args.input.now) (g.S.Source.faults c.args.input.now) (g.S.Source.faults c.session_on_disk-disk.new.input)

pub returns-in-Ok-clause-cause : goal.returns-in-Ok-clause-cause
returns-in-Ok-clause-cause g c told =
    let a = (goal.at.returns-in-Ok-clause-cause g c).After-give in
    let before = g.F.Files.faults c.args.files.now in
    let now = g.F.Files.faults c.give.new.self in
    let rose : ending_of c.session_on_disk-disk.result.1 ≡ DeviceFault → Rose before now = λ is.
    (let failed = c.session_on_disk-disk.ensures.counted.failed is told in
    let some : 0 < g.F.D.Disk.faults c.session_on_disk-disk.result.0 = omega (arith, failed, c.in-Ok.ensures.disk_faults) in
    rose_earlier before (g.F.Files.faults c.take.new.self) now c.in-Ok.ensures.cause.never_falls (c.give.ensures.faulty some)) in
    cause_session c.args.limit (heard g a) c.args.name.now (g.F.D.Disk.history c.in-Ok.disk) (g.F.D.Disk.history c.session_on_disk-disk.result.0) g.K.Sink.tells (g.K.Sink.written c.args.output.now) (g.K.Sink.written c.session_on_disk-disk.new.output) (g.L.Logs.logs c.args.logs.now) (g.L.Logs.logs c.session_on_disk-disk.new.logs)
    (g.F.Files.held c.args.files.now c.args.name.now) (there g a told) before now c.session_on_disk-disk.result.1 (c.session_on_disk-disk.ensures.served told) rose (λ is. c.session_on_disk-disk.ensures.heard.failed is)

pub returns-in-Ok-clause-began : goal.returns-in-Ok-clause-began
returns-in-Ok-clause-began g c both =
    let a = (goal.at.returns-in-Ok-clause-began g c).After-give in
    let parts = and_parts g.K.Sink.tells g.F.D.Disk.tells both in
    began_session c.args.limit (heard g a) c.args.name.now (g.F.D.Disk.history c.in-Ok.disk) (g.F.D.Disk.history c.session_on_disk-disk.result.0) g.K.Sink.tells (g.K.Sink.written c.args.output.now) (g.K.Sink.written c.session_on_disk-disk.new.output) (g.L.Logs.logs c.args.logs.now) (g.L.Logs.logs c.session_on_disk-disk.new.logs)
    (g.F.Files.held c.args.files.now c.args.name.now) (there g a parts.1) parts.0 c.session_on_disk-disk.result.1 (c.session_on_disk-disk.ensures.served parts.1)

pub returns-in-Ok-clause-logged : goal.returns-in-Ok-clause-logged
returns-in-Ok-clause-logged g c told =
    let a = (goal.at.returns-in-Ok-clause-logged g c).After-give in
    let logs = g.L.Logs.logs c.args.logs.now in
    let later = g.L.Logs.logs c.session_on_disk-disk.new.logs in
    subst (λ o. SessionHeard c.args.limit o (ending_of c.session_on_disk-disk.result.1) logs later) (sym (there g a told))
    (file_heard c.args.limit (heard g a) (g.F.D.Disk.history c.in-Ok.disk) (g.F.D.Disk.history c.session_on_disk-disk.result.0) g.K.Sink.tells (g.K.Sink.written c.args.output.now) (g.K.Sink.written c.session_on_disk-disk.new.output) logs later
    c.session_on_disk-disk.result.1 (c.session_on_disk-disk.ensures.served told))

-- the file wasn't taken
pub returns-in-Err-clause-cause : goal.returns-in-Err-clause-cause
returns-in-Err-clause-cause g c told =
    let n = g.S.Source.faults c.args.input.now in
    untaken_session c.args.limit (input_by g.S.Source.tells (g.S.Source.left c.args.input.now) n n) c.args.name.now (g.F.Files.held c.args.files.now c.args.name.now) (g.F.Files.faults c.args.files.now) (g.F.Files.faults c.take.new.self)
    c.in-Err.refusal c.untaken.result (λ is. not_new (c.in-Err.ensures.there_how (ap Err is))) (λ is. ((c.in-Err.ensures.missing told).0 (ap Err is)).0) (λ is. c.in-Err.ensures.cause.failed is) c.untaken.ensures

pub returns-in-Err-clause-served : goal.returns-in-Err-clause-served
returns-in-Err-clause-served g c told =
    let n = g.S.Source.faults c.args.input.now in
    untaken_held c.args.limit (input_by g.S.Source.tells (g.S.Source.left c.args.input.now) n n) c.args.name.now (g.F.Files.held c.args.files.now c.args.name.now) (g.L.Logs.logs c.args.logs.now) (g.F.Files.held c.take.new.self c.args.name.now) g.K.Sink.tells (g.K.Sink.written c.args.output.now)
    c.in-Err.refusal c.untaken.result (c.in-Err.ensures.refused_held c.args.name.now) (λ is. not_new (c.in-Err.ensures.there_how (ap Err is))) (λ is. ((c.in-Err.ensures.missing told).0 (ap Err is)).0) c.untaken.ensures

pub returns-in-Err-clause-logged : goal.returns-in-Err-clause-logged
returns-in-Err-clause-logged g c told =
    let n = g.S.Source.faults c.args.input.now in
    let input = input_by g.S.Source.tells (g.S.Source.left c.args.input.now) n n in
    let held = g.F.Files.held c.args.files.now c.args.name.now in
    let given = g.F.Files.held c.take.new.self c.args.name.now in
    let w = g.K.Sink.written c.args.output.now in
    let logs = g.L.Logs.logs c.args.logs.now in
    session_heard c.args.limit input held given g.K.Sink.tells w w logs logs (Ok c.untaken.result)
    (untaken_held c.args.limit input c.args.name.now held logs given g.K.Sink.tells w c.in-Err.refusal c.untaken.result (c.in-Err.ensures.refused_held c.args.name.now) (λ is. not_new (c.in-Err.ensures.there_how (ap Err is)))
    (λ is. ((c.in-Err.ensures.missing told).0 (ap Err is)).0) c.untaken.ensures)
