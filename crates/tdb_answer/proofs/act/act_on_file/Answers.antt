use Rattle.std.proofs.Common.{◌≡◌, [], true, ◌<◌, Err, Some, refl, sym, ap, subst, arith}
use Rattle.tdb_disk.specs.History.{began}
use Rattle.tdb_disk.specs.Count.{Rose}
use Rattle.tdb_cmdline.specs.declared.ask.Task.TheVariants.{On}
use Rattle.tdb_open.specs.declared.halt.Halt.TheVariants.{Device}
use Rattle.tdb_answer.specs.Ending.{TaskCause, of_halt}
use Rattle.tdb_answer.specs.declared.ending.Ending.TheVariants.{Replied}
use Rattle.tdb_answer.specs.Heard.{ActHeard}
use Rattle.tdb_answer.specs.Left.{OnLeaves}
use Rattle.tdb_answer.proofs.Acting.{rose_earlier, replied_cause, replied_left, halted_cause, halted_left, untaken_cause, untaken_left}
use Rattle.tdb_answer.proofs.Hearing.{act_taken, act_untaken}
use Rattle.tdb_answer.proofs.Held.{held_there}
use Rattle.tdb_answer.proofs.act.act_on_file.Goals as goal
use Rattle.tdb_answer.proofs.act.act_on_file.Goals.{After-give}

-- the file that was taken is what was held at its name
there : (g : _) (c : After-give g) → g.F.D.Disk.tells ≡ true → g.F.Files.held c.args.files.now c.args.name.now ≡ Some (g.F.D.Disk.history c.in-Ok.disk)
there g c told = held_there (g.F.Files.held c.args.files.now c.args.name.now) (began []) (g.F.D.Disk.history c.in-Ok.disk)
    (λ none. let wrong = (c.in-Ok.ensures.missing told).1 (none, λ e. cc) in cc) (c.in-Ok.ensures.disk told)

-- the act replied
pub returns-in-Ok-acted-clause-cause : goal.returns-in-Ok-acted-clause-cause
returns-in-Ok-acted-clause-cause g c told =
    replied_cause c.args.act.now c.args.name.now (g.F.Files.held c.args.files.now c.args.name.now) (g.F.Files.faults c.args.files.now) (g.F.Files.faults c.give.new.self) (g.F.D.Disk.history c.in-Ok.disk)
    (there g ((goal.at.returns-in-Ok-acted-clause-cause g c).After-give) told) (g.F.D.Disk.history c.act_on_disk-acted.new.disk) c.in-Ok-acted.reply (c.in-Ok-acted.ensures.acted told)

pub returns-in-Ok-acted-clause-left : goal.returns-in-Ok-acted-clause-left
returns-in-Ok-acted-clause-left g c told =
    replied_left c.args.act.now c.args.name.now (g.F.Files.held c.args.files.now c.args.name.now) (g.F.Files.faults c.args.files.now) (g.F.Files.faults c.give.new.self) (g.F.D.Disk.history c.in-Ok.disk)
    (there g ((goal.at.returns-in-Ok-acted-clause-left g c).After-give) told) (g.F.Files.held c.give.new.self c.args.name.now) (g.F.D.Disk.history c.act_on_disk-acted.new.disk) c.in-Ok-acted.reply (c.give.ensures.held told) (c.in-Ok-acted.ensures.acted told)

-- it halted, and a disk that failed makes the files' count rise
pub returns-in-Err-acted-clause-cause : goal.returns-in-Err-acted-clause-cause
returns-in-Err-acted-clause-cause g c told =
    let held = g.F.Files.held c.args.files.now c.args.name.now in
    let before = g.F.Files.faults c.args.files.now in
    let now = g.F.Files.faults c.give.new.self in
    let device : c.in-Err-acted.halt ≡ Device → Rose before now = λ is.
    (let rose = c.in-Err-acted.ensures.cause.failed is in
    let some : 0 < g.F.D.Disk.faults c.act_on_disk-acted.new.disk = omega (arith, rose, c.in-Ok.ensures.disk_faults) in
    rose_earlier before (g.F.Files.faults c.take.new.self) now c.in-Ok.ensures.cause.never_falls (c.give.ensures.faulty some)) in
    subst (TaskCause (On c.args.act.now) c.args.name.now held before now) (sym c.from.ensures)
    (halted_cause c.args.act.now c.args.name.now held before now (g.F.D.Disk.history c.in-Ok.disk) (there g ((goal.at.returns-in-Err-acted-clause-cause g c).After-give) told) (g.F.D.Disk.history c.act_on_disk-acted.new.disk) c.in-Err-acted.halt (c.in-Err-acted.ensures.acted told) device)

pub returns-in-Err-acted-clause-left : goal.returns-in-Err-acted-clause-left
returns-in-Err-acted-clause-left g c told =
    let held = g.F.Files.held c.args.files.now c.args.name.now in
    let given = g.F.Files.held c.give.new.self c.args.name.now in
    subst (λ e. OnLeaves c.args.act.now held e given) (sym c.from.ensures)
    (halted_left c.args.act.now c.args.name.now held (g.F.Files.faults c.args.files.now) (g.F.Files.faults c.give.new.self) (g.F.D.Disk.history c.in-Ok.disk) (there g ((goal.at.returns-in-Err-acted-clause-left g c).After-give) told)
    given (g.F.D.Disk.history c.act_on_disk-acted.new.disk) c.in-Err-acted.halt (c.give.ensures.held told) (c.in-Err-acted.ensures.acted told))

-- the file wasn't taken
pub returns-in-Err-clause-cause : goal.returns-in-Err-clause-cause
returns-in-Err-clause-cause g c told =
    untaken_cause (On c.args.act.now) c.args.name.now (g.F.Files.held c.args.files.now c.args.name.now) _ _ refl c.in-Err.refusal _
    (λ is. ((c.in-Err.ensures.missing told).0 (ap Err is)).0) (λ is. let new = c.in-Err.ensures.there_how (ap Err is) in cc)
    (λ is. c.in-Err.ensures.cause.failed is) c.untaken.ensures

pub returns-in-Err-clause-left : goal.returns-in-Err-clause-left
returns-in-Err-clause-left g c told =
    untaken_left c.args.act.now c.args.name.now (g.F.Files.held c.args.files.now c.args.name.now) (g.F.Files.held c.take.new.self c.args.name.now) c.in-Err.refusal _
    (c.in-Err.ensures.refused_held c.args.name.now) (λ is. ((c.in-Err.ensures.missing told).0 (ap Err is)).0) (λ is. let new = c.in-Err.ensures.there_how (ap Err is) in cc) c.untaken.ensures

-- what logs heard of it
pub returns-in-Ok-acted-clause-heard : goal.returns-in-Ok-acted-clause-heard
returns-in-Ok-acted-clause-heard g c told =
    act_taken c.args.act.now.limit (g.F.Files.held c.args.files.now c.args.name.now) (g.F.Files.held c.give.new.self c.args.name.now) (g.F.D.Disk.history c.in-Ok.disk) (g.F.D.Disk.history c.act_on_disk-acted.new.disk)
    (Replied c.in-Ok-acted.reply) (g.L.Logs.logs c.args.logs.now) (g.L.Logs.logs c.act_on_disk-acted.new.logs) (there g ((goal.at.returns-in-Ok-acted-clause-heard g c).After-give) told) (c.give.ensures.held told) (c.in-Ok-acted.ensures.heard told)

pub returns-in-Err-acted-clause-heard : goal.returns-in-Err-acted-clause-heard
returns-in-Err-acted-clause-heard g c told =
    let held = g.F.Files.held c.args.files.now c.args.name.now in
    let given = g.F.Files.held c.give.new.self c.args.name.now in
    let logs = g.L.Logs.logs c.args.logs.now in
    let later = g.L.Logs.logs c.act_on_disk-acted.new.logs in
    subst (λ e. ActHeard c.args.act.now.limit held given e logs later) (sym c.from.ensures)
    (act_taken c.args.act.now.limit held given (g.F.D.Disk.history c.in-Ok.disk) (g.F.D.Disk.history c.act_on_disk-acted.new.disk) (of_halt c.in-Err-acted.halt) logs later
    (there g ((goal.at.returns-in-Err-acted-clause-heard g c).After-give) told) (c.give.ensures.held told) (c.in-Err-acted.ensures.heard told))

pub returns-in-Err-clause-heard : goal.returns-in-Err-clause-heard
returns-in-Err-clause-heard g c told =
    act_untaken c.args.name.now c.in-Err.refusal c.untaken.result (g.L.Logs.logs c.args.logs.now) (λ is. let new = c.in-Err.ensures.there_how (ap Err is) in cc) c.untaken.ensures
    c.args.act.now.limit (g.F.Files.held c.args.files.now c.args.name.now) (g.F.Files.held c.take.new.self c.args.name.now) (λ is. ((c.in-Err.ensures.missing told).0 (ap Err is)).0)
