use Rattle.std.proofs.Common.{◌≡◌, [], true, Err, Option, Some, sym, ap, subst}
use Rattle.std.proofs.lemmas.Result.{IfOk-weaker}
use Rattle.tdb_disk.specs.History.{History, began}
use Rattle.tdb_disk.specs.declared.files.Take.TheVariants.{Existing, New}
use Rattle.tdb_answer.specs.Commands.Backup.{copy_ending, DiskCopied, file_taken}
use Rattle.tdb_answer.proofs.BackingUp.{untaken_file, untaken_ends, untaken_other, untaken_counted, given_counted}
use Rattle.tdb_answer.specs.Heard.{CopiedHeard}
use Rattle.tdb_answer.proofs.Hearing.{copied_untaken}
use Rattle.tdb_answer.proofs.Held.{held_there}
use Rattle.tdb_answer.proofs.commands.backup.copy_opened.Goals as goal
use Rattle.tdb_answer.proofs.commands.backup.copy_opened.Goals.{After-give}

-- the file that was taken is what was held at its name
there : (g : _) (c : After-give g) → g.F.D.Disk.tells ≡ true → g.F.Files.held c.args.files.now c.args.file.now ≡ Some (g.F.D.Disk.history c.in-Ok.disk)
there g c told = held_there (g.F.Files.held c.args.files.now c.args.file.now) (began []) (g.F.D.Disk.history c.in-Ok.disk)
    (λ none. let existing : Existing ≡ New → ⊥ = (λ e. cc) in let wrong = (c.in-Ok.ensures.missing told).1 (none, existing) in cc) (c.in-Ok.ensures.disk told)

-- it was opened and copied, or wasn't
pub returns-clause-copied : goal.returns-clause-copied
returns-clause-copied g c told =
    let a = (goal.at.returns-clause-copied g c).After-give in
    let was = g.F.D.Disk.history c.in-Ok.disk in
    let is = g.F.D.Disk.history c.copy_disk-copied.new.from in
    let e = copy_ending c.copy_disk-copied.result in
    let first = c.in-Ok.ensures.held_others c.args.name.now c.requires.differ in
    let last = sym (c.give.ensures.held_others c.args.name.now c.requires.differ) in
    file_taken was is (there g a told) (c.give.ensures.held told)
    (subst (λ (q : Option History × Option History). DiskCopied was is q.0 q.1 e) (λ j. (first j, last j)) (c.copy_disk-copied.ensures.copied told))

pub returns-clause-keys : goal.returns-clause-keys
returns-clause-keys g c =
    let a = (goal.at.returns-clause-keys g c).After-give in
    IfOk-weaker c.copy_disk-copied.result _ _ (λ n number told. record { was = g.F.D.Disk.history c.in-Ok.disk; there = there g a told; number = number told }) c.copy_disk-copied.ensures.keys

pub returns-clause-counted : goal.returns-clause-counted
returns-clause-counted g c =
    given_counted (g.F.Files.faults c.args.files.now) (g.F.Files.faults c.take.new.self) (g.F.Files.faults c.copy_disk-copied.new.files) (g.F.Files.faults c.give.new.self)
    (g.F.D.Disk.faults c.in-Ok.disk) (g.F.D.Disk.faults c.copy_disk-copied.new.from) (copy_ending c.copy_disk-copied.result)
    c.in-Ok.ensures.cause.done c.in-Ok.ensures.disk_faults c.copy_disk-copied.ensures.counted c.give.ensures.sound c.give.ensures.faulty c.give.ensures.faults

-- it wasn't taken
pub returns-in-Err-clause-copied : goal.returns-in-Err-clause-copied
returns-in-Err-clause-copied g c told =
    untaken_file c.args.file.now (g.F.Files.held c.args.files.now c.args.file.now) (g.F.Files.held c.take.new.self c.args.file.now) (g.F.Files.held c.args.files.now c.args.name.now) (g.F.Files.held c.take.new.self c.args.name.now)
    c.in-Err.refusal c.untaken.result (c.in-Err.ensures.refused_held c.args.file.now) (c.in-Err.ensures.refused_held c.args.name.now)
    (λ is. ((c.in-Err.ensures.missing told).0 (ap Err is)).0) (λ is. let new : Existing ≡ New = c.in-Err.ensures.there_how (ap Err is) in cc) c.untaken.ensures

pub returns-in-Err-clause-refused : goal.returns-in-Err-clause-refused
returns-in-Err-clause-refused g c is = untaken_other c.args.file.now c.in-Err.refusal c.untaken.result c.untaken.ensures is

pub returns-in-Err-clause-known : goal.returns-in-Err-clause-known
returns-in-Err-clause-known g c = untaken_ends c.args.file.now c.in-Err.refusal c.untaken.result c.untaken.ensures

pub returns-in-Err-clause-counted : goal.returns-in-Err-clause-counted
returns-in-Err-clause-counted g c =
    untaken_counted (g.F.Files.faults c.args.files.now) (g.F.Files.faults c.take.new.self) c.args.file.now c.in-Err.refusal c.untaken.result
    c.in-Err.ensures.cause.never_falls c.in-Err.ensures.cause.failed c.in-Err.ensures.cause.refused c.untaken.ensures

-- what logs heard of it
pub returns-clause-heard : goal.returns-clause-heard
returns-clause-heard g c told =
    subst (λ o. CopiedHeard o (copy_ending c.copy_disk-copied.result) (g.L.Logs.logs c.args.logs.now) (g.L.Logs.logs c.copy_disk-copied.new.logs)) (sym (there g ((goal.at.returns-clause-heard g c).After-give) told)) (c.copy_disk-copied.ensures.heard told)

pub returns-in-Err-clause-heard : goal.returns-in-Err-clause-heard
returns-in-Err-clause-heard g c told =
    copied_untaken c.args.file.now c.in-Err.refusal c.untaken.result (g.L.Logs.logs c.args.logs.now) (λ is. let new : Existing ≡ New = c.in-Err.ensures.there_how (ap Err is) in cc) c.untaken.ensures
    (g.F.Files.held c.args.files.now c.args.file.now) (λ is. ((c.in-Err.ensures.missing told).0 (ap Err is)).0)
