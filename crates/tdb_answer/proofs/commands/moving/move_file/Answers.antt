use Rattle.std.proofs.Common.{◌≡◌, [], true, Err, Some, Option, sym, ap, subst}
use Rattle.tdb_disk.specs.History.{History, began}
use Rattle.tdb_disk.specs.declared.files.Take.TheVariants.{Existing, New}
use Rattle.tdb_answer.specs.Commands.Moving.{MoveFrom, from_untaken, from_taken}
use Rattle.tdb_answer.specs.Heard.{MoveHeard}
use Rattle.tdb_answer.proofs.BackingUp.{untaken_counted}
use Rattle.tdb_answer.proofs.Hearing.{move_untaken}
use Rattle.tdb_answer.proofs.Held.{held_there}
use Rattle.tdb_answer.proofs.Merging.{not_taken, file_given, counted_so}
use Rattle.tdb_answer.proofs.Moving.{move_untaken_known, move_asked, move_unread}
use Rattle.tdb_answer.proofs.commands.moving.move_file.Goals as goal
use Rattle.tdb_answer.proofs.commands.moving.move_file.Goals.{After-give}

-- it isn't to be made
not_new : Existing ≡ New → ⊥
not_new is = cc

-- the file that was taken is what was held at its name
there : (g : _) (c : After-give g) → g.F.D.Disk.tells ≡ true → g.F.Files.held c.args.files.now c.args.file.now ≡ Some (g.F.D.Disk.history c.in-Ok.disk)
there g c told = held_there (g.F.Files.held c.args.files.now c.args.file.now) (began []) (g.F.D.Disk.history c.in-Ok.disk)
    (λ none. let wrong = (c.in-Ok.ensures.missing told).1 (none, not_new) in cc) (c.in-Ok.ensures.disk told)

-- its key was moved into the other file, or wasn't
pub returns-clause-left : goal.returns-clause-left
returns-clause-left g c told =
    let first = c.in-Ok.ensures.held_others c.args.into.now c.requires.differ in
    let last = sym (c.give.ensures.held_others c.args.into.now c.requires.differ) in
    from_taken (g.F.D.Disk.history c.in-Ok.disk) (g.F.D.Disk.history c.move_from_disk-disk.result.0) (there g ((goal.at.returns-clause-left g c).After-give) told) (c.give.ensures.held told)
    (subst (λ (q : Option History × Option History). MoveFrom c.args.limit c.args.key.now c.args.into.now (g.F.D.Disk.history c.in-Ok.disk) (g.F.D.Disk.history c.move_from_disk-disk.result.0) q.0 q.1 c.move_from_disk-disk.result.1) (λ j. (first j, last j)) (c.move_from_disk-disk.ensures.left told))

pub returns-clause-counted : goal.returns-clause-counted
returns-clause-counted g c =
    file_given g.F.D.Disk.tells (g.F.Files.faults c.args.files.now) (g.F.Files.faults c.take.new.self) (g.F.Files.faults c.move_from_disk-disk.new.files) (g.F.Files.faults c.give.new.self)
    (g.F.D.Disk.faults c.in-Ok.disk) (g.F.D.Disk.faults c.move_from_disk-disk.result.0) c.move_from_disk-disk.result.1
    c.in-Ok.ensures.cause.done c.in-Ok.ensures.disk_faults c.move_from_disk-disk.ensures.counted c.give.ensures.sound c.give.ensures.faulty c.give.ensures.faults

-- it is no usage, and tells nothing of the input
pub returns-clause-asked : goal.returns-clause-asked
returns-clause-asked g c = move_asked c.move_from_disk-disk.result.1 c.move_from_disk-disk.ensures.known

pub returns-clause-unread : goal.returns-clause-unread
returns-clause-unread g c = move_unread c.move_from_disk-disk.result.1 c.move_from_disk-disk.ensures.known

-- the file wasn't taken
pub returns-in-Err-clause-left : goal.returns-in-Err-clause-left
returns-in-Err-clause-left g c told =
    from_untaken (c.in-Err.ensures.refused_held c.args.file.now) (c.in-Err.ensures.refused_held c.args.into.now)
    (not_taken c.args.file.now (g.F.Files.held c.args.files.now c.args.file.now) c.in-Err.refusal c.untaken.result (λ is. ((c.in-Err.ensures.missing told).0 (ap Err is)).0) (λ is. not_new (c.in-Err.ensures.there_how (ap Err is))) c.untaken.ensures)

pub returns-in-Err-clause-asked : goal.returns-in-Err-clause-asked
returns-in-Err-clause-asked g c = move_asked c.untaken.result (move_untaken_known c.args.file.now c.in-Err.refusal c.untaken.result (λ is. not_new (c.in-Err.ensures.there_how (ap Err is))) c.untaken.ensures)

pub returns-in-Err-clause-unread : goal.returns-in-Err-clause-unread
returns-in-Err-clause-unread g c = move_unread c.untaken.result (move_untaken_known c.args.file.now c.in-Err.refusal c.untaken.result (λ is. not_new (c.in-Err.ensures.there_how (ap Err is))) c.untaken.ensures)

pub returns-in-Err-clause-counted : goal.returns-in-Err-clause-counted
returns-in-Err-clause-counted g c =
    let before = g.F.Files.faults c.args.files.now in
    let after = g.F.Files.faults c.take.new.self in
    counted_so g.F.D.Disk.tells before after c.untaken.result
    (untaken_counted before after c.args.file.now c.in-Err.refusal c.untaken.result c.in-Err.ensures.cause.never_falls c.in-Err.ensures.cause.failed c.in-Err.ensures.cause.refused c.untaken.ensures)

-- what logs heard of it
pub returns-clause-heard : goal.returns-clause-heard
returns-clause-heard g c told =
    subst (λ o. MoveHeard c.args.limit o c.move_from_disk-disk.result.1 (g.L.Logs.logs c.args.logs.now) (g.L.Logs.logs c.move_from_disk-disk.new.logs)) (sym (there g ((goal.at.returns-clause-heard g c).After-give) told)) (c.move_from_disk-disk.ensures.heard told)

pub returns-in-Err-clause-heard : goal.returns-in-Err-clause-heard
returns-in-Err-clause-heard g c told =
    move_untaken c.args.file.now c.in-Err.refusal c.untaken.result (g.L.Logs.logs c.args.logs.now) (λ is. not_new (c.in-Err.ensures.there_how (ap Err is))) c.untaken.ensures
    c.args.limit (g.F.Files.held c.args.files.now c.args.file.now) (λ is. ((c.in-Err.ensures.missing told).0 (ap Err is)).0)
