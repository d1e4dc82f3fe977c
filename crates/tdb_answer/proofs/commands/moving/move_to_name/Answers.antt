use Rattle.std.proofs.Common.{◌≡◌, [], true, Err, Some, ap, subst, sym}
use Rattle.tdb_disk.specs.History.{began}
use Rattle.tdb_disk.specs.declared.files.Take.TheVariants.{Existing, New}
use Rattle.tdb_answer.specs.Commands.Merge.{CountedPair}
use Rattle.tdb_answer.specs.Commands.Moving.{other_untaken, other_taken}
use Rattle.tdb_answer.proofs.BackingUp.{untaken_counted}
use Rattle.tdb_answer.proofs.Held.{held_there}
use Rattle.tdb_answer.proofs.Merging.{not_taken, pair_given, pair_untaken}
use Rattle.tdb_answer.proofs.Moving.{move_untaken_known}
use Rattle.tdb_answer.proofs.commands.moving.move_to_name.Goals as goal
use Rattle.tdb_answer.proofs.commands.moving.move_to_name.Goals.{After-give}

-- it isn't to be made
not_new : Existing ≡ New → ⊥
not_new is = cc

-- the file that was taken is what was held at its name
there : (g : _) (c : After-give g) → g.F.D.Disk.tells ≡ true → g.F.Files.held c.args.files.now c.args.into.now ≡ Some (g.F.D.Disk.history c.in-Ok.disk)
there g c told = held_there (g.F.Files.held c.args.files.now c.args.into.now) (began []) (g.F.D.Disk.history c.in-Ok.disk)
    (λ none. let wrong = (c.in-Ok.ensures.missing told).1 (none, not_new) in cc) (c.in-Ok.ensures.disk told)

-- the other file was taken, and given back as the move left it
pub returns-in-Ok-clause-left : goal.returns-in-Ok-clause-left
returns-in-Ok-clause-left g c told =
    other_taken (g.F.D.Disk.history c.in-Ok.disk) (g.F.D.Disk.history c.move_to_disk-from.result.1) (there g ((goal.at.returns-in-Ok-clause-left g c).After-give) told) (c.give.ensures.held told) (c.move_to_disk-from.ensures.left told)

pub returns-in-Ok-clause-counted : goal.returns-in-Ok-clause-counted
returns-in-Ok-clause-counted g c =
    pair_given g.F.D.Disk.tells c.args.from.faults (g.F.D.Disk.faults c.move_to_disk-from.result.0) (g.F.Files.faults c.args.files.now) (g.F.Files.faults c.take.new.self) (g.F.Files.faults c.give.new.self)
    (g.F.D.Disk.faults c.in-Ok.disk) (g.F.D.Disk.faults c.move_to_disk-from.result.1) c.move_to_disk-from.result.2
    c.in-Ok.ensures.cause.done c.in-Ok.ensures.disk_faults c.move_to_disk-from.ensures.counted c.give.ensures.sound c.give.ensures.faulty c.give.ensures.faults

-- it wasn't taken
pub returns-in-Err-clause-left : goal.returns-in-Err-clause-left
returns-in-Err-clause-left g c told =
    other_untaken c.close.ensures.history (c.in-Err.ensures.refused_held c.args.into.now)
    (not_taken c.args.into.now (g.F.Files.held c.args.files.now c.args.into.now) c.in-Err.refusal c.untaken.result (λ is. ((c.in-Err.ensures.missing told).0 (ap Err is)).0) (λ is. not_new (c.in-Err.ensures.there_how (ap Err is))) c.untaken.ensures)

pub returns-in-Err-clause-known : goal.returns-in-Err-clause-known
returns-in-Err-clause-known g c = move_untaken_known c.args.into.now c.in-Err.refusal c.untaken.result (λ is. not_new (c.in-Err.ensures.there_how (ap Err is))) c.untaken.ensures

pub returns-in-Err-clause-counted : goal.returns-in-Err-clause-counted
returns-in-Err-clause-counted g c =
    let before = g.F.Files.faults c.args.files.now in
    let after = g.F.Files.faults c.take.new.self in
    subst (λ n. CountedPair g.F.D.Disk.tells c.args.from.faults n before after c.untaken.result) (sym c.close.ensures.faults)
    (pair_untaken g.F.D.Disk.tells c.args.from.faults before after c.untaken.result
    (untaken_counted before after c.args.into.now c.in-Err.refusal c.untaken.result c.in-Err.ensures.cause.never_falls c.in-Err.ensures.cause.failed c.in-Err.ensures.cause.refused c.untaken.ensures))
