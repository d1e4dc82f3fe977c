use Rattle.std.proofs.Common.{sym, subst}
use Rattle.tdb_answer.specs.Commands.Merge.{CountedPair}
use Rattle.tdb_answer.specs.Commands.Moving.{EndsMove, MoveLeft, move_unopened, move_ran}
use Rattle.tdb_answer.specs.Ending.{of_halt}
use Rattle.tdb_answer.proofs.Merging.{other_halted}
use Rattle.tdb_answer.proofs.Moving.{was_opened, not_opened, moved_on, move_counted, told_known, move_halted_known}
use Rattle.tdb_answer.proofs.Turning.{halt_counted}
use Rattle.tdb_answer.proofs.commands.moving.move_to_disk.Goals as goal

-- the other file wasn't opened, and the disks came back with the refusal
pub returns-in-Err-clause-left : goal.returns-in-Err-clause-left
returns-in-Err-clause-left g c told =
    let old = g.D.Disk.history c.args.disk in
    let now = g.D.Disk.history c.in-Err.disk in
    let H = c.in-Err.ensures.halted in
    subst (MoveLeft c.args.limit c.args.key.now c.args.from.history (g.D.Disk.history c.close.result) old now) (sym c.from.ensures)
    (move_unopened c.in-Err.halt c.close.ensures.history (not_opened c.args.limit _ old now c.in-Err.halt c.options_within-options.ensures (H.opened told) (H.stops told)))

pub returns-in-Err-clause-known : goal.returns-in-Err-clause-known
returns-in-Err-clause-known g c = move_halted_known c.in-Err.halt c.from.result c.from.ensures

pub returns-in-Err-clause-counted : goal.returns-in-Err-clause-counted
returns-in-Err-clause-counted g c =
    let before = g.D.Disk.faults c.args.disk in
    let after = g.D.Disk.faults c.in-Err.disk in
    let cause = c.in-Err.ensures.cause in
    subst (λ n. CountedPair g.D.Disk.tells c.args.from.faults n before after c.from.result) (sym c.close.ensures.faults)
    (subst (CountedPair g.D.Disk.tells c.args.from.faults c.args.from.faults before after) (sym c.from.ensures)
    (other_halted g.D.Disk.tells c.args.from.faults before after (of_halt c.in-Err.halt) (halt_counted g.D.Disk.tells before after c.in-Err.halt cause.never_falls cause.failed cause.refused)))

-- it was, and the key was moved into it, or wasn't
pub returns-clause-left : goal.returns-clause-left
returns-clause-left g c told =
    let into = c.in-Ok.loaded.0 in
    let old = g.D.Disk.history c.args.disk in
    let O = c.in-Ok.ensures.opened in
    subst (MoveLeft c.args.limit c.args.key.now c.args.from.history (g.D.Disk.history c.move_key-from.result.0) old (g.D.Disk.history c.move_key-from.result.1)) (sym c.told.ensures)
    (move_ran c.move_key-from.result.2
    (moved_on c.args.limit c.args.key.now _ _ c.args.from.history _ old into.history _ c.move_key-from.result.2 (c.requires.begun.form told) (c.in-Ok.ensures.loaded.begun.form told)
    (was_opened c.args.limit _ old into.history c.in-Ok.loaded.1 c.options_within-options.ensures (O.opened told) (O.stops told)) (c.move_key-from.ensures.moved told)))

pub returns-clause-known : goal.returns-clause-known
returns-clause-known g c = subst EndsMove (sym c.told.ensures) (told_known c.move_key-from.result.2)

-- how often the two disks had failed then
pub returns-clause-counted : goal.returns-clause-counted
returns-clause-counted g c =
    let M = c.move_key-from.ensures in
    subst (CountedPair g.D.Disk.tells c.args.from.faults (g.D.Disk.faults c.move_key-from.result.0) (g.D.Disk.faults c.args.disk) (g.D.Disk.faults c.move_key-from.result.1)) (sym c.told.ensures)
    (move_counted g.D.Disk.tells c.args.from.faults (g.D.Disk.faults c.move_key-from.result.0) (g.D.Disk.faults c.args.disk) c.in-Ok.loaded.0.faults (g.D.Disk.faults c.move_key-from.result.1)
    c.in-Ok.ensures.done M.from_rises M.into_rises c.move_key-from.result.2 M.quiet M.rose)
