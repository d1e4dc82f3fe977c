-- A group was made of the two worlds, or wasn't; both are given up, and their disks come back as they are.
use Rattle.tdb_move.proofs.Parts.{on_if}
use Rattle.tdb_move.proofs.Whole.{both_quiet, both_rose, from_rises, into_rises, moves, moves_not}
use Rattle.tdb_move.proofs.moving.move_key.Goals as goal

pub returns-in-Ok-clause-moved : goal.returns-in-Ok-clause-moved
returns-in-Ok-clause-moved g c told =
    let s = c.requires.from_begun.state told in
    let t = c.requires.into_begun.state told in
    rw (c.close.ensures.history, c.close-in-Ok.ensures.history)
    (moves g.D.Disk.tells c.args.key.now c.args.from c.args.into _ _ c.in-Ok.ensures.began c.move_in-answer.result c.move_in-answer.ensures c.parted-from.result.0 c.parted-from.result.1 c.parted-from.ensures told s.0 t.0 s.1 t.1
    (c.requires.from_begun.accepted told) (c.requires.into_begun.accepted told))

pub returns-in-Ok-clause-from_rises : goal.returns-in-Ok-clause-from_rises
returns-in-Ok-clause-from_rises g c =
    rw c.close.ensures.faults (from_rises g.D.Disk.tells c.args.key.now c.args.from c.args.into _ _ c.in-Ok.ensures.began c.move_in-answer.result c.move_in-answer.ensures c.parted-from.result.0 c.parted-from.result.1 c.parted-from.ensures)

pub returns-in-Ok-clause-into_rises : goal.returns-in-Ok-clause-into_rises
returns-in-Ok-clause-into_rises g c =
    rw c.close-in-Ok.ensures.faults (into_rises g.D.Disk.tells c.args.key.now c.args.from c.args.into _ _ c.in-Ok.ensures.began c.move_in-answer.result c.move_in-answer.ensures c.parted-from.result.0 c.parted-from.result.1 c.parted-from.ensures)

pub returns-in-Ok-clause-quiet : goal.returns-in-Ok-clause-quiet
returns-in-Ok-clause-quiet g c =
    rw (c.close.ensures.faults, c.close-in-Ok.ensures.faults)
    (both_quiet g.D.Disk.tells c.args.key.now c.args.from c.args.into _ _ c.in-Ok.ensures.began c.move_in-answer.result c.move_in-answer.ensures c.parted-from.result.0 c.parted-from.result.1 c.parted-from.ensures)

pub returns-in-Ok-clause-rose : goal.returns-in-Ok-clause-rose
returns-in-Ok-clause-rose g c told =
    let s = c.requires.from_begun.state told in
    let t = c.requires.into_begun.state told in
    rw (c.close.ensures.faults, c.close-in-Ok.ensures.faults)
    (both_rose g.D.Disk.tells c.args.key.now c.args.from c.args.into _ _ c.in-Ok.ensures.began c.move_in-answer.result c.move_in-answer.ensures c.parted-from.result.0 c.parted-from.result.1 c.parted-from.ensures told s.0 t.0 s.1 t.1)

pub returns-in-Err-clause-moved : goal.returns-in-Err-clause-moved
returns-in-Err-clause-moved g c told =
    let s = c.requires.from_begun.state told in
    let t = c.requires.into_begun.state told in
    rw (c.close-in-Err.ensures.history, c.close-in-Err-2.ensures.history)
    (moves_not c.args.key.now c.args.from c.args.into s.0 t.0 s.1 t.1 (c.requires.from_begun.accepted told) (c.requires.into_begun.accepted told) g.D.Disk.tells c.in-Err.from c.in-Err.into c.in-Err.fault told c.in-Err.ensures.not)

pub returns-in-Err-clause-rose : goal.returns-in-Err-clause-rose
returns-in-Err-clause-rose g c told =
    let s = c.requires.from_begun.state told in
    let t = c.requires.into_begun.state told in
    rw (c.close-in-Err.ensures.faults, c.close-in-Err-2.ensures.faults)
    (on_if (Unit {0}) c.in-Err.fault _ (λ device. c.in-Err.ensures.not.rose device told s.0 t.0 s.1 t.1))
