-- The transactions are cancelled, or a disk failed.
use Rattle.std.proofs.Common.{subst, sym}
use Rattle.tdb_move.specs.Parts.{GaveUp}
use Rattle.tdb_move.proofs.Steps.{gave_failed, gave_up}
use Rattle.tdb_move.proofs.moving.give_up.Goals as goal

pub returns-in-Ok : goal.returns-in-Ok
returns-in-Ok g c = gave_up g.D.Disk.tells c.args.group.now c.cancel.new.self c.args.fault c.requires.other c.in-Ok.ensures

pub returns-in-Err : goal.returns-in-Err
returns-in-Err g c = subst (GaveUp g.D.Disk.tells c.args.fault c.args.group.now c.cancel.new.self) (sym c.from.ensures) (gave_failed g.D.Disk.tells c.args.group.now c.cancel.new.self c.args.fault c.requires.other c.in-Err.stop c.in-Err.ensures)
