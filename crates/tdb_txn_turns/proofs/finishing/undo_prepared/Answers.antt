-- The gate is shut with nothing written.
use Rattle.tdb_txn.specs.Commit.{IsPrepared}
use Rattle.tdb_txn.specs.CommitStates.{prepared_plan}
use Rattle.tdb_txn_turns.proofs.Carried.{carried_stops, carried_undone}
use Rattle.tdb_txn_turns.proofs.finishing.undo_prepared.Goals as goal

pub returns-in_err-undo-clause-stops : goal.returns-in_err-undo-clause-stops
returns-in_err-undo-clause-stops g c told r b C =
    carried_stops (IsPrepared (prepared_plan c.args.prepared)) (g.D.Disk.history c.args.d.now) (g.D.Disk.history c.undo.new.d) r b C (c.undo.ensures.stops told)

pub returns-clause-stops : goal.returns-clause-stops
returns-clause-stops g c told r b C =
    carried_stops (IsPrepared (prepared_plan c.args.prepared)) (g.D.Disk.history c.args.d.now) (g.D.Disk.history c.undo.new.d) r b C (c.undo.ensures.stops told)

pub returns-clause-undone : goal.returns-clause-undone
returns-clause-undone g c told r b C =
    carried_undone (prepared_plan c.args.prepared) (g.D.Disk.history c.args.d.now) (g.D.Disk.history c.undo.new.d) r b C (c.undo.ensures.stops told) (c.in_ok-undo.ensures.undone told)
