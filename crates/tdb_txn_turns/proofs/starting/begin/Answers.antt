-- A stop in the sync leaves what a stop before it may leave.
use Rattle.tdb_disk.proofs.Runs.{leaves_sync}
use Rattle.tdb_txn_turns.proofs.starting.begin.Goals as goal

pub returns-in-Ok-clause-stops : goal.returns-in-Ok-clause-stops
returns-in-Ok-clause-stops g c = leaves_sync (g.D.Disk.history c.args.d.now) (g.D.Disk.history c.start.new.d) c.start.ensures.tried

pub returns-in-Err-clause-stops : goal.returns-in-Err-clause-stops
returns-in-Err-clause-stops g c = leaves_sync (g.D.Disk.history c.args.d.now) (g.D.Disk.history c.start.new.d) c.start.ensures.tried
