use Rattle.tdb_disk.specs.MemDisk.{memory_history}
use Rattle.tdb_disk.proofs.Stop.{leaves_picked}
use Rattle.tdb_disk.proofs.mem_disk.MemDisk.after_stop.Goals as goal

pub returns-in-Synced-clause-left : goal.returns-in-Synced-clause-left
returns-in-Synced-clause-left c = leaves_picked c.args.pick (memory_history c.args.self.now)

pub returns-in-Read-clause-left : goal.returns-in-Read-clause-left
returns-in-Read-clause-left c = leaves_picked c.args.pick (memory_history c.args.self.now)

pub returns-in-Torn-clause-left : goal.returns-in-Torn-clause-left
returns-in-Torn-clause-left c = leaves_picked c.args.pick (memory_history c.args.self.now)
