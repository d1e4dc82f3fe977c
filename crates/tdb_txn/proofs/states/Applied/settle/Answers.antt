use Rattle.tdb_txn.proofs.StatesKept.{settle_stops, settle_done}
use Rattle.tdb_txn.proofs.states.Applied.settle.Goals as goal

pub returns-in_err-sync-clause-stops : goal.returns-in_err-sync-clause-stops
returns-in_err-sync-clause-stops g c told a b state =
    settle_stops c.args.self.plan (g.D.Disk.history c.args.d.now) (g.D.Disk.history c.sync.new.self) a b state c.sync.ensures.tried

pub returns-clause-stops : goal.returns-clause-stops
returns-clause-stops g c told a b state =
    settle_stops c.args.self.plan (g.D.Disk.history c.args.d.now) (g.D.Disk.history c.sync.new.self) a b state c.sync.ensures.tried

pub returns-clause-settled : goal.returns-clause-settled
returns-clause-settled g c told a b state =
    settle_done c.args.self.plan (g.D.Disk.history c.args.d.now) (g.D.Disk.history c.sync.new.self) a b state (c.in_ok-sync.ensures.done told)
