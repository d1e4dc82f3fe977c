-- Where it isn't idle it has a task.
use Rattle.std.proofs.Common.{sym, ◌∙◌, ap}
use Rattle.tdb_txn_owner.specs.Holders.{is_idle, HolderState}
use Rattle.tdb_txn_owner.proofs.HolderTurns.{busy_task, idle_task}
use Rattle.tdb_txn_owner.proofs.txn_owner.TxnOwner.is_idle.Goals as goal

pub returns-clause-task : goal.returns-clause-task
returns-clause-task c idle = idle_task c.args.self.now.stage (ap (λ (v : HolderState). is_idle v.stage) (sym c.self.view_is) ∙ sym c.is_idle.ensures ∙ idle)

pub returns-clause-busy : goal.returns-clause-busy
returns-clause-busy c busy = busy_task c.args.self.now.stage (ap (λ (v : HolderState). is_idle v.stage) (sym c.self.view_is) ∙ sym c.is_idle.ensures ∙ busy)
