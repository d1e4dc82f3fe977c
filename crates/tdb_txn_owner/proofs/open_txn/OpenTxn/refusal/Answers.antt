-- The transaction is at its level.
use Rattle.tdb_txn_owner.proofs.Opened.{stands_at}
use Rattle.tdb_txn_owner.proofs.open_txn.OpenTxn.refusal.Goals as goal

pub returns : goal.returns
returns c base x H =
    let l = c.level.ensures in c.refusal.ensures x (stands_at c.args.options.now c.args.self.now base x c.level.result l.prepared l.nested l.doomed l.walks H)
