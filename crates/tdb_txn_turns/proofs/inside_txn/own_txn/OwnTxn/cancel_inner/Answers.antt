-- It is one level less deep, and doomed.
use Rattle.std.proofs.Common.{refl}
use Rattle.tdb_txn_turns.proofs.InsideTxn.Nested.{cancelled}
use Rattle.tdb_txn_turns.proofs.inside_txn.own_txn.OwnTxn.cancel_inner.Goals as goal

pub returns-clause-turned : goal.returns-clause-turned
returns-clause-turned c f base x n p =
    let old = c.args.self.now in
    let e = c.inner_cancel.ensures in
    cancelled f x old (record { txn = c.inner_cancel.new.self; changed = old.changed; numbered = old.numbered }) base n p e.view refl refl c.requires e.depth e.doomed
