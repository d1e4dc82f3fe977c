-- It is one level deeper.
use Rattle.std.proofs.Common.{refl}
use Rattle.tdb_txn_turns.proofs.InsideTxn.Nested.{started}
use Rattle.tdb_txn_turns.proofs.inside_txn.own_txn.OwnTxn.start_inner.Goals as goal

pub returns-clause-turned : goal.returns-clause-turned
returns-clause-turned c f base x n p R =
    let old = c.args.self.now in
    started f x old (record { txn = c.nest.new.self; changed = old.changed; numbered = old.numbered }) base n p c.nest.ensures.view refl refl c.nest.ensures.depth c.nest.ensures.doomed R
