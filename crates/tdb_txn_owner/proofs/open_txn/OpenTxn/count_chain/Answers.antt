-- The count in the words of the law.
use Rattle.std.proofs.Common.{refl}
use Rattle.tdb_locks.specs.declared.turn.Reply.{Reply}
use Rattle.tdb_law.specs.Commands.LockCommand.{ChainLock, ChainLockNb}
use Rattle.tdb_txn_turns.specs.InsideTxn.OwnTxns.{form_of}
use Rattle.tdb_txn_turns.proofs.InsideTxn.ExplicitLocks.{chain_starves, chain_nb_starves}
use Rattle.tdb_txn_owner.proofs.Opened.{txn_of, is_inside, counts_by}
use Rattle.tdb_txn_owner.proofs.open_txn.OpenTxn.count_chain.Goals as goal

pub returns-then-is_full-clause-turned : goal.returns-then-is_full-clause-turned
returns-then-is_full-clause-turned c o base key x at H =
    let t = c.args.self.now in
    counts_by o t.own t t base x (ChainLock key) Reply.Memory refl refl refl H
    (chain_starves (form_of t.own) x (txn_of t.own base) (is_inside o t base x H) key t.held t.held c.args.chain at H.counted refl)

pub returns-then-is_full-clause-at_once : goal.returns-then-is_full-clause-at_once
returns-then-is_full-clause-at_once c o base key x at H =
    let t = c.args.self.now in
    counts_by o t.own t t base x (ChainLockNb key) Reply.Memory refl refl refl H
    (chain_nb_starves (form_of t.own) x (txn_of t.own base) (is_inside o t base x H) key t.held t.held c.args.chain at H.counted refl)

pub returns-clause-turned : goal.returns-clause-turned
returns-clause-turned c o base key x at H =
    let t = c.args.self.now in
    counts_by o t.own t _ base x (ChainLock key) c.count_chain.result refl refl refl H
    (c.count_chain.ensures.turned (form_of t.own) x (txn_of t.own base) key at (is_inside o t base x H) H.counted)

pub returns-clause-at_once : goal.returns-clause-at_once
returns-clause-at_once c o base key x at H =
    let t = c.args.self.now in
    counts_by o t.own t _ base x (ChainLockNb key) c.count_chain.result refl refl refl H
    (c.count_chain.ensures.at_once (form_of t.own) x (txn_of t.own base) key at (is_inside o t base x H) H.counted)
