-- The count in the words of the law.
use Rattle.std.proofs.Common.{refl}
use Rattle.tdb_locks.specs.declared.turn.Reply.{Reply}
use Rattle.tdb_txn_turns.specs.InsideTxn.Counted.{lock_all_of}
use Rattle.tdb_txn_turns.specs.InsideTxn.OwnTxns.{form_of}
use Rattle.tdb_txn_turns.proofs.InsideTxn.ExplicitLocks.{all_starves}
use Rattle.tdb_txn_owner.proofs.Opened.{txn_of, is_inside, counts_by}
use Rattle.tdb_txn_owner.proofs.open_txn.OpenTxn.count_all.Goals as goal

pub returns-then-is_full-clause-turned : goal.returns-then-is_full-clause-turned
returns-then-is_full-clause-turned c o base x H =
    let t = c.args.self.now in
    counts_by o t.own t t base x (lock_all_of c.args.kind) Reply.Memory refl refl refl H
    (all_starves (form_of t.own) x (txn_of t.own base) (is_inside o t base x H) t.held t.held H.counted c.args.kind refl)

pub returns-clause-turned : goal.returns-clause-turned
returns-clause-turned c o base x H =
    let t = c.args.self.now in
    counts_by o t.own t _ base x (lock_all_of c.args.kind) c.count_all.result refl refl refl H (c.count_all.ensures.turned (form_of t.own) x (txn_of t.own base) (is_inside o t base x H) H.counted)
