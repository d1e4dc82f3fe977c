-- It is one level less deep, and the reply tells whether it is doomed.
use Rattle.std.proofs.Common.{refl, sym, ◌∙◌}
use Rattle.tdb_txn_turns.proofs.InsideTxn.Nested.{committed, refused}
use Rattle.tdb_txn_turns.proofs.inside_txn.own_txn.OwnTxn.commit_inner.Goals as goal

pub returns-then-doomed-clause-turned : goal.returns-then-doomed-clause-turned
returns-then-doomed-clause-turned c f base x n p =
    let old = c.args.self.now in
    let e = c.inner_commit.ensures in
    refused f x old (record { txn = c.inner_commit.new.self; changed = old.changed; numbered = old.numbered }) base n p e.view refl refl c.requires e.depth e.doomed
    (sym e.doomed ∙ sym c.doomed.ensures ∙ c.if-doomed.true)

pub returns-else-doomed-clause-turned : goal.returns-else-doomed-clause-turned
returns-else-doomed-clause-turned c f base x n p =
    let old = c.args.self.now in
    let e = c.inner_commit.ensures in
    committed f x old (record { txn = c.inner_commit.new.self; changed = old.changed; numbered = old.numbered }) base n p e.view refl refl c.requires e.depth e.doomed
    (sym e.doomed ∙ sym c.doomed.ensures ∙ c.if-doomed.false)
