-- Each command is the count that it asks for.
use Rattle.std.proofs.Common.{refl, sym, ◌∙◌, ap, inl, inr}
use Rattle.tdb_space.specs.Pairs.{home}
use Rattle.tdb_law.specs.Commands.LockCommand.{ChainUnlock, UnlockAll}
use Rattle.tdb_txn_turns.specs.InsideTxn.OwnTxns.{form_of}
use Rattle.tdb_commands.specs.InLaw.{law_reply}
use Rattle.tdb_txn_owner.proofs.Opened.{txn_of, is_inside, counts_by, goes_as}
use Rattle.tdb_txn_owner.proofs.open_txn.OpenTxn.count.Goals as goal

pub returns-in-ChainUnlock-clause-turned : goal.returns-in-ChainUnlock-clause-turned
returns-in-ChainUnlock-clause-turned c o base x H =
    let t = c.args.self.now in
    let key = c.in-ChainUnlock.key in
    goes_as o t _ base x c.args.command.now _ (law_reply c.uncount_chain.result) c.in-ChainUnlock.is
    (counts_by o t.own t _ base x (ChainUnlock key) c.uncount_chain.result refl refl refl H
    (c.uncount_chain.ensures.turned (form_of t.own) x (txn_of t.own base) key (ap (λ f. home f key) (sym c.requires.header) ∙ sym c.chain_in.ensures) (is_inside o t base x H) H.counted))

pub returns-in-LockAll-clause-turned : goal.returns-in-LockAll-clause-turned
returns-in-LockAll-clause-turned c o base x H =
    goes_as o c.args.self.now _ base x c.args.command.now _ (law_reply c.count_all.result) c.in-LockAll.is (c.count_all.ensures.turned o base x H)

pub returns-in-LockAllRead-clause-turned : goal.returns-in-LockAllRead-clause-turned
returns-in-LockAllRead-clause-turned c o base x H =
    goes_as o c.args.self.now _ base x c.args.command.now _ (law_reply c.count_all-in-LockAllRead.result) c.in-LockAllRead.is (c.count_all-in-LockAllRead.ensures.turned o base x H)

pub returns-in-UnlockAll-clause-turned : goal.returns-in-UnlockAll-clause-turned
returns-in-UnlockAll-clause-turned c o base x H =
    let t = c.args.self.now in
    goes_as o t _ base x c.args.command.now _ (law_reply c.uncount_all.result) c.in-UnlockAll.is
    (counts_by o t.own t _ base x UnlockAll c.uncount_all.result refl refl refl H (c.uncount_all.ensures.turned (form_of t.own) x (txn_of t.own base) (is_inside o t base x H) H.counted))

pub returns-in-ChainLock-clause-turned : goal.returns-in-ChainLock-clause-turned
returns-in-ChainLock-clause-turned c o base x H =
    let t = c.args.self.now in
    let key = c.in-ChainLock.key in
    let at = ap (λ f. home f key) (sym c.requires.header) ∙ sym c.chain_in-in-ChainLock.ensures in
    elim c.in-ChainLock.is [
      | inl is ↦ goes_as o t _ base x c.args.command.now _ (law_reply c.count_chain.result) is (c.count_chain.ensures.turned o base key x at H)
      | inr is ↦ goes_as o t _ base x c.args.command.now _ (law_reply c.count_chain.result) is (c.count_chain.ensures.at_once o base key x at H)
    ]
