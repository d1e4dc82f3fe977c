-- The walk in the words of the law.
use Rattle.std.proofs.Common.{refl}
use Rattle.tdb_disk.specs.History.{seen}
use Rattle.tdb_law.specs.Commands.Command.{OnWalk}
use Rattle.tdb_txn_turns.specs.InsideTxn.Walks.{command_for}
use Rattle.tdb_txn_owner.proofs.Opened.{goes_by, weaker_with}
use Rattle.tdb_txn_owner.proofs.open_txn.OpenTxn.ask.Goals as goal

pub returns-clause-turned : goal.returns-clause-turned
returns-clause-turned g c =
    let t = c.args.self.now in
    let base = seen (g.D.Disk.history c.args.d.now) in
    weaker_with c.walk.result _ _ _
    (λ reply turned walks told o x H Rest.
    goes_by o t _ base x (OnWalk (command_for c.args.goal)) reply H refl (turned told Rest x) (walks told Rest x)) c.walk.ensures.turned c.walk.ensures.walks
