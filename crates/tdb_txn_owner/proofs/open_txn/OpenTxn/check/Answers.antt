-- The count in the words of the law.
use Rattle.std.proofs.Common.{refl}
use Rattle.tdb_disk.specs.History.{seen}
use Rattle.tdb_law.specs.Commands.Command.{OnMap}
use Rattle.tdb_law.specs.Commands.MapCommand.{Check}
use Rattle.tdb_txn_turns.specs.InsideTxn.Walks.{with_cursor}
use Rattle.tdb_txn_turns.proofs.InsideTxn.Fronts.{accepted_as}
use Rattle.tdb_txn_owner.proofs.Opened.{goes_still, granted_as, weaker}
use Rattle.tdb_txn_owner.proofs.open_txn.OpenTxn.check.Goals as goal

pub returns-clause-turned : goal.returns-clause-turned
returns-clause-turned g c =
    let t = c.args.self.now in
    let base = seen (g.D.Disk.history c.args.d.now) in
    weaker c.check.result _ _
    (λ reply turned told o x H M R.
    goes_still o t _ base x (OnMap Check) reply H refl tt c.check.ensures.image c.check.ensures.same.form refl (turned told (accepted_as t.own.txn base M) (with_cursor x t.walk) (granted_as o t base x (OnMap Check) H R))) c.check.ensures.turned

pub returns-clause-cause : goal.returns-clause-cause
returns-clause-cause g c told M = c.check.ensures.cause told (accepted_as c.args.self.now.own.txn _ M)
