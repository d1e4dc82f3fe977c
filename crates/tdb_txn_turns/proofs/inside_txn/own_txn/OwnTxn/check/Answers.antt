-- The count in the words of the law.
use Rattle.std.proofs.Common.{refl}
use Rattle.tdb_disk.specs.History.{seen}
use Rattle.tdb_law.specs.Commands.MapCommand.{Check}
use Rattle.tdb_steps.specs.PlainCommands.{reply_of}
use Rattle.tdb_steps.specs.Turns.{number_of}
use Rattle.tdb_txn_turns.specs.InsideTxn.OwnTxns.{form_of}
use Rattle.tdb_txn_turns.proofs.InsideTxn.Overlays.{weaker}
use Rattle.tdb_txn_turns.proofs.InsideTxn.Turned.{looks_inside}
use Rattle.tdb_txn_turns.proofs.inside_txn.own_txn.OwnTxn.check.Goals as goal

pub returns-clause-turned : goal.returns-clause-turned
returns-clause-turned g c =
    let old = c.args.self.now in
    let base = seen (g.D.Disk.history c.args.d.now) in
    let e = c.count_in_pages.ensures in
    weaker c.count_in_pages.result _ _
    (λ reply done told A x R.
    looks_inside x old (record { txn = c.count_in_pages.new.txn; changed = old.changed; numbered = old.numbered }) base Check (number_of (form_of old) base) (reply_of reply)
    (record { form = e.form; start = e.start; depth = e.depth; doomed = e.doomed; numbered = refl }) e.image refl refl R A (done told A)) e.done
