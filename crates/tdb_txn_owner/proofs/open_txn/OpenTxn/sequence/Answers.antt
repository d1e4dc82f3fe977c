-- The number in the words of the law.
use Rattle.std.proofs.Common.{refl, arith}
use Rattle.tdb_disk.specs.History.{seen}
use Rattle.tdb_law.specs.Commands.Command.{Seqnum}
use Rattle.tdb_txn_turns.specs.InsideTxn.Walks.{with_cursor}
use Rattle.tdb_txn_owner.proofs.Opened.{goes_still, granted_as, weaker}
use Rattle.tdb_txn_owner.proofs.open_txn.OpenTxn.sequence.Goals as goal

pub returns-clause-turned : goal.returns-clause-turned
returns-clause-turned g c =
    let t = c.args.self.now in
    let base = seen (g.D.Disk.history c.args.d.now) in
    weaker c.sequence.result _ _
    (λ reply turned told o x H M R.
    let size = g.met.D.Disk.told_size c.args.d.now told in
    let long = M.before.long in
    let sized = c.requires.fits.sized in
    goes_still o t _ base x Seqnum reply H refl tt c.sequence.ensures.image c.sequence.ensures.same.form refl
    (turned told (omega (arith, size, long, sized)) t.own.txn.longer (with_cursor x t.walk) (granted_as o t base x Seqnum H R))) c.sequence.ensures.turned
