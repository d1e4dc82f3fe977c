-- The opener is ended, in the words of the law, and holds nothing.
use Rattle.std.proofs.Common.{refl}
use Rattle.tdb_law.specs.Images.{image_map}
use Rattle.tdb_txn_turns.specs.InsideTxn.OwnTxns.{law_txn, image_of, form_of}
use Rattle.tdb_txn_turns.proofs.InsideTxn.Nested.{closes_inside}
use Rattle.tdb_txn_turns.proofs.inside_txn.own_txn.OwnTxn.close.Goals as goal

pub returns-clause-closes : goal.returns-clause-closes
returns-clause-closes c f base x n p =
    let t = c.args.self in
    closes_inside f x (law_txn (image_map (form_of t) (image_of t base)) t.txn t.changed t.numbered) refl n p
