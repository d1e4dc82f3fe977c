-- The transaction is ended, in the words of the law, and its opener holds nothing.
use Rattle.std.proofs.Common.{◌+◌, ap, refl}
use Rattle.tdb_law.specs.Images.{image_map}
use Rattle.tdb_txn_turns.specs.InsideTxn.OwnTxns.{law_txn, image_of, form_of}
use Rattle.tdb_txn_turns.proofs.InsideTxn.Nested.{cancel_ends, refused_ends}
use Rattle.tdb_txn_turns.proofs.inside_txn.own_txn.OwnTxn.cancel.Goals as goal

pub returns-clause-ends : goal.returns-clause-ends
returns-clause-ends c f base x n p =
    let t = c.args.self in
    cancel_ends f x (law_txn (image_map (form_of t) (image_of t base)) t.txn t.changed t.numbered) refl (ap (λ d. d + 1) c.requires.outer) n p

pub returns-clause-refused : goal.returns-clause-refused
returns-clause-refused c f base x command why n p end R =
    let t = c.args.self in
    refused_ends f x (law_txn (image_map (form_of t) (image_of t base)) t.txn t.changed t.numbered) refl (ap (λ d. d + 1) c.requires.outer) command why n p end R
