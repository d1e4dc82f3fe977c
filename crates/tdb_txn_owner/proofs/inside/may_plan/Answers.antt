-- The image of a transaction that may be committed has a whole number of words.
use Rattle.std.proofs.Common.{◌≡◌, ◌%◌, ◌∙◌, ap, subst}
use Rattle.std.proofs.lemmas.Bool.{eq-eqb}
use Rattle.tdb_txn.specs.Pages.{byte_over, length_filled}
use Rattle.tdb_txn.specs.Txn.{txn_pages, txn_size}
use Rattle.tdb_txn_owner.proofs.inside.may_plan.Goals as goal

pub returns-then-length_at_start-ge-HEADS-clause-always : goal.returns-then-length_at_start-ge-HEADS-clause-always
returns-then-length_at_start-ge-HEADS-clause-always c r same M =
    let txn = c.args.txn.now in
    let words : txn_size txn % 4 ≡ 0 = subst (λ n. n % 4 ≡ 0) (length_filled (byte_over (txn_pages txn) r) (txn_size txn)) M.after.sized in
    eq-eqb (c.length.result % 4) 0 (ap (λ n. n % 4) c.length.ensures ∙ words)
