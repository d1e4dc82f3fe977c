-- The gate is left as the law says.
use Rattle.std.proofs.Common.{sym, ◌∙◌, ap}
use Rattle.tdb_txn_owner.specs.Holders.{stage_gate, HolderState}
use Rattle.tdb_txn_owner.proofs.Gates.{gate_law}
use Rattle.tdb_txn_owner.proofs.txn_owner.TxnOwner.leaves_gate.Goals as goal

pub returns-clause-law : goal.returns-clause-law
returns-clause-law c f o k past s S =
    let h = c.args.self.now in
    gate_law f o h.owner h.locks h.stage k past s S ∙ ap (λ (v : HolderState). stage_gate v.stage) (sym c.self.view_is) ∙ sym c.leaves_gate.ensures
