-- What it wants is what the law says.
use Rattle.std.proofs.Common.{sym, ◌∙◌, ap}
use Rattle.tdb_txn_owner.specs.Holders.{HolderState}
use Rattle.tdb_txn_owner.specs.Wanting.{stage_wants, wanted_by}
use Rattle.tdb_txn_owner.proofs.Wanted.{wanted_law}
use Rattle.tdb_txn_owner.proofs.txn_owner.TxnOwner.wants.Goals as goal

pub returns-clause-law : goal.returns-clause-law
returns-clause-law c f o k past s t S has b =
    let h = c.args.self.now in
    wanted_law f o h.owner h.locks h.stage k past s t S has b ∙ ap (λ (v : HolderState). wanted_by (stage_wants v.stage) b) (sym c.self.view_is) ∙ ap (λ w. wanted_by w b) (sym c.wants.ensures)
