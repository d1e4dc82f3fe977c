-- So it holds all records.
use Rattle.std.proofs.Common.{sym, ◌∙◌, ap}
use Rattle.tdb_txn_owner.specs.Holders.{HolderState}
use Rattle.tdb_txn_owner.specs.Wanting.{records_at}
use Rattle.tdb_txn_owner.specs.Stages.{stage_records}
use Rattle.tdb_txn_owner.proofs.RecordsHeld.{records_law}
use Rattle.tdb_txn_owner.proofs.txn_owner.TxnOwner.records.Goals as goal

pub returns-clause-law : goal.returns-clause-law
returns-clause-law c f o k past s S b beyond =
    let h = c.args.self.now in
    records_law f o h.owner h.locks h.stage k past s S b beyond ∙ ap (λ (v : HolderState). records_at (stage_records v.stage) b) (sym c.self.view_is) ∙ ap (λ r. records_at r b) (sym c.records.ensures)
