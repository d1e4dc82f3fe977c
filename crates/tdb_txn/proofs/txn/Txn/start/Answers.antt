use Rattle.std.proofs.Common.{◌≡◌, ◌∙◌, sym, subst, rules, List}
use Rattle.tdb_disk.specs.History.{seen}
use Rattle.tdb_txn.specs.Pages.{contents}
use Rattle.tdb_txn.specs.declared.page.Page.{Page}
use Rattle.tdb_txn.proofs.Places.{no_pages}
use Rattle.tdb_txn.proofs.txn.Txn.start.Goals as goal

pub returns-clause-image : goal.returns-clause-image
returns-clause-image g c = λ told.
    let file = seen (g.D.Disk.history c.synced_length.new.d) in
    subst (λ (pages : List Page). contents pages file c.in-Ok.size ≡ file) (sym c.new.ensures.none)
    (no_pages file c.in-Ok.size (g.met.D.Disk.told_size c.synced_length.new.d told ∙ search rules))
