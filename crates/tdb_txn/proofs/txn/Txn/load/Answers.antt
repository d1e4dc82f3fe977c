use Rattle.std.proofs.Common.{arith}
use Rattle.std.proofs.lemmas.Grind.{common_steps}
use Rattle.tdb_disk.specs.History.{seen}
use Rattle.tdb_txn.specs.Stock.{page_list}
use Rattle.tdb_txn.proofs.Places.{loaded_file}
use Rattle.tdb_txn.proofs.txn.Txn.load.Goals as goal

pub returns-clause-image : goal.returns-clause-image
returns-clause-image g c = λ told.
    loaded_file (page_list c.args.self.now.pages) (page_list c.from_stock-page.new.self) (page_list c.add.new.self) c.args.number _ c.read_file.new.buf
    (seen (g.D.Disk.history c.args.d.now)) c.args.self.now.size c.from_stock-page.ensures.list c.add.ensures.added
    (grind (arith, common_steps)) (λ k low. c.in_ok-read_file.ensures.bytes told k (grind (arith, common_steps)))
