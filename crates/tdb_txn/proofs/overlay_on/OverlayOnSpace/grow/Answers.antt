use Rattle.std.proofs.Common.{arith}
use Rattle.tdb_disk.specs.History.{seen}
use Rattle.tdb_txn.specs.Stock.{page_list}
use Rattle.tdb_txn.proofs.Places.{grown_to}
use Rattle.tdb_txn.proofs.overlay_on.OverlayOnSpace.grow.Goals as goal

pub returns-clause-image : goal.returns-clause-image
returns-clause-image g c = λ told.
    let view = c.args.self.now in
    grown_to (page_list view.txn.now.pages) (page_list c.grow.new.self.pages) (seen (g.D.Disk.history view.disk.now)) view.txn.now.size
    c.grow.new.self.size c.args.to c.grow.ensures.pages c.grow.ensures.size
    (omega (arith, g.met.D.Disk.told_size view.disk.now told, view.sized, view.txn.now.longer)) c.requires.longer view.txn.now.zeros
