use Rattle.std.proofs.Common.{◌/◌, ◌%◌, arith}
use Rattle.tdb_disk.specs.History.{seen}
use Rattle.tdb_txn.specs.Pages.{page_size}
use Rattle.tdb_txn.specs.Stock.{page_list}
use Rattle.tdb_txn.specs.Txn.{txn_image}
use Rattle.tdb_txn.proofs.Places.{put_at, zeros_put}
use Rattle.tdb_txn.proofs.txn.Txn.write_word.Goals as goal

pub invariant_of-self-2 : goal.invariant_of-self-2
invariant_of-self-2 g c = record {
  longer = c.load.new.self.longer;
  zeros = zeros_put (page_list c.load.new.self.pages) (page_list c.patch.new.self) (c.args.off / page_size) (c.args.off % page_size) c.args.w
      c.load.new.self.size c.patch.ensures.put c.in_ok-load.ensures.there
      (omega (arith, c.requires.inside, c.load.ensures.only.size)) c.load.new.self.zeros;
  stocked = omega (arith, c.load.new.self.stocked, c.patch.ensures.left);
}

pub returns-clause-image : goal.returns-clause-image
returns-clause-image g c = λ told.
    put_at (page_list c.load.new.self.pages) (page_list c.patch.new.self) (c.args.off / page_size) (c.args.off % page_size) c.args.off c.args.w
    (seen (g.D.Disk.history c.args.d.now)) (txn_image c.args.self.now (seen (g.D.Disk.history c.args.d.now))) c.load.new.self.size
    c.patch.ensures.put c.in_ok-load.ensures.there (omega arith) (omega arith)
    (omega (arith, c.requires.inside, c.load.ensures.only.size)) (c.load.ensures.image told)
