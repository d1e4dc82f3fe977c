use Rattle.std.proofs.Common.{◌/◌, arith}
use Rattle.tdb_disk.specs.History.{called, cut, seen}
use Rattle.tdb_cache.specs.Blocks.{block_size}
use Rattle.tdb_cache.proofs.Tables.{AllSized-front, AllShown-cut, AllSized-settle, AllShown-settle}
use Rattle.tdb_cache.proofs.cached.CachedDisk.cut.Goals as goal

pub invariant_of-self : goal.invariant_of-self
invariant_of-self g c =
    let before = c.args.self.now.blocks in
    let forgot = c.forget_from.new.self in
    let first = c.args.to / block_size in
    let history = g.D.Disk.history c.args.self.now.inner in
    record {
      sized = AllSized-settle c.cut.result forgot c.settle.new.self (g.D.Disk.size c.cut.new.self) c.args.to c.settle.ensures.failed
          c.settle.ensures.done c.cut.ensures.shortened
          (AllSized-front before forgot first (g.D.Disk.size c.args.self.now.inner) c.args.to c.forget_from.ensures
          (omega (arith, c.requires)) (omega arith) c.args.self.now.sized);
      shown = λ told.
          let size = g.met.D.Disk.told_size c.args.self.now.inner told in
          AllShown-settle c.cut.result forgot c.settle.new.self g.D.Disk.tells (called history (cut c.args.to))
          (g.D.Disk.history c.cut.new.self) c.settle.ensures.failed c.settle.ensures.done c.cut.ensures.done told
          (AllShown-cut before forgot first c.args.to (seen history) c.forget_from.ensures (omega arith)
          (omega (arith, size, c.requires)) (rw size c.args.self.now.sized) (c.args.self.now.shown told));
    }
