use Rattle.std.proofs.Common.{◌≡◌, ◌/◌, arith}
use Rattle.tdb_disk.specs.History.{called, grew, seen}
use Rattle.tdb_cache.specs.Blocks.{block_size}
use Rattle.tdb_cache.proofs.Tables.{AllSized-front, AllShown-grow, AllSized-settle, AllShown-settle}
use Rattle.tdb_cache.proofs.cached.CachedDisk.grow.Goals as goal

pub invariant_of-self-2 : goal.invariant_of-self-2
invariant_of-self-2 g c =
    let before = c.args.self.now.blocks in
    let forgot = c.forget_from.new.self in
    let from : c.in_ok-from.from ≡ g.D.Disk.size c.args.self.now.inner = c.in_ok-from.ensures.length in
    let first = c.in_ok-from.from / block_size in
    let history = g.D.Disk.history c.args.self.now.inner in
    record {
      sized = AllSized-settle c.grow.result forgot c.settle.new.self (g.D.Disk.size c.grow.new.self) c.args.to
          c.settle.ensures.failed c.settle.ensures.done c.grow.ensures.grown
          (AllSized-front before forgot first (g.D.Disk.size c.args.self.now.inner) c.args.to c.forget_from.ensures
          (omega (arith, from)) (omega (arith, from, c.requires)) c.args.self.now.sized);
      shown = λ told.
          let size = g.met.D.Disk.told_size c.args.self.now.inner told in
          AllShown-settle c.grow.result forgot c.settle.new.self g.D.Disk.tells (called history (grew c.args.to))
          (g.D.Disk.history c.grow.new.self) c.settle.ensures.failed c.settle.ensures.done (rw (← c.len.ensures.history) c.grow.ensures.done) told
          (AllShown-grow before forgot first c.args.to (seen history) c.forget_from.ensures (omega (arith, from, size))
          (rw size c.args.self.now.sized) (c.args.self.now.shown told));
    }
