use Rattle.std.proofs.Common.{◌≡◌, ◌+◌, length, arith, Some}
use Rattle.std.proofs.lemmas.Grind.{common_steps}
use Rattle.tdb_cache.specs.Blocks.{block_at, block_end, block_start}
use Rattle.tdb_disk.specs.History.{seen}
use Rattle.tdb_cache.proofs.Tables.{AllSized-keep, AllShown-keep, AllSized-same, AllShown-same}
use Rattle.tdb_cache.proofs.cached.Cached.fill.Goals as goal

pub invariant_of-self-2 : goal.invariant_of-self-2
invariant_of-self-2 g c =
    let long : block_start c.args.number + length c.read.new.buf ≡ block_end c.args.size c.args.number = grind (arith, common_steps) in
    let kept : block_at c.keep.new.self c.args.number ≡ Some c.read.new.buf = grind (arith, common_steps) in
    let before = c.args.self.now.blocks in
    record {
      sized = rw (c.read.ensures.size, ← c.requires.size)
          (AllSized-keep c.room.new.self c.keep.new.self c.args.number c.args.size c.read.new.buf kept c.keep.ensures.others long
          (AllSized-same before c.room.new.self c.args.size c.room.ensures.same (rw c.requires.size c.args.self.now.sized)));
      shown = λ told. rw c.read.ensures.history
          (AllShown-keep c.room.new.self c.keep.new.self c.args.number (seen (g.D.Disk.history c.args.self.now.inner)) c.read.new.buf
          kept c.keep.ensures.others (grind (arith, common_steps))
          (AllShown-same before c.room.new.self (seen (g.D.Disk.history c.args.self.now.inner)) c.room.ensures.same
          (c.args.self.now.shown told)));
    }
