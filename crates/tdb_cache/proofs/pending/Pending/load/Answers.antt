use Rattle.std.proofs.Common.{◌≡◌, ◌∙◌, ◌+◌, length, sym, arith, Some}
use Rattle.std.proofs.lemmas.Grind.{common_steps}
use Rattle.tdb_disk.specs.History.{seen}
use Rattle.tdb_cache.specs.Blocks.{block_at, block_end, block_start}
use Rattle.tdb_cache.specs.Laid.{laid}
use Rattle.tdb_cache.proofs.Laids.{laid-keep, laid-same}
use Rattle.tdb_cache.proofs.Tables.{AllSized-keep, AllSized-same}
use Rattle.tdb_cache.proofs.pending.Pending.load.Goals as goal

pub returns-clause-sized : goal.returns-clause-sized
returns-clause-sized g c =
    let before = c.args.self.now.blocks in
    let size = g.D.Disk.size c.args.d.now in
    let kept : block_at c.keep.new.self c.args.number ≡ Some c.read.new.buf = grind (arith, common_steps) in
    let long : block_start c.args.number + length c.read.new.buf ≡ block_end size c.args.number = grind (arith, common_steps) in
    rw (c.read.ensures.size, c.len.ensures.size)
    (AllSized-keep c.room.new.self c.keep.new.self c.args.number size c.read.new.buf kept c.keep.ensures.others long
    (AllSized-same before c.room.new.self size c.room.ensures.same c.requires.sized))

pub returns-clause-view : goal.returns-clause-view
returns-clause-view g c = λ told.
    let before = c.args.self.now.blocks in
    let image = seen (g.D.Disk.history c.args.d.now) in
    let size : length image ≡ g.D.Disk.size c.args.d.now = g.met.D.Disk.told_size c.args.d.now told in
    let kept : block_at c.keep.new.self c.args.number ≡ Some c.read.new.buf = grind (arith, common_steps) in
    let none = c.room.ensures.same c.args.number ∙ c.requires.new in
    let long : block_start c.args.number + length c.read.new.buf ≡ block_end (length image) c.args.number =
    rw size (grind (arith, common_steps)) in
    rw (c.read.ensures.history, c.len.ensures.history)
    (laid-keep c.room.new.self c.keep.new.self c.args.number image c.read.new.buf none kept c.keep.ensures.others long
    (grind (arith, common_steps, c.in_ok-read.ensures.bytes told, c.len.ensures.history))
    ∙ laid-same before c.room.new.self image c.room.ensures.same)
