use Rattle.std.proofs.Common.{◌≡◌, ◌∙◌, ◌+◌, ◌≤◌, ◌<◌, ◌^◌, Some, List, ℕ, length, subst, sym, arith}
use Rattle.std.specs.Prelude.{IsTrue, OnOk}
use Rattle.std.proofs.lemmas.Grind.{common_steps}
use Rattle.tdb_disk.specs.History.{called, seen, wrote, TriedOver}
use Rattle.tdb_cache.specs.Blocks.{block_at, block_end, block_start}
use Rattle.tdb_cache.proofs.Laids.{laid-kept_tried, shown_done}
use Rattle.tdb_cache.proofs.blocks.Blocks.write_out.Goals as goal

pub returns-in-Some-Some-clause-view : goal.returns-in-Some-Some-clause-view
returns-in-Some-Some-clause-view g c = λ told.
    let block = c.in-Some-Some.block in
    let here : block_at c.args.self.now c.args.number ≡ Some block.items = grind (arith, common_steps) in
    let long : block_start c.args.number + length block.items ≡ block_end (g.D.Disk.size c.args.d.now) c.args.number =
    c.requires c.args.number block.items here in
    let tried : TriedOver (block_start c.args.number) (length block.items) (g.D.Disk.history c.len.new.self)
    (g.D.Disk.history c.write.new.self) = rw (← c.deref-in-Some-Some.ensures.value) c.write.ensures.tried in
    rw (← c.len.ensures.history)
    (laid-kept_tried c.args.self.now c.args.number (g.D.Disk.history c.len.new.self) (g.D.Disk.history c.write.new.self) block.items here
    (omega (arith, long)) tried)

pub overflow_mul-number : goal.overflow_mul-number
overflow_mul-number g c =
    let block = c.in-Some-Some.block in
    let here : block_at c.args.self.now c.args.number ≡ Some block.items = grind (arith, common_steps) in
    let long : block_start c.args.number + length block.items ≡ block_end (g.D.Disk.size c.args.d.now) c.args.number =
    c.requires c.args.number block.items here in
    omega (arith, long, c.in_ok-_size.ensures.length)

pub write-requires : goal.write-requires
write-requires g c =
    let block = c.in-Some-Some.block in
    let here : block_at c.args.self.now c.args.number ≡ Some block.items = grind (arith, common_steps) in
    let long : block_start c.args.number + length block.items ≡ block_end (g.D.Disk.size c.args.d.now) c.args.number =
    c.requires c.args.number block.items here in
    rw (c.deref-in-Some-Some.ensures.value, c.len.ensures.size) (omega (arith, long))

pub returns-in-Some-Some-clause-shown : goal.returns-in-Some-Some-clause-shown
returns-in-Some-Some-clause-shown g c =
    let block = c.in-Some-Some.block in
    let old = g.D.Disk.history c.len.new.self in
    let new = g.D.Disk.history c.write.new.self in
    let here : block_at c.args.self.now c.args.number ≡ Some block.items = grind (arith, common_steps) in
    let long : block_start c.args.number + length block.items ≡ block_end (g.D.Disk.size c.args.d.now) c.args.number =
    c.requires c.args.number block.items here in
    let done : OnOk c.write.result (IsTrue g.D.Disk.tells → new ≡ called old (wrote (block_start c.args.number) block.items)) =
    rw (← c.deref-in-Some-Some.ensures.value) c.write.ensures.done in
    shown_done c.write.result c.args.self.now c.args.number old new block.items g.D.Disk.tells here
    (λ told. omega (arith, long, g.met.D.Disk.told_size c.len.new.self told, c.len.ensures.size)) done
