use Rattle.std.proofs.Common.{◌≡◌, ◌∙◌, ◌-◌, List, ℕ, Some, None, length, take, drop, inl, inr, arith}
use Rattle.std.proofs.lemmas.Grind.{common_steps}
use Rattle.tdb_disk.specs.History.{seen}
use Rattle.tdb_cache.specs.Blocks.{block_at, block_start}
use Rattle.tdb_cache.proofs.Laids.{laid-forget, none_or_some, AllSized-fewer}
use Rattle.tdb_cache.proofs.blocks.Blocks.flush_last.Goals as goal

pub returns-clause-view : goal.returns-clause-view
returns-clause-view g c = λ told.
    let old = c.args.self.now in
    let now = g.D.Disk.history c.write_out.new.d in
    let last : c.len.result ≡ length old.places.items = grind (arith, common_steps) in
    let shown : (block : List ℕ) → block_at old (length old.places.items - 1) ≡ Some block
    → block ≡ take (length block) (drop (block_start (length old.places.items - 1)) (seen now)) =
    rw (← last) (c.in_ok-write_out.ensures.shown told) in
    let size : length (seen now) ≡ g.D.Disk.size c.write_out.new.d = g.met.D.Disk.told_size c.write_out.new.d told in
    laid-forget old c.forget_last.new.self (length old.places.items - 1) (seen now) c.forget_last.ensures.front
    (grind (arith, common_steps)) (rw (size, c.write_out.ensures.size) c.requires.sized) shown
    ∙ c.write_out.ensures.view told

pub returns-clause-sized : goal.returns-clause-sized
returns-clause-sized g c =
    rw (c.write_out.ensures.size)
    (AllSized-fewer c.args.self.now c.forget_last.new.self (length c.args.self.now.places.items - 1) (g.D.Disk.size c.args.d.now)
    c.forget_last.ensures.front c.requires.sized)

pub returns-clause-calls : goal.returns-clause-calls
returns-clause-calls g c =
    let old = c.args.self.now in
    let last : c.len.result ≡ length old.places.items = grind (arith, common_steps) in
    let unkept : block_at old (length old.places.items - 1) ≡ None → g.D.Disk.history c.write_out.new.d ≡ g.D.Disk.history c.args.d.now =
    rw (← last) c.write_out.ensures.unkept in
    elim (none_or_some (block_at old (length old.places.items - 1))) [
      | inl none ↦ rw (unkept none) (omega (arith, c.forget_last.ensures.fewer))
      | inr (block, is) ↦
          let gone = c.forget_last.ensures.gone (grind (arith, is)) in omega (arith, gone, c.write_out.ensures.calls)
    ]
