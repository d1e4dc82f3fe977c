use Rattle.std.proofs.Common.{◌≡◌, ◌<◌, ℕ, length}
use Rattle.tdb_cache.specs.Blocks.{block_at}
use Rattle.tdb_cache.proofs.blocks.Blocks.forget_from.Given as goal

abbrev pub invariant-loop-self : goal.invariant-loop-self
invariant-loop-self l = (other : ℕ) → other < l.number → block_at l.self other ≡ block_at l.initial.self other

abbrev pub decreases-loop-self : goal.decreases-loop-self
decreases-loop-self l = length l.self.places.items
