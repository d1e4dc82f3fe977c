use Rattle.std.proofs.Common.{◌≡◌, ◌+◌, ◌-◌, ℕ, None, get_or, is_some, count_by, length}
use Rattle.tdb_cache.proofs.blocks.reach.Given as goal

abbrev pub invariant-loop-places : goal.invariant-loop-places
invariant-loop-places l = record {
  same : (other : ℕ) → get_or l.places.items other None ≡ get_or l.initial.places.items other None;
  count : count_by is_some l.places.items ≡ count_by is_some l.initial.places.items;
}

abbrev pub decreases-loop-places : goal.decreases-loop-places
decreases-loop-places l = l.number + 1 - length l.places.items
