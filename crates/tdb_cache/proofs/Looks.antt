-- Looks at a disk with a cache, one after another.
use Rattle.std.proofs.Common.{ℕ, ◌≤◌, ◌∙◌, inl, inr, arith}
use Rattle.tdb_disk.specs.declared.disk.Disk.{Ghosts}
use Rattle.tdb_cache.specs.Blocks.{kept_count, starved_count, Refused}
use Rattle.tdb_cache.specs.Cached.{Looked}
use Rattle.tdb_cache.specs.declared.blocks.Blocks.{Blocks}
use Rattle.tdb_cache.specs.declared.cached.Cached.{Cached}

-- two looks are one
pub Looked-join : {D : Type 0} {g : Ghosts D} (first second third : Cached D g) → Looked first second → Looked second third
    → Looked first third
Looked-join first second third one two = record {
  size = two.size ∙ one.size;
  history = two.history ∙ one.history;
  syncs = two.syncs ∙ one.syncs;
  kept = λ number there. two.kept number (one.kept number there);
  count = omega (arith, one.count, two.count);
  starved = omega (arith, one.starved, two.starved);
}

-- a block that wasn't kept for want of memory or room wasn't either if more is kept and more was wanting by now
pub Refused-later : (first second third : Blocks) (number : ℕ) → kept_count second ≤ kept_count third
    → starved_count second ≤ starved_count third → Refused first second number → Refused first third number
Refused-later first second third number more starved was = elim was [
  | inl most ↦ inl (omega (arith, most, more))
  | inr (inl past) ↦ inr (inl past)
  | inr (inr rose) ↦ inr (inr (omega (arith, rose, starved)))
]

-- the same from an earlier moment on
pub Refused-since : (first second third : Blocks) (number : ℕ) → starved_count first ≤ starved_count second
    → Refused second third number → Refused first third number
Refused-since first second third number starved was = elim was [
  | inl most ↦ inl most
  | inr (inl past) ↦ inr (inl past)
  | inr (inr rose) ↦ inr (inr (omega (arith, rose, starved)))
]
