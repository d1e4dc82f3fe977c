-- Whether a place lies in so many bytes from an offset on.
use Rattle.std.proofs.Common.{◌≡◌, ℕ, ◌+◌, ◌<◌, ◌≤◌, ◌⊎◌, true, false, inl, inr}
use Rattle.std.specs.Prelude.{nat_lt, nat_le}
use Rattle.std.proofs.lemmas.Bool.{and_parts, and_cases, and_from, and_left, and_right, leb-true, leb-false, ltb-true, ltb-false, le-leb, lt-leb, lt-ltb, le-ltb}
use Rattle.tdb_space.specs.Opening.{lies_in}

pub lies : (from count i : ℕ) → from ≤ i → i < from + count → lies_in from count i ≡ true
lies from count i high low = and_from (nat_le from i) (nat_lt i (from + count)) (le-leb from i high) (lt-ltb i (from + count) low)

pub lies_not : (from count i : ℕ) → (i < from) ⊎ (from + count ≤ i) → lies_in from count i ≡ false
lies_not from count i (inl before) = and_left (nat_le from i) (nat_lt i (from + count)) (lt-leb from i before)
lies_not from count i (inr after) = and_right (nat_le from i) (nat_lt i (from + count)) (le-ltb i (from + count) after)

pub lies_where : (from count i : ℕ) → lies_in from count i ≡ true → (from ≤ i) × (i < from + count)
lies_where from count i h = let p = and_parts (nat_le from i) (nat_lt i (from + count)) h in (leb-true from i p.0, ltb-true i (from + count) p.1)

pub lies_outside : (from count i : ℕ) → lies_in from count i ≡ false → (i < from) ⊎ (from + count ≤ i)
lies_outside from count i h = elim (and_cases (nat_le from i) (nat_lt i (from + count)) h) [
  | inl low ↦ inl (leb-false from i low)
  | inr high ↦ inr (ltb-false i (from + count) high)
]
