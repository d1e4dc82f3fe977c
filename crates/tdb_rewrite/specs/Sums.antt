-- How many bytes keys and values have in all.
use Rattle.std.specs.Prelude.{◌≡◌, ℕ, ◌+◌, ◌-◌, ◌^◌, min, List, length, sum_by}
use Rattle.tdb_space.specs.Form.{Form}
use Rattle.tdb_space.specs.Chain.{chain_of}
use Rattle.tdb_space.specs.Pairs.{joined, pairs}
use Rattle.tdb_rewrite.specs.declared.sums.PairBytes.{PairBytes}

-- a number of 64 bits and one more number, added; a sum that doesn't fit is the greatest number of 64 bits
abbrev pub added : ℕ → ℕ → ℕ
added a b = min (a + b) (2 ^ 64 - 1)

-- how many bytes the keys of these pairs have, and how many the values
abbrev pub key_bytes : List (List ℕ × List ℕ) → ℕ
key_bytes given = sum_by (λ p. length p.0) given

abbrev pub value_bytes : List (List ℕ × List ℕ) → ℕ
value_bytes given = sum_by (λ p. length p.1) given

-- the pairs of the first n chains, in order
abbrev pub pairs_below : Form → List ℕ → ℕ → List (List ℕ × List ℕ)
pairs_below f img n = joined n (λ j. pairs f.order img (chain_of f img j))

-- these are the bytes of these pairs, as far as they fit in 64 bits
pub record Sums (given : List (List ℕ × List ℕ)) (sums : PairBytes) : Type 0 where
  pub keys : sums.keys ≡ added 0 (key_bytes given)
  pub values : sums.values ≡ added 0 (value_bytes given)
