-- Bytes that are neither 0 nor padding, piece by piece.
use Rattle.std.proofs.Common.{◌≡◌, ℕ, ◌+◌, ◌-◌, ◌<◌, ◌≤◌, Bool, false, cond, List, length, take, drop, get_or, Option, Some, None, sym, ◌∙◌, ap, inl, inr, arith}
use Rattle.std.specs.Prelude.{slice_index, position}
use Rattle.std.specs.List.{position_or_len}
use Rattle.std.proofs.lemmas.Bool.{cases_lt, lt-ltb}
use Rattle.std.proofs.lemmas.Grind.{common_steps}
use Rattle.std.proofs.lemmas.List.Sums.{fails_before_first}
use Rattle.std.proofs.lemmas.List.Quantifiers.{position-Some}
use Rattle.tdb_check.specs.Stray.{is_content, NoContent, FirstContent}

-- a byte of a piece that was read from an offset on
byte_read : (img piece : List ℕ) (at count i : ℕ) → piece ≡ take count (drop at img) → i < count → slice_index piece i ≡ slice_index img (at + i)
byte_read img piece at count i read low = ap (λ p. slice_index p i) read ∙ at_place img at count i low
  where
    at_place : (img : List ℕ) (at count i : ℕ) → i < count → get_or (take count (drop at img)) i 0 ≡ get_or img (at + i) 0
    at_place img at count i low = grind (arith, common_steps)

-- a test that a position answers nothing for passes nowhere
position-None : (p : ℕ → Bool) (xs : List ℕ) (k : ℕ) → position p xs ≡ None → k < length xs → p (slice_index xs k) ≡ false
position-None p xs k none low = elim (cases_lt (position_or_len p xs) (length xs)) [
  | inl within ↦
      let at : ◌≡◌ {A = Option ℕ} (Some (position_or_len p xs)) None = sym (ap (λ b. cond b (Some (position_or_len p xs)) None) (lt-ltb _ _ within)) ∙ none in
      absurd (cc)
  | inr past ↦ fails_before_first p xs k 0 (omega (arith, past, low))
]

pub no_content_none : (img : List ℕ) (from : ℕ) → NoContent img from from
no_content_none img from i high low = absurd (omega (arith, high, low))

-- a piece without content
pub no_content_more : (img piece : List ℕ) (from at count : ℕ) → NoContent img from at → piece ≡ take count (drop at img) → length piece ≡ count → position is_content piece ≡ None → NoContent img from (at + count)
no_content_more img piece from at count so_far read long none i high low = elim (cases_lt i at) [
  | inl under ↦ so_far i high under
  | inr over ↦
      let back : at + (i - at) ≡ i = omega (arith, over) in
      let here : i - at < count = omega (arith, over, low) in
      ap is_content (sym (byte_read img piece at count (i - at) read here ∙ ap (slice_index img) back)) ∙ position-None is_content piece (i - at) none (omega (arith, long, here))
]

-- a piece with content
pub content_found : (img piece : List ℕ) (from at count to place : ℕ) → NoContent img from at → piece ≡ take count (drop at img) → length piece ≡ count → position is_content piece ≡ Some place → from ≤ at → at + count ≤ to → FirstContent img from to (at + place)
content_found img piece from at count to place so_far read long some high within =
    let f = position-Some is_content piece place 0 some in
    let low : place < count = omega (arith, long, f.0) in
    record {
      high = omega (arith, high);
      low = omega (arith, low, within);
      here = ap is_content (sym (byte_read img piece at count place read low)) ∙ f.1;
      before = λ i over under. elim (cases_lt i at) [
        | inl before ↦ so_far i over before
        | inr behind ↦
            let back : at + (i - at) ≡ i = omega (arith, behind) in
            let here : i - at < count = omega (arith, behind, under, low) in
            ap is_content (sym (byte_read img piece at count (i - at) read here ∙ ap (slice_index img) back)) ∙ f.2 (i - at) (omega (arith, behind, under))
      ];
    }

-- content that was found in a range of which no more was looked at
pub no_content_end : (img : List ℕ) (from at to : ℕ) → NoContent img from at → to ≤ at → NoContent img from to
no_content_end img from at to h over i high low = h i high (omega (arith, low, over))
