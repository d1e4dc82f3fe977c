-- How often chains are held: what a new count of one of them changes.
use Rattle.std.proofs.Common.{◌≡◌, ◌≢◌, ◌≤◌, ◌<◌, ◌+◌, ◌*◌, ◌^◌, ◌∙◌, Bool, List, None, Option, Some, add-zero, ap, arith, false, length, refl, sum, sym, unwrap_or, ℕ}
use Rattle.std.specs.Option.{option_map}
use Rattle.std.specs.Map.{keys_of, lookup, remove_entry, values_of}
use Rattle.std.specs.BTreeMap.{insert_entry, is_at}
use Rattle.std.specs.Ordering.{nat_cmp}
use Rattle.std.specs.List.Sorted.{IsStrictlySortedBy}
use Rattle.std.proofs.lemmas.Bool.Decides.{nat_tests}
use Rattle.std.proofs.lemmas.Cmp.{nat_cmp_total}
use Rattle.std.proofs.lemmas.List.{length-map}
use Rattle.std.proofs.lemmas.List.Elements.{All-weaker}
use Rattle.std.proofs.lemmas.List.Sums.{sum_by-le}
use Rattle.std.proofs.lemmas.Map.Entries.{sum_by-insert_entry, sum_by-remove_entry}
use Rattle.std.proofs.lemmas.Map.Views.{All-keys-insert_entry, All-map-remove_entry, All-values-insert_entry, length-le_from_below}
use Rattle.tdb_locks.specs.HeldLocks.{AreCounts, SetsCount, count_in}

option_map-same : (o : Option ℕ) → unwrap_or (option_map (λ (x : ℕ). x) o) 0 ≡ unwrap_or o 0
option_map-same None = refl
option_map-same (Some n) = refl

pub sum-inserted : (es : List (ℕ × ℕ)) (chain count : ℕ) → AreCounts es → sum (values_of (insert_entry nat_cmp es chain count)) + count_in es chain ≡ sum (values_of es) + count
sum-inserted es chain count counts =
    rw (← option_map-same (lookup (is_at (nat_cmp chain)) es)) (sum_by-insert_entry (λ (x : ℕ). x) nat_cmp_total es chain count counts.in_order)

pub sum-removed : (es : List (ℕ × ℕ)) (chain : ℕ) → sum (values_of (remove_entry (is_at (nat_cmp chain)) es)) + count_in es chain ≡ sum (values_of es)
sum-removed es chain =
    rw (← option_map-same (lookup (is_at (nat_cmp chain)) es)) (sum_by-remove_entry (λ (x : ℕ). x) (is_at (nat_cmp chain)) es)

-- so many chains there are, and so high a count goes
pub sum-bound : (es : List (ℕ × ℕ)) → AreCounts es → sum (values_of es) ≤ 18446744069414584320
sum-bound es counts =
    let few : length (keys_of es) ≤ 4294967296 = length-le_from_below 4294967296 (keys_of es) counts.in_order counts.keys in
    let low : sum (values_of es) ≤ length (values_of es) * 4294967295 = sum_by-le (λ (x : ℕ). x) 4294967295 (values_of es) (All-weaker (λ n. n < 2 ^ 32) (λ n. n ≤ 4294967295) (λ n less. omega arith) (values_of es) counts.counts) in
    omega (arith, few, low, length-map es (λ (e : ℕ × ℕ). e.0), length-map es (λ (e : ℕ × ℕ). e.1))

other-chain : (chain other : ℕ) → other ≢ chain → is_at (nat_cmp chain) other ≡ false
other-chain chain other differs = grind (arith, nat_tests)

-- what a call on the map says of each chain and of the sum
module _ (es ns : List (ℕ × ℕ)) (chain : ℕ) (stay : (q : ℕ) → is_at (nat_cmp chain) q ≡ false → lookup (is_at (nat_cmp q)) ns ≡ lookup (is_at (nat_cmp q)) es) where
  pub SetsCount-inserted : (count : ℕ) → AreCounts es → ns ≡ insert_entry nat_cmp es chain count → lookup (is_at (nat_cmp chain)) ns ≡ Some count → SetsCount es ns chain count
  SetsCount-inserted count counts is at = record {
    now = ap (λ o. unwrap_or o 0) at;
    sum = rw is (sum-inserted es chain count counts);
    others = λ other differs. ap (λ o. unwrap_or o 0) (stay other (other-chain chain other differs));
  }

  pub SetsCount-removed : (count : ℕ) → count ≡ 0 → ns ≡ remove_entry (is_at (nat_cmp chain)) es → lookup (is_at (nat_cmp chain)) ns ≡ None → SetsCount es ns chain count
  SetsCount-removed count none is at = record {
    now = ap (λ o. unwrap_or o 0) at ∙ sym none;
    sum = rw (is, none) (sum-removed es chain ∙ sym (add-zero (sum (values_of es))));
    others = λ other differs. ap (λ o. unwrap_or o 0) (stay other (other-chain chain other differs));
  }

pub AreCounts-inserted : (es ns : List (ℕ × ℕ)) (chain count : ℕ) → chain < 2 ^ 32 → count < 2 ^ 32 → AreCounts es → ns ≡ insert_entry nat_cmp es chain count → IsStrictlySortedBy nat_cmp (keys_of ns) → AreCounts ns
AreCounts-inserted es ns chain count chain_fits count_fits counts is in_order = record {
  in_order = in_order;
  keys = rw is (All-keys-insert_entry nat_cmp chain count (λ n. n < 2 ^ 32) es counts.keys chain_fits);
  counts = rw is (All-values-insert_entry nat_cmp chain count (λ n. n < 2 ^ 32) es counts.counts count_fits);
}

pub AreCounts-removed : (es ns : List (ℕ × ℕ)) (test : ℕ → Bool) → AreCounts es → ns ≡ remove_entry test es → IsStrictlySortedBy nat_cmp (keys_of ns) → AreCounts ns
AreCounts-removed es ns test counts is in_order = record {
  in_order = in_order;
  keys = rw is (All-map-remove_entry test (λ (e : ℕ × ℕ). e.0) (λ n. n < 2 ^ 32) es counts.keys);
  counts = rw is (All-map-remove_entry test (λ (e : ℕ × ℕ). e.1) (λ n. n < 2 ^ 32) es counts.counts);
}
