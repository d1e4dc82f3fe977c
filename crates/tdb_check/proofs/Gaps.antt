-- The bytes that lie between extents in the order of their offsets.
use Rattle.std.proofs.Common.{◌≡◌, ℕ, zero, suc, ◌+◌, ◌-◌, ◌<◌, ◌≤◌, min, max, Bool, true, false, [], ◌∷◌, ◌++◌, ◌&&◌, not, List, length, take, drop, get_or, count_by, cond, add-one, length-drop, refl, sym, ◌∙◌, ap, subst, inl, inr, arith}
use Rattle.std.specs.Prelude.{◌==◌, nat_lt, slice_index}
use Rattle.std.specs.List.{range_with_len}
use Rattle.std.specs.List.Sorted.{IsNonDecreasingBy}
use Rattle.std.proofs.lemmas.Bool.{cases_lt, cases_eq, eq-eqb, ne_eqb}
use Rattle.std.proofs.lemmas.Bool.Decides.{nat_tests}
use Rattle.std.proofs.lemmas.List.{map-append, take-append-drop, get_or-drop, get_or_default}
use Rattle.std.proofs.lemmas.List.Sums.{sum_by-append, sum_by-cons}
use Rattle.std.proofs.Math.Seq.{drop-cons, take-length}
use Rattle.tdb_words.specs.declared.record.TheConstants.{PADDING}
use Rattle.tdb_space.specs.Extents.{Extent as Held, times, once}
use Rattle.tdb_space.proofs.Extents.Counts.{once_in, once_out, times-append}
use Rattle.tdb_check.specs.declared.extent.Extent.{Extent}
use Rattle.tdb_check.specs.Extent.{extent_seen, extents_seen, off_of}
use Rattle.tdb_check.specs.Stray.{is_content, NoContent, FirstContent, NoStrayAmong, FirstStrayAmong, held_by_none}
use Rattle.tdb_check.proofs.Swept.{seen_more, behind}

-- the test of a stray byte, with plain numbers
stray_to : (low high held byte i : ℕ) → low ≤ i → i < high → held ≡ 0 → is_content byte ≡ true → (not (nat_lt i low) && nat_lt i high && (held == 0) && not (byte == 0) && not (byte == PADDING)) ≡ true
stray_to low high held byte i a b c d = grind (arith, nat_tests)

not_stray_to : (low high held byte i : ℕ) → (low ≤ i → i < high → held ≡ 0 → is_content byte ≡ false) → (not (nat_lt i low) && nat_lt i high && (held == 0) && not (byte == 0) && not (byte == PADDING)) ≡ false
not_stray_to low high held byte i h = elim (cases_lt i low) [
  | inl before ↦ grind (arith, nat_tests)
  | inr a ↦ elim (cases_lt i high) [
    | inr past ↦ grind (arith, nat_tests)
    | inl b ↦ elim (cases_eq held 0) [
      | inr some ↦ grind (arith, nat_tests)
      | inl c ↦ blank (h a b c)
    ]
  ]
]
  where
    blank : is_content byte ≡ false → (not (nat_lt i low) && nat_lt i high && (held == 0) && not (byte == 0) && not (byte == PADDING)) ≡ false
    blank e = grind (arith, nat_tests)

-- a range in two parts, and the count over each
range_parts : (a m n : ℕ) → range_with_len a (m + n) ≡ range_with_len a m ++ range_with_len (a + m) n
range_parts a zero n = (λ j. range_with_len (start j) (count j))
  where
    start : a ≡ a + 0
    start = omega arith

    count : 0 + n ≡ n
    count = omega arith
range_parts a (suc m) n =
    let more : suc m + n ≡ suc (m + n) = omega arith in
    let on : a + 1 + m ≡ a + suc m = omega arith in
    ap (range_with_len a) more ∙ ap (λ xs. a ∷ xs) (range_parts (a + 1) m n ∙ ap (λ k. range_with_len (a + 1) m ++ range_with_len k n) on)

count_all : (p : ℕ → Bool) (a n : ℕ) → ((i : ℕ) → a ≤ i → i < a + n → p i ≡ true) → count_by p (range_with_len a n) ≡ n
count_all p a zero h = refl
count_all p a (suc n) h =
    let here : p a ≡ true = h a (omega arith) (omega arith) in
    let one : ◌≡◌ {A = ℕ} (cond (p a) 1 0) 1 = ap (λ b. cond b 1 0) here in
    let rest = count_all p (a + 1) n (λ i high low. h i (omega (arith, high)) (omega (arith, low))) in
    omega (arith, sum_by-cons (λ i. cond (p i) 1 0) a (range_with_len (a + 1) n), one, rest)

pub count_no : (p : ℕ → Bool) (a n : ℕ) → ((i : ℕ) → a ≤ i → i < a + n → p i ≡ false) → count_by p (range_with_len a n) ≡ 0
count_no p a zero h = refl
count_no p a (suc n) h =
    let here : p a ≡ false = h a (omega arith) (omega arith) in
    let none : ◌≡◌ {A = ℕ} (cond (p a) 1 0) 0 = ap (λ b. cond b 1 0) here in
    let rest = count_no p (a + 1) n (λ i high low. h i (omega (arith, high)) (omega (arith, low))) in
    omega (arith, sum_by-cons (λ i. cond (p i) 1 0) a (range_with_len (a + 1) n), none, rest)

count_parts : (p : ℕ → Bool) (start from to : ℕ) → start ≤ from → from ≤ to → count_by p (range_with_len start (to - start)) ≡ count_by p (range_with_len start (from - start)) + count_by p (range_with_len from (to - from))
count_parts p start from to low high =
    let long : to - start ≡ (from - start) + (to - from) = omega (arith, low, high) in
    let there : start + (from - start) ≡ from = omega (arith, low) in
    ap (λ n. count_by p (range_with_len start n)) long ∙ ap (count_by p) (range_parts start (from - start) (to - from))
    ∙ sum_by-append (λ i. cond (p i) 1 0) (range_with_len start (from - start)) (range_with_len (start + (from - start)) (to - from))
    ∙ ap (λ k. count_by p (range_with_len start (from - start)) + count_by p (range_with_len k (to - from))) there

-- The bytes below an offset were looked at, and the first i extents gone through: what none holds there is counted, and
-- is 0 or padding, and these extents hold nothing further on.
pub record Scanned (xs : List Extent) (img : List ℕ) (start i from dead : ℕ) : Type 0 where
  pub clean : (j : ℕ) → start ≤ j → j < from → times (extents_seen xs) j ≡ 0 → is_content (slice_index img j) ≡ false
  pub ahead : (j : ℕ) → from ≤ j → j < length img → times (extents_seen (take i xs)) j ≡ 0
  pub count : dead ≡ count_by (λ j. times (extents_seen xs) j == 0) (range_with_len start (from - start))

pub scanned_none : (xs : List Extent) (img : List ℕ) (start : ℕ) → Scanned xs img start 0 start 0
scanned_none xs img start = record {
  clean = λ j high low. absurd (omega (arith, high, low));
  ahead = λ j high low. refl;
  count = let none : start - start ≡ 0 = omega arith in ap (λ n. count_by (λ j. times (extents_seen xs) j == 0) (range_with_len start n)) (sym none);
}

-- the extents before one, it, and those behind it
parted : (xs : List Extent) (i : ℕ) (d : Extent) (j : ℕ) → i < length xs → times (extents_seen xs) j ≡ times (extents_seen (take i xs)) j + (once (extent_seen (get_or xs i d)) j + times (extents_seen (drop (i + 1) xs)) j)
parted xs i d j low =
    ap (λ es. times (extents_seen es) j) (sym (take-append-drop i xs)) ∙ ap (λ es. times es j) (map-append extent_seen (take i xs) (drop i xs)) ∙ times-append (extents_seen (take i xs)) (extents_seen (drop i xs)) j
    ∙ ap (λ es. times (extents_seen (take i xs)) j + times (extents_seen es) j) (drop-cons xs i d low ∙ ap (λ n. get_or xs i d ∷ drop n xs) (sym (add-one i)))

-- the extents from one on hold nothing before it begins
later : (xs : List Extent) (i : ℕ) (d : Extent) (j : ℕ) → IsNonDecreasingBy off_of xs → i < length xs → j < off_of (get_or xs i d) → times (extents_seen (drop (i + 1) xs)) j ≡ 0
later xs i d j up low under =
    behind (drop (i + 1) xs) j
    (λ k q within.
    (let there : i + 1 + k < length xs = omega (arith, within, length-drop (i + 1) xs) in
    let order : off_of (get_or xs i d) ≤ off_of (get_or xs (i + 1 + k) q) = subst (λ y. off_of y ≤ off_of (get_or xs (i + 1 + k) q)) (get_or_default xs i q d low) (up i (i + 1 + k) q (omega arith) there) in
    subst (λ y. j < off_of y) (sym (get_or-drop (i + 1) xs k q)) (omega (arith, order, under))))

-- in the gap before an extent nothing is held
gap_free : (xs : List Extent) (img : List ℕ) (start i from dead : ℕ) (d : Extent) → IsNonDecreasingBy off_of xs → i < length xs → Scanned xs img start i from dead → (j : ℕ) → from ≤ j → j < min (off_of (get_or xs i d)) (length img) → times (extents_seen xs) j ≡ 0
gap_free xs img start i from dead d up low h j high under =
    let before : j < off_of (get_or xs i d) = omega (arith, under) in
    let within : j < length img = omega (arith, under) in
    omega (arith, parted xs i d j low, h.ahead j high within, once_out (extent_seen (get_or xs i d)) j (inl before), later xs i d j up low before)

-- the count over one gap more, and what is held behind it
counted : (es : List Held) (start from to next dead : ℕ) → start ≤ from → from ≤ next → to ≤ next → dead ≡ count_by (λ j. times es j == 0) (range_with_len start (from - start)) → ((j : ℕ) → from ≤ j → j < to → times es j ≡ 0) → ((j : ℕ) → from ≤ j → to ≤ j → j < next → 1 ≤ times es j) → dead + (to - from) ≡ count_by (λ j. times es j == 0) (range_with_len start (next - start))
counted es start from to next dead above on reach so_far free taken =
    let p : ℕ → Bool = λ j. times es j == 0 in
    let mid : ℕ = max from to in
    let first = count_parts (λ j. times es j == 0) start from next above on in
    let second = count_parts (λ j. times es j == 0) from (max from to) next (omega arith) (omega (arith, on, reach)) in
    let gap = count_all (λ j. times es j == 0) from (max from to - from) (λ j high low. eq-eqb (times es j) 0 (free j high (omega (arith, high, low)))) in
    let held = count_no (λ j. times es j == 0) (max from to) (next - max from to) (λ j high low. ne_eqb (times es j) 0 (λ none. absurd (omega (arith, taken j (omega (arith, high)) (omega (arith, high)) (omega (arith, high, low)), none)))) in
    let same : max from to - from ≡ to - from = omega arith in
    omega (arith, first, second, gap, held, same, so_far)

-- one gap more, and the extent behind it
pub scanned_more : (xs : List Extent) (img : List ℕ) (start i from dead : ℕ) (d : Extent) → IsNonDecreasingBy off_of xs → i < length xs → start ≤ from → Scanned xs img start i from dead → NoContent img from (min (off_of (get_or xs i d)) (length img))
    → Scanned xs img start (i + 1) (max from (min (off_of (get_or xs i d) + 24 + (get_or xs i d).rec_len) (length img))) (dead + (min (off_of (get_or xs i d)) (length img) - from))
scanned_more xs img start i from dead d up low above h clean =
    let e = extent_seen (get_or xs i d) in
    let to : ℕ = min (off_of (get_or xs i d)) (length img) in
    let next : ℕ = max from (min (off_of (get_or xs i d) + 24 + (get_or xs i d).rec_len) (length img)) in
    let free = gap_free xs img start i from dead d up low h in
    let taken : (j : ℕ) → from ≤ j → min (off_of (get_or xs i d)) (length img) ≤ j → j < max from (min (off_of (get_or xs i d) + 24 + (get_or xs i d).rec_len) (length img)) → 1 ≤ times (extents_seen xs) j = λ j high over under.
    (let from_here : off_of (get_or xs i d) ≤ j = omega (arith, high, over, under) in
    let to_here : j < off_of (get_or xs i d) + (24 + (get_or xs i d).rec_len) = omega (arith, high, under) in
    omega (arith, parted xs i d j low, once_in e j from_here to_here)) in
    record {
      clean = λ j high under none. elim (cases_lt j from) [
        | inl before ↦ h.clean j high before none
        | inr behind_it ↦ elim (cases_lt j (min (off_of (get_or xs i d)) (length img))) [
          | inl within ↦ clean j behind_it within
          | inr past ↦ absurd (omega (arith, taken j behind_it past under, none))
        ]
      ];
      ahead = λ j high under.
          (let past : off_of (get_or xs i d) + (24 + (get_or xs i d).rec_len) ≤ j = omega (arith, high, under) in
          ap (λ es. times es j) (seen_more xs i d low) ∙ omega (arith, times-append (extents_seen (take i xs)) (e ∷ []) j, h.ahead j (omega (arith, high)) under, once_out e j (inr past)));
      count = counted (extents_seen xs) start from (min (off_of (get_or xs i d)) (length img)) (max from (min (off_of (get_or xs i d) + 24 + (get_or xs i d).rec_len) (length img))) dead above (omega arith) (omega arith) h.count free taken;
    }

-- the last gap: no byte is stray, and all that none holds are counted
pub scanned_end : (xs : List Extent) (img : List ℕ) (start from dead : ℕ) → start ≤ from → from ≤ length img → Scanned xs img start (length xs) from dead → NoContent img from (length img) → NoStrayAmong (extents_seen xs) start img × (dead + (length img - from) ≡ held_by_none (extents_seen xs) start img)
scanned_end xs img start from dead above within h clean =
    let free : (j : ℕ) → from ≤ j → j < length img → times (extents_seen xs) j ≡ 0 = λ j high low. ap (λ es. times (extents_seen es) j) (sym (take-length xs)) ∙ h.ahead j high low in (
      λ i. not_stray_to start (length img) (times (extents_seen xs) i) (slice_index img i) i
          (λ high low none. elim (cases_lt i from) [ inl before ↦ h.clean i high before none | inr past ↦ clean i past low ]),
      counted (extents_seen xs) start from (length img) (length img) dead above within (omega arith) h.count free (λ j high over under. absurd (omega (arith, over, under))),
    )

-- the least byte with content in a gap is the least stray one
gap_stray : (es : List Held) (start : ℕ) (img : List ℕ) (from to at : ℕ) → ((j : ℕ) → start ≤ j → j < from → times es j ≡ 0 → is_content (slice_index img j) ≡ false) → ((j : ℕ) → from ≤ j → j < to → times es j ≡ 0) → start ≤ from → to ≤ length img → FirstContent img from to at → FirstStrayAmong es start img at
gap_stray es start img from to at clean free above within f = (
  stray_to start (length img) (times es at) (slice_index img at) at (omega (arith, above, f.high)) (omega (arith, within, f.low)) (free at f.high f.low) f.here,
  λ i under. not_stray_to start (length img) (times es i) (slice_index img i) i
      (λ high low none. elim (cases_lt i from) [ inl before ↦ clean i high before none | inr past ↦ f.before i past under ]),
)

pub stray_before : (xs : List Extent) (img : List ℕ) (start i from dead at : ℕ) (d : Extent) → IsNonDecreasingBy off_of xs → i < length xs → start ≤ from → Scanned xs img start i from dead → FirstContent img from (min (off_of (get_or xs i d)) (length img)) at → FirstStrayAmong (extents_seen xs) start img at
stray_before xs img start i from dead at d up low above h f =
    gap_stray (extents_seen xs) start img from (min (off_of (get_or xs i d)) (length img)) at h.clean (gap_free xs img start i from dead d up low h) above (omega arith) f

pub stray_at_end : (xs : List Extent) (img : List ℕ) (start from dead at : ℕ) → start ≤ from → Scanned xs img start (length xs) from dead → FirstContent img from (length img) at → FirstStrayAmong (extents_seen xs) start img at
stray_at_end xs img start from dead at above h f =
    gap_stray (extents_seen xs) start img from (length img) at h.clean (λ j high low. ap (λ es. times (extents_seen es) j) (sym (take-length xs)) ∙ h.ahead j high low) above (omega arith) f
