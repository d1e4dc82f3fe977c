-- Stray bytes beside extents in the order of their offsets.
use Rattle.std.proofs.Common.{◌≡◌, ℕ, ◌+◌, ◌-◌, ◌<◌, ◌≤◌, min, max, true, false, [], ◌∷◌, ◌&&◌, not, List, length, take, drop, get_or, count_by, add-one, length-drop, refl, sym, ◌∙◌, ap, subst, inl, inr, arith}
use Rattle.std.specs.Prelude.{◌==◌, nat_lt, slice_index}
use Rattle.std.specs.List.{range_with_len}
use Rattle.std.specs.List.Sorted.{IsNonDecreasingBy}
use Rattle.std.proofs.lemmas.Bool.{cases_Bool}
use Rattle.std.proofs.lemmas.Bool.Decides.{nat_tests}
use Rattle.std.proofs.lemmas.List.{map-append, take-append-drop, get_or-drop, get_or_default}
use Rattle.std.proofs.Math.Seq.{drop-cons, take-length}
use Rattle.tdb_words.specs.declared.record.TheConstants.{PADDING}
use Rattle.tdb_space.specs.Extents.{Extent as Held, times, once}
use Rattle.tdb_space.proofs.Extents.Counts.{once_in, once_out, times-append}
use Rattle.tdb_check.specs.declared.extent.Extent.{Extent}
use Rattle.tdb_check.specs.Extent.{extent_seen, extents_seen, off_of}
use Rattle.tdb_check.specs.Stray.{is_content, is_stray_among}
use Rattle.tdb_check.proofs.Gaps.{count_no}
use Rattle.tdb_check.proofs.Swept.{seen_more, behind}
use Rattle.tdb_mend.specs.Counting.{content_between, strays_among}
use Rattle.tdb_mend.proofs.Counts.{count_parts, count_shifted}
use Rattle.tdb_mend.proofs.Laid.{stray_to}

-- the test of a stray byte that nothing holds, with plain numbers
stray_is : (low high held byte i : ℕ) → low ≤ i → i < high → held ≡ 0 → (not (nat_lt i low) && nat_lt i high && (held == 0) && not (byte == 0) && not (byte == PADDING)) ≡ is_content byte
stray_is low high held byte i a b c = elim (cases_Bool (is_content byte)) [ inl d ↦ content d ∙ sym d | inr d ↦ blank d ∙ sym d ]
  where
    content : is_content byte ≡ true → (not (nat_lt i low) && nat_lt i high && (held == 0) && not (byte == 0) && not (byte == PADDING)) ≡ true
    content d = grind (arith, nat_tests)

    blank : is_content byte ≡ false → (not (nat_lt i low) && nat_lt i high && (held == 0) && not (byte == 0) && not (byte == PADDING)) ≡ false
    blank d = grind (arith, nat_tests)

-- The stray bytes below an offset were counted, and the first i extents gone through: these hold nothing further on.
pub record CountedTo (xs : List Extent) (img : List ℕ) (start i from found : ℕ) : Type 0 where
  pub ahead : (j : ℕ) → from ≤ j → j < length img → times (extents_seen (take i xs)) j ≡ 0
  pub count : found ≡ count_by (is_stray_among (extents_seen xs) start img) (range_with_len 0 from)

-- no byte before the records is stray, and none that an extent holds
stray_low : (es : List Held) (start : ℕ) (img : List ℕ) (j : ℕ) → j < start → is_stray_among es start img j ≡ false
stray_low es start img j under = stray_to start (length img) (times es j) (slice_index img j) j (λ high low none. absurd (omega (arith, under, high)))

stray_held : (es : List Held) (start : ℕ) (img : List ℕ) (j : ℕ) → 1 ≤ times es j → is_stray_among es start img j ≡ false
stray_held es start img j held = stray_to start (length img) (times es j) (slice_index img j) j (λ high low none. absurd (omega (arith, held, none)))

pub counted_none : (xs : List Extent) (img : List ℕ) (start : ℕ) → CountedTo xs img start 0 start 0
counted_none xs img start = record {
  ahead = λ j high low. refl;
  count = sym (count_no (is_stray_among (extents_seen xs) start img) 0 start (λ j high low. stray_low (extents_seen xs) start img j (omega (arith, low))));
}

-- the extents before one, it, and those behind it
parted : (xs : List Extent) (i : ℕ) (d : Extent) (j : ℕ) → i < length xs → times (extents_seen xs) j ≡ times (extents_seen (take i xs)) j + (once (extent_seen (get_or xs i d)) j + times (extents_seen (drop (i + 1) xs)) j)
parted xs i d j low =
    ap (λ es. times (extents_seen es) j) (sym (take-append-drop i xs)) ∙ ap (λ es. times es j) (map-append extent_seen (take i xs) (drop i xs)) ∙ times-append (extents_seen (take i xs)) (extents_seen (drop i xs)) j
    ∙ ap (λ es. times (extents_seen (take i xs)) j + times (extents_seen es) j) (drop-cons xs i d low ∙ ap (λ n. get_or xs i d ∷ drop n xs) (sym (add-one i)))

-- the extents from one on hold nothing before it begins
later : (xs : List Extent) (i : ℕ) (d : Extent) (j : ℕ) → IsNonDecreasingBy off_of xs → i < length xs → j < off_of (get_or xs i d) → times (extents_seen (drop (i + 1) xs)) j ≡ 0
later xs i d j up low under =
    behind (drop (i + 1) xs) j
    (λ k q within.
    (let there : i + 1 + k < length xs = omega (arith, within, length-drop (i + 1) xs) in
    let order : off_of (get_or xs i d) ≤ off_of (get_or xs (i + 1 + k) q) = subst (λ y. off_of y ≤ off_of (get_or xs (i + 1 + k) q)) (get_or_default xs i q d low) (up i (i + 1 + k) q (omega arith) there) in
    subst (λ y. j < off_of y) (sym (get_or-drop (i + 1) xs k q)) (omega (arith, order, under))))

-- one gap more, and the extent behind it
module _ (xs : List Extent) (img : List ℕ) (start i from found : ℕ) (d : Extent) (up : IsNonDecreasingBy off_of xs) (low : i < length xs) (above : start ≤ from) (within : from ≤ length img) (h : CountedTo xs img start i from found) where
  abbrev e : Extent
  e = get_or xs i d

  abbrev to : ℕ
  to = min (off_of e) (length img)

  abbrev next : ℕ
  next = max from (min (off_of e + 24 + e.rec_len) (length img))

  -- in the gap before the extent nothing is held
  free : (j : ℕ) → from ≤ j → j < to → times (extents_seen xs) j ≡ 0
  free j high under =
      let before : j < off_of (get_or xs i d) = omega (arith, under) in
      omega (arith, parted xs i d j low, h.ahead j high (omega (arith, under)), once_out (extent_seen (get_or xs i d)) j (inl before), later xs i d j up low before)

  -- behind it the extent holds all
  taken : (j : ℕ) → from ≤ j → to ≤ j → j < next → 1 ≤ times (extents_seen xs) j
  taken j high over under =
      let from_here : off_of (get_or xs i d) ≤ j = omega (arith, high, over, under) in
      let to_here : j < off_of (get_or xs i d) + (24 + (get_or xs i d).rec_len) = omega (arith, high, under) in
      omega (arith, parted xs i d j low, once_in (extent_seen (get_or xs i d)) j from_here to_here)

  ahead : (j : ℕ) → next ≤ j → j < length img → times (extents_seen (take (i + 1) xs)) j ≡ 0
  ahead j high under =
      let past : off_of (get_or xs i d) + (24 + (get_or xs i d).rec_len) ≤ j = omega (arith, high, under) in
      ap (λ es. times es j) (seen_more xs i d low)
      ∙ omega (arith, times-append (extents_seen (take i xs)) (extent_seen (get_or xs i d) ∷ []) j, h.ahead j (omega (arith, high)) under, once_out (extent_seen (get_or xs i d)) j (inr past))

  gap : count_by (is_stray_among (extents_seen xs) start img) (range_with_len from (max from to - from)) ≡ content_between img from to
  gap =
      let same : max from to - from ≡ to - from = omega arith in
      count_shifted (is_stray_among (extents_seen xs) start img) (λ j. is_content (slice_index img j)) from from (max from to - from)
      (λ k under.
      (let inside : from + k < to = omega (arith, under) in
      stray_is start (length img) (times (extents_seen xs) (from + k)) (slice_index img (from + k)) (from + k) (omega (arith, above)) (omega (arith, inside)) (free (from + k) (omega arith) inside)))
      ∙ ap (λ n. count_by (λ j. is_content (slice_index img j)) (range_with_len from n)) same

  rest : count_by (is_stray_among (extents_seen xs) start img) (range_with_len (max from to) (next - max from to)) ≡ 0
  rest = count_no (is_stray_among (extents_seen xs) start img) (max from to) (next - max from to)
      (λ j high under. stray_held (extents_seen xs) start img j (taken j (omega (arith, high)) (omega (arith, high)) (omega (arith, high, under))))

  all : found + content_between img from to ≡ count_by (is_stray_among (extents_seen xs) start img) (range_with_len 0 next)
  all =
      let long : from + (max from to - from) ≡ max from to = omega arith in
      let reach : max from to ≤ next = omega (arith, within) in
      let whole : max from to + (next - max from to) ≡ next = omega (arith, reach) in
      let one = count_parts (is_stray_among (extents_seen xs) start img) 0 from (max from to - from) in
      let two = count_parts (is_stray_among (extents_seen xs) start img) 0 (max from to) (next - max from to) in
      let there : count_by (is_stray_among (extents_seen xs) start img) (range_with_len (0 + from) (max from to - from)) ≡ count_by (is_stray_among (extents_seen xs) start img) (range_with_len from (max from to - from)) =
      (let zero_on : 0 + from ≡ from = omega arith in ap (λ k. count_by (is_stray_among (extents_seen xs) start img) (range_with_len k (max from to - from))) zero_on) in
      let on : count_by (is_stray_among (extents_seen xs) start img) (range_with_len (0 + max from to) (next - max from to)) ≡ count_by (is_stray_among (extents_seen xs) start img) (range_with_len (max from to) (next - max from to)) =
      (let zero_on : 0 + max from to ≡ max from to = omega arith in ap (λ k. count_by (is_stray_among (extents_seen xs) start img) (range_with_len k (next - max from to))) zero_on) in
      let shorter = ap (λ n. count_by (is_stray_among (extents_seen xs) start img) (range_with_len 0 n)) long in
      let longer = ap (λ n. count_by (is_stray_among (extents_seen xs) start img) (range_with_len 0 n)) whole in
      omega (arith, h.count, one, two, there, on, shorter, longer, gap, rest)

  pub counted_more : CountedTo xs img start (i + 1) next (found + content_between img from to)
  counted_more = record { ahead = ahead; count = all }

-- the last gap
pub counted_end : (xs : List Extent) (img : List ℕ) (start from found : ℕ) → start ≤ from → from ≤ length img → CountedTo xs img start (length xs) from found → found + content_between img from (length img) ≡ strays_among (extents_seen xs) start img
counted_end xs img start from found above within h =
    let free : (j : ℕ) → from ≤ j → j < length img → times (extents_seen xs) j ≡ 0 = λ j high low. ap (λ es. times (extents_seen es) j) (sym (take-length xs)) ∙ h.ahead j high low in
    let whole : from + (length img - from) ≡ length img = omega (arith, within) in
    let zero_on : 0 + from ≡ from = omega arith in
    let parts = count_parts (is_stray_among (extents_seen xs) start img) 0 from (length img - from) in
    let on = ap (λ k. count_by (is_stray_among (extents_seen xs) start img) (range_with_len k (length img - from))) zero_on in
    let longer = ap (λ n. count_by (is_stray_among (extents_seen xs) start img) (range_with_len 0 n)) whole in
    let last = count_shifted (is_stray_among (extents_seen xs) start img) (λ j. is_content (slice_index img j)) from from (length img - from)
    (λ k under.
    stray_is start (length img) (times (extents_seen xs) (from + k)) (slice_index img (from + k)) (from + k) (omega (arith, above)) (omega (arith, under)) (free (from + k) (omega arith) (omega (arith, under)))) in
    omega (arith, h.count, parts, on, longer, last)

-- extents that hold each byte as often as others
pub strays_same : (es fs : List Held) (start : ℕ) (img : List ℕ) → ((i : ℕ) → times es i ≡ times fs i) → strays_among es start img ≡ strays_among fs start img
strays_same es fs start img same =
    λ j. count_by (λ i. not (nat_lt i start) && nat_lt i (length img) && (same i j == 0) && not (slice_index img i == 0) && not (slice_index img i == PADDING)) (range_with_len 0 (length img))
