-- Extents in the order of their offsets that were gone through from the first: none of them reaches into the next.
use Rattle.std.proofs.Common.{◌≡◌, ℕ, suc, ◌+◌, ◌<◌, ◌≤◌, List, [], ◌∷◌, ◌++◌, length, take, drop, get_or, add-one, refl, sym, ◌∙◌, ap, subst, arith}
use Rattle.std.specs.List.Sorted.{IsNonDecreasingBy, IsPermutation}
use Rattle.std.proofs.lemmas.List.{take_more, map-append, take-append-drop, get_or-drop, get_or_default, length-drop}
use Rattle.std.proofs.lemmas.List.Sorted.{IsPermutation-map}
use Rattle.std.proofs.Math.Seq.{drop-cons, take-length}
use Rattle.tdb_space.specs.Extents.{Extent as Held, times, once}
use Rattle.tdb_space.proofs.Extents.Counts.{where_is, once_in, times-append}
use Rattle.tdb_space.proofs.Extents.Counts.Lies.{lies, below, above}
use Rattle.tdb_space.proofs.Extents.Sorted.{times_permuted}
use Rattle.tdb_check.specs.declared.extent.Extent.{Extent}
use Rattle.tdb_check.specs.Extent.{extent_seen, extents_seen, off_of}

pub times_sorted : (xs ys : List Extent) (i : ℕ) → IsPermutation xs ys → times (extents_seen ys) i ≡ times (extents_seen xs) i
times_sorted xs ys i p = times_permuted (extents_seen xs) (extents_seen ys) i (IsPermutation-map extent_seen xs ys p)

-- no byte is held twice, none from the reach on, and each from the last one's beginning up to the reach is held
pub record Tidy (es : List Held) (low reach : ℕ) : Type 0 where
  pub once_each : (i : ℕ) → times es i ≤ 1
  pub past : (i : ℕ) → reach ≤ i → times es i ≡ 0
  pub held : (i : ℕ) → low ≤ i → i < reach → times es i ≡ 1

one_more : (es : List Held) (e : Held) (i : ℕ) → times (es ++ e ∷ []) i ≡ times es i + once e i
one_more es e i = omega (arith, times-append es (e ∷ []) i)

-- one more, which begins at the reach or behind it
tidy_more : (es : List Held) (e : Held) (low reach : ℕ) → Tidy es low reach → reach ≤ e.0 → Tidy (es ++ e ∷ []) e.0 (e.0 + e.1)
tidy_more es e low reach h from = record {
  once_each = λ i. elim (where_is e i) [
    | lies high _ one ↦ omega (arith, one_more es e i, one, h.past i (omega (arith, high, from)))
    | below _ none ↦ omega (arith, one_more es e i, none, h.once_each i)
    | above _ none ↦ omega (arith, one_more es e i, none, h.once_each i)
  ];
  past = λ i high. elim (where_is e i) [
    | lies _ under _ ↦ absurd (omega (arith, high, under))
    | below under _ ↦ absurd (omega (arith, under, high))
    | above _ none ↦ omega (arith, one_more es e i, none, h.past i (omega (arith, high, from)))
  ];
  held = λ i high under. omega (arith, one_more es e i, once_in e i high under, h.past i (omega (arith, high, from)));
}

-- extents that begin behind a byte don't hold it
pub behind : (xs : List Extent) (i : ℕ) → ((k : ℕ) (d : Extent) → k < length xs → i < off_of (get_or xs k d)) → times (extents_seen xs) i ≡ 0
behind [] i h = refl
behind (x ∷ xs) i h =
    elim (where_is (extent_seen x) i) [
      | lies high _ _ ↦ absurd (omega (arith, high, h 0 x (omega arith)))
      | below _ none ↦ omega (arith, none, behind xs i (λ k d low. h (suc k) d (omega arith)))
      | above over _ ↦ absurd (omega (arith, over, h 0 x (omega arith)))
    ]

-- the first i of them were gone through
pub record Swept (xs : List Extent) (i reach : ℕ) : Type 0 where
  pub low : ℕ
  pub tidy : Tidy (extents_seen (take i xs)) low reach
  pub least : (x : ℕ) → ((k : ℕ) (d : Extent) → k < i → off_of (get_or xs k d) ≤ x) → low ≤ x

pub swept_none : (xs : List Extent) → Swept xs 0 0
swept_none xs = record {
  low = 0;
  tidy = record { once_each = λ i. omega arith; past = λ i high. refl; held = λ i high under. absurd (omega arith) };
  least = λ x h. omega arith;
}

pub seen_more : (xs : List Extent) (i : ℕ) (d : Extent) → i < length xs → extents_seen (take (i + 1) xs) ≡ extents_seen (take i xs) ++ extent_seen (get_or xs i d) ∷ []
seen_more xs i d low = ap extents_seen (take_more xs i d low) ∙ map-append extent_seen (take i xs) (get_or xs i d ∷ [])

pub swept_more : (xs : List Extent) (i reach : ℕ) (d : Extent) → i < length xs → Swept xs i reach → reach ≤ off_of (get_or xs i d) → Swept xs (i + 1) (off_of (get_or xs i d) + 24 + (get_or xs i d).rec_len)
swept_more xs i reach d low h from =
    let e = extent_seen (get_or xs i d) in
    let end : e.0 + e.1 ≡ off_of (get_or xs i d) + 24 + (get_or xs i d).rec_len = omega arith in
    record {
      low = off_of (get_or xs i d);
      tidy = subst (Tidy (extents_seen (take (i + 1) xs)) (off_of (get_or xs i d))) end
          (subst (λ es. Tidy es (off_of (get_or xs i d)) (e.0 + e.1)) (sym (seen_more xs i d low)) (tidy_more (extents_seen (take i xs)) e h.low reach h.tidy from));
      least = λ x g. g i d (omega arith);
    }

pub swept_all : (xs : List Extent) (reach : ℕ) → Swept xs (length xs) reach → (i : ℕ) → times (extents_seen xs) i ≤ 1
swept_all xs reach h i = subst (λ es. times (extents_seen es) i ≤ 1) (take-length xs) (h.tidy.once_each i)

-- the next one reaches back: there is the first overlap
pub swept_overlap : (xs : List Extent) (i reach : ℕ) (d : Extent) → IsNonDecreasingBy off_of xs → i < length xs → Swept xs i reach → off_of (get_or xs i d) < reach → (2 ≤ times (extents_seen xs) (off_of (get_or xs i d))) × ((j : ℕ) → j < off_of (get_or xs i d) → times (extents_seen xs) j ≤ 1)
swept_overlap xs i reach d up low h back =
    let x = get_or xs i d in
    let e = extent_seen x in
    let apart : (j : ℕ) → times (extents_seen xs) j ≡ times (extents_seen (take i xs)) j + (once e j + times (extents_seen (drop (i + 1) xs)) j) = λ j.
    (ap (λ es. times (extents_seen es) j) (sym (take-append-drop i xs)) ∙ ap (λ es. times es j) (map-append extent_seen (take i xs) (drop i xs)) ∙ times-append (extents_seen (take i xs)) (extents_seen (drop i xs)) j
    ∙ ap (λ es. times (extents_seen (take i xs)) j + times (extents_seen es) j) (drop-cons xs i d low ∙ ap (λ n. x ∷ drop n xs) (sym (add-one i)))) in
    let from : h.low ≤ off_of x = h.least (off_of x) (λ k q under. subst (λ y. off_of (get_or xs k q) ≤ off_of y) (get_or_default xs i q d low) (up k i q (omega (arith, under)) low)) in (
      omega (arith, apart (off_of x), h.tidy.held (off_of x) from back, once_in e (off_of x) (omega arith) (omega arith)),
      λ j under.
          (let rest : times (extents_seen (drop (i + 1) xs)) j ≡ 0 = behind (drop (i + 1) xs) j
          (λ k q within.
          (let there : i + 1 + k < length xs = omega (arith, within, length-drop (i + 1) xs) in
          let order : off_of x ≤ off_of (get_or xs (i + 1 + k) q) = subst (λ y. off_of y ≤ off_of (get_or xs (i + 1 + k) q)) (get_or_default xs i q d low) (up i (i + 1 + k) q (omega arith) there) in
          subst (λ y. j < off_of y) (sym (get_or-drop (i + 1) xs k q)) (omega (arith, order, under)))) in
          elim (where_is e j) [
            | lies high _ _ ↦ absurd (omega (arith, high, under))
            | below _ none ↦ omega (arith, apart j, rest, none, h.tidy.once_each j)
            | above over _ ↦ absurd (omega (arith, over, under))
          ]),
    )
