-- Extents that show which bytes are held, and more of them.
use Rattle.std.proofs.Common.{◌≡◌, ◌≢◌, ℕ, ◌+◌, ◌≤◌, List, [], ◌∷◌, ◌++◌, ap, inl, inr, arith}
use Rattle.std.specs.Prelude.{◌⊎◌}
use Rattle.std.proofs.lemmas.Bool.{cases_eq}
use Rattle.tdb_words.specs.declared.word.Order.{Order}
use Rattle.tdb_space.specs.Chain.{Member}
use Rattle.tdb_space.specs.Extents.{Extent as Held, times, once, extents, extent_at}
use Rattle.tdb_space.proofs.Extents.Counts.{times-append, once_in, once_lies}
use Rattle.tdb_space.proofs.Chain.Members.{member_held}
use Rattle.tdb_space.proofs.Chain.Walks.{member_first, member_other}
use Rattle.tdb_check.specs.Chains.{Shows}

-- the same extents, put behind both
pub shows_more : (seen held es : List Held) → Shows seen held → Shows (seen ++ es) (held ++ es)
shows_more seen held es s = record {
  no_more = λ i. omega (arith, s.no_more i, times-append seen es i, times-append held es i);
  twice = λ i differ.
      (let t = s.twice i (λ same. differ (omega (arith, same, times-append seen es i, times-append held es i))) in
      (t.0, t.1, omega (arith, t.2, times-append seen es t.0)));
  whole = by_case s.whole;
}
  where
    by_case : ((seen ≡ held) ⊎ ((k : ℕ) × (2 ≤ times seen k))) → ((seen ++ es) ≡ (held ++ es)) ⊎ ((k : ℕ) × (2 ≤ times (seen ++ es) k))
    by_case (inl same) = inl (ap (λ xs. xs ++ es) same)
    by_case (inr (k, two)) = inr (k, omega (arith, two, times-append seen es k))

-- a record holds its first byte
pub first_held : (o : Order) (img : List ℕ) (x : ℕ) → once (extent_at o img x) x ≡ 1
first_held o img x = once_in (extent_at o img x) x (omega arith) (omega arith)

-- a byte that records hold is no lower than the least of their offsets
least_low : (o : Order) (img xs : List ℕ) (least i : ℕ) → ((z : ℕ) → Member z xs → least ≤ z) → 1 ≤ times (extents o img xs) i → least ≤ i
least_low o img [] least i low some = absurd (omega (arith, some))
least_low o img (x ∷ xs) least i low some =
    elim (cases_eq (once (extent_at o img x) i) 0) [
      | inl none ↦ least_low o img xs least i (λ z m. low z (member_other z x xs m)) (omega (arith, some, none))
      | inr here ↦ omega (arith, low x (member_first x xs), (once_lies (extent_at o img x) i (omega (arith, here))).0)
    ]

-- records of which the least was put down before: it is put down once more, for all of them
pub shows_least : (o : Order) (img xs : List ℕ) (least : ℕ) (seen held : List Held) → Member least xs → ((z : ℕ) → Member z xs → least ≤ z) → 1 ≤ times seen least → Shows seen held → Shows (seen ++ extent_at o img least ∷ []) (held ++ extents o img xs)
shows_least o img xs least seen held m low some s = record {
  no_more = λ i. omega (arith, s.no_more i, one i, all i, member_held o img xs least i m);
  twice = λ i differ. elim (cases_eq (times seen i) (times held i)) [
    | inl same ↦
        let more : 1 ≤ times (extents o img xs) i = omega (arith, at_least i differ same, member_held o img xs least i m) in
        (least, least_low o img xs least i low more, two)
    | inr other ↦ let t = s.twice i other in (t.0, t.1, omega (arith, t.2, one t.0))
  ];
  whole = inr (least, two);
}
  where
    one : (i : ℕ) → times (seen ++ extent_at o img least ∷ []) i ≡ times seen i + once (extent_at o img least) i
    one i = omega (arith, times-append seen (extent_at o img least ∷ []) i)

    all : (i : ℕ) → times (held ++ extents o img xs) i ≡ times held i + times (extents o img xs) i
    all i = times-append held (extents o img xs) i

    two : 2 ≤ times (seen ++ extent_at o img least ∷ []) least
    two = omega (arith, some, one least, first_held o img least)

    at_least : (i : ℕ) → times (seen ++ extent_at o img least ∷ []) i ≢ times (held ++ extents o img xs) i → times seen i ≡ times held i → once (extent_at o img least) i ≢ times (extents o img xs) i
    at_least i differ same here = differ (omega (arith, here, same, one i, all i))
