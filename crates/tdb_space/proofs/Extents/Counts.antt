-- Counts: how often extents hold a byte, as sums.
use Rattle.std.proofs.Common.{◌≡◌, ℕ, zero, suc, ◌+◌, ◌<◌, ◌≤◌, ◌⊎◌, List, [], ◌∷◌, ◌++◌, refl, ◌∙◌, ap, inl, inr, arith}
use Rattle.std.proofs.lemmas.Bool.{cases_lt, cases_eq, le-leb, lt-leb, lt-ltb, le-ltb}
use Rattle.tdb_space.specs.Form.{Form}
use Rattle.tdb_space.specs.Pairs.{joined}
use Rattle.tdb_space.specs.Extents.{Extent, HandPair, once, times, extents, hand_extents, area, all_extents}

-- an extent holds a byte, or the byte stands below it or above it
pub data Lies (e : Extent) (i : ℕ) : Type 0 where
  lies : e.0 ≤ i → i < e.0 + e.1 → once e i ≡ 1 → Lies e i
  below : i < e.0 → once e i ≡ 0 → Lies e i
  above : e.0 + e.1 ≤ i → once e i ≡ 0 → Lies e i

pub where_is : (e : Extent) (i : ℕ) → Lies e i
where_is e i =
    elim (cases_lt i e.0) [
      | inl low ↦ below low (rw (lt-leb e.0 i low) refl)
      | inr high ↦
          elim (cases_lt i (e.0 + e.1)) [
            | inl within ↦ lies high within (rw (le-leb e.0 i high) (rw (lt-ltb i (e.0 + e.1) within) refl))
            | inr past ↦ above past (rw (le-leb e.0 i high) (rw (le-ltb i (e.0 + e.1) past) refl))
          ]
    ]

-- a byte of an extent is held once by it
pub once_in : (e : Extent) (i : ℕ) → e.0 ≤ i → i < e.0 + e.1 → once e i ≡ 1
once_in e i high low = elim (where_is e i) [ lies _ _ one ↦ one | below lt _ ↦ absurd (omega arith) | above le _ ↦ absurd (omega arith) ]

pub once_out : (e : Extent) (i : ℕ) → (i < e.0) ⊎ (e.0 + e.1 ≤ i) → once e i ≡ 0
once_out e i out = elim (where_is e i) [ lies high low _ ↦ elim out [ inl lt ↦ absurd (omega arith) | inr le ↦ absurd (omega arith) ] | below _ none ↦ none | above _ none ↦ none ]

-- a byte that an extent holds lies in it
pub once_lies : (e : Extent) (i : ℕ) → 1 ≤ once e i → (e.0 ≤ i) × (i < e.0 + e.1)
once_lies e i some = elim (where_is e i) [ lies high low _ ↦ (high, low) | below _ none ↦ absurd (omega (arith, some, none)) | above _ none ↦ absurd (omega (arith, some, none)) ]

pub times-append : (xs ys : List Extent) (i : ℕ) → times (xs ++ ys) i ≡ times xs i + times ys i
times-append [] ys i = omega arith
times-append (e ∷ es) ys i = omega (arith, times-append es ys i)

-- an extent that is cut in two
pub once_joined : (at m n i : ℕ) → once (at, m + n) i ≡ once (at, m) i + once (at + m, n) i
once_joined at m n i =
    elim (where_is (at, m) i) [
      | lies high low one ↦ omega (arith, one, once_in (at, m + n) i high (omega arith), once_out (at + m, n) i (inl (omega arith)))
      | below low none ↦ omega (arith, none, once_out (at, m + n) i (inl low), once_out (at + m, n) i (inl (omega arith)))
      | above past none ↦
          elim (where_is (at + m, n) i) [
            | lies high low one ↦ omega (arith, none, one, once_in (at, m + n) i (omega arith) (omega arith))
            | below low _ ↦ absurd (omega arith)
            | above far none_there ↦ omega (arith, none, none_there, once_out (at, m + n) i (inr (omega arith)))
          ]
    ]

-- joined lists that are the same, place by place
pub joined_same : {T : Type 0} (n : ℕ) (F G : ℕ → List T) → ((j : ℕ) → j < n → F j ≡ G j) → joined n F ≡ joined n G
joined_same zero F G same = refl
joined_same (suc n) F G same = ap (λ xs. xs ++ F n) (joined_same n F G (λ j low. same j (omega arith))) ∙ ap (λ ys. joined n G ++ ys) (same n (omega arith))

-- joined lists of which one is another
pub times_swapped : (F G : ℕ → List Extent) (j i n : ℕ) → j < n → ((k : ℕ) → k < n → (k ≡ j → ⊥) → F k ≡ G k) → times (joined n F) i + times (G j) i ≡ times (joined n G) i + times (F j) i
times_swapped F G j i zero low same = absurd (omega arith)
times_swapped F G j i (suc n) low same =
    let left = times-append (joined n F) (F n) i in
    let right = times-append (joined n G) (G n) i in
    elim (cases_eq n j) [
      | inl e ↦
          let front : times (joined n F) i ≡ times (joined n G) i = ap (λ es. times es i) (joined_same n F G (λ k below. same k (omega arith) (λ there. absurd (omega (arith, there, e))))) in
          let here_F : times (F n) i ≡ times (F j) i = ap (λ k. times (F k) i) e in
          let here_G : times (G n) i ≡ times (G j) i = ap (λ k. times (G k) i) e in
          omega (arith, left, right, front, here_F, here_G)
      | inr ne ↦
          let front = times_swapped F G j i n (omega (arith, ne, low)) (λ k below apart. same k (omega arith) apart) in
          let here : times (F n) i ≡ times (G n) i = ap (λ es. times es i) (same n (omega arith) ne) in
          omega (arith, left, right, front, here)
    ]

-- one list holds a byte no more often than all
pub times_member : (F : ℕ → List Extent) (j i n : ℕ) → j < n → times (F j) i ≤ times (joined n F) i
times_member F j i zero low = absurd (omega arith)
times_member F j i (suc n) low =
    let all = times-append (joined n F) (F n) i in
    elim (cases_eq j n) [
      | inl e ↦ let here : times (F j) i ≡ times (F n) i = ap (λ k. times (F k) i) e in omega (arith, all, here)
      | inr ne ↦ omega (arith, all, times_member F j i n (omega (arith, ne, low)))
    ]

-- nor do two lists together
pub times_two : (F : ℕ → List Extent) (j k i n : ℕ) → j < n → k < n → (j ≡ k → ⊥) → times (F j) i + times (F k) i ≤ times (joined n F) i
times_two F j k i zero low_j low_k apart = absurd (omega arith)
times_two F j k i (suc n) low_j low_k apart =
    let all = times-append (joined n F) (F n) i in
    elim (cases_eq j n) [
      | inl e ↦ let here : times (F j) i ≡ times (F n) i = ap (λ l. times (F l) i) e in omega (arith, all, here, times_member F k i n (omega (arith, apart, e, low_k)))
      | inr ne ↦
          elim (cases_eq k n) [
            | inl e ↦ let here : times (F k) i ≡ times (F n) i = ap (λ l. times (F l) i) e in omega (arith, all, here, times_member F j i n (omega (arith, ne, low_j)))
            | inr other ↦ omega (arith, all, times_two F j k i n (omega (arith, ne, low_j)) (omega (arith, other, low_k)) apart)
          ]
    ]

-- the count of all extents is that of the chains, of the free list, of the undo area and of the hands
pub times_all : (f : Form) (img : List ℕ) (chain : ℕ → List ℕ) (free : List ℕ) (hands : List HandPair) (i : ℕ) → times (all_extents f img chain free hands) i ≡ times (joined f.chains (λ j. extents f.order img (chain j))) i + times (extents f.order img free) i + times (area f.order img) i + times (hand_extents hands) i
times_all f img chain free hands i =
    let chains = joined f.chains (λ j. extents f.order img (chain j)) in
    omega (
      arith,
      times-append (chains ++ extents f.order img free ++ area f.order img) (hand_extents hands) i,
      times-append (chains ++ extents f.order img free) (area f.order img) i,
      times-append chains (extents f.order img free) i,
    )
