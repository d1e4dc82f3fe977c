-- Sums over lists that are joined: what a list weighs, its bytes and its keys.
use Rattle.std.proofs.Common.{◌≡◌, ℕ, zero, suc, ◌<◌, ◌≤◌, false, List, [], ◌∷◌, ◌++◌, length, cond, count_by, refl, sym, ap, subst, inl, inr, arith}
use Rattle.std.specs.Prelude.{sum_by}
use Rattle.std.specs.List.{IsDistinct, AllByRecursion}
use Rattle.std.specs.Map.{keys_of}
use Rattle.std.proofs.lemmas.Bool.{cases_eq, cases_Bool}
use Rattle.std.proofs.lemmas.List.{map-append}
use Rattle.std.proofs.lemmas.List.Sums.{sum_by-cons, sum_by-append}
use Rattle.std.proofs.lemmas.Map.Keys.{IsDistinct-cons, IsDistinct-head, IsDistinct-tail}
use Rattle.tdb_words.specs.declared.word.Order.{Order}
use Rattle.tdb_space.specs.Pairs.{joined, pair_of, pairs, same_key}
use Rattle.tdb_space.specs.Extents.{once, times, extent_at, extents}
use Rattle.tdb_space.proofs.Extents.Counts.{times-append}
use Rattle.tdb_space.proofs.Pairs.Maps.{same_key-eq, same_key-refl}

-- a list is as long as it weighs where each record weighs 1
pub length_sum : (xs : List ℕ) → length xs ≡ sum_by (λ x. 1) xs
length_sum [] = refl
length_sum (x ∷ xs) = omega (arith, length_sum xs, sum_by-cons (λ (y : ℕ). 1) x xs)

-- one list weighs no more than all
pub sum_member : (w : ℕ → ℕ) (F : ℕ → List ℕ) (j n : ℕ) → j < n → sum_by w (F j) ≤ sum_by w (joined n F)
sum_member w F j zero low = absurd (omega (arith, low))
sum_member w F j (suc n) low =
    let all = sum_by-append w (joined n F) (F n) in
    elim (cases_eq j n) [
      | inl e ↦ let here : sum_by w (F j) ≡ sum_by w (F n) = ap (λ k. sum_by w (F k)) e in omega (arith, all, here)
      | inr ne ↦ omega (arith, all, sum_member w F j n (omega (arith, ne, low)))
    ]

-- what a record weighs by a byte: how often it holds it
abbrev pub holds : Order → List ℕ → ℕ → ℕ → ℕ
holds o img i x = once (extent_at o img x) i

-- the extents of records hold a byte as often as these weigh by it
pub times_weight : (o : Order) (img : List ℕ) (i : ℕ) (xs : List ℕ) → times (extents o img xs) i ≡ sum_by (holds o img i) xs
times_weight o img i [] = refl
times_weight o img i (x ∷ xs) = omega (arith, times_weight o img i xs, sum_by-cons (holds o img i) x xs)

-- and those of lists as often as the joined list weighs
pub times_joined : (o : Order) (img : List ℕ) (i n : ℕ) (F : ℕ → List ℕ) → times (joined n (λ j. extents o img (F j))) i ≡ sum_by (holds o img i) (joined n F)
times_joined o img i zero F = refl
times_joined o img i (suc n) F =
    omega (
      arith,
      times-append (joined n (λ j. extents o img (F j))) (extents o img (F n)) i,
      sum_by-append (holds o img i) (joined n F) (F n),
      times_joined o img i n F,
      times_weight o img i (F n),
    )

-- what a record weighs by a key: how often it has it
abbrev pub has_key : Order → List ℕ → List ℕ → ℕ → ℕ
has_key o img k x = count_by (same_key k) (keys_of (pair_of o img x))

-- the records of a list weigh by a key as often as it is among their keys
keys_weight : (o : Order) (img k : List ℕ) (xs : List ℕ) → count_by (same_key k) (keys_of (pairs o img xs)) ≡ sum_by (has_key o img k) xs
keys_weight o img k [] = refl
keys_weight o img k (x ∷ xs) =
    let split : keys_of (pairs o img (x ∷ xs)) ≡ keys_of (pair_of o img x) ++ keys_of (pairs o img xs) = map-append (λ (p : List ℕ × List ℕ). p.0) (pair_of o img x) (pairs o img xs) in
    omega (
      arith,
      ap (count_by (same_key k)) split,
      sum_by-append (λ q. cond (same_key k q) 1 0) (keys_of (pair_of o img x)) (keys_of (pairs o img xs)),
      keys_weight o img k xs,
      sum_by-cons (has_key o img k) x xs,
    )

-- where none is the key, it is counted no time
none_counted : (k : List ℕ) (qs : List (List ℕ)) → AllByRecursion (λ q. same_key k q ≡ false) qs → count_by (same_key k) qs ≡ 0
none_counted k [] all = refl
none_counted k (q ∷ qs) all =
    let one : ◌≡◌ {A = ℕ} (cond (same_key k q) 1 0) 0 = ap (λ b. cond b 1 0) all.0 in
    omega (arith, sum_by-cons (λ p. cond (same_key k p) 1 0) q qs, one, none_counted k qs all.1)

-- and the other way round
counted_none : (k : List ℕ) (qs : List (List ℕ)) → count_by (same_key k) qs ≡ 0 → AllByRecursion (λ q. same_key k q ≡ false) qs
counted_none k [] none = tt
counted_none k (q ∷ qs) none =
    let parts = sum_by-cons (λ p. cond (same_key k p) 1 0) q qs in
    elim (cases_Bool (same_key k q)) [
      | inl same ↦ let one : ◌≡◌ {A = ℕ} (cond (same_key k q) 1 0) 1 = ap (λ b. cond b 1 0) same in absurd (omega (arith, parts, one, none))
      | inr other ↦ (other, counted_none k qs (omega (arith, parts, none)))
    ]

-- among keys that differ each is counted once at most
pub counted_once : (k : List ℕ) (qs : List (List ℕ)) → IsDistinct same_key qs → count_by (same_key k) qs ≤ 1
counted_once k [] d = omega arith
counted_once k (q ∷ qs) d =
    let parts = sum_by-cons (λ p. cond (same_key k p) 1 0) q qs in
    elim (cases_Bool (same_key k q)) [
      | inl same ↦
          let one : ◌≡◌ {A = ℕ} (cond (same_key k q) 1 0) 1 = ap (λ b. cond b 1 0) same in
          let rest : count_by (same_key k) qs ≡ 0 = none_counted k qs (subst (λ p. AllByRecursion (λ y. same_key p y ≡ false) qs) (sym (same_key-eq k q same)) (IsDistinct-head same_key q qs d)) in
          omega (arith, parts, one, rest)
      | inr other ↦
          let none : ◌≡◌ {A = ℕ} (cond (same_key k q) 1 0) 0 = ap (λ b. cond b 1 0) other in
          omega (arith, parts, none, counted_once k qs (IsDistinct-tail same_key q qs d))
    ]

-- and the other way round
pub once_differ : (qs : List (List ℕ)) → ((k : List ℕ) → count_by (same_key k) qs ≤ 1) → IsDistinct same_key qs
unfolding IsDistinct
once_differ [] once_each = tt
once_differ (q ∷ qs) once_each =
    let one : ◌≡◌ {A = ℕ} (cond (same_key q q) 1 0) 1 = ap (λ b. cond b 1 0) (same_key-refl q) in
    let none : count_by (same_key q) qs ≡ 0 = omega (arith, sum_by-cons (λ p. cond (same_key q p) 1 0) q qs, one, once_each q) in
    IsDistinct-cons same_key q qs (counted_none q qs none) (once_differ qs (λ k. omega (arith, sum_by-cons (λ p. cond (same_key k p) 1 0) q qs, once_each k)))

-- the keys of a list differ where no key weighs more in it than among records whose keys differ
pub differ_lighter : (o : Order) (img xs ys : List ℕ) → IsDistinct same_key (keys_of (pairs o img xs)) → ((w : ℕ → ℕ) → sum_by w ys ≤ sum_by w xs) → IsDistinct same_key (keys_of (pairs o img ys))
differ_lighter o img xs ys d lighter =
    once_differ (keys_of (pairs o img ys)) (λ k. omega (
      arith,
      keys_weight o img k xs,
      keys_weight o img k ys,
      lighter (has_key o img k),
      counted_once k (keys_of (pairs o img xs)) d,
    ))
