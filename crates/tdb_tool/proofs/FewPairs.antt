-- A file has no more pairs than records of 28 bytes have room in it.
use Rattle.std.proofs.Common.{◌≡◌, ℕ, zero, suc, ◌+◌, ◌/◌, ◌<◌, ◌≤◌, inl, inr, Bool, true, false, List, [], ◌∷◌, ◌++◌, length, length-append, map, refl, sym, ◌∙◌, ap, arith, if◌then◌else◌}
use Rattle.std.specs.Prelude.{◌==◌, ◌||◌}
use Rattle.std.specs.List.{AllByRecursion, IsDistinct, list_any}
use Rattle.std.proofs.Math.Dec.{eqb}
use Rattle.std.proofs.lemmas.Bool.{false≢true, eqb-true, cases_lt}
use Rattle.std.proofs.lemmas.List.{length-map}
use Rattle.std.proofs.lemmas.Map.Keys.{IsDistinct-cons}
use Rattle.std.proofs.lemmas.Map.Steps.{length-le_from_distinct_below}
use Rattle.tdb_words.specs.declared.record.TheConstants.{USED}
use Rattle.tdb_words.specs.declared.word.Order.{Order}
use Rattle.tdb_space.proofs.Extents.Counts.{once_in, times_all}
use Rattle.tdb_space.specs.Accepted.{AcceptWith}
use Rattle.tdb_space.specs.Chain.{Linked, chain_of, free_of}
use Rattle.tdb_space.specs.Extents.{HandPair, once, times, extent_at, extents}
use Rattle.tdb_space.specs.Form.{Form}
use Rattle.tdb_space.specs.Pairs.{joined, pair_of, pairs, order_of}
use Rattle.tdb_space.specs.Record.{Whole, IsChained, key_at, data_at, next_of, magic_of}

-- all records of chains, in one list
all_records : Form → List ℕ → List ℕ
all_records f img = joined f.chains (chain_of f img)

-- their pairs
pair_few : (o : Order) (img : List ℕ) (x : ℕ) → length (pair_of o img x) ≤ 1
pair_few o img x = of (magic_of o img x == USED)
  where
    some : List (List ℕ × List ℕ)
    some = (key_at o img x, data_at o img x) ∷ []

    of : (b : Bool) → length (if b then some else []) ≤ 1
    of true = omega arith
    of false = omega arith

pairs_few : (o : Order) (img xs : List ℕ) → length (pairs o img xs) ≤ length xs
pairs_few o img [] = omega arith
pairs_few o img (x ∷ xs) = omega (arith, pair_few o img x, pairs_few o img xs, length-append (pair_of o img x) (pairs o img xs))

joined_few : {A B : Type 0} (n : ℕ) (F : ℕ → List A) (G : ℕ → List B) → ((j : ℕ) → length (F j) ≤ length (G j)) → length (joined n F) ≤ length (joined n G)
joined_few zero F G few = omega arith
joined_few (suc n) F G few = omega (arith, joined_few n F G few, few n, length-append (joined n F) (F n), length-append (joined n G) (G n))

-- their extents
extents_more : (o : Order) (img xs ys : List ℕ) → extents o img (xs ++ ys) ≡ extents o img xs ++ extents o img ys
extents_more o img [] ys = refl
extents_more o img (x ∷ xs) ys = ap (λ es. extent_at o img x ∷ es) (extents_more o img xs ys)

extents_joined : (o : Order) (img : List ℕ) (n : ℕ) (F : ℕ → List ℕ) → extents o img (joined n F) ≡ joined n (λ j. extents o img (F j))
extents_joined o img zero F = refl
extents_joined o img (suc n) F = extents_more o img (joined n F) (F n) ∙ ap (λ es. es ++ extents o img (F n)) (extents_joined o img n F)

-- each stands whole
all_more : {X : Type 0} (P : X → Type 0) (xs ys : List X) → AllByRecursion P xs → AllByRecursion P ys → AllByRecursion P (xs ++ ys)
all_more P [] ys p q = q
all_more P (x ∷ xs) ys p q = (p.0, all_more P xs ys p.1 q)

all_joined : {X : Type 0} (P : X → Type 0) (n : ℕ) (F : ℕ → List X) → ((j : ℕ) → j < n → AllByRecursion P (F j)) → AllByRecursion P (joined n F)
all_joined P zero F p = tt
all_joined P (suc n) F p = all_more P (joined n F) (F n) (all_joined P n F (λ j l. p j (omega (arith, l)))) (p n (omega arith))

whole_each : (f : Form) (M : ℕ → Type 0) (img : List ℕ) (xs : List ℕ) (at : ℕ) → Linked f M img at xs → AllByRecursion (Whole f img) xs
whole_each f M img [] at l = tt
whole_each f M img (x ∷ xs) at l = (l.1, whole_each f M img xs (next_of f.order img x) l.3)

module _ (f : Form) (img : List ℕ) where
  -- records that share no byte are so far apart
  apart_from : (x : ℕ) (ys : List ℕ) → Whole f img x → AllByRecursion (Whole f img) ys → ((i : ℕ) → once (extent_at f.order img x) i + times (extents f.order img ys) i ≤ 1) → AllByRecursion (λ q. eqb (x / 28) q ≡ false) (map (λ y. y / 28) ys)
  apart_from x [] w ws once_each = tt
  apart_from x (y ∷ ys) w ws once_each = (far (eqb (x / 28) (y / 28)) refl, apart_from x ys w ws.1 (λ i. (let o = once_each i in omega (arith, o))))
    where
      held : (i : ℕ) → x ≤ i → i < x + 28 → y ≤ i → i < y + 28 → ⊥
      held i a b c d =
          let one = once_in (extent_at f.order img x) i a (let least = w.len_least in omega (arith, least, b)) in
          let two = once_in (extent_at f.order img y) i c (let least = ws.0.len_least in omega (arith, least, d)) in
          let most = once_each i in
          omega (arith, one, two, most)

      far : (b : Bool) → eqb (x / 28) (y / 28) ≡ b → eqb (x / 28) (y / 28) ≡ false
      far false e = e
      far true e =
          let same = eqb-true (x / 28) (y / 28) e in
          absurd (elim (cases_lt y x) [ inr l ↦ held y l (omega (arith, same, l)) (omega arith) (omega arith) | inl l ↦ held x (omega arith) (omega arith) (omega (arith, l)) (omega (arith, same, l)) ])

  pub apart_all : (xs : List ℕ) → AllByRecursion (Whole f img) xs → ((i : ℕ) → times (extents f.order img xs) i ≤ 1) → IsDistinct eqb (map (λ x. x / 28) xs)
  unfolding IsDistinct
  apart_all [] ws once_each = tt
  apart_all (x ∷ xs) ws once_each = IsDistinct-cons eqb (x / 28) (map (λ y. y / 28) xs) (apart_from x xs ws.0 ws.1 once_each) (apart_all xs ws.1 (λ i. (let o = once_each i in omega (arith, o))))

  below_all : (xs : List ℕ) → AllByRecursion (Whole f img) xs → (q : ℕ) → list_any (eqb q) (map (λ x. x / 28) xs) ≡ true → q < length img / 28 + 1
  below_all [] ws q e = absurd (false≢true e)
  below_all (x ∷ xs) ws q e = of (eqb q (x / 28)) refl (below_all xs ws.1 q)
    where
      of : (b : Bool) → eqb q (x / 28) ≡ b → (list_any (eqb q) (map (λ x. x / 28) xs) ≡ true → q < length img / 28 + 1) → q < length img / 28 + 1
      of true here rest = (let same = eqb-true q (x / 28) here in let within = ws.0.within in omega (arith, same, within))
      of false not_here rest = rest (ap (λ b. b || list_any (eqb q) (map (λ x. x / 28) xs)) (sym not_here) ∙ e)

  pub pairs_fit : (hands : List HandPair) → AcceptWith f img hands → length (order_of f img) ≤ length img / 28 + 1
  pairs_fit hands A =
      let xs = joined f.chains (chain_of f img) in
      let ws : AllByRecursion (Whole f img) xs = all_joined (Whole f img) f.chains (chain_of f img) (λ j l. whole_each f IsChained img (chain_of f img j) _ (A.chains j l)) in
      let few = length-le_from_distinct_below (map (λ x. x / 28) xs) (length img / 28 + 1) (apart_all xs ws held_once) (below_all xs ws) in
      let pairs = joined_few f.chains (λ j. pairs f.order img (chain_of f img j)) (chain_of f img) (λ j. pairs_few f.order img (chain_of f img j)) in
      omega (arith, few, pairs, length-map xs (λ (x : ℕ). x / 28))
    where
      held_once : (i : ℕ) → times (extents f.order img (joined f.chains (chain_of f img))) i ≤ 1
      held_once i =
          let most = A.apart i in
          let all = times_all f img (chain_of f img) (free_of f img) hands i in
          let same = ap (λ es. times es i) (extents_joined f.order img f.chains (chain_of f img)) in
          omega (arith, most, all, same)
