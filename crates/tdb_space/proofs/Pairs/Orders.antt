-- No key comes twice in the order of an image, so its map is a finite map with as many keys as the order has pairs.
use Rattle.std.proofs.Common.{◌≡◌, ℕ, zero, suc, ◌<◌, List, [], ◌∷◌, ◌++◌, false, sym, ◌∙◌, ap, subst, inl, inr, arith}
use Rattle.std.specs.Prelude.{◌%◌}
use Rattle.std.specs.Map.{keys_of}
use Rattle.std.specs.List.{IsDistinct, AllByRecursion}
use Rattle.std.proofs.lemmas.Bool.{cases_eq}
use Rattle.std.proofs.lemmas.List.{map-append}
use Rattle.std.proofs.lemmas.Map.Keys.{IsDistinct-cons, IsDistinct-head, IsDistinct-tail}
use Rattle.tdb_words.specs.declared.record.TheConstants.{USED}
use Rattle.tdb_space.specs.Form.{Form}
use Rattle.tdb_space.specs.Record.{magic_of}
use Rattle.tdb_space.specs.Chain.{chain_of}
use Rattle.tdb_space.specs.Pairs.{joined, pairs, order_of, home, same_key}
use Rattle.tdb_space.specs.Extents.{HandPair}
use Rattle.tdb_space.specs.Accepted.{AllFiled, KeysDiffer, AcceptWith}
use Rattle.tdb_space.proofs.Pairs.Maps.{pairs_used, pairs_other, same_key-other}

-- each key of a chain is filed in it
keys_home : (f : Form) (img : List ℕ) (j : ℕ) (xs : List ℕ) → AllFiled f img j xs → AllByRecursion (λ q. home f q ≡ j) (keys_of (pairs f.order img xs))
keys_home f img j [] filed = tt
keys_home f img j (x ∷ xs) filed =
    let rest = keys_home f img j xs filed.1 in
    elim (cases_eq (magic_of f.order img x) USED) [
      | inl used ↦
          subst (λ ps. AllByRecursion (λ q. home f q ≡ j) (keys_of ps)) (sym (pairs_used f.order img x xs used))
          (ap (λ h. h % f.chains) (sym (filed.0 used).hashed) ∙ (filed.0 used).placed, rest)
      | inr other ↦ subst (λ ps. AllByRecursion (λ q. home f q ≡ j) (keys_of ps)) (sym (pairs_other f.order img x xs other)) rest
    ]

all_append : (P : List ℕ → Type 0) (xs ys : List (List ℕ)) → AllByRecursion P xs → AllByRecursion P ys → AllByRecursion P (xs ++ ys)
all_append P [] ys p q = q
all_append P (x ∷ xs) ys p q = (p.0, all_append P xs ys p.1 q)

all_weaker : (P Q : List ℕ → Type 0) → ((q : List ℕ) → P q → Q q) → (xs : List (List ℕ)) → AllByRecursion P xs → AllByRecursion Q xs
all_weaker P Q weaker [] all = tt
all_weaker P Q weaker (x ∷ xs) all = (weaker x all.0, all_weaker P Q weaker xs all.1)

-- two lists of different keys, of which none is in both
distinct_append : (P Q : List ℕ → Type 0) → ((x y : List ℕ) → P x → Q y → same_key x y ≡ false) → (xs ys : List (List ℕ)) → AllByRecursion P xs → AllByRecursion Q ys → IsDistinct same_key xs → IsDistinct same_key ys → IsDistinct same_key (xs ++ ys)
distinct_append P Q apart [] ys p q dx dy = dy
distinct_append P Q apart (x ∷ xs) ys p q dx dy =
    IsDistinct-cons same_key x (xs ++ ys)
    (all_append (λ y. same_key x y ≡ false) xs ys (IsDistinct-head same_key x xs dx) (all_weaker Q (λ y. same_key x y ≡ false) (λ y there. apart x y p.0 there) ys q))
    (distinct_append P Q apart xs ys p.1 q (IsDistinct-tail same_key x xs dx) dy)

-- the keys of the first n chains differ, and each is filed in one of them
record Spread (f : Form) (keys : List (List ℕ)) (n : ℕ) : Type 0 where
  below : AllByRecursion (λ q. home f q < n) keys
  differ : IsDistinct same_key keys

spread : (f : Form) (img : List ℕ) (n : ℕ) → ((j : ℕ) → j < n → AllFiled f img j (chain_of f img j)) → ((j : ℕ) → j < n → KeysDiffer f img (chain_of f img j)) → Spread f (keys_of (joined n (λ j. pairs f.order img (chain_of f img j)))) n
unfolding IsDistinct
spread f img zero filed differ = record { below = tt; differ = tt }
spread f img (suc n) filed differ =
    let front = spread f img n (λ j low. filed j (omega arith)) (λ j low. differ j (omega arith)) in
    let here = keys_home f img n (chain_of f img n) (filed n (omega arith)) in
    let fronts = joined n (λ j. pairs f.order img (chain_of f img j)) in
    let lasts = pairs f.order img (chain_of f img n) in
    let split : keys_of (fronts ++ lasts) ≡ keys_of fronts ++ keys_of lasts = map-append (λ (p : List ℕ × List ℕ). p.0) fronts lasts in
    record {
      below = subst (AllByRecursion (λ q. home f q < suc n)) (sym split)
          (all_append (λ q. home f q < suc n) (keys_of fronts) (keys_of lasts)
          (all_weaker (λ q. home f q < n) (λ q. home f q < suc n) (λ q low. omega (arith, low)) (keys_of fronts) front.below)
          (all_weaker (λ q. home f q ≡ n) (λ q. home f q < suc n) (λ q e. omega (arith, e)) (keys_of lasts) here));
      differ = subst (IsDistinct same_key) (sym split)
          (distinct_append (λ q. home f q < n) (λ q. home f q ≡ n) (λ x y low e. same_key-other x y (λ same. absurd (omega (arith, low, e, ap (home f) same)))) (keys_of fronts) (keys_of lasts) front.below here front.differ (differ n (omega arith)));
    }

-- no key comes twice in the order of an accepted image
pub order_distinct : (f : Form) (img : List ℕ) (hands : List HandPair) → AcceptWith f img hands → IsDistinct same_key (keys_of (order_of f img))
order_distinct f img hands A = (spread f img f.chains A.filed A.keys).differ
