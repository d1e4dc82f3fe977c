-- No two used records of a chain have the same key, so what is found of a key stands at one place.
use Rattle.std.proofs.Common.{◌≡◌, ℕ, List, [], ◌∷◌, true, false, sym, ◌∙◌, ap, subst, inl, inr}
use Rattle.std.specs.List.{IsDistinct}
use Rattle.std.specs.Map.{keys_of}
use Rattle.std.proofs.lemmas.Bool.{cases_eq, false≢true}
use Rattle.std.proofs.lemmas.Map.Keys.{IsDistinct-head, IsDistinct-tail}
use Rattle.tdb_words.specs.declared.word.Order.{Order}
use Rattle.tdb_words.specs.declared.record.TheConstants.{USED}
use Rattle.tdb_space.specs.Form.{Form}
use Rattle.tdb_space.specs.Record.{key_at, magic_of}
use Rattle.tdb_space.specs.Chain.{Member, chain_of}
use Rattle.tdb_space.specs.Pairs.{home, pairs, same_key}
use Rattle.tdb_space.specs.Extents.{HandPair}
use Rattle.tdb_space.specs.Accepted.{AcceptWith}
use Rattle.tdb_space.proofs.Chain.Walks.{member_cases}
use Rattle.tdb_space.proofs.Chain.Members.{led_member}
use Rattle.tdb_space.proofs.Pairs.Maps.{home_below, pairs_used, pairs_other, same_key-refl}
use Rattle.tdb_space.proofs.Accepted.Removes.{key_among}
use Rattle.tdb_chain.specs.declared.place.Place.{Place}
use Rattle.tdb_chain.specs.Place.{HoldsKey}

-- the first of these is used: no used one behind it has its key
head_apart : (o : Order) (img : List ℕ) (x : ℕ) (xs : List ℕ) (y : ℕ) → IsDistinct same_key (key_at o img x ∷ keys_of (pairs o img xs)) → Member y xs → magic_of o img y ≡ USED → key_at o img x ≡ key_at o img y → ⊥
head_apart o img x xs y distinct m used same =
    let apart : same_key (key_at o img x) (key_at o img y) ≡ false = key_among o img xs (λ q. same_key (key_at o img x) q ≡ false) y (IsDistinct-head same_key (key_at o img x) (keys_of (pairs o img xs)) distinct) m used in
    let met : same_key (key_at o img x) (key_at o img y) ≡ true = subst (λ k. same_key (key_at o img x) k ≡ true) same (same_key-refl (key_at o img x)) in
    false≢true (sym apart ∙ met)

used_once : (o : Order) (img xs : List ℕ) (y z : ℕ) → IsDistinct same_key (keys_of (pairs o img xs)) → Member y xs → Member z xs → magic_of o img y ≡ USED → magic_of o img z ≡ USED → key_at o img y ≡ key_at o img z → y ≡ z
used_once o img [] y z distinct m n used_y used_z same = absurd (false≢true m)
used_once o img (x ∷ xs) y z distinct m n used_y used_z same = elim (member_cases y x xs m) [
  | inl here ↦ elim (member_cases z x xs n) [
    | inl also ↦ here ∙ sym also
    | inr there ↦ absurd (head_apart o img x xs z (spread (subst (λ i. magic_of o img i ≡ USED) here used_y)) there used_z (ap (key_at o img) (sym here) ∙ same))
  ]
  | inr rest ↦ elim (member_cases z x xs n) [
    | inl here ↦ absurd (head_apart o img x xs y (spread (subst (λ i. magic_of o img i ≡ USED) here used_z)) rest used_y (ap (key_at o img) (sym here) ∙ sym same))
    | inr there ↦ used_once o img xs y z rest_distinct rest there used_y used_z same
  ]
]
  where
    spread : magic_of o img x ≡ USED → IsDistinct same_key (key_at o img x ∷ keys_of (pairs o img xs))
    spread e = subst (λ ps. IsDistinct same_key (keys_of ps)) (pairs_used o img x xs e) distinct

    rest_distinct : IsDistinct same_key (keys_of (pairs o img xs))
    rest_distinct = elim (cases_eq (magic_of o img x) USED) [
      | inl e ↦ IsDistinct-tail same_key (key_at o img x) (keys_of (pairs o img xs)) (spread e)
      | inr other ↦ subst (λ ps. IsDistinct same_key (keys_of ps)) (pairs_other o img x xs other) distinct
    ]

module _ (f : Form) (img key : List ℕ) where
  there : (p : Place) → HoldsKey f img key p → Member p.off (chain_of f img (home f key))
  there p P = subst (λ j. Member p.off (chain_of f img j)) P.at_home (led_member _ (chain_of f img P.place.chain) _ p.off P.place.leads)

  is_used : (p : Place) → HoldsKey f img key p → magic_of f.order img p.off ≡ USED
  is_used p P = sym (ap (λ h. h.magic) P.place.header) ∙ P.used

  pub found_once : (hands : List HandPair) → AcceptWith f img hands → (p q : Place) → HoldsKey f img key p → HoldsKey f img key q → p.off ≡ q.off
  found_once hands A p q P Q =
      used_once f.order img (chain_of f img (home f key)) p.off q.off (A.keys (home f key) (home_below f key A.some)) (there p P) (there q Q) (is_used p P) (is_used q Q) (P.has_key ∙ sym Q.has_key)
