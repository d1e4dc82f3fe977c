-- Maps with pairs stored in them.
use Rattle.std.proofs.Common.{◌≡◌, ℕ, true, false, cond, List, [], ◌∷◌, ◌++◌, None, Some, refl, sym, ◌∙◌, ap, subst, inl, inr}
use Rattle.std.specs.FinMap.{get, insert}
use Rattle.std.specs.List.{AllByRecursion, IsDistinct}
use Rattle.std.specs.Map.{lookup, keys_of}
use Rattle.std.specs.Option.{option_or}
use Rattle.std.proofs.lemmas.Bool.{cases_Bool}
use Rattle.std.proofs.lemmas.Map.Keys.{IsDistinct-head, IsDistinct-tail}
use Rattle.tdb_space.specs.Pairs.{same_key}
use Rattle.tdb_space.proofs.Pairs.Maps.{same_key-eq}
use Rattle.tdb_law.specs.Openers.{Map, is_key}
use Rattle.tdb_law.proofs.HandsOut.{same_test}
use Rattle.tdb_law.proofs.Maps.{get_put}
use Rattle.tdb_merge.specs.Parts.{stored}

-- some pairs, and then others
pub stored_join : (m : Map) (front rest : List (List ℕ × List ℕ)) → stored m (front ++ rest) ≡ stored (stored m front) rest
stored_join m [] rest = refl
stored_join m (p ∷ front) rest = stored_join (insert m p.0 p.1) front rest

-- a key that differs from those of some pairs isn't found among them
absent : (k : List ℕ) (given : List (List ℕ × List ℕ)) → AllByRecursion (λ y. same_key k y ≡ false) (keys_of given) → lookup (same_key k) given ≡ None
absent k [] all = refl
absent k (p ∷ given) all = rw all.0 (absent k given all.1)

module _ (m : Map) (p : List ℕ × List ℕ) (given : List (List ℕ × List ℕ)) (k : List ℕ) where
  -- what is found for the key of the first pair, and for another
  first_here : same_key k p.0 ≡ true → lookup (same_key k) given ≡ None → option_or (lookup (same_key k) given) (get (insert m p.0 p.1) k) ≡ option_or (lookup (same_key k) (p ∷ given)) (get m k)
  first_here same none =
      let met : is_key p.0 k ≡ true = same_test k p.0 ∙ same in
      let put : get (insert m p.0 p.1) k ≡ Some p.1 = get_put m p.0 p.1 k ∙ ap (λ b. cond b (Some p.1) (get m k)) met in
      let found : lookup (same_key k) (p ∷ given) ≡ Some p.1 = rw same refl in
      ap (λ o. option_or o (get (insert m p.0 p.1) k)) none ∙ put ∙ sym (ap (λ o. option_or o (get m k)) found)

  first_other : same_key k p.0 ≡ false → option_or (lookup (same_key k) given) (get (insert m p.0 p.1) k) ≡ option_or (lookup (same_key k) (p ∷ given)) (get m k)
  first_other other =
      let passed : is_key p.0 k ≡ false = same_test k p.0 ∙ other in
      let put : get (insert m p.0 p.1) k ≡ get m k = get_put m p.0 p.1 k ∙ ap (λ b. cond b (Some p.1) (get m k)) passed in
      let found : lookup (same_key k) (p ∷ given) ≡ lookup (same_key k) given = rw other refl in
      ap (option_or (lookup (same_key k) given)) put ∙ sym (ap (λ o. option_or o (get m k)) found)

-- of pairs with different keys the map gives what they give, and else what it gave
pub stored_gives : (m : Map) (given : List (List ℕ × List ℕ)) → IsDistinct same_key (keys_of given) → (k : List ℕ) → get (stored m given) k ≡ option_or (lookup (same_key k) given) (get m k)
stored_gives m [] differ k = refl
stored_gives m (p ∷ given) differ k =
    stored_gives (insert m p.0 p.1) given (IsDistinct-tail same_key p.0 (keys_of given) differ) k
    ∙ (elim (cases_Bool (same_key k p.0)) [
      | inl same ↦
          let apart : AllByRecursion (λ y. same_key k y ≡ false) (keys_of given) =
          subst (λ q. AllByRecursion (λ y. same_key q y ≡ false) (keys_of given)) (sym (same_key-eq k p.0 same)) (IsDistinct-head same_key p.0 (keys_of given) differ) in
          first_here m p given k same (absent k given apart)
      | inr other ↦ first_other m p given k other
    ])
