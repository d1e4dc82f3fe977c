-- Two keys are the same either way round.
use Rattle.std.proofs.Common.{◌≡◌, ℕ, List, true, sym, ◌∙◌, subst, inl, inr}
use Rattle.std.proofs.lemmas.Bool.{cases_Bool, false≢true}
use Rattle.tdb_space.specs.Pairs.{same_key}
use Rattle.tdb_space.proofs.Pairs.Maps.{same_key-eq, same_key-refl, same_key-other}

pub same_key-sym : (a b : List ℕ) → same_key a b ≡ same_key b a
same_key-sym a b = elim (cases_Bool (same_key a b)) [
  | inl is ↦ is ∙ sym (subst (λ n. same_key n a ≡ true) (same_key-eq a b is) (same_key-refl a))
  | inr other ↦ other ∙ sym (same_key-other b a (λ same. false≢true (sym other ∙ subst (λ n. same_key a n ≡ true) (sym same) (same_key-refl a))))
]
