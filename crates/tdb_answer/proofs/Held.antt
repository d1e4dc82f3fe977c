-- What a set of files holds, once a file was taken out of it and given back as it was.
use Rattle.std.proofs.Common.{◌≡◌, ◌⊎◌, ℕ, List, Option, None, Some, refl, sym, ◌∙◌, ap, inl, inr}
use Rattle.std.specs.Prelude.{unwrap_or}
use Rattle.std.proofs.lemmas.Bool.{cases_Bool, false≢true}
use Rattle.tdb_disk.specs.History.{History}
use Rattle.tdb_space.specs.Pairs.{same_key}
use Rattle.tdb_open.specs.Opening.{HeldOrUndone, SameOrUndone, UndoneIfOpen}
use Rattle.tdb_open.proofs.Openings.{same_or_undone}
use Rattle.tdb_space.proofs.Pairs.Maps.{same_key-eq, same_key-refl}

-- two names are one, or they differ
pub same_or_other : (a b : List ℕ) → (a ≡ b) ⊎ (a ≡ b → ⊥)
same_or_other a b = elim (cases_Bool (same_key a b)) [
  | inl same ↦ inl (same_key-eq a b same)
  | inr other ↦ inr (λ e. false≢true (sym other ∙ ap (same_key a) (sym e) ∙ same_key-refl a))
]

-- one file is held at a name
pub same_held : (a b : History) (o : Option History) → o ≡ Some a → o ≡ Some b → a ≡ b
same_held a b o p q = ap (λ x. unwrap_or x a) (sym p ∙ q)

-- what is held at a name whose file is as it was, or was undone
pub held_kept : (old now : Option History) (was is : History) → old ≡ Some was → now ≡ Some is → SameOrUndone was is → HeldOrUndone old now
held_kept old now was is there stands (inl undone) = inr (was, is, there, stands, undone)
held_kept old now was is there stands (inr same) = inl (stands ∙ ap Some same ∙ sym there)

pub held_undone : (old now : Option History) (was is : History) → old ≡ Some was → now ≡ Some is → UndoneIfOpen was is → HeldOrUndone old now
held_undone old now was is there stands left = held_kept old now was is there stands (same_or_undone was is left)

-- the file that is there is what is found at its name
pub held_there : (held : Option History) (fallback h : History) → (held ≡ None → ⊥) → h ≡ unwrap_or held fallback → held ≡ Some h
held_there None fallback h there e = absurd (there refl)
held_there (Some x) fallback h there e = ap Some (sym e)
