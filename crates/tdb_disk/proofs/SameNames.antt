-- Functions of a name that differ at a few names alone.
use Rattle.std.proofs.Common.{◌≡◌, ◌≢◌, ◌⊎◌, inl, inr, List, ℕ, sym, ◌∙◌, ap}
use Rattle.std.proofs.lemmas.Bool.{cases_Bool, false≢true}
use Rattle.std.proofs.lemmas.Slice.Eq.{bytes_eq-Decides}
use Rattle.std.specs.Str.{bytes_eq}
use Rattle.tdb_disk.specs.Names.{SameAll, SameBut}

-- two names are the same or not
pub same_or_apart : (xs ys : List ℕ) → (xs ≡ ys) ⊎ (xs ≢ ys)
same_or_apart xs ys =
    elim (cases_Bool (bytes_eq xs ys)) [ inl equal ↦ inl ((bytes_eq-Decides xs ys).0 equal) | inr other ↦ inr (λ same. false≢true (sym other ∙ (bytes_eq-Decides xs ys).1 same)) ]

-- four changes, at one name, another, the first and the other again, leave a function as it was where they leave it so
-- at both
pub same_after_four : {X : Type 0} (to from : List ℕ) (zero one two three four : List ℕ → X)
    → SameBut to zero one → SameBut from one two → SameBut to two three → SameBut from three four → from ≢ to
    → four from ≡ zero from → three to ≡ zero to → SameAll zero four
same_after_four to from zero one two three four first second third fourth apart at_from at_to name =
    elim (same_or_apart name from) [
      | inl is_from ↦ ap four is_from ∙ at_from ∙ sym (ap zero is_from)
      | inr not_from ↦ elim (same_or_apart name to) [
        | inl is_to ↦ fourth name not_from ∙ ap three is_to ∙ at_to ∙ sym (ap zero is_to)
        | inr not_to ↦ fourth name not_from ∙ third name not_to ∙ second name not_from ∙ first name not_to
      ]
    ]
