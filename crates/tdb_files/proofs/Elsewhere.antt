-- A set of texts after changes at one of them.
use Rattle.std.proofs.Common.{◌≡◌, ◌≢◌, List, ℕ, Bool, cond, inl, inr, sym, ap, ◌∙◌}
use Rattle.std.proofs.lemmas.Bool.{cases_Bool}
use Rattle.std.proofs.lemmas.Slice.Eq.{bytes_eq-Decides}
use Rattle.std.specs.Str.{bytes_eq}
use Rattle.tdb_disk.proofs.SameNames.{same_or_apart}
use Rattle.tdb_disk.specs.Names.{SameAll, SameBut}

-- another text is in the set as before
pub same_elsewhere : (at other : List ℕ) (here there : Bool) → other ≢ at → cond (bytes_eq at other) here there ≡ there
same_elsewhere at other here there apart =
    elim (cases_Bool (bytes_eq at other)) [
      | inl equal ↦ absurd (apart (sym ((bytes_eq-Decides at other).0 equal)))
      | inr differ ↦ ap (λ b. cond b here there) differ
    ]

-- two changes at one name leave a function as it was where the second leaves it so there
pub same_after_two : {X : Type 0} (at : List ℕ) (zero one two : List ℕ → X)
    → SameBut at zero one → SameBut at one two → two at ≡ zero at → SameAll zero two
same_after_two at zero one two first second back name =
    elim (same_or_apart name at) [
      | inl is_at ↦ ap two is_at ∙ back ∙ sym (ap zero is_at)
      | inr apart ↦ second name apart ∙ first name apart
    ]
