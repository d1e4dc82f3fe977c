-- The list of spots without the first entry of an offset, by the place of that entry.
use Rattle.std.proofs.Math.Numerals.{one-add}
use Rattle.std.proofs.Common.{◌≡◌, ◌==◌, ◌++◌, ◌∷◌, ◌∙◌, [], List, None, Option, Some, ap, arith, cond, drop, length, refl, suc, sym, ℕ, inl, inr}
use Rattle.std.specs.List.{position, position_or_len, remove}
use Rattle.std.proofs.lemmas.Bool.{cases_Bool, cases_lt, le-ltb, lt-ltb}
use Rattle.std.proofs.lemmas.List.{append-nil, drop_all, take_all}
use Rattle.tdb_locks.specs.Spots.{without_first}

abbrev place : ℕ → List ℕ → ℕ
place off spots = position_or_len (λ spot. spot == off) spots

removed : (off : ℕ) (spots : List ℕ) → remove spots (place off spots) ≡ without_first off spots
removed off [] = refl
removed off (spot ∷ spots) = elim (cases_Bool (spot == off)) [
  | inl same ↦ rw same
  | inr differs ↦ rw (differs, one-add) (ap (λ xs. spot ∷ xs) (removed off spots))
]

pub without_first-Some : (off i : ℕ) (spots : List ℕ) → position (λ spot. spot == off) spots ≡ Some i → remove spots i ≡ without_first off spots
without_first-Some off i spots found = elim (cases_lt (place off spots) (length spots)) [
  | inl within ↦
      let at : Some (place off spots) ≡ Some i = sym (ap (λ b. cond b (Some (place off spots)) None) (lt-ltb _ _ within)) ∙ found in
      let same : place off spots ≡ i = cc in
      rw (← same) (removed off spots)
  | inr past ↦
      let none : ◌≡◌ {A = Option ℕ} None (Some i) = sym (ap (λ b. cond b (Some (place off spots)) None) (le-ltb _ _ past)) ∙ found in
      absurd (cc)
]

pub without_first-None : (off : ℕ) (spots : List ℕ) → position (λ spot. spot == off) spots ≡ None → spots ≡ without_first off spots
without_first-None off spots none = elim (cases_lt (place off spots) (length spots)) [
  | inl within ↦
      let at : ◌≡◌ {A = Option ℕ} (Some (place off spots)) None = sym (ap (λ b. cond b (Some (place off spots)) None) (lt-ltb _ _ within)) ∙ none in
      absurd (cc)
  | inr past ↦
      sym (ap (λ xs. xs ++ drop (suc (place off spots)) spots) (take_all (place off spots) spots past) ∙ (ap (λ xs. spots ++ xs) (drop_all (suc (place off spots)) spots (omega arith)) ∙ append-nil spots)) ∙ removed off spots
]
