-- The pairs that can be read, place by place.
use Rattle.std.proofs.Common.{◌≡◌, ℕ, zero, suc, ◌+◌, ◌*◌, ◌<◌, ◌≤◌, Bool, true, false, cond, List, [], ◌∷◌, ◌++◌, length, map, filter, append_assoc, append-nil, refl, sym, ◌∙◌, ap, arith}
use Rattle.std.specs.Prelude.{◌/◌}
use Rattle.tdb_space.specs.Form.{Form, data_start}
use Rattle.tdb_rescue.specs.Rescued.{fours, is_readable, entry_at, rescued}
use Rattle.tdb_rescue.proofs.Passing.{none_at_end}

-- the entries of the first n places from one on
abbrev pub rescued_from : Form → List ℕ → ℕ → ℕ → List (ℕ × List ℕ × List ℕ)
rescued_from f img at n = map (entry_at f.order img) (filter (is_readable f img) (fours at n))

-- by what is found at the first of them
pub first_place : (f : Form) (img : List ℕ) (at n : ℕ) (b : Bool) → is_readable f img at ≡ b
    → rescued_from f img at (suc n) ≡ map (entry_at f.order img) (cond b (at ∷ filter (is_readable f img) (fours (at + 4) n)) (filter (is_readable f img) (fours (at + 4) n)))
first_place f img at n b e =
    ap (λ x. map (entry_at f.order img) (cond x (at ∷ filter (is_readable f img) (fours (at + 4) n)) (filter (is_readable f img) (fours (at + 4) n)))) e

none_left : (f : Form) (img : List ℕ) (at n : ℕ) → length img < at + 28 → rescued_from f img at n ≡ []
none_left f img at zero near = refl
none_left f img at (suc n) near = first_place f img at n false (none_at_end f img at near) ∙ none_left f img (at + 4) n (omega (arith, near))

-- These entries are those of all places before one; and no place of the image is left out behind it
pub record UpTo (f : Form) (img : List ℕ) (at : ℕ) (given : List (ℕ × List ℕ × List ℕ)) : Type 0 where
  pub left : ℕ
  pub split : rescued f img ≡ given ++ rescued_from f img at left
  pub enough : length img ≤ at + 4 * left

pub up_to_start : (f : Form) (img : List ℕ) (at : ℕ) → at ≡ data_start f → UpTo f img at []
up_to_start f img at e = record { left = length img / 4; split = ap (λ x. rescued_from f img x (length img / 4)) (sym e); enough = omega (arith, e) }

module _ (f : Form) (img : List ℕ) (at : ℕ) (given : List (ℕ × List ℕ × List ℕ)) (within : at + 4 ≤ length img) where
  passed : (n : ℕ) → rescued f img ≡ given ++ rescued_from f img at n → length img ≤ at + 4 * n → is_readable f img at ≡ false → UpTo f img (at + 4) given
  passed zero split enough e = absurd (omega (arith, enough, within))
  passed (suc n) split enough e = record { left = n; split = split ∙ ap (λ xs. given ++ xs) (first_place f img at n false e); enough = omega (arith, enough) }

  met : (n : ℕ) → rescued f img ≡ given ++ rescued_from f img at n → length img ≤ at + 4 * n → is_readable f img at ≡ true → UpTo f img (at + 4) (given ++ entry_at f.order img at ∷ [])
  met zero split enough e = absurd (omega (arith, enough, within))
  met (suc n) split enough e = record {
    left = n;
    split = split ∙ ap (λ xs. given ++ xs) (first_place f img at n true e) ∙ sym (append_assoc given (entry_at f.order img at ∷ []) (rescued_from f img (at + 4) n));
    enough = omega (arith, enough);
  }

  pub up_to_passed : UpTo f img at given → is_readable f img at ≡ false → UpTo f img (at + 4) given
  up_to_passed u = passed u.left u.split u.enough

  pub up_to_met : UpTo f img at given → is_readable f img at ≡ true → UpTo f img (at + 4) (given ++ entry_at f.order img at ∷ [])
  up_to_met u = met u.left u.split u.enough

pub up_to_end : (f : Form) (img : List ℕ) (at : ℕ) (given : List (ℕ × List ℕ × List ℕ)) → UpTo f img at given → length img < at + 28 → rescued f img ≡ given
up_to_end f img at given u near = u.split ∙ ap (λ xs. given ++ xs) (none_left f img at u.left near) ∙ append-nil given
