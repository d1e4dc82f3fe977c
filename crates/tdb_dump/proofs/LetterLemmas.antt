-- Lemmas on letters.
use Rattle.std.proofs.Common.{ℕ, Bool, List, [], ◌∷◌, ◌++◌, refl, ap, ◌∙◌, append_assoc, arith}
use Rattle.std.proofs.lemmas.Grind.{common_steps}
use Rattle.tdb_dump.specs.Escape.{IsLetter, Letters}

-- one letter more at the end
pub Letters-append : (stands : ℕ → Bool) (text : List ℕ) (bytes : List ℕ) (front : List ℕ) (b : ℕ) → Letters stands text bytes → IsLetter stands front b → Letters stands (text ++ front) (bytes ++ b ∷ [])
Letters-append stands text [] front b h letter = (front, [], ap (λ t. t ++ front) h ∙ grind (arith, common_steps), letter, refl)
Letters-append stands text (c ∷ bytes) front b h letter =
    (h.0, h.1 ++ front, ap (λ t. t ++ front) h.2 ∙ append_assoc h.0 h.1 front, h.3, Letters-append stands h.1 bytes front b h.4 letter)
