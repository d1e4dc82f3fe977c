-- What one line asks for, as the code tells it.
use Rattle.std.specs.Prelude.{◌≡◌, ◌≢◌, ◌+◌, ℕ, Bool, IsTrue, List, ◌∷◌, length, None, Some}
use Rattle.tdb_tool.specs.declared.asking.Asked.{Asked}
use Rattle.tdb_tool.specs.declared.asking.Asked.TheVariants as A
use Rattle.tdb_tool.specs.declared.fault.SessionEnd.TheVariants.{Ended, Malformed}
use Rattle.tdb_tool.specs.declared.order.Order.{Order}
use Rattle.tdb_tool.specs.Asking.{Says, IsBad, EndsBefore}

-- a line that begins at this place asks for this
abbrev pub LineIs : ℕ → List ℕ → Asked → Type 0
LineIs at line A.Nothing = Says at line None
LineIs at line (A.Order order) = Says at line (Some order) × (order ≢ Order.Quit)
LineIs at line (A.End Ended) = Says at line (Some Order.Quit)
LineIs at line (A.End (Malformed place)) = IsBad at line × (place ≡ at)

-- a line was read that begins at this place, and the others are left
abbrev pub ReadLine : Bool → ℕ → List (List ℕ) → ℕ → List (List ℕ) → (List ℕ → Type 0) → Type 0
ReadLine tells at old next new P = (line : List ℕ) × (IsTrue tells → old ≡ line ∷ new) × (next ≡ at + length line + 1) × P line

-- what is next of these lines, of which the first begins at this place
abbrev pub NextIs : Bool → ℕ → List (List ℕ) → Asked → ℕ → List (List ℕ) → Type 0
NextIs tells at old A.Nothing next new = ReadLine tells at old next new (λ line. Says at line None)
NextIs tells at old (A.Order order) next new = ReadLine tells at old next new (λ line. Says at line (Some order) × (order ≢ Order.Quit))
NextIs tells at old (A.End end) next new = IsTrue tells → EndsBefore at old end
