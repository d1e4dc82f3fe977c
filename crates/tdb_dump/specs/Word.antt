-- Words of commands: how a key or a value is given on a command line or in a script.
use Rattle.std.specs.Prelude.{◌≡◌, ◌≢◌, ℕ, ◌==◌, Bool, not, List, [], ◌∷◌, ◌++◌, length, ◌⊎◌}
use Rattle.tdb_dump.specs.Escape.{Letters, IsEscape}

-- in a word every byte but `\` stands for itself
unfoldable pub stands_in_word : ℕ → Bool
stands_in_word b = not (b == 92)

-- the two characters `""` alone are the empty byte string; any other word is one letter for each byte
abbrev pub IsWord : List ℕ → List ℕ → Type 0
IsWord word bytes = ((word ≡ 34 ∷ 34 ∷ []) × (bytes ≡ [])) ⊎ ((word ≢ 34 ∷ 34 ∷ []) × Letters stands_in_word word bytes)

-- the text begins with `\`, and not with an escape
abbrev pub BeginsBadly : List ℕ → Type 0
BeginsBadly text = (rest : List ℕ) × (text ≡ 92 ∷ rest) × ((front more : List ℕ) (b : ℕ) → text ≡ front ++ more → IsEscape front b → ⊥)

-- the first `\` of a word that has no two hexadecimal digits behind it
abbrev pub IsBadEscapeAt : List ℕ → ℕ → Type 0
IsBadEscapeAt word at = (front : List ℕ) × (rest : List ℕ) × (bytes : List ℕ) × (word ≡ front ++ rest) × (at ≡ length front) × Letters stands_in_word front bytes × BeginsBadly rest
