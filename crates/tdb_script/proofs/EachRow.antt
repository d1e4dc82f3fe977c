-- What holds of each row of a table holds of what a word has there.
use Rattle.std.proofs.Common.{◌≡◌, ℕ, List, [], ◌∷◌, ap, subst, Bool, true, false, Some, None, unwrap_or}
use Rattle.std.specs.Prelude.{if◌then◌else◌}
use Rattle.std.specs.Str.{bytes_eq}
use Rattle.tdb_script.specs.Rows.{row_of}

-- all rows of a table are so
abbrev pub OfRows : {A : Type 0} → (A → Type 0) → List (List ℕ × A) → Type 0
OfRows P [] = Unit {0}
OfRows P (row ∷ rows) = P row.1 × OfRows P rows

pub of_row : {A : Type 0} (P : A → Type 0) (rows : List (List ℕ × A)) (word : List ℕ) (x : A) → OfRows P rows → row_of rows word ≡ Some x → P x
of_row P [] word x all is = let wrong : None ≡ Some x = is in absurd (cc)
of_row P (row ∷ rows) word x all is = of (bytes_eq row.0 word) (of_row P rows word x all.1) is
  where
    of : (b : Bool) → (row_of rows word ≡ Some x → P x) → (if b then Some row.1 else row_of rows word) ≡ Some x → P x
    of true rest e = subst P (ap (λ o. unwrap_or o x) e) all.0
    of false rest e = rest e
