-- Each word of the tables is a text, so bytes that are none have no row.
use Rattle.std.proofs.Common.{◌≡◌, ℕ, zero, suc, ◌<◌, List, [], ◌∷◌, refl, sym, subst, Option, Some, None, true, false, Bool, ◌&&◌, arith, if◌then◌else◌, nat_lt}
use Rattle.std.proofs.lemmas.Bool.{false≢true}
use Rattle.std.proofs.lemmas.Bool.Decides.{nat_tests}
use Rattle.std.proofs.lemmas.Slice.Eq.{bytes_eq-Decides}
use Rattle.std.proofs.lemmas.Str.{IsUtf8-from_ascii}
use Rattle.std.specs.List.{list_all}
use Rattle.std.specs.Str.{bytes_eq, IsUtf8, IsAscii}
use Rattle.tdb_script.specs.Rows.{row_of}

and_left : (a b : Bool) → (a && b) ≡ true → a ≡ true
and_left true b e = refl
and_left false b e = e

and_right : (a b : Bool) → (a && b) ≡ true → b ≡ true
and_right true b e = e
and_right false b e = absurd (false≢true e)

low : (b : ℕ) → nat_lt b 128 ≡ true → b < 128
low b e = grind (arith, nat_tests)

abbrev pub is_low : List ℕ → Bool
is_low bytes = list_all (λ b. nat_lt b 128) bytes

low_ascii : (bytes : List ℕ) → is_low bytes ≡ true → IsAscii bytes
low_ascii [] e i = omega arith
low_ascii (b ∷ bytes) e zero = low b (and_left (nat_lt b 128) (is_low bytes) e)
low_ascii (b ∷ bytes) e (suc i) = low_ascii bytes (and_right (nat_lt b 128) (is_low bytes) e) i

not_true : (b : Bool) → (b ≡ true → ⊥) → b ≡ false
not_true true bad = absurd (bad refl)
not_true false bad = refl

pub no_text_row : {A : Type 0} (rows : List (List ℕ × A)) → list_all (λ row. is_low row.0) rows ≡ true → (name : List ℕ) → (IsUtf8 name → ⊥) → None ≡ row_of rows name
no_text_row [] e name bad = refl
no_text_row (row ∷ rows) e name bad =
    let text : IsUtf8 row.0 = IsUtf8-from_ascii row.0 (low_ascii row.0 (and_left (is_low row.0) (list_all (λ r. is_low r.0) rows) e)) in
    let differs : bytes_eq row.0 name ≡ false = not_true (bytes_eq row.0 name) (λ t. bad (subst IsUtf8 ((bytes_eq-Decides row.0 name).0 t) text)) in
    let rest : None ≡ row_of rows name = no_text_row rows (and_right (is_low row.0) (list_all (λ r. is_low r.0) rows) e) name bad in
    subst (λ b. None ≡ (if b then Some row.1 else row_of rows name)) (sym differs) rest

-- a word that isn't a row's is looked for in the rows behind
pub skip_row : {A : Type 0} {found behind : Option A} (word text : List ℕ) (x : A) → (text ≡ word → ⊥) → found ≡ behind → found ≡ (if bytes_eq word text then Some x else behind)
skip_row {found = found} {behind = behind} word text x other e =
    let differs : bytes_eq word text ≡ false = not_true (bytes_eq word text) (λ t. other (sym ((bytes_eq-Decides word text).0 t))) in
    subst (λ b. found ≡ (if b then Some x else behind)) (sym differs) e
