-- A numeral is a text.
use Rattle.std.proofs.Common.{ℕ, zero, suc, ◌<◌, List, [], ◌∷◌, arith}
use Rattle.std.proofs.lemmas.Bool.Decides.{nat_tests}
use Rattle.std.proofs.lemmas.Str.{IsUtf8-from_ascii}
use Rattle.std.specs.Char.{digit_value}
use Rattle.std.specs.Str.{IsUtf8, IsAscii}
use Rattle.std.specs.Str.Parse.{AllDigits}

digit_ascii : (c : ℕ) → digit_value c < 10 → c < 128
digit_ascii c h = grind (arith, nat_tests)

digits_ascii : (ds : List ℕ) → AllDigits 10 ds → IsAscii ds
digits_ascii [] h i = omega arith
digits_ascii (c ∷ cs) h zero = digit_ascii c h.0
digits_ascii (c ∷ cs) h (suc i) = digits_ascii cs h.1 i

-- digits are a text
pub digits_text : (ds : List ℕ) → AllDigits 10 ds → IsUtf8 ds
digits_text ds h = IsUtf8-from_ascii ds (digits_ascii ds h)
