-- How a byte stands in a text: as it is, or as an escape of two hexadecimal digits (the form of tdbdump).
use Rattle.std.specs.Prelude.{◌≡◌, ℕ, ◌+◌, ◌-◌, ◌*◌, ◌/◌, ◌%◌, ◌==◌, Bool, true, ◌&&◌, not, Option, None, Some, List, [], ◌∷◌, ◌++◌, nat_lt, nat_le, if◌then◌else◌, ◌⊎◌}
use Rattle.std.specs.List.{flat_map}

-- the bytes 0x20 to 0x7E, other than `"` and `\`, stand as they are
unfoldable pub is_plain : ℕ → Bool
is_plain b = nat_le 32 b && nat_le b 126 && not (b == 34) && not (b == 92)

-- a hexadecimal digit, in upper case
abbrev pub upper_digit : ℕ → ℕ
upper_digit v = if nat_lt v 10 then 48 + v else 55 + v

-- a byte as two digits
abbrev pub hex_byte : ℕ → List ℕ
hex_byte b = upper_digit (b / 16) ∷ upper_digit (b % 16) ∷ []

-- bytes as digits, two for each
abbrev pub hex : List ℕ → List ℕ
hex bytes = flat_map hex_byte bytes

-- a byte as it is written: any byte that isn't plain is `\` and two digits in upper case
unfoldable pub escaped_byte : ℕ → List ℕ
escaped_byte b = if is_plain b then b ∷ [] else 92 ∷ hex_byte b

-- bytes as they are written
abbrev pub escaped : List ℕ → List ℕ
escaped bytes = flat_map escaped_byte bytes

-- what a hexadecimal digit of either case stands for
unfoldable pub hex_value : ℕ → Option ℕ
hex_value c =
    if nat_le 48 c && nat_le c 57 then Some (c - 48)
    else if nat_le 65 c && nat_le c 70 then Some (c - 55)
    else if nat_le 97 c && nat_le c 102 then Some (c - 87)
    else None

-- `\` and two hexadecimal digits of either case stand for one byte
abbrev pub IsEscape : List ℕ → ℕ → Type 0
IsEscape text b = (high : ℕ) × (low : ℕ) × (h : ℕ) × (l : ℕ) × (text ≡ 92 ∷ h ∷ l ∷ []) × (hex_value h ≡ Some high) × (hex_value l ≡ Some low) × (b ≡ 16 * high + low)

-- the text of one byte, as a reader takes it: itself, where the byte may stand so, or an escape
abbrev pub IsLetter : (ℕ → Bool) → List ℕ → ℕ → Type 0
IsLetter stands text b = ((text ≡ b ∷ []) × (stands b ≡ true)) ⊎ IsEscape text b

-- the text is one letter for each byte, in order
abbrev pub Letters : (ℕ → Bool) → List ℕ → List ℕ → Type 0
Letters stands text [] = text ≡ []
Letters stands text (b ∷ bytes) = (front : List ℕ) × (rest : List ℕ) × (text ≡ front ++ rest) × IsLetter stands front b × Letters stands rest bytes
