-- Words of pairs of hexadecimal digits.
use Rattle.std.specs.Prelude.{ℕ, ◌+◌, ◌*◌, List, [], ◌∷◌, Option, None, Some, if◌then◌else◌}
use Rattle.std.specs.Option.{option_map}
use Rattle.std.specs.Str.{bytes_eq}
use Rattle.tdb_dump.specs.Escape.{hex_value}

-- the byte that two digits write
abbrev pub byte_of : Option ℕ → Option ℕ → Option ℕ
byte_of None low = None
byte_of (Some high) None = None
byte_of (Some high) (Some low) = Some (16 * high + low)

-- the byte that the two digits in front write
abbrev pub byte_in_front : List ℕ → Option ℕ
byte_in_front [] = None
byte_in_front (h ∷ []) = None
byte_in_front (h ∷ l ∷ digits) = byte_of (hex_value h) (hex_value l)

-- a byte in front of others, where they are all there
abbrev pub onto : Option ℕ → Option (List ℕ) → Option (List ℕ)
onto None bytes = None
onto (Some b) bytes = option_map (λ rest. b ∷ rest) bytes

-- the bytes that pairs of digits of either case write
abbrev pub hex_pairs : List ℕ → Option (List ℕ)
hex_pairs [] = Some []
hex_pairs (h ∷ []) = None
hex_pairs (h ∷ l ∷ digits) = onto (byte_of (hex_value h) (hex_value l)) (hex_pairs digits)

-- the bytes that a word stands for: none for the two characters `""`, else one for each pair of digits
abbrev pub hex_bytes : List ℕ → Option (List ℕ)
hex_bytes word = if bytes_eq word (34 ∷ 34 ∷ []) then Some [] else hex_pairs word
