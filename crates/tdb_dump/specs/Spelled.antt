-- The grammar of dump text, apart from the writer and from the reader.
use Rattle.std.specs.Prelude.{◌≡◌, ℕ, ◌^◌, ◌<◌, Bool, List, [], ◌∷◌, ◌++◌, length, map, codes, decimal}
use Rattle.std.specs.List.{IsDistinct, list_any}
use Rattle.std.specs.Str.{bytes_eq}
use Rattle.tdb_dump.specs.declared.pairs.Pair.{Pair}
use Rattle.tdb_dump.specs.Escape.{is_plain, Letters}

-- the line `LABEL(N) = "LETTERS"`: N is decimal, without leading zeros
abbrev pub field_text : List ℕ → ℕ → List ℕ → List ℕ
field_text label count letters = label ++ codes "(" ++ decimal count ++ codes ") = \"" ++ letters ++ codes "\"\n"

-- The text of one record: N is the number of bytes, fewer than 2^32, and one letter stands for each byte. An escape may
-- stand for any byte, with digits of either case, and a plain byte for itself.
pub record IsRecord (text : List ℕ) (pair : Pair) : Type 0 where
  pub key_letters : List ℕ
  pub value_letters : List ℕ
  pub key_fits : length pair.key < 2 ^ 32
  pub value_fits : length pair.value < 2 ^ 32
  pub key : Letters is_plain key_letters pair.key
  pub value : Letters is_plain value_letters pair.value
  pub whole : text ≡ codes "{\n" ++ field_text (codes "key") (length pair.key) key_letters ++ field_text (codes "data") (length pair.value) value_letters ++ codes "}\n"

-- the text is one record for each pair, in order, and nothing else
abbrev pub Spelled : List ℕ → List Pair → Type 0
Spelled text [] = text ≡ []
Spelled text (pair ∷ pairs) = (front : List ℕ) × (rest : List ℕ) × (text ≡ front ++ rest) × IsRecord front pair × Spelled rest pairs

-- the keys, in order
abbrev pub keys_of : List Pair → List (List ℕ)
keys_of pairs = map (λ p. p.key) pairs

-- whether some pair has the key
abbrev pub has_key : List Pair → List ℕ → Bool
has_key pairs key = list_any (bytes_eq key) (keys_of pairs)

-- dump text: it spells the pairs, and no key stands in two of them
pub record Dump (text : List ℕ) (pairs : List Pair) : Type 0 where
  pub spelled : Spelled text pairs
  pub distinct : IsDistinct bytes_eq (keys_of pairs)
