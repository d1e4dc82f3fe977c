-- The one-line forms of a key and a value, which replies and the dump text share.
use Rattle.std.specs.Prelude.{List, ℕ, ◌++◌, length, codes, decimal}
use Rattle.tdb_dump.specs.Escape.{escaped, hex}

-- `LABEL(N) = "TEXT"`: N is the number of bytes, without leading zeros
abbrev pub labelled : List ℕ → List ℕ → List ℕ
labelled label bytes = label ++ codes "(" ++ decimal (length bytes) ++ codes ") = \"" ++ escaped bytes ++ codes "\""

-- `key(N) = "TEXT"`, without a newline
abbrev pub key_line : List ℕ → List ℕ
key_line key = labelled (codes "key") key

-- `data(N) = "TEXT"`, without a newline
abbrev pub data_line : List ℕ → List ℕ
data_line value = labelled (codes "data") value

-- `key(N) = "TEXT" data(N) = "TEXT"`, without a newline
abbrev pub pair_line : List ℕ → List ℕ → List ℕ
pair_line key value = key_line key ++ codes " " ++ data_line value

-- `key(N) = HEX`, without a newline: the key's bytes as digits
abbrev pub hex_key_line : List ℕ → List ℕ
hex_key_line key = codes "key(" ++ decimal (length key) ++ codes ") = " ++ hex key
