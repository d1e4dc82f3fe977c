-- The text of pairs, in the form of tdbdump.
use Rattle.std.specs.Prelude.{List, ℕ, ◌++◌, codes}
use Rattle.std.specs.List.{flat_map}
use Rattle.tdb_dump.specs.declared.pairs.Pair.{Pair}
use Rattle.tdb_dump.specs.Line.{key_line, data_line}

-- the lines `{`, `key(N) = "TEXT"`, `data(N) = "TEXT"` and `}`, each ended by a newline
abbrev pub pair_text : List ℕ → List ℕ → List ℕ
pair_text key value = codes "{\n" ++ key_line key ++ codes "\n" ++ data_line value ++ codes "\n}\n"

-- the text of each pair, in order
abbrev pub dump_text : List Pair → List ℕ
dump_text pairs = flat_map (λ p. pair_text p.key p.value) pairs
