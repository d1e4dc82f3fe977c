-- What is told of generated commands at their end.
use Rattle.std.specs.Prelude.{ℕ, List, ◌++◌, codes, decimal}
use Rattle.tdb_gen.specs.declared.summary.Summary.{Summary}

-- a word and a number with a space between, and a newline
abbrev pub number_line : List ℕ → ℕ → List ℕ
number_line word n = word ++ codes " " ++ decimal n ++ codes "\n"

-- the text of a summary: a line for each number
abbrev pub summary_text : Summary → List ℕ
summary_text s =
    number_line (codes "commands") s.commands
    ++ number_line (codes "ok") s.counts.ok
    ++ number_line (codes "data") s.counts.values
    ++ number_line (codes "noexist") s.counts.missing
    ++ number_line (codes "yes") s.counts.yes
    ++ number_line (codes "no") s.counts.no
    ++ number_line (codes "full") s.counts.full
    ++ number_line (codes "memory") s.counts.memory
    ++ number_line (codes "blocked") s.counts.blocked
    ++ number_line (codes "live") s.live
    ++ number_line (codes "length") s.length
