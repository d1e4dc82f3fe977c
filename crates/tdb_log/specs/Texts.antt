-- The line of a log that tells a notice.
use Rattle.std.specs.Prelude.{ℕ, List, ◌++◌, codes, decimal}
use Rattle.tdb_words.specs.What.{what_text}
use Rattle.tdb_log.specs.declared.notice.Notice.{Notice}
use Rattle.tdb_log.specs.declared.notice.Notice.TheVariants.{Recovered, Checked, Refused, Grew, Died}

-- two words with a space between
abbrev pub spaced : List ℕ → List ℕ → List ℕ
spaced one other = one ++ codes " " ++ other

-- a word and its numbers
abbrev pub notice_words : Notice → List ℕ
notice_words (Recovered bytes) = spaced (codes "recovered") (decimal bytes)
notice_words (Checked live dead_bytes) = spaced (spaced (codes "checked") (decimal live)) (decimal dead_bytes)
notice_words (Refused what at) = spaced (spaced (codes "refused") (what_text what)) (decimal at)
notice_words (Grew from to) = spaced (spaced (codes "grew") (decimal from)) (decimal to)
notice_words (Died opener) = spaced (codes "died") (decimal opener)

-- the line, with its newline
abbrev pub notice_line : Notice → List ℕ
notice_line notice = notice_words notice ++ codes "\n"
