-- Lines of a text, and words of a line.
use Rattle.std.specs.Prelude.{ℕ, ◌+◌, ◌==◌, ◌||◌, Bool, List, not, length, filter, sum_by}
use Rattle.std.specs.List.{slice_split}

-- a newline parts lines
abbrev pub is_newline : ℕ → Bool
is_newline b = b == 10

-- a space and a tab part words
abbrev pub is_blank : ℕ → Bool
is_blank b = (b == 32) || (b == 9)

-- the lines of a text: what stands between its newlines. A text that ends with one has an empty line behind it
unfoldable pub lines_of : List ℕ → List (List ℕ)
lines_of text = slice_split is_newline text

-- the words of a line: what stands between its blanks, where that is anything
unfoldable pub words_of : List ℕ → List (List ℕ)
words_of line = filter (λ w. not (length w == 0)) (slice_split is_blank line)

-- how many bytes lines have, each with its newline
abbrev pub width : List (List ℕ) → ℕ
width lines = sum_by (λ line. length line + 1) lines
