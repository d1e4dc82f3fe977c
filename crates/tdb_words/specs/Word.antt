-- Words: 32-bit numbers as four bytes, in either byte order.
use Rattle.std.specs.Prelude.{ℕ, ◌+◌, ◌*◌, ◌/◌, ◌%◌, List, [], ◌∷◌, slice_index}
use Rattle.tdb_words.specs.declared.word.Order.{Order}
use Rattle.tdb_words.specs.declared.word.Order.TheVariants.{Little, Big}

-- the number that four bytes stand for: its lowest byte stands first in one order, last in the other
abbrev pub quad : Order → ℕ → ℕ → ℕ → ℕ → ℕ
quad Little a b c d = a + 256 * b + 65536 * c + 16777216 * d
quad Big a b c d = d + 256 * c + 65536 * b + 16777216 * a

-- the word at an offset of an image: the number of the four bytes there, where a byte past the end
-- counts as 0
unfoldable pub word : Order → List ℕ → ℕ → ℕ
word o img at =
    quad o (slice_index img at) (slice_index img (at + 1)) (slice_index img (at + 2)) (slice_index img (at + 3))

-- the four bytes that stand for a number below 2^32
abbrev pub bytes_of_word : Order → ℕ → List ℕ
bytes_of_word Little w = w % 256 ∷ w / 256 % 256 ∷ w / 65536 % 256 ∷ w / 16777216 % 256 ∷ []
bytes_of_word Big w = w / 16777216 % 256 ∷ w / 65536 % 256 ∷ w / 256 % 256 ∷ w % 256 ∷ []
