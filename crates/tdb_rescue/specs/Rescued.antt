-- The pairs that can still be read in an image, whatever its lists lead to.
use Rattle.std.specs.Prelude.{ℕ, zero, suc, ◌+◌, ◌/◌, ◌%◌, ◌==◌, Bool, ◌&&◌, nat_le, List, [], ◌∷◌, length, map, filter}
use Rattle.tdb_words.specs.declared.record.TheConstants.{USED}
use Rattle.tdb_words.specs.declared.record.Rec.{Rec}
use Rattle.tdb_words.specs.declared.word.Order.{Order}
use Rattle.tdb_words.specs.Hash.{h_of}
use Rattle.tdb_words.specs.Record.{rec_at}
use Rattle.tdb_words.specs.Word.{word}
use Rattle.tdb_space.specs.Form.{Form, data_start}
use Rattle.tdb_space.specs.Record.{key_at, data_at}

-- the first n multiples of 4 from one of them on
abbrev pub fours : ℕ → ℕ → List ℕ
fours at zero = []
fours at (suc n) = at ∷ fours (at + 4) n

-- Where a record may begin: the multiples of 4 from the start of the data on. There are as many of them as the image
-- has words, so the last ones lie behind its end, where no record stands.
abbrev pub places : Form → List ℕ → List ℕ
places f img = fours (data_start f) (length img / 4)

-- The lengths in a header at an offset of an image of `len` bytes fit: the record has a whole number of words, has room
-- for its key, its value and its tailer, and ends within the image.
abbrev pub has_room : Rec → ℕ → ℕ → Bool
has_room r at len = (r.rec_len % 4 == 0) && nat_le (at + 24 + r.rec_len) len && nat_le (r.key_len + r.data_len + 4) r.rec_len

-- the last word of the record at an offset, its tailer, is the length of the whole of it
abbrev pub has_tailer : Order → List ℕ → ℕ → ℕ → Bool
has_tailer o img at rec_len = word o img (at + 20 + rec_len) == 24 + rec_len

-- A pair can be read at a place: a used record stands whole there, it has room for its key and its value, and its hash
-- is that of its key.
abbrev pub is_readable : Form → List ℕ → ℕ → Bool
is_readable f img at =
    let r = rec_at f.order img at in
    (r.magic == USED) && has_room r at (length img) && has_tailer f.order img at r.rec_len && (r.full_hash == h_of f.hash (key_at f.order img at))

-- the place, the key and the value of the record at a place
abbrev pub entry_at : Order → List ℕ → ℕ → ℕ × List ℕ × List ℕ
entry_at o img at = (at, key_at o img at, data_at o img at)

-- The place, the key and the value of each pair that can be read, in order of place. A pair that was deleted may be
-- among them, where its record wasn't written over, and a key may come more than once.
abbrev pub rescued : Form → List ℕ → List (ℕ × List ℕ × List ℕ)
rescued f img = map (entry_at f.order img) (filter (is_readable f img) (places f img))
