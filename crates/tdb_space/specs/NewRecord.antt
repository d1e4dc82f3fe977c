-- A new record: how long it is, what its header says, and its bytes.
use Rattle.std.specs.Prelude.{ℕ, ◌+◌, ◌-◌, ◌*◌, ◌/◌, List, ◌++◌, length, replicate}
use Rattle.tdb_words.specs.declared.record.TheConstants.{PADDING}
use Rattle.tdb_words.specs.declared.record.Rec.{Rec}
use Rattle.tdb_words.specs.declared.word.Order.{Order}
use Rattle.tdb_words.specs.Word.{bytes_of_word}
use Rattle.tdb_words.specs.Record.{bytes_of_rec}

-- a number, rounded up to whole words
abbrev pub whole_words : ℕ → ℕ
whole_words n = (n + 3) / 4 * 4

-- The rec_len of a new record, from the lengths of its key and its value: room for both, a quarter as much again to
-- grow, and the tailer, in whole words
abbrev pub rec_len_for : ℕ → ℕ → ℕ
rec_len_for key_len value_len = let sum = key_len + value_len in whole_words (sum + sum / 4 + 4)

-- the bytes of a record: its header, the key, the value, padding bytes, and the tailer, which is the length of all of
-- it
abbrev pub record_bytes : Order → Rec → List ℕ → List ℕ → List ℕ
record_bytes o r key value =
    bytes_of_rec o r ++ key ++ value ++ replicate (r.rec_len - (length key + length value + 4)) PADDING ++ bytes_of_word o (24 + r.rec_len)
