-- Record headers: six words in a row.
use Rattle.std.specs.Prelude.{◌≡◌, ℕ, ◌+◌, List, ◌++◌}
use Rattle.tdb_words.specs.declared.word.Order.{Order}
use Rattle.tdb_words.specs.declared.record.Rec.{Rec}
use Rattle.tdb_words.specs.Word.{word, bytes_of_word}

-- the record header at an offset of an image: the six words there
abbrev pub rec_at : Order → List ℕ → ℕ → Rec
rec_at o img at = record {
  next = word o img at;
  rec_len = word o img (at + 4);
  key_len = word o img (at + 8);
  data_len = word o img (at + 12);
  full_hash = word o img (at + 16);
  magic = word o img (at + 20);
}

-- the 24 bytes of a record header: those of its six words, one after another
abbrev pub bytes_of_rec : Order → Rec → List ℕ
bytes_of_rec o r =
    bytes_of_word o r.next ++ bytes_of_word o r.rec_len ++ bytes_of_word o r.key_len ++ bytes_of_word o r.data_len
    ++ bytes_of_word o r.full_hash ++ bytes_of_word o r.magic

-- a record header has the six words at an offset of an image
pub record RecordWords (o : Order) (img : List ℕ) (at : ℕ) (r : Rec) : Type 0 where
  pub next : r.next ≡ word o img at
  pub rec_len : r.rec_len ≡ word o img (at + 4)
  pub key_len : r.key_len ≡ word o img (at + 8)
  pub data_len : r.data_len ≡ word o img (at + 12)
  pub full_hash : r.full_hash ≡ word o img (at + 16)
  pub magic : r.magic ≡ word o img (at + 20)
