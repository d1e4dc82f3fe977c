-- A free record that was made shorter where it stands.
use Rattle.std.specs.Prelude.{◌≡◌, ℕ, ◌+◌, ◌<◌, ◌≤◌, ◌⊎◌, List, length, slice_index}
use Rattle.tdb_words.specs.declared.record.Rec.{Rec}
use Rattle.tdb_words.specs.declared.record.TheConstants.{FREE}
use Rattle.tdb_words.specs.Word.{word}
use Rattle.tdb_words.specs.Record.{rec_at}
use Rattle.tdb_space.specs.Form.{Form}
use Rattle.tdb_space.specs.Record.{next_of}

-- the header of a free record: what is next in the list, and how long it is
abbrev pub free_record : ℕ → ℕ → Rec
free_record next rec_len = record { next = next; rec_len = rec_len; key_len = 0; data_len = 0; full_hash = 0; magic = FREE }

-- From image a to image b the record at an offset becomes a free record of so many bytes: its header but for the next
-- word is written, and a tailer at its end, and no other byte
pub record Shortened (f : Form) (a b : List ℕ) (at rec_len : ℕ) : Type 0 where
  pub size : length b ≡ length a
  pub header : rec_at f.order b at ≡ free_record (next_of f.order a at) rec_len
  pub tailer : word f.order b (at + 20 + rec_len) ≡ 24 + rec_len
  pub others : (i : ℕ) → (i < at + 4) ⊎ (at + 24 ≤ i) → (i < at + 20 + rec_len) ⊎ (at + 24 + rec_len ≤ i) → slice_index b i ≡ slice_index a i
