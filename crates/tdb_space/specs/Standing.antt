-- Where a record can stand in a file, as far as its offset and its length tell.
use Rattle.std.specs.Prelude.{◌≡◌, ℕ, ◌+◌, ◌*◌, ◌%◌, ◌≤◌}
use Rattle.tdb_space.specs.Form.{Form, data_start}

-- the header of a record can stand at an offset of a file of this length and of so many chains: it is aligned, behind
-- the heads, and ends within the length
pub record HeaderStands (chains len at : ℕ) : Type 0 where
  pub aligned : at % 4 ≡ 0
  pub above : 172 + 4 * chains ≤ at
  pub within : at + 24 ≤ len

-- so many bytes can follow the header of the record at an offset of a file of this length: they are whole words, the
-- tailer among them, and end within the length
pub record ContentStands (rec_len at len : ℕ) : Type 0 where
  pub aligned : rec_len % 4 ≡ 0
  pub least : 4 ≤ rec_len
  pub within : at + 24 + rec_len ≤ len

-- a record of so many bytes behind its header can stand at an offset of a file of this form and length
pub record Stands (f : Form) (len at rec_len : ℕ) : Type 0 where
  pub aligned : at % 4 ≡ 0
  pub above : data_start f ≤ at
  pub len_aligned : rec_len % 4 ≡ 0
  pub len_least : 4 ≤ rec_len
  pub within : at + 24 + rec_len ≤ len
