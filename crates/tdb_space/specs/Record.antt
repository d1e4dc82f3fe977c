-- Records of an image: where one stands whole, what it is, and the key and the value that it holds.
use Rattle.std.specs.Prelude.{◌≡◌, ℕ, ◌+◌, ◌%◌, ◌≤◌, ◌⊎◌, List, All, length, take, drop}
use Rattle.tdb_words.specs.declared.record.TheConstants.{USED, FREE, DEAD}
use Rattle.tdb_words.specs.declared.word.Order.{Order}
use Rattle.tdb_words.specs.Word.{word}
use Rattle.tdb_space.specs.Form.{Form, data_start}

-- The header of a record is six words (`struct tdb_record` of the public TDB 1 format). The first leads to the next
-- record of its list, or is 0 at the end
abbrev pub next_of : Order → List ℕ → ℕ → ℕ
next_of o img at = word o img at

-- how many bytes follow the header, the tailer among them
abbrev pub rec_len_of : Order → List ℕ → ℕ → ℕ
rec_len_of o img at = word o img (at + 4)

-- how many bytes the key has
abbrev pub key_len_of : Order → List ℕ → ℕ → ℕ
key_len_of o img at = word o img (at + 8)

-- how many bytes the value has
abbrev pub data_len_of : Order → List ℕ → ℕ → ℕ
data_len_of o img at = word o img (at + 12)

-- the hash of the key, before it is taken modulo the number of chains
abbrev pub full_hash_of : Order → List ℕ → ℕ → ℕ
full_hash_of o img at = word o img (at + 16)

-- what the record is: used, dead or free; of the undo area the same word is its gate
abbrev pub magic_of : Order → List ℕ → ℕ → ℕ
magic_of o img at = word o img (at + 20)

-- A record stands whole at this offset, whatever its magic is: it is aligned, it stands behind the heads, it has room
-- for its tailer at least, it ends within the image, and its last word, the tailer, is the length of the whole of it.
pub record Whole (f : Form) (img : List ℕ) (at : ℕ) : Type 0 where
  pub aligned : at % 4 ≡ 0
  pub above : data_start f ≤ at
  pub len_aligned : rec_len_of f.order img at % 4 ≡ 0
  pub len_least : 4 ≤ rec_len_of f.order img at
  pub within : at + 24 + rec_len_of f.order img at ≤ length img
  pub tailer : word f.order img (at + 20 + rec_len_of f.order img at) ≡ 24 + rec_len_of f.order img at

-- the magics of the records that stand in chains
abbrev pub IsChained : ℕ → Type 0
IsChained magic = (magic ≡ USED) ⊎ (magic ≡ DEAD)

-- the magic of the records that stand in the free list
abbrev pub IsFree : ℕ → Type 0
IsFree magic = magic ≡ FREE

-- the key of the record at an offset: the first bytes behind its header
abbrev pub key_at : Order → List ℕ → ℕ → List ℕ
key_at o img at = take (key_len_of o img at) (drop (at + 24) img)

-- the value of the record at an offset: the bytes behind its key
abbrev pub data_at : Order → List ℕ → ℕ → List ℕ
data_at o img at = take (data_len_of o img at) (drop (at + 24 + key_len_of o img at) img)

-- the key, the value and the tailer of the record at an offset fit into its length
abbrev pub Fits : Order → List ℕ → ℕ → Type 0
Fits o img at = key_len_of o img at + data_len_of o img at + 4 ≤ rec_len_of o img at

-- each used record of these has room for what it holds
abbrev pub AllFit : Order → List ℕ → List ℕ → Type 0
AllFit o img offs = All (λ x. magic_of o img x ≡ USED → Fits o img x) offs
