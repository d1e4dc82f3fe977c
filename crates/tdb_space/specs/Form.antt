-- What the header of a file fixes for all that stands behind it, and where the heads of its lists stand.
use Rattle.std.specs.Prelude.{◌≡◌, ℕ, ◌+◌, ◌*◌, ◌<◌, ◌≤◌, ◌⊎◌, List, slice_index}
use Rattle.tdb_words.specs.declared.word.Order.{Order}
use Rattle.tdb_words.specs.declared.hash.HashKind.{HashKind}
use Rattle.tdb_words.specs.declared.header.Header.{Header}
use Rattle.tdb_words.specs.Header.{header_order, header_hash, hash_size_of, area_head, header_length, known_length, sequence_at}

-- the byte order of the words, the hash by which keys are filed, and the number of chains
pub record Form : Type 0 where
  pub order : Order
  pub hash : HashKind
  pub chains : ℕ

-- the form that the header of an image states
abbrev pub form_of : List ℕ → Form
form_of img = record { order = header_order img; hash = header_hash img; chains = hash_size_of img }

-- the form that a header states
abbrev pub form_in : Header → Form
form_in h = record { order = h.order; hash = h.hash; chains = h.hash_size }

-- the offset of the word that points at the first record of the free list
abbrev pub free_head : ℕ
free_head = 168

-- the offset of the word that points at the first record of chain j; the heads follow the free list's
abbrev pub chain_head : ℕ → ℕ
chain_head j = 172 + 4 * j

-- the offset at which the records begin, behind the last chain head
abbrev pub data_start : Form → ℕ
data_start f = header_length + 4 * (f.chains + 1)

-- two images have the same bytes by which a header is known: those below 44, and those from 52 to 63. Between them
-- stand the offset of the undo area and the sequence number
abbrev pub SameHeader : List ℕ → List ℕ → Type 0
SameHeader a b = (i : ℕ) → (i < area_head) ⊎ ((sequence_at + 4 ≤ i) × (i < known_length)) → slice_index b i ≡ slice_index a i
