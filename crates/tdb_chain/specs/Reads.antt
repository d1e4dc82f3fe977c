-- How many bytes of a file a look-up of a key reads at most, and a change of a chain.
use Rattle.std.specs.Prelude.{ℕ, ◌+◌, ◌*◌, ◌==◌, ◌&&◌, nat_lt, Bool, if◌then◌else◌, List, [], ◌∷◌, length, take, drop, min, sum_by}
use Rattle.tdb_words.specs.declared.record.Rec.{Rec}
use Rattle.tdb_words.specs.declared.record.TheConstants.{USED}
use Rattle.tdb_words.specs.Record.{rec_at}
use Rattle.tdb_words.specs.Hash.{h_of}
use Rattle.tdb_space.specs.Form.{Form}
use Rattle.tdb_space.specs.Chain.{chain_of}
use Rattle.tdb_space.specs.Pairs.{same_key, home}

-- by its header a record is a used one, with this hash and a key of this length
abbrev pub may_have : Rec → ℕ → ℕ → Bool
may_have r hash len = (r.magic == USED) && (r.full_hash == hash) && (r.key_len == len)

-- where a record may have a key that doesn't fit into 512 bytes with its header, that key is read; else nothing
abbrev pub long_key_reads : Rec → ℕ → ℕ → ℕ
long_key_reads r hash len = if may_have r hash len && nat_lt 512 (24 + len) then len else 0

-- of the record at an offset: its header and a key of the wanted length, as far as both have at most 512 bytes, and
-- then the long key that it may have
abbrev pub test_reads : Form → List ℕ → List ℕ → ℕ → ℕ
test_reads f img key at = min (24 + length key) 512 + long_key_reads (rec_at f.order img at) (h_of f.hash key) (length key)

-- the record at an offset is a used one with a key's hash, and it has the key
abbrev pub has_key : Form → List ℕ → List ℕ → ℕ → Bool
has_key f img key at = may_have (rec_at f.order img at) (h_of f.hash key) (length key) && same_key (take (length key) (drop (at + 24) img)) key

-- the offsets up to that of the first record with a key
abbrev pub up_to_key : Form → List ℕ → List ℕ → List ℕ → List ℕ
up_to_key f img key [] = []
up_to_key f img key (x ∷ xs) = x ∷ (if has_key f img key x then [] else up_to_key f img key xs)

-- of these records in a row, up to the first with a key
abbrev pub way_reads : Form → List ℕ → List ℕ → List ℕ → ℕ
way_reads f img key offs = sum_by (test_reads f img key) (up_to_key f img key offs)

-- of a look-up: the head of the key's chain, and the records of the chain up to the one with the key
abbrev pub find_reads : Form → List ℕ → List ℕ → ℕ
find_reads f img key = 4 + way_reads f img key (chain_of f img (home f key))

-- Of so many writes of so many bytes in all. A view that keeps pages may read two pages, 8192 bytes in all, to fill
-- those that a write touches in part.
abbrev pub write_reads : ℕ → ℕ → ℕ
write_reads writes bytes = bytes + 8192 * writes
