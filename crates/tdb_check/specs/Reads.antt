-- How many bytes of a file a check reads at most.
use Rattle.std.specs.Prelude.{ℕ, ◌+◌, ◌*◌, ◌<◌, ◌≤◌, ◌≡◌, ◌==◌, ◌&&◌, if◌then◌else◌, List, [], ◌∷◌, length, map, sum_by}
use Rattle.std.specs.List.{range_with_len}
use Rattle.tdb_words.specs.declared.record.TheConstants.{USED}
use Rattle.tdb_space.specs.Form.{Form, form_of}
use Rattle.tdb_space.specs.Record.{magic_of, key_len_of}
use Rattle.tdb_space.specs.Chain.{chain_of, free_of}
use Rattle.tdb_space.specs.Accepted.{Accept}
use Rattle.tdb_check.specs.declared.keys.Noted.{Noted}
use Rattle.tdb_check.specs.Keys.{notes_of, digested}

-- of one record: 128 bytes at once, its tailer, and the key of a used one
abbrev pub record_reads : Form → List ℕ → ℕ → ℕ
record_reads f img at = 132 + (if magic_of f.order img at == USED then key_len_of f.order img at else 0)

-- the lengths of the keys of noted records in all
abbrev pub key_bytes : List Noted → ℕ
key_bytes es = sum_by (λ e. e.key_len) es

-- the length of the keys of two noted records that have one mark and one length, and else 0
abbrev pub shared : Noted → Noted → ℕ
shared a b = if (a.mark == b.mark) && (a.key_len == b.key_len) then a.key_len else 0

-- the same of each two of these records, in all
abbrev pub shared_by_pairs : List Noted → ℕ
shared_by_pairs [] = 0
shared_by_pairs (e ∷ es) = sum_by (shared e) es + shared_by_pairs es

-- To find out whether two noted records have one key. Where few have one mark, each key is read 14 times at most; else
-- once for its digest, and both keys of each two that have one length and one first word of their digests.
abbrev pub twin_reads : Form → List ℕ → List Noted → ℕ
twin_reads f img es = 15 * key_bytes es + 2 * shared_by_pairs (map (digested f img) es)

-- of chain j: each of its records, and so many times what it takes to find out whether two have one key
abbrev pub chain_reads : ℕ → Form → List ℕ → ℕ → ℕ
chain_reads rounds f img j = sum_by (record_reads f img) (chain_of f img j) + rounds * twin_reads f img (notes_of f img (chain_of f img j))

-- of so many chains from a number on
abbrev pub chains_reads : ℕ → Form → List ℕ → ℕ → ℕ → ℕ
chains_reads rounds f img first count = sum_by (chain_reads rounds f img) (range_with_len first count)

-- of all lists: the heads of the chains, the chains, and the free list with its head
abbrev pub lists_reads : ℕ → Form → List ℕ → ℕ
lists_reads rounds f img = 4 * f.chains + chains_reads rounds f img 0 f.chains + (4 + sum_by (record_reads f img) (free_of f img))

-- of a look through a file in the order of its records: each byte behind the header once, and each used key 14 times,
-- which is no more than this
abbrev pub sequence_reads : List ℕ → ℕ
sequence_reads img = 15 * length img

-- of a whole file: 168 bytes of the header, 28 for the undo area, all lists, and no more than its length for what no
-- record holds
abbrev pub check_reads : ℕ → Form → List ℕ → ℕ
check_reads rounds f img = 196 + sequence_reads img + lists_reads rounds f img + length img

-- no two keys of one chain have one length and one first word of their digests
abbrev pub NoLikeKeys : Form → List ℕ → Type 0
NoLikeKeys f img = (j : ℕ) → j < f.chains → shared_by_pairs (map (digested f img) (notes_of f img (chain_of f img j))) ≡ 0

-- then what a check of an accepted image reads is in proportion to its length
abbrev pub ReadsAreLinear : Type 0
ReadsAreLinear = (img : List ℕ) → Accept img → NoLikeKeys (form_of img) img → check_reads 1 (form_of img) img ≤ 33 * length img + 28
