-- How many bytes of a file a walk over all its pairs reads at most, and the adding of a pair.
use Rattle.std.specs.Prelude.{ℕ, ◌+◌, ◌-◌, ◌/◌, ◌≤◌, ◌==◌, if◌then◌else◌, List, max, sum_by}
use Rattle.std.specs.List.{range_with_len}
use Rattle.tdb_disk.specs.Count.{RoseUpTo}
use Rattle.tdb_words.specs.declared.record.Rec.{Rec}
use Rattle.tdb_words.specs.declared.record.TheConstants.{USED}
use Rattle.tdb_words.specs.Record.{rec_at}
use Rattle.tdb_space.specs.Form.{Form}
use Rattle.tdb_space.specs.Chain.{offsets, chain_of, free_of}
use Rattle.tdb_chain.specs.Reads.{write_reads}
use Rattle.tdb_free.specs.FreeList.{free_pairs}
use Rattle.tdb_free.specs.Reads.{take_reads}
use Rattle.tdb_backup.specs.declared.traversal.Traversal.{Traversal}

-- the header of a record with its key and its value, where it is used
abbrev pub pair_bytes : Rec → ℕ
pair_bytes r = if r.magic == USED then 24 + r.key_len + r.data_len else 0

-- of the record at an offset: 128 bytes, and what a longer pair has besides
abbrev pub record_reads : Form → List ℕ → ℕ → ℕ
record_reads f img at = max 128 (pair_bytes (rec_at f.order img at))

-- of chain j: its head, and its records
abbrev pub chain_reads : Form → List ℕ → ℕ → ℕ
chain_reads f img j = 4 + sum_by (record_reads f img) (chain_of f img j)

-- of so many chains from a number on
abbrev pub chains_reads : Form → List ℕ → ℕ → ℕ → ℕ
chains_reads f img first count = sum_by (chain_reads f img) (range_with_len first count)

-- of all pairs: each chain
abbrev pub pairs_reads : Form → List ℕ → ℕ
pairs_reads f img = chains_reads f img 0 f.chains

-- of what is still ahead of a walk in the chain at hand
abbrev pub rest_reads : Form → List ℕ → Traversal → ℕ
rest_reads f img t = sum_by (record_reads f img) (offsets f.order img t.left t.at)

-- and in all: the rest of the chain at hand, and the chains behind it
abbrev pub ahead_reads : Form → List ℕ → Traversal → ℕ
ahead_reads f img t = rest_reads f img t + chains_reads f img t.next_chain (f.chains - t.next_chain)

-- a walk came from one place to another: it read no more than was ahead of it there, and isn't any more
abbrev pub ReadsAlong : Form → List ℕ → Traversal → Traversal → ℕ → ℕ → Type 0
ReadsAlong f img from to before now = (ahead_reads f img to ≤ ahead_reads f img from) × RoseUpTo (ahead_reads f img from - ahead_reads f img to) before now

-- Of a pair that is added with a record of so many bytes behind its header: what it takes to find room for that, where
-- the file grows too; the head of its chain; and what the writes of the record take.
abbrev pub insert_reads : Form → List ℕ → ℕ → ℕ
insert_reads f img rec_len = take_reads rec_len (free_pairs f img (free_of f img)) + (4 + write_reads (6 + (rec_len + 35) / 4096) (67 + rec_len))
