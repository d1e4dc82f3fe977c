-- How many bytes of a file a move reads at most.
use Rattle.std.specs.Prelude.{ℕ, ◌+◌, ◌-◌, ◌*◌, ◌/◌, ◌==◌, if◌then◌else◌, List, [], ◌∷◌, length, min, sum_by}
use Rattle.std.specs.List.{range_with_len}
use Rattle.tdb_words.specs.declared.record.TheConstants.{USED}
use Rattle.tdb_words.specs.Word.{word}
use Rattle.tdb_space.specs.Form.{Form, chain_head}
use Rattle.tdb_space.specs.Record.{magic_of}
use Rattle.tdb_space.specs.Chain.{offsets, chain_of}
use Rattle.tdb_walk.specs.declared.standing.Standing.{Standing}
use Rattle.tdb_walk.specs.declared.standing.Standing.TheVariants.{Before, On, Past}
use Rattle.tdb_walk.specs.declared.way.Way.{Way}
use Rattle.tdb_walk.specs.declared.way.Way.TheVariants.{Met, Blocked, End}

-- of the records at these offsets, which follow one another: 24 bytes of each up to the first used one, and once more
-- where none is used
abbrev pub records_reads : Form → List ℕ → List ℕ → ℕ
records_reads f img [] = 24
records_reads f img (x ∷ xs) = 24 + (if magic_of f.order img x == USED then 0 else records_reads f img xs)

-- of chain j: its head; and where it has a record, the heads behind that one in a block of up to 1024, and the records
abbrev pub chain_reads : Form → List ℕ → ℕ → ℕ
chain_reads f img j = 4 + (if word f.order img (chain_head j) == 0 then 0 else 4 * min 1024 (f.chains - j) + records_reads f img (chain_of f img j))

-- of so many chains from a number on
abbrev pub chains_reads : Form → List ℕ → ℕ → ℕ → ℕ
chains_reads f img first count = sum_by (chain_reads f img) (range_with_len first count)

-- of the record at an offset, and of those behind it in its chain
abbrev pub rest_reads : Form → List ℕ → ℕ → ℕ
rest_reads f img at = 24 + records_reads f img (offsets f.order img (length img / 4) (word f.order img at))

-- of a move from a place on, whose way enters no chain from this number on
abbrev pub move_reads : Form → List ℕ → Standing → ℕ → ℕ
move_reads f img (Before chain) end = chains_reads f img chain (end - chain)
move_reads f img (On chain at) end = rest_reads f img at + chains_reads f img (chain + 1) (end - (chain + 1))
move_reads f img Past end = 0

-- the number from which on a move enters no chain, by where it comes to
abbrev pub way_end : Form → Way → ℕ
way_end f (Met live) = live.chain + 1
way_end f (Blocked chain owner byte) = chain + 1
way_end f End = f.chains
