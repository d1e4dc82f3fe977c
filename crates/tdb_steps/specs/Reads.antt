-- How many bytes of a file the turns of a command on a key read at most.
use Rattle.std.specs.Prelude.{ℕ, ◌+◌, ◌/◌, List, [], length, Option, unwrap_or}
use Rattle.tdb_disk.specs.Count.{RoseUpTo}
use Rattle.tdb_space.specs.Form.{Form}
use Rattle.tdb_space.specs.Chain.{free_of}
use Rattle.tdb_space.specs.Pairs.{map_of}
use Rattle.tdb_space.specs.NewRecord.{rec_len_for}
use Rattle.tdb_space.specs.Extents.{HandPair}
use Rattle.tdb_chain.specs.Reads.{find_reads, write_reads}
use Rattle.tdb_free.specs.FreeList.{free_pairs}
use Rattle.tdb_free.specs.Reads.{give_reads, take_reads}
use Rattle.tdb_steps.specs.Wiped.{wipe_writes, wipe_bytes}
use Rattle.tdb_steps.specs.declared.plain.Plain.{Plain}
use Rattle.tdb_steps.specs.declared.plain.Plain.TheVariants.{Fetch, Has, Store, Append, Delete, Wipe}
use Rattle.tdb_steps.specs.declared.stage.Stage.{Stage}
use Rattle.tdb_steps.specs.declared.stage.Stage.TheVariants.{Begun, Chained, Looked, Listed, Taken, Changed, Wiping, Ending}

-- the length of the value that a key has, or 0
abbrev pub value_length : Form → List ℕ → List ℕ → ℕ
value_length f img key = length (unwrap_or (map_of f img key) [])

-- Of the turn in which a command looks its key up: the look-up, once; the value where it is fetched or appended to; and
-- what the writes take where the change is made at once. A wipe looks no key up.
abbrev pub look_reads : Form → List ℕ → Plain → ℕ
look_reads f img (Fetch key) = find_reads f img key + value_length f img key
look_reads f img (Has key) = find_reads f img key
look_reads f img (Store key value flag) = find_reads f img key + write_reads 2 (4 + length value)
look_reads f img (Append key more) = find_reads f img key + value_length f img key + write_reads 2 (4 + value_length f img key + length more)
look_reads f img (Delete key) = find_reads f img key + write_reads 1 4
look_reads f img Wipe = 0

-- of the turn that links a hand: the head of the chain, and what the writes take
abbrev pub link_reads : HandPair → ℕ
link_reads hand = 4 + write_reads (7 + hand.1 / 4096) (36 + hand.1)

-- of the sequence number, which the turn raises that makes a change
abbrev pub number_reads : ℕ
number_reads = 4 + write_reads 1 4

-- of the turn that takes a record from the free list for the value of a store, or for what an append has joined; and of
-- that which takes the record of a delete out of its chain
abbrev pub take_reads_of : Form → List ℕ → Plain → Option (List ℕ) → ℕ
take_reads_of f img (Store key value flag) whole = take_reads (rec_len_for (length key) (length value)) (free_pairs f img (free_of f img))
take_reads_of f img (Append key more) whole = take_reads (rec_len_for (length key) (length (unwrap_or whole more))) (free_pairs f img (free_of f img))
take_reads_of f img (Delete key) whole = write_reads 1 4
take_reads_of f img _ whole = 0

-- of a wipe: the undo area's place and length, and what its writes take
abbrev pub wipe_reads : ℕ → ℕ
wipe_reads chains = 8 + write_reads (wipe_writes chains) (wipe_bytes chains)

-- how many bytes the turns of a command read at most: the look, the turn at the free list, that which gives a record
-- back, along the whole list, and the wipe
pub record Costs : Type 0 where
  pub look : ℕ
  pub taking : ℕ
  pub giving : ℕ
  pub wiping : ℕ

abbrev pub costs_of : Form → List ℕ → Plain → Option (List ℕ) → Costs
costs_of f img command whole = record {
  look = look_reads f img command;
  taking = take_reads_of f img command whole;
  giving = give_reads (length (free_of f img));
  wiping = wipe_reads f.chains;
}

-- of a turn at a stage
abbrev pub most_read : Costs → Stage → ℕ
most_read costs Begun = 0
most_read costs Chained = costs.look
most_read costs (Looked found) = 0
most_read costs (Listed found) = costs.taking
most_read costs (Taken found hand) = link_reads hand
most_read costs (Changed hand) = costs.giving
most_read costs (Wiping stage) = costs.wiping
most_read costs Ending = 0

-- a turn at a stage read no more than that, and some bytes besides
abbrev pub TurnReads : Costs → ℕ → Stage → ℕ → ℕ → Type 0
TurnReads costs besides stage before now = RoseUpTo (most_read costs stage + besides) before now
