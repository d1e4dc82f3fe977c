-- The lines by which the records of an image are shown.
use Rattle.std.specs.Prelude.{ℕ, ◌==◌, List, [], ◌∷◌, length, map, if◌then◌else◌}
use Rattle.tdb_words.specs.declared.record.TheConstants.{USED}
use Rattle.tdb_words.specs.declared.record.Rec.{Rec}
use Rattle.tdb_words.specs.declared.word.Order.{Order}
use Rattle.tdb_words.specs.Record.{rec_at}
use Rattle.tdb_space.specs.Form.{Form}
use Rattle.tdb_space.specs.Chain.{chain_of}
use Rattle.tdb_space.specs.Pairs.{joined}
use Rattle.tdb_rewrite.specs.declared.spot.Spot.{Spot}
use Rattle.tdb_rewrite.specs.declared.spot.Spot.TheVariants.{Chain, Used, Dead}

-- the line of a record with this header at an offset, in a chain: a record that isn't used is dead
abbrev pub spot_of : ℕ → Rec → Spot
spot_of at rec = if rec.magic == USED then Used at rec.key_len rec.data_len rec.rec_len else Dead at rec.rec_len

-- the line of the record at an offset of an image
abbrev pub spot_at : Order → List ℕ → ℕ → Spot
spot_at o img at = spot_of at (rec_at o img at)

-- the lines of the records of chain j, under one that says how many they are; a chain without records has no line
abbrev pub under_head : ℕ → List Spot → List Spot
under_head j [] = []
under_head j (spot ∷ spots) = Chain j (length (spot ∷ spots)) ∷ spot ∷ spots

-- the lines of chain j of an image, along the chain
abbrev pub lines_of : Form → List ℕ → ℕ → List Spot
lines_of f img j = under_head j (map (spot_at f.order img) (chain_of f img j))

-- the lines of an image: those of all chains, chain 0 first
abbrev pub all_lines : Form → List ℕ → List Spot
all_lines f img = joined f.chains (lines_of f img)
