-- The ways in which pairs are listed.
use Rattle.std.specs.Prelude.{List, ℕ, ◌++◌, codes}
use Rattle.std.specs.List.{flat_map}
use Rattle.tdb_dump.specs.declared.listing.Listing.{Listing}
use Rattle.tdb_dump.specs.declared.listing.Listing.TheVariants.{Pairs, Keys, HexKeys}
use Rattle.tdb_dump.specs.declared.pairs.Pair.{Pair}
use Rattle.tdb_dump.specs.DumpText.{pair_text}
use Rattle.tdb_dump.specs.Line.{key_line, hex_key_line}

-- what is written of one pair: its four lines of dump text, or a line that tells its key
abbrev pub entry_text : Listing → List ℕ → List ℕ → List ℕ
entry_text Pairs key value = pair_text key value
entry_text Keys key value = key_line key ++ codes "\n"
entry_text HexKeys key value = hex_key_line key ++ codes "\n"

-- what is written of each pair, in order; where whole pairs are listed it is their `dump_text`
abbrev pub listing_text : Listing → List Pair → List ℕ
listing_text listing pairs = flat_map (λ p. entry_text listing p.key p.value) pairs
