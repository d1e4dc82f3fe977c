-- Which records of a file are still to come, where they come from the last one to the first.
use Rattle.std.specs.Prelude.{◌≡◌, ℕ, ◌+◌, ◌*◌, ◌/◌, List, ◌++◌, length, map}
use Rattle.std.specs.List.{All}
use Rattle.tdb_words.specs.Record.{rec_at}
use Rattle.tdb_space.specs.Form.{Form}
use Rattle.tdb_space.specs.Chain.{chain_of}
use Rattle.tdb_space.specs.Pairs.{joined}
use Rattle.tdb_rewrite.specs.declared.places.Places.{Places}
use Rattle.tdb_rewrite.specs.declared.walk.Listed.{Listed}

-- the offsets of these records
abbrev pub offs_of : List Listed → List ℕ
offs_of = map (λ (x : Listed). x.off)

-- the header of a record is the one that the image has at its offset
abbrev pub HasHeader : Form → List ℕ → Listed → Type 0
HasHeader f img x = x.rec ≡ rec_at f.order img x.off

-- the headers of these records are those that the image has at their offsets
abbrev pub HaveHeaders : Form → List ℕ → List Listed → Type 0
HaveHeaders f img xs = All (HasHeader f img) xs

-- the offsets of the records of an image that are still to come: those of the chains that weren't walked along, and
-- those that are left of the chain behind these
abbrev pub to_come : Form → List ℕ → Places → List ℕ
to_come f img places = joined places.chains (chain_of f img) ++ offs_of places.records.items

-- how many records are still to come at most
abbrev pub most_to_come : Places → ℕ
most_to_come places = places.chains * (places.len / 4) + length places.records.items
