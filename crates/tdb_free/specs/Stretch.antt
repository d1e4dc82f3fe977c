-- Stretches of a file, as pairs of an offset and a rec_len.
use Rattle.std.specs.Prelude.{ℕ, List, [], ◌∷◌, Option, None, Some}
use Rattle.tdb_space.specs.Extents.{HandPair}
use Rattle.tdb_free.specs.declared.search.Spot.{Spot}
use Rattle.tdb_free.specs.declared.stretch.Stretch.{Stretch}

-- the offset and the rec_len of a stretch
abbrev pub pair : Stretch → HandPair
pair p = (p.off, p.rec_len)

-- those of the record that was found, if one was
abbrev pub found_pair : Option Spot → Option HandPair
found_pair None = None
found_pair (Some p) = Some (p.off, p.rec_len)

-- and as a list, of one hand or of none
abbrev pub found_hands : Option Spot → List HandPair
found_hands None = []
found_hands (Some p) = (p.off, p.rec_len) ∷ []

-- and its offset alone
abbrev pub found_offsets : Option Spot → List ℕ
found_offsets None = []
found_offsets (Some p) = p.off ∷ []
