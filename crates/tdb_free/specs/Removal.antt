-- What it means that a record that was found is taken out of the free list.
use Rattle.std.specs.Prelude.{◌≡◌, ℕ, List, Option, None, Some}
use Rattle.tdb_space.specs.Form.{Form}
use Rattle.tdb_space.specs.Record.{next_of}
use Rattle.tdb_space.specs.Chain.{without}
use Rattle.tdb_space.specs.Exchange.{LedPast}
use Rattle.tdb_free.specs.declared.search.Spot.{Spot}

-- the records of a list that are left without the one that was found, if one was
abbrev pub rest_of : Option Spot → List ℕ → List ℕ
rest_of None offs = offs
rest_of (Some p) offs = without p.off offs

-- From image a to image b the record that was found left its list: the word that led to it leads past it, and no other
-- byte changes. Where none was found, the image is as it was.
abbrev pub LeftOut : Form → List ℕ → List ℕ → Option Spot → Type 0
LeftOut f a b None = b ≡ a
LeftOut f a b (Some p) = p.next ≡ next_of f.order a p.off → LedPast f a b p.before p.off
