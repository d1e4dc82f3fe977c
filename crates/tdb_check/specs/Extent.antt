-- What an extent of the check stands for among the definitions of images.
use Rattle.std.specs.Prelude.{ℕ, ◌+◌, List, map}
use Rattle.tdb_space.specs.Extents.{Extent as Held}
use Rattle.tdb_check.specs.declared.extent.Extent.{Extent}

-- where it begins, and how many bytes it holds
abbrev pub extent_seen : Extent → Held
extent_seen e = (e.off, 24 + e.rec_len)

abbrev pub extents_seen : List Extent → List Held
extents_seen es = map extent_seen es

-- where it begins
abbrev pub off_of : Extent → ℕ
off_of e = e.off
