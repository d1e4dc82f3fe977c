-- A file that grew since its last sync, at most.
use Rattle.std.specs.Prelude.{ℕ, List}
use Rattle.tdb_disk.specs.History.{History}
use Rattle.tdb_disk.specs.Stop.{Leaves}
use Rattle.tdb_space.specs.NewArea.{Longer}

-- A stop now leaves image a, or a with zeros behind its end, in whole words: as on a quiet disk that has this image,
-- and as on one whose file grew since then and was changed by nothing else.
abbrev pub GrewAtMost : List ℕ → History → Type 0
GrewAtMost a h = (c : List ℕ) → Leaves h c → Longer a c
