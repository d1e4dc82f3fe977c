-- What a set of keys has.
use Rattle.std.specs.Prelude.{ℕ, Bool, List}
use Rattle.tdb_dump.specs.declared.key_set.KeySet.{KeySet}
use Rattle.tdb_dump.specs.KeyPlaces.{has_in}

-- whether the set has a key: the place of the key's mark is that of this key, or it is among the others
abbrev pub has : KeySet → List ℕ → Bool
has s key = has_in s.first s.bytes.items s.others key
