-- Which offsets a trail has.
use Rattle.std.specs.Prelude.{ℕ, ◌||◌, Bool, nat_eq}
use Rattle.std.specs.List.{list_any}
use Rattle.std.specs.Ordering.{nat_cmp}
use Rattle.std.specs.BTreeSet.{contains}
use Rattle.tdb_check.specs.declared.trail.Trail.{Trail}

-- the offset was noted: it stands in the vector or in the set
abbrev pub met : Trail → ℕ → Bool
met t q = list_any (λ y. nat_eq y q) t.near.items || contains nat_cmp t.far q
