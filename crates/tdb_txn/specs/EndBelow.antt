-- Runs that end below a length.
use Rattle.std.specs.Prelude.{ℕ, ◌+◌, ◌<◌, ◌≤◌, List, get_or, length}
use Rattle.tdb_space.specs.Extents.{Extent}

-- each of these extents ends there or before
abbrev pub EndBelow : ℕ → List Extent → Type 0
EndBelow limit es = (k : ℕ) (d : Extent) → k < length es → (get_or es k d).0 + (get_or es k d).1 ≤ limit
