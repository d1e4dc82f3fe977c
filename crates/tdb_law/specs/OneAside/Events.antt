-- What happens besides turns, to an opener that isn't aside.
use Rattle.std.specs.Prelude.{ℕ, ◌≢◌, Option, Some, None}
use Rattle.tdb_law.specs.World.{State}
use Rattle.tdb_law.specs.OneAside.Sides.{Side, StandsAside}

-- who is aside, if anybody, stands aside of this plain state
abbrev pub StandsBy : State → Option Side → Type 0
StandsBy p None = Unit {0}
StandsBy p (Some s) = StandsAside p s

-- this opener isn't aside
abbrev pub IsElse : Option Side → ℕ → Type 0
IsElse None who = Unit {0}
IsElse (Some s) who = who ≢ s.here
