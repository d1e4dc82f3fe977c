-- What a look along one chain shows.
use Rattle.std.specs.Prelude.{◌≡◌, ℕ, List, Option, IfSome}
use Rattle.tdb_space.specs.Form.{Form}
use Rattle.tdb_space.specs.Chain.{Chain}
use Rattle.tdb_space.specs.Accepted.{AllFiled}
use Rattle.tdb_law.specs.Layout.{cells}
use Rattle.tdb_walk.specs.declared.live.Live.{Live}
use Rattle.tdb_walk.specs.declared.heads.Head.{Head}
use Rattle.tdb_walk.specs.declared.looking.Look.{Look}
use Rattle.tdb_walk.specs.declared.looking.Look.TheVariants.{Seen, Stopped}
use Rattle.tdb_walk.specs.NextLive.{first_live, live_at, IsWithin}

-- the first live record of a chain from its head on, if it has one
abbrev pub FindsIn : Form → List ℕ → Head → Option Live → Type 0
FindsIn f img head found = (offs : List ℕ) → Chain f img head.first offs → AllFiled f img head.chain offs → found ≡ live_at f img head.chain (first_live (cells f img offs))

abbrev pub Shows : Form → List ℕ → Head → Look → Type 0
Shows f img head (Seen found) = FindsIn f img head found
Shows f img head (Stopped owner byte) = Unit {0}

-- a record that is shown is one of this chain
abbrev pub ShowsOf : ℕ → Look → Type 0
ShowsOf chain (Seen found) = IfSome found (λ live. live.chain ≡ chain)
ShowsOf chain (Stopped owner byte) = Unit {0}

-- a record that is shown lies within the file
abbrev pub LooksWithin : Form → ℕ → Look → Type 0
LooksWithin f size (Seen found) = IfSome found (λ live. IsWithin f size live)
LooksWithin f size (Stopped owner byte) = Unit {0}
