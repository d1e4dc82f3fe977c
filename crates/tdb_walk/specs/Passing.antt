-- A walk that passes over the chains whose heads are 0, and reads nothing else.
use Rattle.std.specs.Prelude.{ℕ, ◌≤◌, ◌<◌, List, Option, None, Some}
use Rattle.tdb_words.specs.Word.{word}
use Rattle.tdb_space.specs.Form.{Form, chain_head}
use Rattle.tdb_walk.specs.declared.standing.Standing.{Standing}
use Rattle.tdb_walk.specs.declared.standing.Standing.TheVariants.{Before, On, Past}
use Rattle.tdb_walk.specs.declared.walk.Walk.{Walk}
use Rattle.tdb_walk.specs.Cursors.{rested}
use Rattle.tdb_walk.specs.Heads.{AreEmpty, NoneFilled}
use Rattle.tdb_walk.specs.Way.{IsFilled}

-- The chain that a walk which stands on no record enters next: the one before which it stands, and the first one where
-- it stands before none.
abbrev pub enters : Standing → ℕ
enters (Before chain) = chain
enters (On chain off) = 0
enters Past = 0

-- this chain is the first from a number on whose head isn't 0
pub record IsNextFilled (f : Form) (img : List ℕ) (from chain : ℕ) : Type 0 where
  pub least : from ≤ chain
  pub below : chain < f.chains
  pub empty : AreEmpty (λ j. word f.order img (chain_head j)) from chain
  pub filled : IsFilled f img chain

-- what it comes to: that chain, or none
abbrev pub PassesTo : Form → List ℕ → ℕ → Option ℕ → Type 0
PassesTo f img from None = NoneFilled f img from
PassesTo f img from (Some chain) = IsNextFilled f img from chain

-- whatever the bytes are, it is one of the file's chains
abbrev pub PassesWithin : Form → ℕ → Option ℕ → Type 0
PassesWithin f from None = Unit {0}
PassesWithin f from (Some chain) = (from ≤ chain) × (chain < f.chains)

-- the walk stands before that chain then, or has ended
abbrev pub walk_passed : Option ℕ → Walk → Walk
walk_passed None walk = record { cursor = rested Past; shown = None }
walk_passed (Some chain) walk = record walk { cursor = rested (Before chain) }
