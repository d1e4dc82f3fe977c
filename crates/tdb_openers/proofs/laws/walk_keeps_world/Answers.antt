-- The law is the lemma.
use Rattle.tdb_openers.proofs.Walks.WalkHeld.{walk_keeps_world}
use Rattle.tdb_openers.proofs.laws.walk_keeps_world.Goals as goal

pub returns : goal.returns
returns c = record { law = walk_keeps_world }
