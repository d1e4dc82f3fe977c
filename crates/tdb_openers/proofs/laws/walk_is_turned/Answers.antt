-- The law is the lemma.
use Rattle.tdb_openers.proofs.Walks.WalkLifted.{walk_is_turned}
use Rattle.tdb_openers.proofs.laws.walk_is_turned.Goals as goal

pub returns : goal.returns
returns c = record { law = walk_is_turned }
