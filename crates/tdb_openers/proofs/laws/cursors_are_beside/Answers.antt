-- The law is the lemma.
use Rattle.tdb_openers.proofs.Joining.Stood.{cursors_are_beside}
use Rattle.tdb_openers.proofs.laws.cursors_are_beside.Goals as goal

pub returns : goal.returns
returns c = record { law = cursors_are_beside }
