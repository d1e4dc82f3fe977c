-- The law is the lemma.
use Rattle.tdb_openers.proofs.PlainTurns.Lifting.{turn_is_turned}
use Rattle.tdb_openers.proofs.laws.turn_is_turned.Goals as goal

pub returns : goal.returns
returns c = record { law = turn_is_turned }
