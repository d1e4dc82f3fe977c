-- The law is the lemma.
use Rattle.tdb_openers.proofs.PlainTurns.Standing.{turn_keeps_world}
use Rattle.tdb_openers.proofs.laws.turn_keeps_world.Goals as goal

pub returns : goal.returns
returns c = record { law = turn_keeps_world }
