-- The law is the lemma.
use Rattle.tdb_law.proofs.OneTurn.{turn_lawful}
use Rattle.tdb_law.proofs.turns.turn_is_lawful.Goals as goal

pub returns : goal.returns
returns c = record { law = turn_lawful }
