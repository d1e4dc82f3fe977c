-- The law is the lemma.
use Rattle.tdb_law.proofs.OneAside.Leaving as leaving
use Rattle.tdb_law.proofs.one_aside.turns.leaving_is_turned.Goals as goal

pub returns : goal.returns
returns c = record { law = leaving.leaving_is_turned }
