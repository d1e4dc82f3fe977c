-- The law is the lemma.
use Rattle.tdb_law.proofs.OneAside.Idle as idle
use Rattle.tdb_law.proofs.one_aside.turns.waiting_is_turned.Goals as goal

pub returns : goal.returns
returns c = record { law = idle.waiting_is_turned }
