-- The law is the lemma.
use Rattle.tdb_law.proofs.OneAside.Beside as beside
use Rattle.tdb_law.proofs.one_aside.turns.beside_turns.Goals as goal

pub returns : goal.returns
returns c = record { law = beside.beside_turns }
