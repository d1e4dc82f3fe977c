-- The law is a lemma.
use Rattle.tdb_check.proofs.Linear.{reads_most}
use Rattle.tdb_check.proofs.laws.reads_law.Goals as goal

pub returns : goal.returns
returns c = reads_most
