-- The law is the lemma.
use Rattle.tdb_law.proofs.Plainly.{beginning_lawful}
use Rattle.tdb_law.proofs.plain.beginning_stands.Goals as goal

pub returns : goal.returns
returns c = record { law = beginning_lawful }
