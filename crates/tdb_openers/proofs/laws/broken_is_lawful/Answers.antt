-- The law is the lemma.
use Rattle.tdb_openers.proofs.Joining.Finishing.{broken_lawful}
use Rattle.tdb_openers.proofs.laws.broken_is_lawful.Goals as goal

pub returns : goal.returns
returns c = record { law = broken_lawful }
