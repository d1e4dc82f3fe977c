-- The law is the lemma.
use Rattle.tdb_law.proofs.Happening.{gift_lawful}
use Rattle.tdb_law.proofs.events.gift_is_lawful.Goals as goal

pub returns : goal.returns
returns c = record { law = gift_lawful }
