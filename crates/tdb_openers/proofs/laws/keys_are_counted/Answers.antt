-- The law is the lemma.
use Rattle.tdb_openers.proofs.Checks.Keys.{keys_are_counted}
use Rattle.tdb_openers.proofs.laws.keys_are_counted.Goals as goal

pub returns : goal.returns
returns c = record { law = keys_are_counted }
