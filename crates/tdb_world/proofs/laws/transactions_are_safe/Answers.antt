-- The law of what stops leave while an opener has a transaction.
use Rattle.tdb_world.proofs.Stopping.{transactions_safe}
use Rattle.tdb_world.proofs.laws.transactions_are_safe.Goals as goal

pub returns : goal.returns
returns c = record { law = transactions_safe }
