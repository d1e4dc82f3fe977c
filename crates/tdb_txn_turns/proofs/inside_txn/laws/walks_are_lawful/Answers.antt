-- The laws of walks inside a transaction.
use Rattle.tdb_txn_turns.proofs.InsideTxn.Lifted.{walks_are_lawful, walks_end, walks_stay}
use Rattle.tdb_txn_turns.proofs.inside_txn.laws.walks_are_lawful.Goals as goal

pub returns : goal.returns
returns c = record { lawful = walks_are_lawful; stay = walks_stay; end = walks_end }
