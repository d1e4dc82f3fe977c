-- The laws of what does nothing.
use Rattle.tdb_txn_turns.proofs.InsideTxn.Nested.{prepares_inside, refuses_inside}
use Rattle.tdb_txn_turns.proofs.inside_txn.laws.nothing_is_done.Goals as goal

pub returns-clause-prepares : goal.returns-clause-prepares
returns-clause-prepares c = prepares_inside

pub returns-clause-refuses : goal.returns-clause-refuses
returns-clause-refuses c = refuses_inside
