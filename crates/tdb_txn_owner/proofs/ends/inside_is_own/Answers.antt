-- The laws of the commands inside a transaction.
use Rattle.tdb_txn_owner.proofs.InsideTurns.{inside_is_own as its_law, walk_shifts}
use Rattle.tdb_txn_owner.proofs.ends.inside_is_own.Goals as goal

pub returns-clause-turned : goal.returns-clause-turned
returns-clause-turned c = its_law

pub returns-clause-walks : goal.returns-clause-walks
returns-clause-walks c = walk_shifts
