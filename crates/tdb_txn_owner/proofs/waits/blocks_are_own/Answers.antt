-- The laws of blocked turns.
use Rattle.tdb_txn_owner.proofs.Waiting.{block_is_own, alone_goes}
use Rattle.tdb_txn_owner.proofs.waits.blocks_are_own.Goals as goal

pub returns-clause-blocked : goal.returns-clause-blocked
returns-clause-blocked c = block_is_own

pub returns-clause-alone : goal.returns-clause-alone
returns-clause-alone c = alone_goes
