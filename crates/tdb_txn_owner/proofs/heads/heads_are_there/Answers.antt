-- The laws of the heads.
use Rattle.tdb_txn_owner.proofs.HeadsTold.{heads_there, lacked_out}
use Rattle.tdb_txn_owner.proofs.heads.heads_are_there.Goals as goal

pub returns-clause-heads : goal.returns-clause-heads
returns-clause-heads c = heads_there

pub returns-clause-out : goal.returns-clause-out
returns-clause-out c = lacked_out
