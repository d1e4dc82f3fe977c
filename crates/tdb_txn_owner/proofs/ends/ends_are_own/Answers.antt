-- The laws of the ends without a commit.
use Rattle.tdb_txn_owner.proofs.InsideTurns.{end_is_own, cancel_ends, refusal_ends, close_is_own}
use Rattle.tdb_txn_owner.proofs.ends.ends_are_own.Goals as goal

pub returns-clause-end : goal.returns-clause-end
returns-clause-end c = end_is_own

pub returns-clause-cancel : goal.returns-clause-cancel
returns-clause-cancel c = cancel_ends

pub returns-clause-refusal : goal.returns-clause-refusal
returns-clause-refusal c = refusal_ends

pub returns-clause-close : goal.returns-clause-close
returns-clause-close c = close_is_own
