-- The laws of the machines' turns.
use Rattle.tdb_txn_owner.proofs.StartTurns.{start_is_own}
use Rattle.tdb_txn_owner.proofs.CommitTurns.{commit_is_own}
use Rattle.tdb_txn_owner.proofs.PrepareTurns.{prepare_is_own}
use Rattle.tdb_txn_owner.proofs.FinishTurns.{finish_is_own, nothing_is_own}
use Rattle.tdb_txn_owner.proofs.ends.machines_are_own.Goals as goal

pub returns-clause-start : goal.returns-clause-start
returns-clause-start c = start_is_own

pub returns-clause-commit : goal.returns-clause-commit
returns-clause-commit c = commit_is_own

pub returns-clause-prepare : goal.returns-clause-prepare
returns-clause-prepare c = prepare_is_own

pub returns-clause-finish : goal.returns-clause-finish
returns-clause-finish c = finish_is_own

pub returns-clause-nothing : goal.returns-clause-nothing
returns-clause-nothing c = nothing_is_own
