-- The laws of the rows.
use Rattle.tdb_txn_turns.proofs.Lawful.{start_holds, start_keeps, commit_holds, prepare_keeps, finish_holds, start_row, prepare_row_law, commit_row_law, finish_row_law}
use Rattle.tdb_txn_turns.proofs.laws.turns_are_of_rows.Goals as goal

pub returns-clause-start_holds : goal.returns-clause-start_holds
returns-clause-start_holds c = start_holds

pub returns-clause-start_keeps : goal.returns-clause-start_keeps
returns-clause-start_keeps c = start_keeps

pub returns-clause-commit_holds : goal.returns-clause-commit_holds
returns-clause-commit_holds c = commit_holds

pub returns-clause-prepare_keeps : goal.returns-clause-prepare_keeps
returns-clause-prepare_keeps c = prepare_keeps

pub returns-clause-finish_holds : goal.returns-clause-finish_holds
returns-clause-finish_holds c = finish_holds

pub returns-clause-start_row : goal.returns-clause-start_row
returns-clause-start_row c = start_row

pub returns-clause-prepare_row : goal.returns-clause-prepare_row
returns-clause-prepare_row c = prepare_row_law

pub returns-clause-commit_row : goal.returns-clause-commit_row
returns-clause-commit_row c = commit_row_law

pub returns-clause-finish_row : goal.returns-clause-finish_row
returns-clause-finish_row c = finish_row_law
