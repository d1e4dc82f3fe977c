-- The gate was opened.
use Rattle.std.proofs.Common.{true, subst, sym}
use Rattle.tdb_txn_turns.specs.Committings.{IsOpened}
use Rattle.tdb_txn_turns.specs.Holding.{RowTurned}
use Rattle.tdb_txn_turns.specs.Prepares.{prepare_turn}
use Rattle.tdb_txn_turns.proofs.CommitTurns.{row_opens}
use Rattle.tdb_txn_turns.proofs.committing.go_on.Goals as goal

pub returns-in-Done-clause-locks : goal.returns-in-Done-clause-locks
returns-in-Done-clause-locks c row kept n ps R none =
    row_opens row kept c.args.owner n ps c.args.locks.now (subst (λ t. RowTurned true row kept c.args.owner n ps c.args.locks.now (prepare_turn t)) c.in-Done.is R)
    (none (subst IsOpened (sym c.in-Done.is) tt))
