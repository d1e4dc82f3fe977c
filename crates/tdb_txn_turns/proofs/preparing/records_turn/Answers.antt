-- All records are taken for writing, or another opener is in the way.
use Rattle.std.proofs.Common.{true, refl}
use Rattle.tdb_law.specs.Rows.{all_end, commit_locks, lock_all}
use Rattle.tdb_txn_turns.specs.Holding.{want_of}
use Rattle.tdb_txn_turns.specs.Prepares.{start_held}
use Rattle.tdb_txn_turns.specs.declared.taking.Attempt.TheVariants.{Taken, Blocked}
use Rattle.tdb_txn_turns.proofs.CommitLocks.{first_wants, may_write}
use Rattle.tdb_txn_turns.proofs.Rows.{row_turned}
use Rattle.tdb_txn_turns.proofs.preparing.records_turn.Goals as goal

pub returns-in-Taken-clause-locks : goal.returns-in-Taken-clause-locks
returns-in-Taken-clause-locks c H =
    let z = c.args.numbered in
    let ps = c.args.locks.now in
    row_turned true (commit_locks z) start_held c.args.owner 0 ps c.take.new.locks (want_of (lock_all 0 2)) (want_of (lock_all 0 2)) (first_wants z) (λ b. refl) H c.take.ensures.others Taken
    (c.in-Taken.ensures.made (may_write 0 168 all_end c.args.owner ps))

pub returns-in-Blocked-clause-locks : goal.returns-in-Blocked-clause-locks
returns-in-Blocked-clause-locks c H =
    let z = c.args.numbered in
    let ps = c.args.locks.now in
    row_turned true (commit_locks z) start_held c.args.owner 0 ps c.take.new.locks (want_of (lock_all 0 2)) (want_of (lock_all 0 2)) (first_wants z) (λ b. refl) H c.take.ensures.others (Blocked c.in-Blocked.owner c.in-Blocked.byte)
    (c.in-Blocked.ensures.made (may_write 0 168 all_end c.args.owner ps))
