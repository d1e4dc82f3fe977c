use Rattle.std.specs.Prelude.{IfSome}
use Rattle.tdb_disk.specs.MemDisk.{memory_size}
use Rattle.tdb_txn_turns.specs.Committings.{CommitFits}
use Rattle.transaction_tests.proofs.turns.commits.run.Given as goal

-- the commit that is left can take its next turn
abbrev pub invariant-loop-i : goal.invariant-loop-i
invariant-loop-i l = IfSome l.left (λ next. CommitFits next (memory_size l.disk) l.limit)
