-- The opener that is left can take its next turn.
use Rattle.tdb_disk.specs.MemDisk.{memory_size}
use Rattle.tdb_txn_owner.specs.Stages.{IsFit}
use Rattle.transaction_tests.specs.declared.owner.plays.TheConstants.{HEADER, LIMIT}
use Rattle.transaction_tests.proofs.owner.plays.play.Given as goal

abbrev pub invariant-loop : goal.invariant-loop
invariant-loop l = IsFit l.left.stage HEADER LIMIT (memory_size l.disk)
