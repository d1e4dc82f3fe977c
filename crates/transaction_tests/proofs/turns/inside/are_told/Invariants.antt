-- The transaction is as each step needs it.
use Rattle.tdb_disk.specs.MemDisk.{memory_size}
use Rattle.transaction_tests.specs.Ready.{IsReady}
use Rattle.transaction_tests.proofs.turns.inside.are_told.Given as goal

abbrev pub invariant-loop-step : goal.invariant-loop-step
invariant-loop-step l = record { requires : IsReady l.own (memory_size l.disk) }
