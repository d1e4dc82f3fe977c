-- The machine can take its next turn.
use Rattle.std.proofs.Common.{◌<◌}
use Rattle.tdb_space.specs.Spare.{without_bound}
use Rattle.tdb_disk.specs.MemDisk.{memory_size}
use Rattle.tdb_steps.specs.Machines.{Fits}
use Rattle.transaction_tests.proofs.openers.Openers.run.Given as goal

abbrev pub invariant-loop-i : goal.invariant-loop-i
invariant-loop-i l = record {
  fits : Fits l.machine (memory_size l.s.disk.now) without_bound;
  chains : 0 < l.s.header.hash_size;
}
