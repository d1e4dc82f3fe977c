-- The file has chains, and nothing bounds the room.
use Rattle.std.proofs.Common.{rules}
use Rattle.tdb_space.specs.Spare.{without_bound}
use Rattle.tdb_disk.specs.MemDisk.{memory_size}
use Rattle.transaction_tests.proofs.openers.Openers.run.Goals as goal

pub loop-i-init : goal.loop-i-init
loop-i-init c = record {
  fits = c.requires.fits (memory_size c.new-s.result.disk.now) without_bound;
  chains = search rules;
}
