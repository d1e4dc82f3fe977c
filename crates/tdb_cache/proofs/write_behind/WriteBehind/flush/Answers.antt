use Rattle.std.proofs.Common.{arith}
use Rattle.tdb_disk.specs.History.{seen}
use Rattle.tdb_cache.proofs.Laids.{flushed_shown}
use Rattle.tdb_cache.proofs.write_behind.WriteBehind.flush.Goals as goal

pub returns-in-Gathered-clause-shown : goal.returns-in-Gathered-clause-shown
returns-in-Gathered-clause-shown g c =
    flushed_shown c.flush-in-Gathered.result c.flush-in-Gathered.new.self.blocks (seen (g.D.Disk.history c.flush-in-Gathered.new.d)) _
    g.D.Disk.tells c.flush-in-Gathered.ensures.none (λ told. grind (arith, c.flush-in-Gathered.ensures.view told, c.in-Gathered.is))
