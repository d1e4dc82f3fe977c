-- So many rounds were taken.
use Rattle.std.proofs.Common.{Ok}
use Rattle.tdb_gen.specs.Plays.{rounds}
use Rattle.tdb_gen.specs.Taking.{place, Taken}
use Rattle.tdb_gen.proofs.rounds.take_rounds.Given as goal

abbrev pub invariant-loop : goal.invariant-loop
invariant-loop g l =
    Taken g.D.Disk.tells (place l.fn.world l.fn.counts (g.L.Logs.logs l.fn.logs))
    (place l.world l.counts (g.L.Logs.logs l.logs)) (rounds l.counter) (Ok tt)
