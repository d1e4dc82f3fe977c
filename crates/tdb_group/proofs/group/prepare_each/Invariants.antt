-- So many files are prepared.
use Rattle.tdb_group.proofs.Each.{PreparedUpTo}
use Rattle.tdb_group.proofs.group.prepare_each.Given as goal

abbrev pub invariant-loop-at : goal.invariant-loop-at
invariant-loop-at g l = PreparedUpTo g.D.Disk.tells l.at l.fn.worlds.items l.worlds.items (g.L.Logs.logs l.fn.logs) (g.L.Logs.logs l.logs)
