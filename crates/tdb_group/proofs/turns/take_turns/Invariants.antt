-- So far all turns were steps.
use Rattle.tdb_group.proofs.Loops.{SoFar}
use Rattle.tdb_group.proofs.turns.take_turns.Given as goal

abbrev pub invariant-loop-taken : goal.invariant-loop-taken
invariant-loop-taken g l = SoFar g.D.Disk.tells l.fn.world l.world l._taken
