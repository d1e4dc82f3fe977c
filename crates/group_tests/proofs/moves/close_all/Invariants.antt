-- Each world that is taken out is one fewer.
use Rattle.std.proofs.Common.{length}
use Rattle.group_tests.proofs.moves.close_all.Given as goal

abbrev pub decreases-loop-world : goal.decreases-loop-world
decreases-loop-world l = length l.worlds
