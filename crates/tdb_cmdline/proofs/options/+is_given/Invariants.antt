use Rattle.std.proofs.Common.{length}
use Rattle.tdb_cmdline.proofs.options.+is_given.Given as goal

abbrev pub decreases-is_given : goal.decreases-is_given
decreases-is_given l = length l.options.now
