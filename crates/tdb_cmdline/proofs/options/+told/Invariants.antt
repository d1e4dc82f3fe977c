use Rattle.std.proofs.Common.{length}
use Rattle.tdb_cmdline.proofs.options.+told.Given as goal

abbrev pub decreases-told : goal.decreases-told
decreases-told l = length l.options.now
