use Rattle.std.proofs.Common.{arith}
use Rattle.tdb_words.specs.Hash.{h_old}
use Rattle.tdb_words.proofs.old.OldRun.end.Goals as goal

pub returns : goal.returns
unfolding h_old
returns c bytes held = omega (arith, held.sum)
