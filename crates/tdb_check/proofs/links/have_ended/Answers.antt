-- All of them.
use Rattle.std.proofs.Common.{◌<◌, arith}
use Rattle.tdb_check.proofs.links.have_ended.Goals as goal

pub returns : goal.returns
returns c _ j low = c.loop-j.invariant j (omega (arith, low, c.loop-j-test.false))
