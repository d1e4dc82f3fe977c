-- All of them.
use Rattle.std.proofs.Common.{◌≡◌, ◌<◌, length, arith}
use Rattle.tdb_check.proofs.Taken.{left_all}
use Rattle.tdb_check.proofs.links.Links.are_taken.Goals as goal

pub returns : goal.returns
returns c _ w = left_all w c.args.self.now (λ k d low. c.loop-i.invariant k d (omega (arith, low)))
