-- The lists were followed on.
use Rattle.std.proofs.Common.{◌≡◌, ◌-◌, length}
use Rattle.tdb_check.specs.Links.{StillReached}
use Rattle.tdb_check.proofs.links.Links.follow.Given as goal

abbrev pub decreases-loop-first : goal.decreases-loop-first
decreases-loop-first l = length l.heads - l.first

abbrev pub invariant-loop-first : goal.invariant-loop-first
invariant-loop-first l = record {
  reached : StillReached l.fn.self l.fn.heads l.self l.heads;
  long : length l.heads ≡ length l.fn.heads;
}
