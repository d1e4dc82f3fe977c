-- The lists were followed on.
use Rattle.std.proofs.Common.{◌≡◌, length}
use Rattle.tdb_check.specs.Links.{StillReached}
use Rattle.tdb_check.proofs.links.Links.sweep.Given as goal

abbrev pub invariant-loop-k : goal.invariant-loop-k
invariant-loop-k l = record {
  reached : StillReached l.fn.self l.fn.at l.self l.at;
  long : length l.at ≡ length l.fn.at;
  as_many : length l.self.links.items ≡ length l.fn.self.links.items;
}
