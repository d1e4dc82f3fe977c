-- The lists were followed on.
use Rattle.std.proofs.Common.{◌≡◌, length}
use Rattle.tdb_check.specs.Links.{StillReached}
use Rattle.tdb_check.proofs.links.Links.run.Given as goal

abbrev pub invariant-loop-i : goal.invariant-loop-i
invariant-loop-i l = record {
  reached : StillReached l.fn.self l.fn.at l.self l.at;
  long : length l.at ≡ length l.fn.at;
  as_many : length l.self.links.items ≡ length l.fn.self.links.items;
}
