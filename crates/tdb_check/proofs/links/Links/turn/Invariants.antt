-- The lists were followed on.
use Rattle.std.proofs.Common.{◌≡◌, length}
use Rattle.tdb_check.specs.Links.{StillReached}
use Rattle.tdb_check.proofs.links.Links.turn.Given as goal

abbrev pub invariant-loop-j : goal.invariant-loop-j
invariant-loop-j l = record {
  reached : StillReached l.fn.self l.fn.at l.self l.at;
  long : length l.at ≡ length l.fn.at;
  as_many : length l.self.links.items ≡ length l.fn.self.links.items;
}
