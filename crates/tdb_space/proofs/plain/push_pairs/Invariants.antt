-- The used records so far fit, and their pairs were put at the end.
use Rattle.std.proofs.Common.{◌≡◌, ◌++◌, take, map}
use Rattle.tdb_space.specs.Record.{AllFit}
use Rattle.tdb_space.specs.Pairs.{pair_seen, pairs}
use Rattle.tdb_space.proofs.plain.push_pairs.Given as goal

abbrev pub invariant-loop-at : goal.invariant-loop-at
invariant-loop-at l = record {
  fit : AllFit l.header.order l.image (take l.at-index l.offs);
  held : map pair_seen l.all.items ≡ map pair_seen l.initial.all.items ++ pairs l.header.order l.image (take l.at-index l.offs);
}
