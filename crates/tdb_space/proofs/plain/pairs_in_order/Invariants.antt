-- The pairs of the chains so far were found.
use Rattle.std.proofs.Common.{map}
use Rattle.tdb_space.specs.Form.{form_in}
use Rattle.tdb_space.specs.Pairs.{pair_seen}
use Rattle.tdb_space.proofs.Pairs.Gathered.{Gathered}
use Rattle.tdb_space.proofs.plain.pairs_in_order.Given as goal

abbrev pub invariant-loop-chain : goal.invariant-loop-chain
invariant-loop-chain l = Gathered (form_in l.header) l.image l.chain (map pair_seen l.all.items)
