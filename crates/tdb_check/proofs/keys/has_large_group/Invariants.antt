-- No nine of the records so far have one mark.
use Rattle.tdb_check.specs.Keys.{NoLargeGroup}
use Rattle.tdb_check.proofs.keys.has_large_group.Given as goal

abbrev pub invariant-loop-i : goal.invariant-loop-i
invariant-loop-i l = NoLargeGroup l.sorted l.i
