-- The extents so far were gone through.
use Rattle.tdb_check.proofs.Swept.{Swept}
use Rattle.tdb_check.proofs.extent.first_overlap.Given as goal

abbrev pub invariant-loop-e : goal.invariant-loop-e
invariant-loop-e l = Swept l.extents l.e-index l.reach
