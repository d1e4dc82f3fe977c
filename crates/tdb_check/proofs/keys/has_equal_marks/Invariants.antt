-- The marks so far rise.
use Rattle.tdb_check.specs.Keys.{MarksRise}
use Rattle.tdb_check.proofs.keys.has_equal_marks.Given as goal

abbrev pub invariant-loop-i : goal.invariant-loop-i
invariant-loop-i l = MarksRise l.sorted l.i
