-- None of the lines so far tells an ending.
use Rattle.std.proofs.Common.{◌≡◌, drop}
use Rattle.tdb_merge.specs.Endings.{ending_of}
use Rattle.tdb_merge.proofs.ending.ending_of.Given as goal

abbrev pub invariant-loop-i : goal.invariant-loop-i
invariant-loop-i l = ending_of l.report.lines ≡ ending_of (drop l.i l.report.lines)
