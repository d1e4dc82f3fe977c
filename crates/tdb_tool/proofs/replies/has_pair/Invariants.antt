-- None of the lines so far tells a pair.
use Rattle.std.proofs.Common.{◌≡◌, false, take}
use Rattle.tdb_tool.specs.Replies.{tell_pair}
use Rattle.tdb_tool.proofs.replies.has_pair.Given as goal

abbrev pub invariant-loop-i : goal.invariant-loop-i
invariant-loop-i l = tell_pair (take l.i l.report.lines) ≡ false
