-- The text of the lines so far stands behind what was there.
use Rattle.std.proofs.Common.{◌≡◌, ◌++◌, take}
use Rattle.tdb_tool.specs.Replies.{lines_text}
use Rattle.tdb_tool.proofs.replies.push_lines.Given as goal

abbrev pub invariant-loop-i : goal.invariant-loop-i
invariant-loop-i l = l.text.items ≡ l.fn.text.items ++ lines_text l.listing (take l.i l.report.lines)
