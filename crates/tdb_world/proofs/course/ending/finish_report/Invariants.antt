-- The openers so far were told.
use Rattle.std.proofs.Common.{◌≡◌, ◌++◌, List}
use Rattle.tdb_commands.specs.declared.line.Line.{Line}
use Rattle.tdb_world.specs.Courses.Unfinished.{AreUnfinished}
use Rattle.tdb_world.proofs.course.ending.finish_report.Given as goal

abbrev pub invariant-loop-place : goal.invariant-loop-place
invariant-loop-place l = (told : List Line) × (l.report.lines ≡ l.fn.report.lines ++ told) × AreUnfinished l.world 0 l.place told
