-- The logs heard of the lines so far.
use Rattle.std.proofs.Common.{◌≡◌, List, ◌++◌, take, Ok}
use Rattle.tdb_commands.specs.declared.line.Line.{Line}
use Rattle.tdb_world.specs.Courses.Hearing.{HeardNotices}
use Rattle.tdb_world.proofs.course.hearing.tell_logs.Given as goal

abbrev pub invariant-loop-i : goal.invariant-loop-i
invariant-loop-i g l = (told : List Line) × (take l.i l.report.lines ≡ take l.from l.report.lines ++ told) × HeardNotices told (g.L.Logs.logs l.fn.logs) (g.L.Logs.logs l.logs) (Ok tt)
