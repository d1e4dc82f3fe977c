-- So far all turns were steps, and the opener has its command.
use Rattle.std.proofs.Common.{Ok}
use Rattle.tdb_commands.specs.InLaw.{law_opener}
use Rattle.tdb_openers.specs.Played.{Steps, GoesSome}
use Rattle.tdb_world.specs.Steps.{HasCommand}
use Rattle.tdb_world.specs.Whole.{form_at}
use Rattle.tdb_world.specs.Courses.Led.{moment, Led}
use Rattle.tdb_world.specs.Courses.Stops.{StopsLed}
use Rattle.tdb_world.specs.Courses.Turns.{GoesOrClears}
use Rattle.tdb_world.proofs.course.advancing.go_on.Given as goal

abbrev pub invariant-loop-taken : goal.invariant-loop-taken
invariant-loop-taken g l = record {
  busy : HasCommand l.world l.who;
  led : Led {V = Unit {0}} g.D.Disk.tells (moment l.fn.world (g.D.Disk.history l.fn.d) (g.D.Disk.size l.fn.d) (g.D.Disk.faults l.fn.d) l.fn.report.lines)
      (moment l.world (g.D.Disk.history l.d) (g.D.Disk.size l.d) (g.D.Disk.faults l.d) l.report.lines) (Ok tt)
      (λ state _. Steps (form_at l.fn.world) l._taken state (law_opener l.who))
      (λ state. GoesSome (form_at l.fn.world) state (law_opener l.who))
      (λ state. GoesOrClears (form_at l.fn.world) state (law_opener l.who));
  stops : StopsLed {V = Unit {0}} g.D.Disk.tells (moment l.fn.world (g.D.Disk.history l.fn.d) (g.D.Disk.size l.fn.d) (g.D.Disk.faults l.fn.d) l.fn.report.lines)
      (moment l.world (g.D.Disk.history l.d) (g.D.Disk.size l.d) (g.D.Disk.faults l.d) l.report.lines) (Ok tt);
}
