-- The plays so far were taken whole, and the logs heard of all.
use Rattle.std.proofs.Common.{Ok, take}
use Rattle.tdb_law.specs.Plays.{Course}
use Rattle.tdb_commands.specs.InLaw.{law_plays}
use Rattle.tdb_openers.specs.Played.{ComesTo}
use Rattle.tdb_world.specs.Whole.{form_at}
use Rattle.tdb_world.specs.Courses.Hearing.{HeardLed}
use Rattle.tdb_world.specs.Courses.Led.{moment, Led}
use Rattle.tdb_world.specs.Courses.Stops.{StopsLed}
use Rattle.tdb_world.proofs.course.playing.run.Given as goal

abbrev pub invariant-loop-next : goal.invariant-loop-next
invariant-loop-next g l = record {
  led : Led {V = Unit {0}} g.D.Disk.tells (moment l.fn.world (g.D.Disk.history l.fn.d) (g.D.Disk.size l.fn.d) (g.D.Disk.faults l.fn.d) l.fn.report.lines)
      (moment l.world (g.D.Disk.history l.d) (g.D.Disk.size l.d) (g.D.Disk.faults l.d) l.report.lines) (Ok tt)
      (λ state _. Course (form_at l.fn.world) state (law_plays (take l.next-index l.plays)))
      (λ state. ComesTo (form_at l.fn.world) state (law_plays l.plays))
      (λ state. ComesTo (form_at l.fn.world) state (law_plays l.plays));
  stops : StopsLed {V = Unit {0}} g.D.Disk.tells (moment l.fn.world (g.D.Disk.history l.fn.d) (g.D.Disk.size l.fn.d) (g.D.Disk.faults l.fn.d) l.fn.report.lines)
      (moment l.world (g.D.Disk.history l.d) (g.D.Disk.size l.d) (g.D.Disk.faults l.d) l.report.lines) (Ok tt);
  heard : HeardLed {V = Unit {0}} g.D.Disk.tells (moment l.fn.world (g.D.Disk.history l.fn.d) (g.D.Disk.size l.fn.d) (g.D.Disk.faults l.fn.d) l.fn.report.lines)
      (moment l.world (g.D.Disk.history l.d) (g.D.Disk.size l.d) (g.D.Disk.faults l.d) l.report.lines) (g.L.Logs.logs l.fn.logs) (g.L.Logs.logs l.logs) (Ok (Ok tt));
}
