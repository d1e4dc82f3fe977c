-- The plays so far were taken and told.
use Rattle.std.proofs.Common.{◌≡◌, take, Ok}
use Rattle.tdb_world.specs.Courses.Scene.{scene}
use Rattle.tdb_answer.specs.Playing.{Ran}
use Rattle.tdb_answer.specs.Stops.{StopsTold}
use Rattle.tdb_answer.proofs.playing.play_each.Given as goal

abbrev pub invariant-loop-i : goal.invariant-loop-i
invariant-loop-i g l = record {
  ran : Ran g.D.Disk.tells g.K.Sink.tells (scene l.fn.world (g.K.Sink.written l.fn.output) (g.L.Logs.logs l.fn.logs))
      (scene l.world (g.K.Sink.written l.output) (g.L.Logs.logs l.logs)) (take l.i l.plays) (Ok (Ok tt));
  stops : StopsTold g.D.Disk.tells g.K.Sink.tells (scene l.fn.world (g.K.Sink.written l.fn.output) (g.L.Logs.logs l.fn.logs))
      (scene l.world (g.K.Sink.written l.output) (g.L.Logs.logs l.logs)) (take l.i l.plays) (Ok (Ok tt));
  out : g.K.Sink.faults l.output ≡ g.K.Sink.faults l.fn.output;
}
