-- Each of the moves so far gave a pair, and their text was written but for what is held of it.
use Rattle.std.proofs.Common.{◌≡◌, ◌++◌}
use Rattle.tdb_world.specs.Courses.Scene.{scene}
use Rattle.tdb_tool.proofs.Lists.{SoFar, Grew}
use Rattle.tdb_tool.proofs.taking.take_list.Given as goal

abbrev pub invariant-loop-moves : goal.invariant-loop-moves
invariant-loop-moves g l = record {
  led : SoFar g.D.Disk.tells g.K.Sink.tells l.listing l.moves (scene l.fn.world (g.K.Sink.written l.fn.output) (g.L.Logs.logs l.fn.logs))
      (scene l.world (g.K.Sink.written l.output ++ l.held.items) (g.L.Logs.logs l.logs));
  grew : Grew g.K.Sink.tells (scene l.fn.world (g.K.Sink.written l.fn.output) (g.L.Logs.logs l.fn.logs)) (g.K.Sink.written l.output);
  out : g.K.Sink.faults l.output ≡ g.K.Sink.faults l.fn.output;
}
