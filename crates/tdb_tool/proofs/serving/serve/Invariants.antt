-- The commands so far are those that the lines read so far ask for.
use Rattle.std.proofs.Common.{◌≡◌, ◌-◌}
use Rattle.tdb_tool.specs.Lines.{lines_left}
use Rattle.tdb_world.specs.Courses.Scene.{scene}
use Rattle.tdb_tool.specs.declared.limits.TheConstants.{LONGEST_SESSION}
use Rattle.tdb_tool.proofs.Sessions.{Serving}
use Rattle.tdb_tool.proofs.serving.serve.Given as goal

abbrev pub invariant-loop-reader : goal.invariant-loop-reader
invariant-loop-reader g l = record {
  serving : Serving g.D.Disk.tells g.I.Source.tells g.K.Sink.tells (scene l.fn.world (g.K.Sink.written l.fn.output) (g.L.Logs.logs l.fn.logs))
      (scene l.world (g.K.Sink.written l.output) (g.L.Logs.logs l.logs)) (g.I.Source.left l.fn.input) l.reader.at (lines_left l.reader (g.I.Source.left l.input));
  heard : g.I.Source.faults l.input ≡ g.I.Source.faults l.fn.input;
  out : g.K.Sink.faults l.output ≡ g.K.Sink.faults l.fn.output;
}

abbrev pub decreases-loop-reader : goal.decreases-loop-reader
decreases-loop-reader g l = LONGEST_SESSION - l.reader.at
