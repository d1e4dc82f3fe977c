-- The lines so far were written.
use Rattle.std.proofs.Common.{◌≡◌, ◌++◌, take, IsTrue}
use Rattle.tdb_script.specs.Text.{report_text}
use Rattle.tdb_answer.proofs.playing.tell.Given as goal

abbrev pub invariant-loop-i : goal.invariant-loop-i
invariant-loop-i g l = record {
  written : IsTrue g.K.Sink.tells → g.K.Sink.written l.output ≡ g.K.Sink.written l.fn.output ++ report_text (take l.i l.report.lines);
  faults : g.K.Sink.faults l.output ≡ g.K.Sink.faults l.fn.output;
}
