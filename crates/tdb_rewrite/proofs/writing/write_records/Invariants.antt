-- What was written, and what is still held, is the text of the records so far.
use Rattle.std.proofs.Common.{◌≡◌, IsTrue}
use Rattle.tdb_rewrite.proofs.Streamed.{Streamed}
use Rattle.tdb_rewrite.proofs.Written.{free_below}
use Rattle.tdb_rewrite.proofs.writing.write_records.Given as goal

abbrev pub invariant-loop-index : goal.invariant-loop-index
invariant-loop-index g l = record {
  streamed : IsTrue g.K.Sink.tells → Streamed (g.K.Sink.written l.fn.out) (g.K.Sink.written l.out) l.text.items (free_below l.records l.index);
  sink_faults : g.K.Sink.faults l.out ≡ g.K.Sink.faults l.fn.out;
}
