-- What was written, and what is still held, is the text of the pairs that the walk has given.
use Rattle.std.proofs.Common.{◌≡◌, ◌+◌, ◌≤◌, List, IsTrue}
use Rattle.tdb_space.specs.Frame.{Looked}
use Rattle.tdb_space.specs.Extents.{HandPair}
use Rattle.tdb_space.specs.Accepted.{AcceptWith}
use Rattle.tdb_backup.specs.Traversal.{most_left}
use Rattle.tdb_backup.specs.Reads.{ahead_reads, pairs_reads}
use Rattle.tdb_backup.proofs.Dumped.{Listed}
use Rattle.tdb_backup.proofs.dumping.write_pairs.Given as goal

abbrev pub invariant-loop-text : goal.invariant-loop-text
invariant-loop-text g l = record {
  dumped : IsTrue g.S.Space.tells → IsTrue g.K.Sink.tells → (hands : List HandPair) → AcceptWith (g.S.Space.form l.fn.s) (g.S.Space.image l.fn.s) hands
      → Listed l.listing (g.S.Space.form l.fn.s) (g.S.Space.image l.fn.s) (g.K.Sink.written l.fn.out) (g.K.Sink.written l.out) l.text.items l.traversal;
  looked : Looked g.S.Space l.fn.s l.s;
  faults : g.S.Space.faults l.s ≡ g.S.Space.faults l.fn.s;
  sink_faults : g.K.Sink.faults l.out ≡ g.K.Sink.faults l.fn.out;
  bytes_read : g.S.Space.bytes_read l.fn.s ≤ g.S.Space.bytes_read l.s;
  reads : IsTrue g.S.Space.tells → g.S.Space.bytes_read l.s + ahead_reads (g.S.Space.form l.fn.s) (g.S.Space.image l.fn.s) l.traversal ≤ g.S.Space.bytes_read l.fn.s + pairs_reads (g.S.Space.form l.fn.s) (g.S.Space.image l.fn.s);
}

abbrev pub decreases-loop-text : goal.decreases-loop-text
decreases-loop-text g l = most_left (g.S.Space.form l.fn.s).chains (g.S.Space.size l.fn.s) l.traversal
