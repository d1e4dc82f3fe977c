-- What was written, and what is still held, is the text of the chains so far.
use Rattle.std.proofs.Common.{◌≡◌, ◌≤◌, List, IsTrue}
use Rattle.tdb_space.specs.Frame.{Looked}
use Rattle.tdb_space.specs.Extents.{HandPair}
use Rattle.tdb_space.specs.Accepted.{AcceptWith}
use Rattle.tdb_rewrite.proofs.Streamed.{Streamed}
use Rattle.tdb_rewrite.proofs.Written.{text_below}
use Rattle.tdb_rewrite.proofs.writing.write_chains.Given as goal

abbrev pub invariant-loop-chain : goal.invariant-loop-chain
invariant-loop-chain g l = record {
  streamed : IsTrue g.S.Space.tells → IsTrue g.K.Sink.tells → (hands : List HandPair) → AcceptWith (g.S.Space.form l.fn.s) (g.S.Space.image l.fn.s) hands
      → Streamed (g.K.Sink.written l.fn.out) (g.K.Sink.written l.out) l.text.items (text_below (g.S.Space.form l.fn.s) (g.S.Space.image l.fn.s) l.chain);
  looked : Looked g.S.Space l.fn.s l.s;
  faults : g.S.Space.faults l.s ≡ g.S.Space.faults l.fn.s;
  sink_faults : g.K.Sink.faults l.out ≡ g.K.Sink.faults l.fn.out;
  bytes_read : g.S.Space.bytes_read l.fn.s ≤ g.S.Space.bytes_read l.s;
}
