-- The new file holds the pairs that the walk has given, and logs heard of each growth.
use Rattle.std.proofs.Common.{◌≡◌, ◌+◌, ◌<◌, ◌≤◌, ◌^◌, [], ℕ, List, IsTrue}
use Rattle.std.specs.Prelude.{max}
use Rattle.tdb_space.specs.Frame.{Looked, Wrote}
use Rattle.tdb_space.specs.Extents.{HandPair}
use Rattle.tdb_space.specs.Accepted.{AcceptWith}
use Rattle.tdb_backup.specs.Traversal.{most_left}
use Rattle.tdb_backup.specs.Reads.{ahead_reads, pairs_reads}
use Rattle.tdb_backup.specs.Building.{HoldsPairs}
use Rattle.tdb_backup.proofs.Building.{Built}
use Rattle.tdb_backup.proofs.copying.copy_pairs.Given as goal

abbrev pub invariant-loop-traversal : goal.invariant-loop-traversal
invariant-loop-traversal g l = record {
  built : IsTrue g.S.Space.tells → IsTrue g.T.Space.tells → g.T.Space.size l.fn.to < 2 ^ 32 → (hands : List HandPair) → AcceptWith (g.S.Space.form l.fn.from) (g.S.Space.image l.fn.from) hands
      → (first : List ℕ) → HoldsPairs l.limit first (g.T.Space.form l.fn.to) (g.T.Space.image l.fn.to) []
      → Built l.limit first (g.S.Space.form l.fn.from) (g.S.Space.image l.fn.from) l.traversal (g.T.Space.form l.fn.to) (g.T.Space.image l.to) (g.L.Logs.logs l.fn.logs) (g.L.Logs.logs l.logs);
  within : g.T.Space.size l.to ≤ max (g.T.Space.size l.fn.to) l.limit;
  looked : Looked g.S.Space l.fn.from l.from;
  wrote : Wrote g.T.Space l.fn.to l.to;
  read_faults : g.S.Space.faults l.from ≡ g.S.Space.faults l.fn.from;
  write_faults : g.T.Space.faults l.to ≡ g.T.Space.faults l.fn.to;
  bytes_read : g.S.Space.bytes_read l.fn.from ≤ g.S.Space.bytes_read l.from;
  reads : IsTrue g.S.Space.tells → g.S.Space.bytes_read l.from + ahead_reads (g.S.Space.form l.fn.from) (g.S.Space.image l.fn.from) l.traversal ≤ g.S.Space.bytes_read l.fn.from + pairs_reads (g.S.Space.form l.fn.from) (g.S.Space.image l.fn.from);
}

abbrev pub decreases-loop-traversal : goal.decreases-loop-traversal
decreases-loop-traversal g l = most_left (g.S.Space.form l.fn.from).chains (g.S.Space.size l.fn.from) l.traversal
