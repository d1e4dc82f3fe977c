-- The chosen ones of the pairs so far are stored, and the file that is read is as it was.
use Rattle.std.proofs.Common.{◌≡◌, List, IsTrue, Ok}
use Rattle.tdb_space.specs.Accepted.{AcceptWith}
use Rattle.tdb_space.specs.Extents.{HandPair}
use Rattle.tdb_space.specs.Frame.{Looked}
use Rattle.tdb_backup.specs.Traversal.{most_left}
use Rattle.tdb_merge.specs.Parts.{Ran}
use Rattle.tdb_merge.proofs.Choosing.{SoFar}
use Rattle.tdb_merge.proofs.storing.store_pairs.Given as goal

abbrev pub invariant-loop-traversal : goal.invariant-loop-traversal
invariant-loop-traversal g l = record {
  ran : Ran l.fn.world l.world (Ok tt);
  so_far : IsTrue g.S.Space.tells → (hands : List HandPair) → AcceptWith (g.S.Space.form l.fn.from) (g.S.Space.image l.fn.from) hands
      → SoFar g.D.Disk.tells (g.S.Space.form l.fn.from) (g.S.Space.image l.fn.from) l.prefix l.traversal l.fn.world l.world;
  looked : Looked g.S.Space l.fn.from l.from;
  faults : g.S.Space.faults l.from ≡ g.S.Space.faults l.fn.from;
}

abbrev pub decreases-loop-traversal : goal.decreases-loop-traversal
decreases-loop-traversal g l = most_left (g.S.Space.form l.fn.from).chains (g.S.Space.size l.fn.from) l.traversal
