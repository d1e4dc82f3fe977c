-- Some records of the free list were passed, and the view is as it was.
use Rattle.std.proofs.Common.{◌≡◌, ◌≤◌, List, IsTrue}
use Rattle.tdb_space.specs.Frame.{Looked}
use Rattle.tdb_space.specs.Chain.{free_of}
use Rattle.tdb_space.specs.Extents.{HandPair}
use Rattle.tdb_space.specs.Accepted.{AcceptWith}
use Rattle.tdb_rewrite.proofs.Greatest.{Largest}
use Rattle.tdb_rewrite.proofs.summing.largest_free.Given as goal

abbrev pub invariant-loop-found : goal.invariant-loop-found
invariant-loop-found g l = record {
  largest : IsTrue g.S.Space.tells → (hands : List HandPair) → AcceptWith (g.S.Space.form l.fn.s) (g.S.Space.image l.fn.s) hands
      → Largest (g.S.Space.form l.fn.s) (g.S.Space.image l.fn.s) (free_of (g.S.Space.form l.fn.s) (g.S.Space.image l.fn.s)) l.largest l.walk;
  looked : Looked g.S.Space l.fn.s l.s;
  faults : g.S.Space.faults l.s ≡ g.S.Space.faults l.fn.s;
  bytes_read : g.S.Space.bytes_read l.fn.s ≤ g.S.Space.bytes_read l.s;
}

abbrev pub decreases-loop-found : goal.decreases-loop-found
decreases-loop-found g l = l.walk.left
