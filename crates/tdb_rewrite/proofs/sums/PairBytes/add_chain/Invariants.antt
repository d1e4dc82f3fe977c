-- Some records of the chain were passed and summed up, and the view is as it was.
use Rattle.std.proofs.Common.{◌≡◌, ◌<◌, ◌≤◌, List, IsTrue}
use Rattle.tdb_space.specs.Frame.{Looked}
use Rattle.tdb_space.specs.Extents.{HandPair}
use Rattle.tdb_space.specs.Accepted.{AcceptWith}
use Rattle.tdb_rewrite.specs.Sums.{Sums, pairs_below}
use Rattle.tdb_rewrite.proofs.Adding.{Adding}
use Rattle.tdb_rewrite.proofs.sums.PairBytes.add_chain.Given as goal

abbrev pub invariant-loop-found : goal.invariant-loop-found
invariant-loop-found g l = record {
  adding : IsTrue g.S.Space.tells → l.chain < (g.S.Space.form l.fn.s).chains → (hands : List HandPair) → AcceptWith (g.S.Space.form l.fn.s) (g.S.Space.image l.fn.s) hands
      → Sums (pairs_below (g.S.Space.form l.fn.s) (g.S.Space.image l.fn.s) l.chain) l.fn.self
      → Adding (g.S.Space.form l.fn.s) (g.S.Space.image l.fn.s) l.chain l.walk l.self;
  looked : Looked g.S.Space l.fn.s l.s;
  faults : g.S.Space.faults l.s ≡ g.S.Space.faults l.fn.s;
  bytes_read : g.S.Space.bytes_read l.fn.s ≤ g.S.Space.bytes_read l.s;
}

abbrev pub decreases-loop-found : goal.decreases-loop-found
decreases-loop-found g l = l.walk.left
