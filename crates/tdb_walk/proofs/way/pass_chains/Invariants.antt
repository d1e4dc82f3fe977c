-- The chains so far have no live record, and those with records could be read; the view and the locks are as they were.
use Rattle.std.proofs.Common.{◌≡◌, ◌+◌, ◌-◌, ◌≤◌, ◌<◌, max, IsTrue, ℕ, List, None}
use Rattle.tdb_space.specs.Extents.{HandPair}
use Rattle.tdb_space.specs.Accepted.{AcceptWith}
use Rattle.tdb_space.specs.Frame.{Looked}
use Rattle.tdb_law.specs.Layout.{chains_in}
use Rattle.tdb_walk.specs.NextLive.{first_live}
use Rattle.tdb_walk.specs.Way.{CanReadTo, SameLocks}
use Rattle.tdb_walk.specs.Reads.{chains_reads}
use Rattle.tdb_walk.proofs.way.pass_chains.Given as goal

abbrev pub invariant-loop-chain : goal.invariant-loop-chain
invariant-loop-chain g l = record {
  passed : IsTrue g.S.Space.tells → (hands : List HandPair) → AcceptWith (g.S.Space.form l.fn.s) (g.S.Space.image l.fn.s) hands
      → (j : ℕ) → l.from ≤ j → j < l.chain → first_live (chains_in (g.S.Space.form l.fn.s) (g.S.Space.image l.fn.s) j) ≡ None;
  free : IsTrue g.S.Space.tells → CanReadTo (g.S.Space.form l.fn.s) (g.S.Space.image l.fn.s) l.fn.locks l.owner l.own l.from l.chain;
  same : SameLocks l.fn.locks l.locks;
  least : l.from ≤ l.chain;
  looked : Looked g.S.Space l.fn.s l.s;
  faults : g.S.Space.faults l.s ≡ g.S.Space.faults l.fn.s;
  most : l.chain ≤ max l.from l.chains;
  reads : IsTrue g.S.Space.tells → g.S.Space.bytes_read l.s ≤ g.S.Space.bytes_read l.fn.s + chains_reads (g.S.Space.form l.fn.s) (g.S.Space.image l.fn.s) l.from (l.chain - l.from);
  bytes_read : g.S.Space.bytes_read l.fn.s ≤ g.S.Space.bytes_read l.s;
}

abbrev pub decreases-loop-chain : goal.decreases-loop-chain
decreases-loop-chain g l = l.chains - l.chain
