-- The records so far were passed, and the view is as it was.
use Rattle.std.proofs.Common.{◌≡◌, ◌≤◌, IsTrue, List, ℕ}
use Rattle.tdb_space.specs.Frame.{Looked}
use Rattle.tdb_space.specs.Chain.{Chain}
use Rattle.tdb_space.specs.Accepted.{AllFiled}
use Rattle.tdb_walk.proofs.Left.{Left}
use Rattle.tdb_walk.proofs.Costs.{OnTheWay}
use Rattle.tdb_walk.proofs.records.live_from.Given as goal

abbrev pub invariant-loop-turn : goal.invariant-loop-turn
invariant-loop-turn g l = record {
  left : IsTrue g.S.Space.tells → (offs : List ℕ) → Chain (g.S.Space.form l.fn.s) (g.S.Space.image l.fn.s) l.first offs → AllFiled (g.S.Space.form l.fn.s) (g.S.Space.image l.fn.s) l.chain offs
      → Left (g.S.Space.form l.fn.s) (g.S.Space.image l.fn.s) l.chain offs l._turn l.at;
  looked : Looked g.S.Space l.fn.s l.s;
  faults : g.S.Space.faults l.s ≡ g.S.Space.faults l.fn.s;
  bytes_read : g.S.Space.bytes_read l.fn.s ≤ g.S.Space.bytes_read l.s;
  reads : IsTrue g.S.Space.tells → OnTheWay (g.S.Space.form l.fn.s) (g.S.Space.image l.fn.s) l.first l._turn l.at (g.S.Space.bytes_read l.fn.s) (g.S.Space.bytes_read l.s);
}
