-- The record is further on, and the view is as it was.
use Rattle.std.proofs.Common.{◌≡◌, ◌+◌, ◌^◌, ◌<◌, ◌≤◌, ◌⊎◌, IsTrue, List}
use Rattle.std.specs.Prelude.{◌%◌}
use Rattle.tdb_space.specs.Frame.{Looked}
use Rattle.tdb_space.specs.Form.{data_start}
use Rattle.tdb_space.specs.Extents.{HandPair}
use Rattle.tdb_space.specs.Accepted.{AcceptWith}
use Rattle.tdb_walk.specs.Purging.{IsDeadIn}
use Rattle.tdb_walk.proofs.Placed.{Comes}
use Rattle.tdb_walk.proofs.purging.dead_place.Given as goal

abbrev pub invariant-loop-turn : goal.invariant-loop-turn
invariant-loop-turn g l = record {
  comes : IsTrue g.S.Space.tells → (hands : List HandPair) → AcceptWith (g.S.Space.form l.fn.s) (g.S.Space.image l.fn.s) hands → IsDeadIn (g.S.Space.form l.fn.s) (g.S.Space.image l.fn.s) l.chain l.off
      → Comes (g.S.Space.form l.fn.s) (g.S.Space.image l.fn.s) l.chain l.off l._turn l.before l.at;
  led : l.before + 4 ≤ g.S.Space.size l.fn.s;
  aligned : l.before % 4 ≡ 0;
  short : (l.before < data_start (g.S.Space.form l.fn.s)) ⊎ (l.before < 2 ^ 32);
  looked : Looked g.S.Space l.fn.s l.s;
  faults : g.S.Space.faults l.s ≡ g.S.Space.faults l.fn.s;
  bytes_read : g.S.Space.bytes_read l.fn.s ≤ g.S.Space.bytes_read l.s;
}
