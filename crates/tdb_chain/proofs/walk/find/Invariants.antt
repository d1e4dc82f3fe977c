-- The walk came so far along the chain of the key, and the view is as it was.
use Rattle.std.proofs.Common.{◌≡◌, ◌+◌, ◌^◌, ◌<◌, ◌≤◌, ◌⊎◌, IsTrue}
use Rattle.std.specs.Prelude.{◌%◌}
use Rattle.tdb_space.specs.Frame.{Looked}
use Rattle.tdb_space.specs.Form.{data_start}
use Rattle.tdb_space.specs.Accepted.{IsFiled}
use Rattle.tdb_chain.proofs.Walked.{Walked}
use Rattle.tdb_chain.proofs.Way.{OnTheWay}
use Rattle.tdb_chain.proofs.walk.find.Given as goal

abbrev pub invariant-loop-turn : goal.invariant-loop-turn
invariant-loop-turn g l = record {
  walked : IsTrue g.S.Space.tells → IsFiled (g.S.Space.form l.fn.s) (g.S.Space.image l.fn.s)
      → Walked (g.S.Space.form l.fn.s) (g.S.Space.image l.fn.s) l.key l._turn l.before l.at;
  led : l.before + 4 ≤ g.S.Space.size l.fn.s;
  aligned : l.before % 4 ≡ 0;
  short : (l.before < data_start (g.S.Space.form l.fn.s)) ⊎ (l.before < 2 ^ 32);
  looked : Looked g.S.Space l.fn.s l.s;
  faults : g.S.Space.faults l.s ≡ g.S.Space.faults l.fn.s;
  bytes_read : g.S.Space.bytes_read l.fn.s ≤ g.S.Space.bytes_read l.s;
  reads : IsTrue g.S.Space.tells → OnTheWay (g.S.Space.form l.fn.s) (g.S.Space.image l.fn.s) l.key l._turn l.at (g.S.Space.bytes_read l.fn.s) (g.S.Space.bytes_read l.s);
}
