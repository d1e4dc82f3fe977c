-- So many steps were taken on the same record, and nothing was changed.
use Rattle.std.proofs.Common.{◌≡◌, ◌<◌, ◌≤◌, ◌^◌, [], IsTrue}
use Rattle.tdb_space.specs.Accepted.{AcceptWith}
use Rattle.tdb_space.specs.Frame.{Wrote}
use Rattle.tdb_walk.specs.Cursors.{Knows}
use Rattle.tdb_txn_turns.specs.InsideTxn.Walks.{RestsIn}
use Rattle.tdb_txn_turns.proofs.InsideTxn.Cursors.{IsAlive, far}
use Rattle.tdb_txn_turns.proofs.inside_txn.walk_alone.take_walk.Given as goal

abbrev pub invariant-loop-taken : goal.invariant-loop-taken
invariant-loop-taken g l = record {
  counted : l._taken ≤ far l.walk.cursor.stage;
  few : far l.walk.cursor.stage ≤ 2;
  place : l.walk.cursor.place ≡ l.fn.walk.cursor.place;
  shown : l.walk.shown ≡ l.fn.walk.shown;
  image : g.S.Space.image l.s ≡ g.S.Space.image l.fn.s;
  size : g.S.Space.size l.s ≡ g.S.Space.size l.fn.s;
  wrote : Wrote g.S.Space l.fn.s l.s;
  faults : g.S.Space.faults l.s ≡ g.S.Space.faults l.fn.s;
  knows : IsTrue g.S.Space.tells → g.S.Space.size l.fn.s < 2 ^ 32 → AcceptWith (g.S.Space.form l.fn.s) (g.S.Space.image l.fn.s) []
      → Knows (g.S.Space.form l.fn.s) (g.S.Space.image l.fn.s) l.fn.walk.cursor.place l.fn.walk.cursor.stage → Knows (g.S.Space.form l.fn.s) (g.S.Space.image l.fn.s) l.walk.cursor.place l.walk.cursor.stage;
  alive : IsTrue g.S.Space.tells → g.S.Space.size l.fn.s < 2 ^ 32 → AcceptWith (g.S.Space.form l.fn.s) (g.S.Space.image l.fn.s) [] → RestsIn (g.S.Space.form l.fn.s) (g.S.Space.image l.fn.s) l.fn.walk
      → IsAlive (g.S.Space.form l.fn.s) (g.S.Space.image l.fn.s) l.walk.cursor.place l.walk.cursor.stage;
}
