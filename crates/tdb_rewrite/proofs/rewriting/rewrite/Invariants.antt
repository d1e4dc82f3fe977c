-- The records that are to come are still to be copied, and the new file is written anew from the others.
use Rattle.std.proofs.Common.{◌≡◌, ◌<◌, ◌≤◌, ◌^◌, IsTrue}
use Rattle.std.specs.Prelude.{max}
use Rattle.tdb_space.specs.Frame.{Looked, Wrote}
use Rattle.tdb_rewrite.specs.Places.{HaveHeaders, to_come, most_to_come}
use Rattle.tdb_rewrite.specs.Readable.{Readable}
use Rattle.tdb_rewrite.specs.Rewritten.{IsBare}
use Rattle.tdb_rewrite.proofs.Copied.{Ahead}
use Rattle.tdb_rewrite.proofs.rewriting.rewrite.Given as goal

abbrev pub invariant-loop-held : goal.invariant-loop-held
invariant-loop-held g l = record {
  ahead : IsTrue g.S.Space.tells → IsTrue g.T.Space.tells → g.T.Space.size l.fn.to < 2 ^ 32 → Readable (g.S.Space.form l.fn.from) (g.S.Space.image l.fn.from)
      → IsBare (g.T.Space.form l.fn.to) (g.T.Space.image l.fn.to)
      → Ahead (g.S.Space.form l.fn.from) (g.S.Space.image l.fn.from) l.prefix (g.T.Space.form l.fn.to) (g.T.Space.image l.to) (to_come (g.S.Space.form l.fn.from) (g.S.Space.image l.fn.from) l.places);
  headers : IsTrue g.S.Space.tells → HaveHeaders (g.S.Space.form l.fn.from) (g.S.Space.image l.fn.from) l.places.records.items;
  below : l.places.chains ≤ (g.S.Space.form l.fn.from).chains;
  len : l.places.len ≡ g.S.Space.size l.fn.from;
  within : g.T.Space.size l.to ≤ max (g.T.Space.size l.fn.to) l.limit;
  grows : g.T.Space.size l.fn.to ≤ g.T.Space.size l.to;
  looked : Looked g.S.Space l.fn.from l.from;
  wrote : Wrote g.T.Space l.fn.to l.to;
  read_faults : g.S.Space.faults l.from ≡ g.S.Space.faults l.fn.from;
  write_faults : g.T.Space.faults l.to ≡ g.T.Space.faults l.fn.to;
}

abbrev pub decreases-loop-held : goal.decreases-loop-held
decreases-loop-held g l = most_to_come l.places
