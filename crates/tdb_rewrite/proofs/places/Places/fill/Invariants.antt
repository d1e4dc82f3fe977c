-- The same records are to come.
use Rattle.std.proofs.Common.{◌≡◌, ◌≤◌, IsTrue}
use Rattle.tdb_space.specs.Frame.{Looked}
use Rattle.tdb_rewrite.specs.Places.{HaveHeaders, to_come, most_to_come}
use Rattle.tdb_rewrite.specs.Readable.{Readable}
use Rattle.tdb_rewrite.proofs.places.Places.fill.Given as goal

abbrev pub invariant-loop-self : goal.invariant-loop-self
invariant-loop-self g l = record {
  kept : IsTrue g.S.Space.tells → l.fn.self.chains ≤ (g.S.Space.form l.fn.s).chains → Readable (g.S.Space.form l.fn.s) (g.S.Space.image l.fn.s)
      → to_come (g.S.Space.form l.fn.s) (g.S.Space.image l.fn.s) l.self ≡ to_come (g.S.Space.form l.fn.s) (g.S.Space.image l.fn.s) l.fn.self;
  headers : IsTrue g.S.Space.tells → HaveHeaders (g.S.Space.form l.fn.s) (g.S.Space.image l.fn.s) l.fn.self.records.items
      → HaveHeaders (g.S.Space.form l.fn.s) (g.S.Space.image l.fn.s) l.self.records.items;
  no_more : most_to_come l.self ≤ most_to_come l.fn.self;
  chains : l.self.chains ≤ l.fn.self.chains;
  len : l.self.len ≡ l.fn.self.len;
  looked : Looked g.S.Space l.fn.s l.s;
  faults : g.S.Space.faults l.s ≡ g.S.Space.faults l.fn.s;
}

abbrev pub decreases-loop-self : goal.decreases-loop-self
decreases-loop-self g l = l.self.chains
