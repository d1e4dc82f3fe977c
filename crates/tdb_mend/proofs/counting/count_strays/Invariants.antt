-- The extents so far were gone through, and the stray bytes below an offset counted.
use Rattle.std.proofs.Common.{◌≡◌, ◌≤◌, IsTrue}
use Rattle.tdb_space.specs.Form.{data_start}
use Rattle.tdb_space.specs.Frame.{Looked}
use Rattle.tdb_mend.proofs.Counted.{CountedTo}
use Rattle.tdb_mend.proofs.counting.count_strays.Given as goal

abbrev pub invariant-loop-e : goal.invariant-loop-e
invariant-loop-e g l = record {
  above : data_start (g.S.Space.form l.fn.s) ≤ l.from;
  within : l.from ≤ l.len;
  fits : l.strays ≤ l.from;
  counted : IsTrue g.S.Space.tells → CountedTo l.extents (g.S.Space.image l.fn.s) (data_start (g.S.Space.form l.fn.s)) l.e-index l.from l.strays;
  looked : Looked g.S.Space l.fn.s l.s;
  faults : g.S.Space.faults l.s ≡ g.S.Space.faults l.fn.s;
}
