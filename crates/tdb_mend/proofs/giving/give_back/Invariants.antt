-- The entries before a place were given back.
use Rattle.std.proofs.Common.{◌≡◌, ◌+◌, ◌-◌, ◌≤◌, IsTrue}
use Rattle.tdb_space.specs.Frame.{Wrote}
use Rattle.tdb_mend.proofs.GivenBack.{Giving}
use Rattle.tdb_mend.proofs.giving.give_back.Given as goal

abbrev pub invariant-loop-place : goal.invariant-loop-place
invariant-loop-place g l = record {
  above : l.area.at + 24 ≤ l.place;
  within : l.place ≤ l.end;
  giving : IsTrue g.S.Space.tells → Giving (g.S.Space.form l.fn.s).order l.area (g.S.Space.image l.fn.s) l.place (g.S.Space.image l.s);
  wrote : Wrote g.S.Space l.fn.s l.s;
  size : g.S.Space.size l.s ≡ g.S.Space.size l.fn.s;
  faults : g.S.Space.faults l.s ≡ g.S.Space.faults l.fn.s;
}

abbrev pub decreases-loop-place : goal.decreases-loop-place
decreases-loop-place g l = l.end - l.place
