-- The bytes up to an offset were counted.
use Rattle.std.proofs.Common.{◌≡◌, ◌-◌, ◌≤◌, IsTrue}
use Rattle.tdb_space.specs.Frame.{Looked}
use Rattle.tdb_mend.specs.Counting.{content_between}
use Rattle.tdb_mend.proofs.counting.count_content.Given as goal

abbrev pub invariant-loop-at : goal.invariant-loop-at
invariant-loop-at g l = record {
  from : l.from ≤ l.at;
  within : l.at - l.from ≤ l.to - l.from;
  most : l.count ≤ l.at - l.from;
  count : IsTrue g.S.Space.tells → l.count ≡ content_between (g.S.Space.image l.fn.s) l.from l.at;
  looked : Looked g.S.Space l.fn.s l.s;
  faults : g.S.Space.faults l.s ≡ g.S.Space.faults l.fn.s;
}

abbrev pub decreases-loop-at : goal.decreases-loop-at
decreases-loop-at g l = l.to - l.at
