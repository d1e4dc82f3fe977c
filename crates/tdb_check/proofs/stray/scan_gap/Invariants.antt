-- The bytes so far are 0 or padding.
use Rattle.std.proofs.Common.{◌≡◌, ◌≤◌, ◌-◌, IsTrue}
use Rattle.tdb_disk.specs.Count.{RoseUpTo}
use Rattle.tdb_check.specs.Stray.{NoContent}
use Rattle.tdb_space.specs.Frame.{Looked}
use Rattle.tdb_check.proofs.stray.scan_gap.Given as goal

abbrev pub invariant-loop-at : goal.invariant-loop-at
invariant-loop-at g l = record {
  from : l.from ≤ l.at;
  within : l.at - l.from ≤ l.to - l.from;
  clean : IsTrue g.S.Space.tells → NoContent (g.S.Space.image l.fn.s) l.from l.at;
  looked : Looked g.S.Space l.fn.s l.s;
  bytes_read : RoseUpTo (l.at - l.from) (g.S.Space.bytes_read l.fn.s) (g.S.Space.bytes_read l.s);
  faults : g.S.Space.faults l.s ≡ g.S.Space.faults l.fn.s;
}

abbrev pub decreases-loop-at : goal.decreases-loop-at
decreases-loop-at g l = l.to - l.at
