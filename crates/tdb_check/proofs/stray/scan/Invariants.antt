-- The extents so far were gone through, and the bytes below an offset looked at.
use Rattle.std.proofs.Common.{◌≡◌, ◌≤◌, IsTrue, length}
use Rattle.tdb_disk.specs.Count.{RoseUpTo}
use Rattle.tdb_space.specs.Form.{data_start}
use Rattle.tdb_space.specs.Frame.{Looked}
use Rattle.tdb_check.proofs.Gaps.{Scanned}
use Rattle.tdb_check.proofs.stray.scan.Given as goal

abbrev pub invariant-loop-e : goal.invariant-loop-e
invariant-loop-e g l = record {
  above : data_start (g.S.Space.form l.fn.s) ≤ l.from;
  within : l.from ≤ l.len;
  fits : l.dead ≤ l.from;
  scanned : IsTrue g.S.Space.tells → length (g.S.Space.image l.fn.s) ≡ l.len
      → Scanned l.extents (g.S.Space.image l.fn.s) (data_start (g.S.Space.form l.fn.s)) l.e-index l.from l.dead;
  looked : Looked g.S.Space l.fn.s l.s;
  bytes_read : RoseUpTo l.from (g.S.Space.bytes_read l.fn.s) (g.S.Space.bytes_read l.s);
  faults : g.S.Space.faults l.s ≡ g.S.Space.faults l.fn.s;
}
