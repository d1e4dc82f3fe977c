-- The bytes so far are the same.
use Rattle.std.proofs.Common.{◌≡◌, ◌-◌, ◌*◌, ◌≤◌, IsTrue, take, drop}
use Rattle.tdb_disk.specs.Count.{RoseUpTo}
use Rattle.tdb_space.specs.Frame.{Looked}
use Rattle.tdb_check.proofs.same_key.same_bytes.Given as goal

abbrev pub invariant-loop-done : goal.invariant-loop-done
invariant-loop-done g l = record {
  within : l.done ≤ l.count;
  same : IsTrue g.S.Space.tells → take l.done (drop l.first (g.S.Space.image l.fn.s)) ≡ take l.done (drop l.second (g.S.Space.image l.fn.s));
  bytes_read : RoseUpTo (2 * l.done) (g.S.Space.bytes_read l.fn.s) (g.S.Space.bytes_read l.s);
  looked : Looked g.S.Space l.fn.s l.s;
  faults : g.S.Space.faults l.s ≡ g.S.Space.faults l.fn.s;
}

abbrev pub decreases-loop-done : goal.decreases-loop-done
decreases-loop-done g l = l.count - l.done
