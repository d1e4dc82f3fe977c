-- The key's bytes so far stand in the view, which stays as it is.
use Rattle.std.proofs.Common.{◌≡◌, ◌-◌, ◌≤◌, IsTrue, length, take, drop}
use Rattle.tdb_disk.specs.Count.{RoseUpTo}
use Rattle.tdb_space.specs.Frame.{Looked}
use Rattle.tdb_space.proofs.reads.key_equals.Given as goal

abbrev pub invariant-loop-done : goal.invariant-loop-done
invariant-loop-done g l = record {
  within : l.done ≤ length l.key;
  same : IsTrue g.S.Space.tells → take l.done (drop l.off (g.S.Space.image l.fn.s)) ≡ take l.done l.key;
  looked : Looked g.S.Space l.fn.s l.s;
  faults : g.S.Space.faults l.s ≡ g.S.Space.faults l.fn.s;
  bytes_read : RoseUpTo l.done (g.S.Space.bytes_read l.fn.s) (g.S.Space.bytes_read l.s);
}

abbrev pub decreases-loop-done : goal.decreases-loop-done
decreases-loop-done g l = length l.key - l.done
