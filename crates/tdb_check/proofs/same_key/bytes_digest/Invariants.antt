-- The hasher has the bytes so far.
use Rattle.std.proofs.Common.{◌≡◌, ◌-◌, ◌≤◌, IsTrue, take, drop}
use Rattle.sha2.specs.Hashers.{Holds256}
use Rattle.tdb_disk.specs.Count.{RoseUpTo}
use Rattle.tdb_space.specs.Frame.{Looked}
use Rattle.tdb_check.proofs.same_key.bytes_digest.Given as goal

abbrev pub invariant-loop-done : goal.invariant-loop-done
invariant-loop-done g l = record {
  within : l.done ≤ l.count;
  held : IsTrue g.S.Space.tells → Holds256 l.hasher (take l.done (drop l.from (g.S.Space.image l.fn.s)));
  bytes_read : RoseUpTo l.done (g.S.Space.bytes_read l.fn.s) (g.S.Space.bytes_read l.s);
  looked : Looked g.S.Space l.fn.s l.s;
  faults : g.S.Space.faults l.s ≡ g.S.Space.faults l.fn.s;
}

abbrev pub decreases-loop-done : goal.decreases-loop-done
decreases-loop-done g l = l.count - l.done
