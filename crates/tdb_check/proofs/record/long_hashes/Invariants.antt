-- Both hashes have read the key's bytes so far.
use Rattle.std.proofs.Common.{◌≡◌, ◌-◌, ◌≤◌, IsTrue, take, drop}
use Rattle.tdb_disk.specs.Count.{RoseUpTo}
use Rattle.tdb_check.specs.Hashes.{BothHold}
use Rattle.tdb_space.specs.Frame.{Looked}
use Rattle.tdb_check.proofs.record.long_hashes.Given as goal

abbrev pub invariant-loop-done : goal.invariant-loop-done
invariant-loop-done g l = record {
  within : l.done ≤ l.key_len;
  held : IsTrue g.S.Space.tells → BothHold (g.S.Space.form l.fn.s).hash l.key_len (take l.done (drop l.off (g.S.Space.image l.fn.s))) l.run;
  bytes_read : RoseUpTo l.done (g.S.Space.bytes_read l.fn.s) (g.S.Space.bytes_read l.s);
  looked : Looked g.S.Space l.fn.s l.s;
  faults : g.S.Space.faults l.s ≡ g.S.Space.faults l.fn.s;
}

abbrev pub decreases-loop-done : goal.decreases-loop-done
decreases-loop-done g l = l.key_len - l.done
