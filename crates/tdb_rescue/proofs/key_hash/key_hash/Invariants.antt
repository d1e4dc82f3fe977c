-- The hash has read the key's bytes so far.
use Rattle.std.proofs.Common.{◌≡◌, ◌-◌, ◌≤◌, IsTrue, take, drop}
use Rattle.tdb_words.specs.HashRun.{Holds}
use Rattle.tdb_space.specs.Frame.{Looked}
use Rattle.tdb_rescue.specs.Window.{Shows}
use Rattle.tdb_rescue.proofs.key_hash.key_hash.Given as goal

abbrev pub invariant-loop-done : goal.invariant-loop-done
invariant-loop-done g l = record {
  within : l.done ≤ l.key_len;
  held : IsTrue g.S.Space.tells → Shows (g.S.Space.image l.fn.s) l.window → Holds l.run (g.S.Space.form l.fn.s).hash l.key_len (take l.done (drop l.off (g.S.Space.image l.fn.s)));
  bytes_read : g.S.Space.bytes_read l.fn.s ≤ g.S.Space.bytes_read l.s;
  looked : Looked g.S.Space l.fn.s l.s;
  faults : g.S.Space.faults l.s ≡ g.S.Space.faults l.fn.s;
}

abbrev pub decreases-loop-done : goal.decreases-loop-done
decreases-loop-done g l = l.key_len - l.done
