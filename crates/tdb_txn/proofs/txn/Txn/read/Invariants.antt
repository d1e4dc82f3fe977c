use Rattle.std.proofs.Common.{length, ◌-◌, ◌≡◌, ◌+◌, ◌≤◌, take, drop}
use Rattle.std.specs.Prelude.{IsTrue}
use Rattle.tdb_disk.specs.History.{seen}
use Rattle.tdb_txn.specs.Txn.{txn_image}
use Rattle.tdb_txn.proofs.txn.Txn.read.Given as goal

abbrev pub invariant-loop-done : goal.invariant-loop-done
invariant-loop-done g l = record {
  inside : l.done ≤ length l.initial.buf;
  bytes : IsTrue g.D.Disk.tells
      → take l.done l.buf ≡ take l.done (drop l.off (txn_image l.self (seen (g.D.Disk.history l.initial.d))));
  size : g.D.Disk.size l.d ≡ g.D.Disk.size l.initial.d;
  history : g.D.Disk.history l.d ≡ g.D.Disk.history l.initial.d;
  faults : g.D.Disk.faults l.d ≡ g.D.Disk.faults l.initial.d;
  syncs : g.D.Disk.syncs l.d ≡ g.D.Disk.syncs l.initial.d;
  bytes_read : g.D.Disk.bytes_read l.d ≤ g.D.Disk.bytes_read l.initial.d + l.done;
  never_falls : g.D.Disk.bytes_read l.initial.d ≤ g.D.Disk.bytes_read l.d;
}

abbrev pub decreases-loop-done : goal.decreases-loop-done
decreases-loop-done g l = length l.initial.buf - l.done
