use Rattle.std.proofs.Common.{◌≡◌, ◌+◌, ◌-◌, ◌/◌, ◌≤◌}
use Rattle.std.specs.Prelude.{IsTrue}
use Rattle.tdb_disk.specs.History.{seen}
use Rattle.tdb_space.specs.Spare.{RoomForAll}
use Rattle.tdb_txn.specs.Found.{Blanked}
use Rattle.tdb_txn.specs.Txn.{txn_image, txn_spare, OnlyPages}
use Rattle.tdb_txn.proofs.txn.Txn.blank.Given as goal

abbrev pub invariant-loop-done : goal.invariant-loop-done
invariant-loop-done g l = record {
  inside : l.done ≤ l.extent.1;
  blanked : IsTrue g.D.Disk.tells
      → Blanked (l.extent.0, l.done) (txn_image l.fn.self (seen (g.D.Disk.history l.initial.d))) (txn_image l.self (seen (g.D.Disk.history l.initial.d)));
  room : RoomForAll (txn_spare l.self) ((l.extent.1 - l.done + 4095) / 4096) (l.extent.1 - l.done);
  only : OnlyPages l.fn.self l.self;
  size : g.D.Disk.size l.d ≡ g.D.Disk.size l.initial.d;
  history : g.D.Disk.history l.d ≡ g.D.Disk.history l.initial.d;
  faults : g.D.Disk.faults l.d ≡ g.D.Disk.faults l.initial.d;
  syncs : g.D.Disk.syncs l.d ≡ g.D.Disk.syncs l.initial.d;
}

abbrev pub decreases-loop-done : goal.decreases-loop-done
decreases-loop-done g l = l.extent.1 - l.done
