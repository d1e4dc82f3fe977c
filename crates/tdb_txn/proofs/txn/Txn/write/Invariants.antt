use Rattle.std.proofs.Common.{length, ◌-◌, ◌≡◌, ◌+◌, ◌*◌, ◌/◌, ◌<◌, ◌≤◌, take}
use Rattle.std.specs.Prelude.{IsTrue}
use Rattle.tdb_disk.specs.History.{seen}
use Rattle.tdb_disk.specs.Image.{overlay}
use Rattle.tdb_space.specs.Spare.{spent}
use Rattle.tdb_txn.specs.Pages.{page_size, AddsMet}
use Rattle.tdb_txn.specs.Txn.{txn_image, txn_pages, txn_spare, txn_left, OnlyPages}
use Rattle.tdb_txn.proofs.txn.Txn.write.Given as goal

abbrev pub invariant-loop-done : goal.invariant-loop-done
invariant-loop-done g l = record {
  inside : l.done ≤ length l.bytes;
  image : IsTrue g.D.Disk.tells → txn_image l.self (seen (g.D.Disk.history l.initial.d))
      ≡ overlay (txn_image l.fn.self (seen (g.D.Disk.history l.initial.d))) l.off (take l.done l.bytes);
  pages : AddsMet l.off l.done (txn_pages l.fn.self) (txn_pages l.self);
  only : OnlyPages l.fn.self l.self;
  spare : txn_spare l.self ≡ spent (txn_spare l.fn.self) (length l.bytes);
  stock : l.done < length l.bytes
      → 2 * l.self.writes + l.self.bytes / page_size + ((l.off + length l.bytes + 4095) / page_size - (l.off + l.done) / page_size) ≤ txn_left l.self;
  size : g.D.Disk.size l.d ≡ g.D.Disk.size l.initial.d;
  history : g.D.Disk.history l.d ≡ g.D.Disk.history l.initial.d;
  faults : g.D.Disk.faults l.d ≡ g.D.Disk.faults l.initial.d;
  syncs : g.D.Disk.syncs l.d ≡ g.D.Disk.syncs l.initial.d;
  on_the_way : l.done < length l.bytes
      → g.D.Disk.bytes_read l.d ≤ g.D.Disk.bytes_read l.initial.d + page_size * ((l.off + l.done) / page_size - l.off / page_size);
  bytes_read : g.D.Disk.bytes_read l.d ≤ g.D.Disk.bytes_read l.initial.d + length l.bytes + 8192;
  never_falls : g.D.Disk.bytes_read l.initial.d ≤ g.D.Disk.bytes_read l.d;
}

abbrev pub decreases-loop-done : goal.decreases-loop-done
decreases-loop-done g l = length l.bytes - l.done
