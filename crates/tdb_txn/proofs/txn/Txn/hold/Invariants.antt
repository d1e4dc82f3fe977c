use Rattle.std.proofs.Common.{◌≡◌, ◌≤◌, ◌<◌, ℕ}
use Rattle.std.specs.Prelude.{IsTrue}
use Rattle.tdb_disk.specs.History.{seen}
use Rattle.tdb_txn.specs.Pages.{HasPage}
use Rattle.tdb_txn.specs.Txn.{txn_image, txn_pages, OnlyPages}
use Rattle.tdb_txn.proofs.txn.Txn.hold.Given as goal

abbrev pub invariant-loop-number : goal.invariant-loop-number
invariant-loop-number g l = record {
  image : IsTrue g.D.Disk.tells → txn_image l.self (seen (g.D.Disk.history l.initial.d)) ≡ txn_image l.fn.self (seen (g.D.Disk.history l.initial.d));
  pages : (k : ℕ) → l.first ≤ k → k < l.number → HasPage (txn_pages l.self) k;
  only : OnlyPages l.fn.self l.self;
  size : g.D.Disk.size l.d ≡ g.D.Disk.size l.initial.d;
  history : g.D.Disk.history l.d ≡ g.D.Disk.history l.initial.d;
  faults : g.D.Disk.faults l.d ≡ g.D.Disk.faults l.initial.d;
  syncs : g.D.Disk.syncs l.d ≡ g.D.Disk.syncs l.initial.d;
}
