use Rattle.std.proofs.Common.{◌≡◌, ◌+◌, ◌-◌, ◌≤◌, ◌<◌, ℕ, List, slice_index}
use Rattle.std.specs.Prelude.{IsTrue}
use Rattle.tdb_disk.specs.History.{seen}
use Rattle.tdb_disk.specs.Stop.{Leaves, LeavesOnly}
use Rattle.tdb_space.specs.Scheme.{Scheme, Within, MayWrite}
use Rattle.tdb_space.specs.Planned.{PutRange}
use Rattle.tdb_txn.specs.Pages.{byte_over}
use Rattle.tdb_txn.specs.Stock.{page_list}
use Rattle.tdb_txn.proofs.applying.write_range.Given as goal

abbrev pub invariant-loop-done : goal.invariant-loop-done
invariant-loop-done g l = record {
  inside : l.done ≤ l.count;
  count : l.count ≡ l.fn.to - l.fn.from;
  stops : IsTrue g.D.Disk.tells → (p : Scheme) (base : List ℕ) → MayWrite p l.fn.from l.fn.to
      → ((c : List ℕ) → Leaves (g.D.Disk.history l.initial.d) c → Within p base c)
      → LeavesOnly (g.D.Disk.history l.initial.d) (g.D.Disk.history l.d) (Within p base);
  put : IsTrue g.D.Disk.tells → (b : List ℕ)
      → ((i : ℕ) → l.fn.from ≤ i → i < l.fn.to → byte_over (page_list l.pages) (seen (g.D.Disk.history l.initial.d)) i ≡ slice_index b i)
      → PutRange b l.fn.from (l.fn.from + l.done) (seen (g.D.Disk.history l.initial.d)) (seen (g.D.Disk.history l.d));
  size : g.D.Disk.size l.d ≡ g.D.Disk.size l.initial.d;
  faults : g.D.Disk.faults l.d ≡ g.D.Disk.faults l.initial.d;
  syncs : g.D.Disk.syncs l.d ≡ g.D.Disk.syncs l.initial.d;
  bytes_read : g.D.Disk.bytes_read l.d ≡ g.D.Disk.bytes_read l.initial.d;
}

abbrev pub decreases-loop-done : goal.decreases-loop-done
decreases-loop-done g l = l.count - l.done
