use Rattle.std.proofs.Common.{◌≡◌, ◌≤◌, ℕ, List, slice_index, take}
use Rattle.std.specs.Prelude.{IsTrue}
use Rattle.tdb_disk.specs.History.{seen}
use Rattle.tdb_disk.specs.Stop.{Leaves, LeavesOnly}
use Rattle.tdb_space.specs.Extents.{times}
use Rattle.tdb_space.specs.Scheme.{Scheme, Within, IsClear}
use Rattle.tdb_space.specs.Planned.{PutRuns}
use Rattle.tdb_txn.specs.Pages.{byte_over}
use Rattle.tdb_txn.specs.Stock.{page_list}
use Rattle.tdb_txn.proofs.applying.write_runs.Given as goal

abbrev pub invariant-loop-i : goal.invariant-loop-i
invariant-loop-i g l = record {
  stops : IsTrue g.D.Disk.tells → (p : Scheme) (base : List ℕ) → p.runs ≡ l.runs → IsClear p
      → ((c : List ℕ) → Leaves (g.D.Disk.history l.initial.d) c → Within p base c)
      → LeavesOnly (g.D.Disk.history l.initial.d) (g.D.Disk.history l.d) (Within p base);
  put : IsTrue g.D.Disk.tells → (b : List ℕ)
      → ((i : ℕ) → 1 ≤ times l.runs i → byte_over (page_list l.pages) (seen (g.D.Disk.history l.initial.d)) i ≡ slice_index b i)
      → PutRuns b (take l.i l.runs) (seen (g.D.Disk.history l.initial.d)) (seen (g.D.Disk.history l.d));
  size : g.D.Disk.size l.d ≡ g.D.Disk.size l.initial.d;
  faults : g.D.Disk.faults l.d ≡ g.D.Disk.faults l.initial.d;
  syncs : g.D.Disk.syncs l.d ≡ g.D.Disk.syncs l.initial.d;
  bytes_read : g.D.Disk.bytes_read l.d ≡ g.D.Disk.bytes_read l.initial.d;
}
