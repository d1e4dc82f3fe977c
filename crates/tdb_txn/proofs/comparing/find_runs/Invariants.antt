-- The pages before one were compared.
use Rattle.std.proofs.Common.{◌≡◌, ◌+◌, ◌*◌, ◌<◌, ◌≤◌, ◌⊎◌, ℕ, List, get_or, slice_index}
use Rattle.std.specs.Prelude.{IsTrue}
use Rattle.tdb_disk.specs.Count.{RoseUpTo}
use Rattle.tdb_disk.specs.History.{seen}
use Rattle.tdb_txn.specs.Found.{FoundSoFar, InPlace, Blanked}
use Rattle.tdb_txn.specs.Pages.{page_size, byte_over}
use Rattle.tdb_txn.specs.Stock.{page_list}
use Rattle.tdb_txn.specs.declared.page.Page.{Page}
use Rattle.tdb_txn.proofs.comparing.find_runs.Given as goal

abbrev pub invariant-loop-index : goal.invariant-loop-index
invariant-loop-index g l = record {
  place : InPlace l.found;
  within : l.found.next ≤ l.comparison.old_length;
  before : (j : ℕ) (d : Page) → j < l.index → ((get_or (page_list l.pages) j d).number * page_size + page_size ≤ l.found.next) ⊎ (l.found.next ≡ l.comparison.old_length);
  behind : (j : ℕ) (d : Page) → l.index ≤ j → j < l.count → l.found.next ≤ (get_or (page_list l.pages) j d).number * page_size;
  found : IsTrue g.D.Disk.tells → (c b : List ℕ) → Blanked l.comparison.hole (seen (g.D.Disk.history l.initial.d)) c
      → ((i : ℕ) → i < l.comparison.old_length → slice_index b i ≡ byte_over (page_list l.pages) c i)
      → FoundSoFar c b l.comparison.old_length l.comparison.skip l.found;
  size : g.D.Disk.size l.d ≡ g.D.Disk.size l.initial.d;
  history : g.D.Disk.history l.d ≡ g.D.Disk.history l.initial.d;
  faults : g.D.Disk.faults l.d ≡ g.D.Disk.faults l.initial.d;
  bytes_read : RoseUpTo (l.index * page_size) (g.D.Disk.bytes_read l.initial.d) (g.D.Disk.bytes_read l.d);
  syncs : g.D.Disk.syncs l.d ≡ g.D.Disk.syncs l.initial.d;
}
