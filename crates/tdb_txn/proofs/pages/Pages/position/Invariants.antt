use Rattle.std.proofs.Common.{ℕ, ◌-◌, ◌<◌, ◌≤◌, length, get_or}
use Rattle.tdb_txn.specs.Stock.{page_list}
use Rattle.tdb_txn.specs.declared.page.Page.{Page}
use Rattle.tdb_txn.proofs.pages.Pages.position.Given as goal

abbrev pub invariant-loop-low : goal.invariant-loop-low
invariant-loop-low l = record {
  order : l.low ≤ l.high;
  inside : l.high ≤ length (page_list l.self);
  before : (i : ℕ) (d : Page) → i < l.low → (get_or (page_list l.self) i d).number < l.number;
  behind : (i : ℕ) (d : Page) → l.high ≤ i → i < length (page_list l.self) → l.number ≤ (get_or (page_list l.self) i d).number;
}

abbrev pub decreases-loop-low : goal.decreases-loop-low
decreases-loop-low l = l.high - l.low
