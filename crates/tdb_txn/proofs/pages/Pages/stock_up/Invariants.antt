use Rattle.std.proofs.Common.{◌≡◌, ◌+◌, ◌-◌, ◌≤◌, length, max, vec_capacity}
use Rattle.tdb_txn.specs.Stock.{page_list, pages_left}
use Rattle.tdb_txn.proofs.pages.Pages.stock_up.Given as goal

abbrev pub invariant-loop-self : goal.invariant-loop-self
invariant-loop-self l = record {
  list : page_list l.self ≡ page_list l.fn.self;
  no_less : pages_left l.fn.self ≤ pages_left l.self;
  room : length (page_list l.self) + max l.count (pages_left l.self) ≤ vec_capacity l.self.list;
}

abbrev pub decreases-loop-self : goal.decreases-loop-self
decreases-loop-self l = l.count - pages_left l.self
