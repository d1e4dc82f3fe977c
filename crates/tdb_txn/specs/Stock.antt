-- What a contract sees of the pages of a transaction and their stock.
use Rattle.std.specs.Prelude.{ℕ, ◌+◌, ◌<◌, List, length, vec_capacity}
use Rattle.tdb_txn.specs.declared.page.Page.{Page}
use Rattle.tdb_txn.specs.declared.pages.Pages.{Pages}

-- the pages that are there
abbrev pub page_list : Pages → List Page
page_list pages = pages.list.items

-- how many pages may still be added without asking for memory
abbrev pub pages_left : Pages → ℕ
pages_left pages = length pages.stock.items

-- a page that was taken from the stock has a place in the list
abbrev pub HasSlot : Pages → Type 0
HasSlot pages = length pages.stock.items + length pages.list.items < vec_capacity pages.list
