-- What a contract sees of a transaction.
use Rattle.std.specs.Prelude.{◌≡◌, ℕ, List, [], ◌∷◌, Bool, if◌then◌else◌}
use Rattle.tdb_space.specs.Form.{Form, form_in}
use Rattle.tdb_space.specs.Spare.{Spare}
use Rattle.tdb_space.specs.Spare.Spare.{bounded, without_bound}
use Rattle.tdb_txn.specs.Pages.{contents}
use Rattle.tdb_txn.specs.Stock.{page_list, pages_left}
use Rattle.tdb_txn.specs.declared.page.Page.{Page}
use Rattle.tdb_txn.specs.declared.txn.Txn.{Txn}

-- the pages that it has
abbrev pub txn_pages : Txn → List Page
txn_pages txn = page_list txn.pages

-- how many pages may still be added without asking for memory
abbrev pub txn_left : Txn → ℕ
txn_left txn = pages_left txn.pages

-- the length of the file at Start
abbrev pub txn_start : Txn → ℕ
txn_start txn = txn.start

-- the length that the file has in it
abbrev pub txn_size : Txn → ℕ
txn_size txn = txn.size

-- a file as it is in the transaction
abbrev pub txn_image : Txn → List ℕ → List ℕ
txn_image txn base = contents (txn_pages txn) base txn.size

-- what may still be written and grown by without asking for memory
abbrev pub txn_spare : Txn → Spare
txn_spare txn = bounded txn.writes txn.bytes txn.reach

-- what the header of the file states
abbrev pub txn_form : Txn → Form
txn_form txn = form_in txn.header

-- how many transactions are open within it
abbrev pub txn_depth : Txn → ℕ
txn_depth txn = txn.depth

-- whether a transaction within it was cancelled
abbrev pub txn_doomed : Txn → Bool
txn_doomed txn = txn.doomed

-- what no call of the view of it changes: how many transactions are open within it, and whether one was cancelled, as
-- numbers
abbrev pub txn_level : Txn → List ℕ
txn_level txn = txn.depth ∷ (if txn.doomed then 1 else 0) ∷ []

-- its view of the file is as it was, with its room
pub record SameView (old new : Txn) : Type 0 where
  pub pages : txn_pages new ≡ txn_pages old
  pub start : txn_start new ≡ txn_start old
  pub size : txn_size new ≡ txn_size old
  pub spare : txn_spare new ≡ txn_spare old
  pub form : txn_form new ≡ txn_form old

-- all of it but its pages and its room is as it was
pub record OnlyPages (old new : Txn) : Type 0 where
  pub start : txn_start new ≡ txn_start old
  pub size : txn_size new ≡ txn_size old
  pub form : txn_form new ≡ txn_form old
  pub depth : txn_depth new ≡ txn_depth old
  pub doomed : txn_doomed new ≡ txn_doomed old

-- all of it but its room is as it was
pub record SameButRoom (old new : Txn) : Type 0 where
  pub pages : txn_pages new ≡ txn_pages old
  pub only : OnlyPages old new

-- what is spare once the pages that were made ready are given back: growths alone, which take no memory
abbrev pub growths_alone : Spare → Spare
growths_alone without_bound = without_bound
growths_alone (bounded writes bytes reach) = bounded 0 0 reach
