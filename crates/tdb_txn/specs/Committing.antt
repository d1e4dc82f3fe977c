-- What is asked of a transaction that is committed.
use Rattle.std.specs.Prelude.{◌≡◌, ℕ, ◌+◌, ◌≤◌, List, slice_index}
use Rattle.tdb_words.specs.declared.word.Order.{Order}
use Rattle.tdb_words.specs.Word.{word}
use Rattle.tdb_words.specs.Header.{area_head}
use Rattle.tdb_space.specs.Accepted.{Accept}
use Rattle.tdb_space.specs.Extents.{Extent, area, extent_at, times}
use Rattle.tdb_space.specs.Form.{form_of, SameHeader}
use Rattle.tdb_space.specs.Planned.{content_length}
use Rattle.tdb_space.specs.Runs.{ChangedRuns}
use Rattle.tdb_txn.specs.Pages.{byte_over}
use Rattle.tdb_txn.specs.Planning.{KeepsFront}
use Rattle.tdb_txn.specs.Txn.{txn_form, txn_image, txn_pages, txn_start}
use Rattle.tdb_txn.specs.declared.txn.Txn.{Txn}

-- The transaction may be committed into image r of the file: that and the transaction's image are accepted, with the
-- header that the transaction knows, and it left what a transaction leaves.
pub record MayCommit (txn : Txn) (r : List ℕ) : Type 0 where
  pub before : Accept r
  pub after : Accept (txn_image txn r)
  pub header : txn_form txn ≡ form_of r
  pub keeps : KeepsFront r (txn_image txn r)

-- the undo area of an image is in this extent
pub record HasAreaIn (o : Order) (img : List ℕ) (e : Extent) : Type 0 where
  pub some : word o img area_head ≡ 0 → ⊥
  pub extent : e ≡ extent_at o img (word o img area_head)

-- The transaction may be committed into r, whose undo area, in this extent, has room for the content of the runs, which
-- are those of the bytes that change
pub record MayKeep (txn : Txn) (r : List ℕ) (e : Extent) (runs : List Extent) : Type 0 where
  pub commit : MayCommit txn r
  pub there : HasAreaIn (form_of r).order r e
  pub fits : 24 + content_length runs ≤ e.1
  pub changed : ChangedRuns r (txn_image txn r) (txn_start txn) e runs

-- The transaction's image, which has no undo area, may be committed into image r of the file with a new one: both are
-- accepted, with one header. Image x is r with nothing but zeros in its undo area, where it has one: over x the pages
-- give the same, and the runs are those of the bytes that change from x on.
pub record MayPlace (txn : Txn) (r x : List ℕ) (runs : List Extent) : Type 0 where
  pub before : Accept r
  pub after : Accept (txn_image txn r)
  pub header : txn_form txn ≡ form_of r
  pub same_header : SameHeader r (txn_image txn r)
  pub none : word (form_of r).order (txn_image txn r) area_head ≡ 0
  pub inside : (i : ℕ) → 1 ≤ times (area (form_of r).order r) i → slice_index x i ≡ 0
  pub beside : (i : ℕ) → times (area (form_of r).order r) i ≡ 0 → slice_index x i ≡ slice_index r i
  pub pages : (i : ℕ) → byte_over (txn_pages txn) x i ≡ byte_over (txn_pages txn) r i
  pub changed : ChangedRuns x (txn_image txn r) (txn_start txn) (0, 0) runs
