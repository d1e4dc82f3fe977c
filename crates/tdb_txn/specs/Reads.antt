-- How many bytes of a file the plan of a commit reads at most.
use Rattle.std.specs.Prelude.{ℕ, ◌+◌, ◌*◌, ◌≤◌, List}
use Rattle.tdb_space.specs.Extents.{Extent}
use Rattle.tdb_space.specs.Form.{form_of}
use Rattle.tdb_space.specs.Planned.{content_length}
use Rattle.tdb_space.specs.Runs.{ChangedRuns}
use Rattle.tdb_txn.specs.Committing.{HasAreaIn}
use Rattle.tdb_txn.specs.Pages.{page_size}
use Rattle.tdb_txn.specs.Txn.{txn_image, txn_start}
use Rattle.tdb_txn.specs.declared.txn.Txn.{Txn}

-- a commit into image r replaces no undo area: where r has one, it has room for the content of all that changes
abbrev pub NeedsNoOther : Txn → List ℕ → Type 0
NeedsNoOther txn r = (e : Extent) (runs : List Extent) → HasAreaIn (form_of r).order r e → ChangedRuns r (txn_image txn r) (txn_start txn) e runs → 24 + content_length runs ≤ e.1

-- then its plan reads two words for the extent of the area, what the file has in place of each page, and the area's
-- header with the word that leads to it, before a first one is placed
abbrev pub plan_reads : ℕ → ℕ
plan_reads pages = 8 + pages * page_size + 28
