-- What a check reports of an accepted image: counts over the image.
use Rattle.std.specs.Prelude.{◌≡◌, ℕ, ◌-◌, ◌==◌, List, length, count_by, sum_by}
use Rattle.std.specs.List.{range_with_len}
use Rattle.tdb_words.specs.declared.record.TheConstants.{DEAD}
use Rattle.tdb_words.specs.Header.{HeaderOk}
use Rattle.tdb_space.specs.Form.{Form, form_of, data_start}
use Rattle.tdb_space.specs.Record.{magic_of}
use Rattle.tdb_space.specs.Chain.{chain_of, free_of}
use Rattle.tdb_space.specs.Pairs.{joined, order_of}
use Rattle.tdb_space.specs.Extents.{times, area}
use Rattle.tdb_space.specs.FirstFault.{extents_of}
use Rattle.tdb_check.specs.declared.report.Report.{Report}

-- a view's form is the one that the header of the image states, where it has one
abbrev pub IsFormOf : Form → List ℕ → Type 0
IsFormOf f img = HeaderOk img → f ≡ form_of img

-- the offsets of the records that stand in chains, chain 0 first, each along its chain
abbrev pub chained : Form → List ℕ → List ℕ
chained f img = joined f.chains (chain_of f img)

-- how many bytes from the data start on no extent holds
abbrev pub bytes_held_by_none : List ℕ → ℕ
bytes_held_by_none img =
    count_by (λ i. times (extents_of img) i == 0) (range_with_len (data_start (form_of img)) (length img - data_start (form_of img)))

-- the counts of a report are those of the image
pub record Counted (img : List ℕ) (r : Report) : Type 0 where
  pub live : r.live ≡ length (order_of (form_of img) img)
  pub dead_records : r.dead_records ≡ count_by (λ x. magic_of (form_of img).order img x == DEAD) (chained (form_of img) img)
  pub free_records : r.free_records ≡ length (free_of (form_of img) img)
  pub dead_bytes : r.dead_bytes ≡ bytes_held_by_none img
  pub area : r.area ≡ sum_by (λ e. e.1) (area (form_of img).order img)
