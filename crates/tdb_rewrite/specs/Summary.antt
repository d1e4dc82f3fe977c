-- What a summary says of an accepted image.
use Rattle.std.specs.Prelude.{◌≡◌, ℕ, ◌==◌, List, length, count_by, sum_by, fold, map, max}
use Rattle.tdb_words.specs.declared.record.TheConstants.{DEAD}
use Rattle.tdb_space.specs.Form.{Form, form_of}
use Rattle.tdb_space.specs.Record.{magic_of, rec_len_of}
use Rattle.tdb_space.specs.Chain.{free_of}
use Rattle.tdb_space.specs.Pairs.{order_of}
use Rattle.tdb_space.specs.Extents.{area}
use Rattle.tdb_check.specs.Report.{Counted, chained, bytes_held_by_none}
use Rattle.tdb_check.specs.declared.report.Report.{Report}
use Rattle.tdb_rewrite.specs.Sums.{key_bytes, value_bytes}
use Rattle.tdb_rewrite.specs.declared.numbers.Summary.{Summary}

-- the greatest rec_len of the free list, or 0 where the list is empty
abbrev pub greatest_free : Form → List ℕ → ℕ
greatest_free f img = fold max 0 (map (rec_len_of f.order img) (free_of f img))

-- The summary of an image: its report is what a check counts, and the bytes of its keys and of its values are the sums
-- over the pairs in their order.
pub record SumsUp (img : List ℕ) (sum : Summary) : Type 0 where
  pub report : Counted img sum.report
  pub key_bytes : sum.key_bytes ≡ key_bytes (order_of (form_of img) img)
  pub data_bytes : sum.data_bytes ≡ value_bytes (order_of (form_of img) img)
  pub largest_free : sum.largest_free ≡ greatest_free (form_of img) img

-- the counts of an image, and its summary
abbrev pub report_of : List ℕ → Report
report_of img = record {
  live = length (order_of (form_of img) img);
  dead_records = count_by (λ x. magic_of (form_of img).order img x == DEAD) (chained (form_of img) img);
  free_records = length (free_of (form_of img) img);
  dead_bytes = bytes_held_by_none img;
  area = sum_by (λ e. e.1) (area (form_of img).order img);
}

abbrev pub summary_of : List ℕ → Summary
summary_of img = record {
  report = report_of img;
  key_bytes = key_bytes (order_of (form_of img) img);
  data_bytes = value_bytes (order_of (form_of img) img);
  largest_free = greatest_free (form_of img) img;
}
