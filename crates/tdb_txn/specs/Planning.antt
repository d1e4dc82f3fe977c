-- From the plan of a commit to its first state: the undo area is kept, or a new one is placed.
use Rattle.std.specs.Prelude.{◌≡◌, ℕ, ◌+◌, ◌<◌, ◌≤◌, ◌⊎◌, List, length, slice_index}
use Rattle.tdb_words.specs.Word.{word}
use Rattle.tdb_words.specs.Header.{area_head, known_length, sequence_at}
use Rattle.tdb_space.specs.Accepted.{Accept}
use Rattle.tdb_space.specs.Extents.{times, area}
use Rattle.tdb_space.specs.Form.{form_of, form_in, SameHeader}
use Rattle.tdb_space.specs.Planned.{content_length}
use Rattle.tdb_space.specs.Record.{rec_len_of}
use Rattle.tdb_space.specs.Runs.{ChangedRuns}
use Rattle.tdb_txn.specs.Pages.{byte_over}
use Rattle.tdb_txn.specs.Stock.{page_list}
use Rattle.tdb_txn.specs.declared.planned.Plan.{Plan}

-- Image b of a transaction has of image r of the file what a transaction leaves: the bytes by which the header is
-- known, the word at 44, and the undo area.
pub record KeepsFront (r b : List ℕ) : Type 0 where
  pub front : (i : ℕ) → (i < sequence_at) ⊎ ((sequence_at + 4 ≤ i) × (i < known_length)) → slice_index b i ≡ slice_index r i
  pub undo_area : (i : ℕ) → 1 ≤ times (area (form_of r).order r) i → slice_index b i ≡ slice_index r i

-- The plan leads from image r of the file to image b of a transaction: both are accepted, with the plan's header and
-- lengths.
pub record IsPlanFrom (plan : Plan) (r b : List ℕ) : Type 0 where
  pub before : Accept r
  pub after : Accept b
  pub header : form_in plan.header ≡ form_of r
  pub same_header : SameHeader r b
  pub old : plan.old_length ≡ length r
  pub new : plan.new_length ≡ length b

-- The plan keeps the undo area of image r, which has room for the content: its runs are the bytes that change outside
-- of it, and the pages over r give b.
pub record KeepsArea (plan : Plan) (r b : List ℕ) : Type 0 where
  pub leads : IsPlanFrom plan r b
  pub keeps : KeepsFront r b
  pub some : word (form_of r).order r area_head ≡ 0 → ⊥
  pub there : word (form_of r).order r area_head ≡ plan.area
  pub long : plan.area_length ≡ 24 + rec_len_of (form_of r).order r plan.area
  pub fits : content_length plan.runs ≤ rec_len_of (form_of r).order r plan.area
  pub runs : ChangedRuns r b plan.old_length (plan.area, plan.area_length) plan.runs
  pub bytes : (i : ℕ) → i < length b → slice_index b i ≡ byte_over (page_list plan.pages) r i

-- The plan has a new undo area behind image b, which has none. Image x is r with nothing but zeros in the old one,
-- where r has one. The runs are the bytes that change from x to b, their content fits into the new area, and the pages
-- over x give b.
pub record PlacesArea (plan : Plan) (r x b : List ℕ) : Type 0 where
  pub leads : IsPlanFrom plan r b
  pub none : word (form_of r).order b area_head ≡ 0
  pub at : plan.area ≡ plan.new_length
  pub inside : (i : ℕ) → 1 ≤ times (area (form_of r).order r) i → slice_index x i ≡ 0
  pub beside : (i : ℕ) → times (area (form_of r).order r) i ≡ 0 → slice_index x i ≡ slice_index r i
  pub fits : 24 + content_length plan.runs ≤ plan.area_length
  pub runs : ChangedRuns x b plan.old_length (0, 0) plan.runs
  pub bytes : (i : ℕ) → i < length b → slice_index b i ≡ byte_over (page_list plan.pages) x i
