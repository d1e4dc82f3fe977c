-- The first state of a commit: the undo area is there, and isn't filled yet.
use Rattle.std.specs.Prelude.{◌≡◌, ℕ, ◌+◌, ◌%◌, ◌<◌, ◌≤◌, ◌⊎◌, List, length, slice_index}
use Rattle.tdb_disk.specs.History.{History, called, grew, seen}
use Rattle.tdb_disk.specs.Stop.{Quiet}
use Rattle.tdb_words.specs.Word.{word}
use Rattle.tdb_words.specs.Header.{area_head, sequence_at}
use Rattle.tdb_space.specs.Accepted.{Accept}
use Rattle.tdb_space.specs.Exchange.{Agree}
use Rattle.tdb_space.specs.Extents.{once, times}
use Rattle.tdb_space.specs.Form.{form_of, form_in, data_start, SameHeader}
use Rattle.tdb_space.specs.Moved.{StaysAccepted}
use Rattle.tdb_space.specs.Planned.{Placed, content_length}
use Rattle.tdb_space.specs.Record.{rec_len_of}
use Rattle.tdb_space.specs.Runs.{ChangedRuns}
use Rattle.tdb_space.specs.Scheme.{Scheme}
use Rattle.tdb_txn.specs.Commit.{scheme_of}
use Rattle.tdb_txn.specs.Pages.{byte_over}
use Rattle.tdb_txn.specs.Stock.{page_list}
use Rattle.tdb_txn.specs.declared.planned.Plan.{Plan}

-- The undo area is ready for its content: image a is the file with the gate shut, image b that of the transaction. The
-- plan's numbers are those of the area, which has room for the content; its runs are the changed bytes; from the old
-- length on the file has zeros outside the area; and b has the header of a.
pub record AwaitsContent (p : Scheme) (a b : List ℕ) : Type 0 where
  pub some : word (form_of a).order a area_head ≡ 0 → ⊥
  pub there : word (form_of a).order a area_head ≡ p.area
  pub order : p.order ≡ (form_of a).order
  pub long : p.area_length ≡ 24 + rec_len_of (form_of a).order a p.area
  pub fits : content_length p.runs ≤ rec_len_of (form_of a).order a p.area
  pub old_above : data_start (form_of a) ≤ p.old_length
  pub old_words : p.old_length % 4 ≡ 0
  pub old_within : p.old_length ≤ length b
  pub behind : (i : ℕ) → p.old_length ≤ i → i < length a → once (p.area, p.area_length) i ≡ 0 → slice_index a i ≡ 0
  pub placed : Placed (form_of a) a b p
  pub header : SameHeader a b
  pub runs : ChangedRuns a b p.old_length (p.area, p.area_length) p.runs

-- a stop leaves what a read gives; or so it was while the file was image r, and since then it only grew, to whole words
pub data RestsButGrown (r : List ℕ) (h : History) : Type 0 where
  rests : Quiet h → RestsButGrown r h
  grown : (old : History) (to : ℕ) → Quiet old → seen old ≡ r → to % 4 ≡ 0 → h ≡ called old (grew to) → RestsButGrown r h

-- The plan is to bring image b into the file, which was image r before the plan. Both are accepted. The file is still
-- accepted with all that r holds; its undo area is ready; and where something is to be written, the pages over the file
-- give the bytes of b.
pub record IsPlannedOn (plan : Plan) (h : History) (r b : List ℕ) : Type 0 where
  pub before : Accept r
  pub after : Accept b
  pub header : form_in plan.header ≡ form_of r
  pub stays : StaysAccepted (form_of r) r (seen h)
  pub sequence : Agree r (seen h) sequence_at (sequence_at + 4)
  pub rest : RestsButGrown r h
  pub awaits : AwaitsContent (scheme_of plan) (seen h) b
  pub size : length b ≡ plan.new_length
  pub bytes : (i : ℕ) → (1 ≤ times plan.runs i) ⊎ ((plan.old_length ≤ i) × (i < length b)) → byte_over (page_list plan.pages) (seen h) i ≡ slice_index b i
