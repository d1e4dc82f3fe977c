-- The states of a commit: what the disk holds in each, from image a of the file to image b of the transaction.
use Rattle.std.specs.Prelude.{◌≡◌, ℕ, ◌+◌, ◌<◌, ◌≤◌, ◌⊎◌, List, length, slice_index}
use Rattle.tdb_disk.specs.History.{History, seen}
use Rattle.tdb_disk.specs.Stop.{Leaves, Quiet}
use Rattle.tdb_words.specs.declared.record.TheConstants.{GATE_OPEN}
use Rattle.tdb_space.specs.Accepted.{Accept}
use Rattle.tdb_space.specs.Extents.{times}
use Rattle.tdb_space.specs.Form.{form_of}
use Rattle.tdb_space.specs.Moved.{StaysAccepted}
use Rattle.tdb_space.specs.Scheme.{Scheme, Within, with_gate}
use Rattle.tdb_space.specs.Planned.{IsPlanned, settled_with, finished}
use Rattle.tdb_txn.specs.Pages.{byte_over}
use Rattle.tdb_txn.specs.Stock.{page_list}
use Rattle.tdb_txn.specs.declared.planned.Plan.{Plan}

-- the plan as numbers
abbrev pub scheme_of : Plan → Scheme
scheme_of plan = record {
  order = plan.header.order;
  area = plan.area;
  area_length = plan.area_length;
  gate = plan.area + 20;
  old_length = plan.old_length;
  runs = plan.runs;
}

-- the file with its gate open
abbrev pub opened : Plan → List ℕ → List ℕ
opened plan a = with_gate GATE_OPEN (scheme_of plan) a

-- The plan brings image b into the file: image a is the file with the old bytes in its undo area and the gate shut;
-- both are accepted; and where something is to be written, the pages over the file give the bytes of b.
pub record Brings (plan : Plan) (a b : List ℕ) : Type 0 where
  pub before : Accept a
  pub after : Accept b
  pub planned : IsPlanned (scheme_of plan) a b
  pub size : length b ≡ plan.new_length
  pub bytes : (i : ℕ) → (1 ≤ times plan.runs i) ⊎ ((plan.old_length ≤ i) × (i < length b)) → byte_over (page_list plan.pages) a i ≡ slice_index b i

-- the old bytes are in the undo area
pub record IsFilled (plan : Plan) (h : History) (a b : List ℕ) : Type 0 where
  pub brings : Brings plan a b
  pub quiet : Quiet h
  pub file : seen h ≡ a

-- the gate is open
pub record IsPrepared (plan : Plan) (h : History) (a b : List ℕ) : Type 0 where
  pub brings : Brings plan a b
  pub quiet : Quiet h
  pub file : seen h ≡ opened plan a

-- all is written, and a stop may still tear it
pub record IsApplied (plan : Plan) (h : History) (a b : List ℕ) : Type 0 where
  pub brings : Brings plan a b
  pub within : (c : List ℕ) → Leaves h c → Within (scheme_of plan) (opened plan a) c
  pub file : seen h ≡ settled_with (scheme_of plan) b (opened plan a)

-- all is written for good
pub record IsSettled (plan : Plan) (h : History) (a b : List ℕ) : Type 0 where
  pub brings : Brings plan a b
  pub quiet : Quiet h
  pub within : Within (scheme_of plan) (opened plan a) (seen h)
  pub file : seen h ≡ settled_with (scheme_of plan) b (opened plan a)

-- the commit is done: the file is image b but for its undo area
pub record IsFinished (plan : Plan) (h : History) (a b : List ℕ) : Type 0 where
  pub quiet : Quiet h
  pub file : seen h ≡ finished (scheme_of plan) a b

-- the commit is undone: the file is accepted with all that image a holds, on a quiet disk
pub record IsUndone (h : History) (a : List ℕ) : Type 0 where
  pub quiet : Quiet h
  pub stays : StaysAccepted (form_of a) a (seen h)
