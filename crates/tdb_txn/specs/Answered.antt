-- What the plan of a commit answers.
use Rattle.std.specs.Prelude.{◌≡◌, ℕ, ◌+◌, ◌<◌, ◌≤◌, ◌^◌, List, [], Result, Ok, Err}
use Rattle.tdb_disk.specs.Count.{RoseBy}
use Rattle.tdb_disk.specs.History.{History}
use Rattle.tdb_words.specs.Word.{word}
use Rattle.tdb_words.specs.Header.{area_head}
use Rattle.tdb_space.specs.Extents.{Extent}
use Rattle.tdb_space.specs.Form.{form_of}
use Rattle.tdb_space.specs.Planned.{content_length}
use Rattle.tdb_space.specs.Runs.{Changed, ChangedRuns}
use Rattle.tdb_txn.specs.AreaExtent.{IsAreaExtent}
use Rattle.tdb_txn.specs.AreaRoom.{new_area_length}
use Rattle.tdb_txn.specs.Committing.{HasAreaIn, MayKeep}
use Rattle.tdb_txn.specs.CommitStates.{planned_plan, plan_length}
use Rattle.tdb_txn.specs.Found.{Blanked}
use Rattle.tdb_txn.specs.GivenUp.{AreaGivenUp}
use Rattle.tdb_txn.specs.Planned.{IsPlannedOn}
use Rattle.tdb_txn.specs.Txn.{txn_image, txn_size, txn_start}
use Rattle.tdb_txn.specs.declared.comparing.RunsRefusal.{RunsRefusal}
use Rattle.tdb_txn.specs.declared.comparing.RunsRefusal.TheVariants as Runs
use Rattle.tdb_txn.specs.declared.planned.Plan.{Plan}
use Rattle.tdb_txn.specs.declared.planning.ToCommit.{ToCommit}
use Rattle.tdb_txn.specs.declared.planning.ToCommit.TheVariants.{Nothing, Ready}
use Rattle.tdb_txn.specs.declared.refusal.TxnRefusal.{TxnRefusal}
use Rattle.tdb_txn.specs.declared.refusal.TxnRefusal.TheVariants.{Full, Io, Memory}
use Rattle.tdb_txn.specs.declared.txn.Txn.{Txn}

-- the transaction changes nothing in image r of the file: no byte outside its undo area and the word at 44, and not its
-- length
pub record ChangesNothing (txn : Txn) (r : List ℕ) : Type 0 where
  pub bytes : (e : Extent) → IsAreaExtent (form_of r).order r e → (i : ℕ) → Changed r (txn_image txn r) (txn_start txn) e i → ⊥
  pub size : txn_size txn ≡ txn_start txn

-- The undo area of image r in an extent is replaced: it is given up from the transaction's image to b, and image x is r
-- with zeros there. These are the runs from x to b.
pub record AreaReplaced (txn : Txn) (r : List ℕ) (e : Extent) (x b : List ℕ) (runs : List Extent) : Type 0 where
  pub given_up : AreaGivenUp (form_of r) (txn_image txn r) b e
  pub blanked : Blanked e r x
  pub changed : ChangedRuns x b (txn_start txn) (0, 0) runs

-- A new undo area is wanted, to bring image b into the file, with these runs from image x on: either r has none, and b
-- is the transaction's image; or the one that it has is too short for the content of all that changes, and is replaced.
pub data WantsArea (txn : Txn) (r x b : List ℕ) (runs : List Extent) : Type 0 where
  first : word (form_of r).order r area_head ≡ 0 → x ≡ r → b ≡ txn_image txn r → ChangedRuns r (txn_image txn r) (txn_start txn) (0, 0) runs → WantsArea txn r x b runs
  other : (e : Extent) (too_much : List Extent) → HasAreaIn (form_of r).order r e → ChangedRuns r (txn_image txn r) (txn_start txn) e too_much
      → e.1 < 24 + content_length too_much → AreaReplaced txn r e x b runs → WantsArea txn r x b runs

-- the plan keeps the undo area, or it has a new one, which lets the file stay within the limit
pub data PlannedFor (txn : Txn) (limit : ℕ) (r : List ℕ) (h : History) (plan : Plan) : Type 0 where
  keeps : (e : Extent) → MayKeep txn r e plan.runs → IsPlannedOn plan h r (txn_image txn r) → PlannedFor txn limit r h plan
  places : (x b : List ℕ) → WantsArea txn r x b plan.runs → plan.area_length ≡ new_area_length (content_length plan.runs)
      → txn_size txn + plan.area_length ≤ limit → IsPlannedOn plan h r b → PlannedFor txn limit r h plan

-- a new undo area is wanted for some images and the runs between them, and with it the file would pass the limit
pub record NoRoom (Wants : List ℕ → List ℕ → List Extent → Type 0) (size limit len need : ℕ) : Type 0 where
  pub x : List ℕ
  pub b : List ℕ
  pub runs : List Extent
  pub wants : Wants x b runs
  pub len_is : len ≡ size
  pub need_is : need ≡ new_area_length (content_length runs)
  pub past : limit < len + need

-- a refusal for want of room is right where the undo area is replaced
abbrev pub ReplaceRefused : Txn → ℕ → List ℕ → Extent → TxnRefusal → Type 0
ReplaceRefused txn limit r e (Full len need) = NoRoom (AreaReplaced txn r e) (txn_size txn) limit len need
ReplaceRefused txn limit r e Io = Unit {0}
ReplaceRefused txn limit r e Memory = Unit {0}

-- and where the runs are known; memory is never wanting then
abbrev pub PlaceRefused : ℕ → ℕ → List Extent → TxnRefusal → Type 0
PlaceRefused size limit runs (Full len need) = (len ≡ size) × (content_length runs < 2 ^ 40 → need ≡ new_area_length (content_length runs)) × (limit < len + need)
PlaceRefused size limit runs Io = Unit {0}
PlaceRefused size limit runs Memory = ⊥

-- what a refusal of runs is of a plan
abbrev pub of_runs : RunsRefusal → TxnRefusal
of_runs Runs.Io = Io
of_runs (Runs.Memory content) = Memory

-- Where memory is wanting for runs whose content is so long, and the extent of the undo area is empty, a plan is
-- refused for want of room just where the new area would bring the file past the limit; and else for want of memory.
abbrev pub IsNoRoomFor : ℕ → ℕ → ℕ → Extent → TxnRefusal → Type 0
IsNoRoomFor content size limit e (Full len need) = (e.1 ≡ 0) × (len ≡ size) × (content < 2 ^ 40 → need ≡ new_area_length content) × (limit < len + need)
IsNoRoomFor content size limit e Io = ⊥
IsNoRoomFor content size limit e Memory = content < 2 ^ 40 → e.1 ≡ 0 → size + new_area_length content ≤ limit

-- the transaction changes bytes of image r of the file, outside an extent, in these runs
pub record HasSomeRuns (txn : Txn) (r : List ℕ) (e : Extent) (runs : List Extent) : Type 0 where
  pub changed : ChangedRuns r (txn_image txn r) (txn_start txn) e runs
  pub some : runs ≡ [] → ⊥

-- a refusal is right where the runs of what the transaction changes are wanted
abbrev pub RunsRefused : Txn → ℕ → List ℕ → Extent → TxnRefusal → Type 0
RunsRefused txn limit r e (Full len need) =
    (e.1 ≡ 0) × ((runs : List Extent) × HasSomeRuns txn r e runs × (len ≡ txn_size txn) × (need ≡ new_area_length (content_length runs)) × (limit < len + need))
RunsRefused txn limit r e Io = Unit {0}
RunsRefused txn limit r e Memory = (runs : List Extent) × HasSomeRuns txn r e runs × (e.1 ≡ 0 → txn_size txn + new_area_length (content_length runs) ≤ limit)

-- Memory is wanting only where the transaction changes something; and where the file has no undo area yet, the new one
-- has room.
pub record StarvesRightly (txn : Txn) (limit : ℕ) (r : List ℕ) : Type 0 where
  pub changes : ChangesNothing txn r → ⊥
  pub room : (len need : ℕ) → word (form_of r).order r area_head ≡ 0 → NoRoom (WantsArea txn r) (txn_size txn) limit len need → ⊥

-- The answer is right: there is nothing to commit just where nothing changes; a plan that is ready was made for that
-- file; a refusal for want of room comes just where a new undo area is wanted and has no room; and memory is wanting
-- where something changes, and not in place of room for the first area.
abbrev pub AnsweredRightly : Txn → ℕ → List ℕ → History → Result ToCommit TxnRefusal → Type 0
AnsweredRightly txn limit r h (Ok Nothing) = ChangesNothing txn r
AnsweredRightly txn limit r h (Ok (Ready planned)) = (ChangesNothing txn r → ⊥) × PlannedFor txn limit r h (planned_plan planned)
AnsweredRightly txn limit r h (Err (Full len need)) = (ChangesNothing txn r → ⊥) × NoRoom (WantsArea txn r) (txn_size txn) limit len need
AnsweredRightly txn limit r h (Err Io) = Unit {0}
AnsweredRightly txn limit r h (Err Memory) = StarvesRightly txn limit r

-- a file has these history and length where nothing was done for a commit, and the plan's length where its plan is
-- ready
abbrev pub LeftFor : History → ℕ → History → ℕ → Result ToCommit TxnRefusal → Type 0
LeftFor old size new now (Ok Nothing) = (new ≡ old) × (now ≡ size)
LeftFor old size new now (Ok (Ready planned)) = now ≡ plan_length (planned_plan planned)
LeftFor old size new now (Err Io) = Unit {0}
LeftFor old size new now (Err _) = (new ≡ old) × (now ≡ size)

-- How many syncs the plan of a commit into image r makes: none where the undo area of r is kept, three where r has
-- none, and five where its area is replaced, since it is too short for the content of all that changes.
pub data AreaSyncs (txn : Txn) (r : List ℕ) (before now : ℕ) : Type 0 where
  kept : (e : Extent) (runs : List Extent) → MayKeep txn r e runs → now ≡ before → AreaSyncs txn r before now
  anew : word (form_of r).order r area_head ≡ 0 → RoseBy 3 before now → AreaSyncs txn r before now
  replaced : (e : Extent) (too_much : List Extent) → HasAreaIn (form_of r).order r e → ChangedRuns r (txn_image txn r) (txn_start txn) e too_much
      → e.1 < 24 + content_length too_much → RoseBy 5 before now → AreaSyncs txn r before now

-- and where there is nothing to commit none
abbrev pub PlanSyncs : Txn → List ℕ → ℕ → ℕ → Result ToCommit TxnRefusal → Type 0
PlanSyncs txn r before now (Ok Nothing) = now ≡ before
PlanSyncs txn r before now (Ok (Ready planned)) = AreaSyncs txn r before now
PlanSyncs txn r before now (Err _) = Unit {0}
