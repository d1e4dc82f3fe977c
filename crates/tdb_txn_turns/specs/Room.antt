-- The room that the plan of a commit finds, and that a turn ends for want of it exactly where there is none.
use Rattle.std.specs.Prelude.{ℕ, ◌≡◌, ◌+◌, ◌<◌, ◌⊎◌, List}
use Rattle.tdb_words.specs.Word.{word}
use Rattle.tdb_words.specs.Header.{area_head}
use Rattle.tdb_space.specs.Extents.{Extent}
use Rattle.tdb_space.specs.Form.{form_of}
use Rattle.tdb_space.specs.Planned.{content_length}
use Rattle.tdb_law.specs.Commands.{Turn}
use Rattle.tdb_law.specs.Commands.Reply.{Full, Memory}
use Rattle.tdb_law.specs.Commands.Turn.{Ends}
use Rattle.tdb_txn.specs.Answered.{ChangesNothing, NoRoom, WantsArea}
use Rattle.tdb_txn.specs.AreaRoom.{new_area_length}
use Rattle.tdb_txn.specs.Txn.{txn_size}
use Rattle.tdb_txn.specs.declared.txn.Txn.{Txn}
use Rattle.tdb_txn_turns.specs.declared.committing.Committing.{Committing}
use Rattle.tdb_txn_turns.specs.declared.committing.Committing.TheVariants.{Preparing, Finishing}
use Rattle.tdb_txn_turns.specs.declared.preparing.PrepareStage.{PrepareStage}
use Rattle.tdb_txn_turns.specs.declared.preparing.PrepareStage.TheVariants.{Locked}

-- The plan of a commit into image r of a file that may get so many bytes has no room: the transaction changes
-- something, and a new undo area is wanted, with which the file would pass the limit. `len` is the length of the
-- transaction's image, `need` that of the area.
pub record HasNoArea (txn : Txn) (limit : ℕ) (r : List ℕ) (len need : ℕ) : Type 0 where
  pub changes : ChangesNothing txn r → ⊥
  pub area : NoRoom (WantsArea txn r) (txn_size txn) limit len need

-- each new undo area that may be wanted would bring the file past the limit
abbrev pub NoneFits : Txn → ℕ → List ℕ → Type 0
NoneFits txn limit r = (x b : List ℕ) (runs : List Extent) → WantsArea txn r x b runs → limit < txn_size txn + new_area_length (content_length runs)

-- A turn ends with Full only where there is no room for this, and there it does, with the same numbers, unless memory
-- is wanting.
pub record FullJustWhere (Lacks : ℕ → ℕ → Type 0) (turn : Turn) : Type 0 where
  pub only : (len need : ℕ) → turn ≡ Ends (Full len need) → Lacks len need
  pub always : (len need : ℕ) → Lacks len need → (turn ≡ Ends (Full len need)) ⊎ (turn ≡ Ends Memory)

abbrev pub NeverFull : Turn → Type 0
NeverFull turn = FullJustWhere (λ len need. ⊥) turn

-- The turn that plans ends with Full only where the plan has no room, with its numbers. It does end so where the plan
-- has no room and the file no undo area yet; and where the file has one that is to be replaced, if none of the areas
-- fits that may be wanted then, unless memory is wanting.
pub record FullAsPlanned (txn : Txn) (limit : ℕ) (r : List ℕ) (turn : Turn) : Type 0 where
  pub only : (len need : ℕ) → turn ≡ Ends (Full len need) → HasNoArea txn limit r len need
  pub always : (len need : ℕ) → HasNoArea txn limit r len need → NoneFits txn limit r → ((l : ℕ) × (n : ℕ) × (turn ≡ Ends (Full l n))) ⊎ (turn ≡ Ends Memory)
  pub first : (len need : ℕ) → HasNoArea txn limit r len need → word (form_of r).order r area_head ≡ 0 → turn ≡ Ends (Full len need)

-- the third turn of a Prepare plans, and no other ends with Full
abbrev pub PrepareFull : PrepareStage → ℕ → List ℕ → Turn → Type 0
PrepareFull (Locked txn) limit r turn = FullAsPlanned txn limit r turn
PrepareFull _ limit r turn = NeverFull turn

-- so does the third turn of a Commit
abbrev pub CommitFull : Committing → ℕ → List ℕ → Turn → Type 0
CommitFull (Preparing p) limit r turn = PrepareFull p.stage limit r turn
CommitFull (Finishing s) limit r turn = NeverFull turn
