-- Which turn a place and a stage ask for, and what follows from it.
use Rattle.std.proofs.Common.{◌≡◌, ℕ, Bool, true, false, List, Option, refl, sym, ◌∙◌, ap, subst, inl, inr, ◌⊎◌}
use Rattle.std.specs.Prelude.{MatchBool}
use Rattle.tdb_space.specs.Form.{Form}
use Rattle.tdb_space.specs.Extents.{HandPair}
use Rattle.tdb_space.specs.Accepted.{AcceptWith}
use Rattle.tdb_locks.specs.HeldLocks.{HeldLocks}
use Rattle.tdb_locks.specs.LockTable.{held}
use Rattle.tdb_locks.specs.declared.piece.Piece.{Piece}
use Rattle.tdb_locks.specs.declared.turn.Turn.{Turn}
use Rattle.tdb_walk.specs.declared.standing.Standing.{Standing}
use Rattle.tdb_walk.specs.declared.standing.Standing.TheVariants.{Before, On, Past}
use Rattle.tdb_walk.specs.declared.stage.Stage.{Stage}
use Rattle.tdb_walk.specs.declared.stage.Stage.TheVariants.{Rested, Reading, Writing, Freeing}
use Rattle.tdb_walk.specs.declared.stage.Goal.{Goal}
use Rattle.tdb_walk.specs.declared.stage.Goal.TheVariants.{First, Next, Leave}
use Rattle.tdb_walk.specs.declared.stage.Act.{Act}
use Rattle.tdb_walk.specs.declared.stage.Act.TheVariants.{Lock, Move, End}
use Rattle.tdb_walk.specs.declared.purging.DeadRecord.{DeadRecord}
use Rattle.tdb_walk.specs.NextLive.{StandsIn}
use Rattle.tdb_walk.specs.ByteLocks.{only_reads}
use Rattle.tdb_walk.specs.Cursors.LeaveLed.{leaves, cannot}
use Rattle.tdb_walk.specs.Cursors.StepMade.{keeps, purges, waits, starves}
use Rattle.tdb_walk.specs.Cursors.{At, HasToPurge, Knows, LeaveLed, StepMade, StepLed, StepMoved, StepTaken, act_of, last_of, spared_of, held_after}

-- where a turn moves from, else where the cursor stands
abbrev place_then : Act → Standing → Standing
place_then (Lock lock) place = place
place_then (Move from) place = from
place_then End place = place

last_case : (goal : Goal) (place : Standing) → (place_then (last_of goal place) place ≡ place) ⊎ (place_then (last_of goal place) place ≡ Before 0)
last_case First (Before chain) = inl refl
last_case First (On chain off) = inr refl
last_case First Past = inr refl
last_case Next place = inl refl
last_case Leave place = inl refl

from_case : (goal : Goal) (place : Standing) (stage : Stage) (due : Bool) → (place_then (act_of goal place stage due) place ≡ place) ⊎ (place_then (act_of goal place stage due) place ≡ Before 0)
from_case goal (On chain off) Rested true = inl refl
from_case First (On chain off) Rested false = inr refl
from_case Next (On chain off) Rested false = inl refl
from_case Leave (On chain off) Rested false = inl refl
from_case goal (On chain off) Reading due = last_case goal (On chain off)
from_case goal (On chain off) Writing due = inl refl
from_case goal (On chain off) Freeing due = last_case goal (On chain off)
from_case goal (Before chain) stage due = last_case goal (Before chain)
from_case goal Past stage due = last_case goal Past

known_stands : (f : Form) (img : List ℕ) (place : Standing) (stage : Stage) → Knows f img place stage → StandsIn f img place
known_stands f img (On chain off) Rested knows = knows
known_stands f img (On chain off) Reading knows = knows
known_stands f img (On chain off) Writing knows = (knows.0, knows.1.member)
known_stands f img (On chain off) Freeing knows = (knows.0, knows.1.member)
known_stands f img (Before chain) stage knows = tt
known_stands f img Past stage knows = tt

-- a move goes from where the cursor stands, or from before the first chain
pub from_stands : (f : Form) (img : List ℕ) (goal : Goal) (place : Standing) (stage : Stage) (due : Bool) (from : Standing) → Move from ≡ act_of goal place stage due → Knows f img place stage → StandsIn f img from
from_stands f img goal place stage due from is knows =
    let same : from ≡ place_then (act_of goal place stage due) place = ap (λ x. place_then x place) is in
    elim (from_case goal place stage due) [
      | inl here ↦ subst (StandsIn f img) (sym (same ∙ here)) (known_stands f img place stage knows)
      | inr first ↦ subst (StandsIn f img) (sym (same ∙ first)) tt
    ]

-- a turn that does what the place and the stage ask for
pub taken_by : (told : Type 0) (f : Form) (img : List ℕ) (ps now : List Piece) (owner : ℕ) (own : HeldLocks) (stood_on : List ℕ) (goal : Goal) (read_only : Bool) (at later : At) (turn : Turn) (due : Bool) (act : Act)
    → act ≡ act_of goal at.place at.stage due → StepLed f ps owner own act (spared_of goal at.place) at later turn → (due ≡ true → only_reads own ≡ false) → ((o b : ℕ) → held now o b ≡ held_after own owner act at later turn (held ps) o b)
    → (told → (hands : List HandPair) → AcceptWith f img hands → Knows f img at.place at.stage
    → MatchBool due (HasToPurge f img own stood_on read_only at.place at.stage) (HasToPurge f img own stood_on read_only at.place at.stage → ⊥))
    → (told → (hands : List HandPair) → AcceptWith f img hands → Knows f img at.place at.stage → StepMoved f img ps owner own act at later turn)
    → StepTaken told f img ps now owner own stood_on goal read_only at later turn
taken_by told f img ps now owner own stood_on goal read_only at later turn due act is led writes holds decided moved = record {
  due = due;
  led = subst (λ x. StepLed f ps owner own x (spared_of goal at.place) at later turn) is led;
  writes = writes;
  holds = λ o b. subst (λ x. held now o b ≡ held_after own owner x at later turn (held ps) o b) is (holds o b);
  decided = decided;
  moved = λ t hands A knows. subst (λ x. StepMoved f img ps owner own x at later turn) is (moved t hands A knows);
}

-- where a cursor is spared it stands as before
spared_knows : (f : Form) (img : List ℕ) (goal : Goal) (place : Standing) (stage : Stage) → Knows f img place stage → Knows f img (spared_of goal place) Rested
spared_knows f img First place stage knows = tt
spared_knows f img Next place stage knows = tt
spared_knows f img Leave (On chain off) stage knows = known_stands f img (On chain off) stage knows
spared_knows f img Leave (Before chain) stage knows = tt
spared_knows f img Leave Past stage knows = tt

-- a cursor that leaves is past the last chain, or is spared, and then the image is as it was
pub left_knows : (f : Form) (a b : List ℕ) (hands : List HandPair) (goal : Goal) (at later : At) (told turn : Turn) (dead : Option DeadRecord) → Knows f a at.place at.stage → LeaveLed dead Past (spared_of goal at.place) told later turn → StepMade f a b hands at later turn
    → Knows f b later.place later.stage
left_knows f a b hands goal at later told turn dead knows (leaves is there) made = subst (λ (x : At). Knows f b x.place x.stage) (sym there) tt
left_knows f a b hands goal at later told turn dead knows (cannot some is there) made =
    subst (λ (x : At). Knows f b x.place x.stage) (sym there) (subst (λ i. Knows f i (spared_of goal at.place) Rested) (sym (same made)) (spared_knows f a goal at.place at.stage knows))
  where
    same : StepMade f a b hands at later turn → b ≡ a
    same (keeps none e) = e
    same (purges d e over never gone) = absurd (never is)
    same (waits other byte e stays again) = again
    same (starves e again) = again
