-- Where a move goes, whatever the bytes of the file are.
use Rattle.std.proofs.Common.{◌≡◌, ◌≢◌, ℕ, ◌≤◌, List, Bool, true, false, ◌==◌, Option, Some, None, refl, sym, ◌∙◌, ap, inl, inr}
use Rattle.std.specs.Prelude.{◌||◌}
use Rattle.std.proofs.lemmas.Bool.{eqb-true, ne_eqb}
use Rattle.tdb_space.specs.Form.{Form, data_start}
use Rattle.tdb_space.specs.Pairs.{home}
use Rattle.tdb_locks.specs.HeldLocks.{HeldLocks}
use Rattle.tdb_locks.specs.LockTable.{held}
use Rattle.tdb_locks.specs.declared.kind.Kind.{Kind}
use Rattle.tdb_locks.specs.declared.kind.Kind.TheVariants.{Read}
use Rattle.tdb_locks.specs.declared.piece.Piece.{Piece}
use Rattle.tdb_locks.specs.declared.turn.Reply.{Reply}
use Rattle.tdb_locks.specs.declared.turn.Turn.{Turn}
use Rattle.tdb_locks.specs.declared.turn.Turn.TheVariants.{Blocked, Done}
use Rattle.tdb_walk.specs.declared.purging.DeadRecord.{DeadRecord}
use Rattle.tdb_walk.specs.declared.standing.Standing.{Standing}
use Rattle.tdb_walk.specs.declared.standing.Standing.TheVariants.{Before, On, Past}
use Rattle.tdb_walk.specs.declared.stage.Stage.{Stage}
use Rattle.tdb_walk.specs.declared.stage.Stage.TheVariants.{Rested, Reading, Writing, Freeing}
use Rattle.tdb_walk.specs.Way.{SameLocks, SameOthers, lock_byte, reads_chain}
use Rattle.tdb_walk.specs.ByteLocks.{CanHold, Holding, with_byte, reads_all}
use Rattle.tdb_walk.specs.Cursors.{At, LeaveLed, WentTo, free_byte, is_on, let_go, rested}
use Rattle.tdb_walk.specs.Cursors.LeaveLed.{leaves, cannot}
use Rattle.tdb_walk.specs.Cursors.WentTo.{arrives, held_up, halts, finishes, lacks}
use Rattle.tdb_walk.proofs.Locked.{others_same, free_then}

module _ (f : Form) (ps : List Piece) (owner : ℕ) (own : HeldLocks) (at later : At) (turn : Turn) where
  -- a cursor that leaves at the end of a walk, and one that leaves where it is blocked before a chain
  pub ended_went : (dead : Option DeadRecord) → LeaveLed dead Past Past (Done Reply.End) later turn → WentTo f ps owner own at later turn
  ended_went dead (leaves is there) = finishes is there
  ended_went dead (cannot some is there) = lacks is there

  pub stopped_went : (dead : Option DeadRecord) (chain other byte : ℕ) → LeaveLed dead (Before chain) Past (Blocked other byte) later turn → WentTo f ps owner own at later turn
  stopped_went dead chain other byte (leaves is there) = halts chain other byte is there
  stopped_went dead chain other byte (cannot some is there) = lacks is there

  -- one that comes to a record of the chain in which its key is filed
  pub arrived_went : (g : Form) (reply : Reply) (key value : List ℕ) (chain off : ℕ) → g ≡ f → turn ≡ Done reply → reply ≡ Reply.Pair key value → (home g key == chain) ≡ true → later ≡ rested (On chain off) → data_start f ≤ off → CanHold (reads_all own) ps owner off Read
      → WentTo f ps owner own at later turn
  arrived_went g reply key value chain off form says pair filed there above can =
      arrives key value off (says ∙ ap Done pair) (there ∙ ap (λ j. rested (On j off)) (sym (ap (λ h. home h key) (sym form) ∙ eqb-true (home g key) chain filed))) above can

-- so it is over each table that says the same of the others
pub went_then : (f : Form) (old new : List Piece) (owner : ℕ) (own : HeldLocks) (at later : At) (turn : Turn) → SameLocks old new → WentTo f new owner own at later turn → WentTo f old owner own at later turn
went_then f old new owner own at later turn same (arrives key value off says there above (inl over)) = arrives key value off says there above (inl over)
went_then f old new owner own at later turn same (arrives key value off says there above (inr free)) = arrives key value off says there above (inr (free_then owner old new (others_same owner old new same) _ _ _ free))
went_then f old new owner own at later turn same (held_up other byte says there) = held_up other byte says there
went_then f old new owner own at later turn same (halts chain other byte says there) = halts chain other byte says there
went_then f old new owner own at later turn same (finishes says there) = finishes says there
went_then f old new owner own at later turn same (lacks says there) = lacks says there

-- who takes or lets go of a byte leaves what others hold
with_byte_other : (covered : Bool) (owner byte : ℕ) (now : Option Kind) (h : Holding) (o b : ℕ) → o ≢ owner → with_byte covered owner byte now h o b ≡ h o b
with_byte_other true owner byte now h o b apart = refl
with_byte_other false owner byte now h o b apart = rw (ne_eqb o owner apart) refl

let_go_other : (own : HeldLocks) (owner : ℕ) (place : Standing) (stage : Stage) (later : Standing) (h : Holding) (o b : ℕ) → o ≢ owner → let_go own owner place stage later h o b ≡ h o b
let_go_other own owner (On chain off) Rested later h o b apart = with_byte_other (reads_all own || is_on later off) owner off None h o b apart
let_go_other own owner (On chain off) Reading later h o b apart =
    with_byte_other (reads_chain own chain) owner (lock_byte chain) None (with_byte (reads_all own || is_on later off) owner off None h) o b apart ∙ with_byte_other (reads_all own || is_on later off) owner off None h o b apart
let_go_other own owner (On chain off) Writing later h o b apart =
    with_byte_other (reads_chain own chain) owner (lock_byte chain) None (with_byte (reads_all own || is_on later off) owner off None h) o b apart ∙ with_byte_other (reads_all own || is_on later off) owner off None h o b apart
let_go_other own owner (On chain off) Freeing later h o b apart =
    with_byte_other false owner free_byte None (with_byte (reads_chain own chain) owner (lock_byte chain) None (with_byte (reads_all own || is_on later off) owner off None h)) o b apart
    ∙ with_byte_other (reads_chain own chain) owner (lock_byte chain) None (with_byte (reads_all own || is_on later off) owner off None h) o b apart ∙ with_byte_other (reads_all own || is_on later off) owner off None h o b apart
let_go_other own owner (Before chain) stage later h o b apart = refl
let_go_other own owner Past stage later h o b apart = refl

-- so does a cursor that takes the byte of a record and leaves for it
pub moved_others : (own : HeldLocks) (owner : ℕ) (at : At) (place : Standing) (covered : Bool) (byte : ℕ) (old mid new : List Piece) → ((o b : ℕ) → held mid o b ≡ with_byte covered owner byte (Some Read) (held old) o b)
    → ((o b : ℕ) → held new o b ≡ let_go own owner at.place at.stage place (held mid) o b) → SameOthers owner old new
moved_others own owner at place covered byte old mid new took left o b apart =
    left o b ∙ let_go_other own owner at.place at.stage place (held mid) o b apart ∙ took o b ∙ with_byte_other covered owner byte (Some Read) (held old) o b apart
