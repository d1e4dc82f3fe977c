-- Cursors keep off records that are taken out of their chains.
use Rattle.std.specs.Prelude.{ℕ, IsTrue, ◌+◌, ◌≡◌, ◌≢◌, ◌≤◌, ◌⊎◌, Bool, true, false, List, Some, None}
use Rattle.tdb_space.specs.Form.{Form}
use Rattle.tdb_space.specs.Extents.{HandPair}
use Rattle.tdb_locks.specs.HeldLocks.{HeldLocks}
use Rattle.tdb_locks.specs.declared.piece.Piece.{Piece}
use Rattle.tdb_locks.specs.declared.turn.Turn.{Turn}
use Rattle.tdb_law.specs.Commands.{WalkCommand, Turn as LawTurn}
use Rattle.tdb_law.specs.Commands.Command.{OnWalk}
use Rattle.tdb_law.specs.Held.{holding}
use Rattle.tdb_law.specs.Openers.{Own, View}
use Rattle.tdb_walk.specs.declared.standing.Standing.TheVariants.{On}
use Rattle.tdb_walk.specs.declared.stage.Stage.{Stage}
use Rattle.tdb_walk.specs.Cursors.{At, IsPlaced, StepTaken, StepMade, spot_of}
use Rattle.tdb_walk.specs.Way.{SameOthers, lock_byte}
use Rattle.tdb_walk.specs.InLaw.{CursorBefore, IsTurn, StandsAfter, goal_of, is_dropped, is_purging, spot_in, strengths}

-- A cursor that comes to a record on which it didn't stand comes to one of a chain that no other opener has locked for
-- writing. So nobody comes to the record of a command that is going to take it out of its chain.
abbrev pub CursorComesApart : Type 0
CursorComesApart =
    (f : Form) (own : HeldLocks) (x : Own) (w : WalkCommand) (at later : At) (gone : Bool) (n who : ℕ) (ps qs : List Piece) (a b : List ℕ) (hands : List HandPair) (stood_on : List ℕ) (read_only : Bool) (v : View) (did : Turn) (turn : LawTurn) (tells : Bool)
    → IsTrue tells → CursorBefore f own x w at gone n who ps a hands stood_on read_only v → StepTaken (IsTrue tells) f a ps qs (who + 1) own stood_on (goal_of w) read_only at later did → StepMade f a b hands at later did
    → SameOthers (who + 1) ps qs → IsPlaced later.place → IsTurn did turn → is_dropped turn w ≡ false
    → (chain off : ℕ) → later.place ≡ On chain off → (spot_of at.place ≡ Some off) ⊎ ((o : ℕ) → o ≢ who → strengths ps o (lock_byte chain) ≤ 1)

-- A cursor that is going to purge its record has the record's chain locked for writing, so no other comes to it.
abbrev pub PurgerHolds : Type 0
PurgerHolds =
    (f : Form) (own : HeldLocks) (x : Own) (w : WalkCommand) (chain off : ℕ) (stage : Stage) (n : ℕ) → x.txn ≡ None → StandsAfter f own x w (On chain off) stage false n → is_purging stage ≡ true
    → 2 ≤ holding f x (spot_in (record { place = On chain off; stage = stage }) false) (Some (record { command = OnWalk w; steps = n })) (lock_byte chain)
