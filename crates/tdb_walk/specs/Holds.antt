-- What a cursor holds after a turn, and where it stands then, whatever the bytes of the file are.
use Rattle.std.specs.Prelude.{ℕ, IsTrue, ◌+◌, ◌%◌, ◌≡◌, ◌≢◌, ◌≤◌, Bool, true, false, List, Some, is_some}
use Rattle.tdb_space.specs.Form.{Form, data_start}
use Rattle.tdb_locks.specs.HeldLocks.{HeldLocks}
use Rattle.tdb_locks.specs.declared.piece.Piece.{Piece}
use Rattle.tdb_locks.specs.declared.turn.Turn.{Turn}
use Rattle.tdb_law.specs.Commands.{WalkCommand, Turn as LawTurn}
use Rattle.tdb_law.specs.Commands.Command.{OnWalk}
use Rattle.tdb_law.specs.Openers.{Own, Map}
use Rattle.tdb_law.specs.Ends.{IsRow}
use Rattle.tdb_law.specs.Held.{holding}
use Rattle.tdb_law.specs.Effects.{task_left}
use Rattle.tdb_walk.specs.Way.{SameOthers}
use Rattle.tdb_walk.specs.Cursors.{At, IsPlaced, StepTaken}
use Rattle.tdb_walk.specs.InLaw.{CursorReady, IsTurn, goal_of, held_next, is_close, own_next, spot_next, strengths}
use Rattle.tdb_walk.specs.Again.{StandsAgain, cursor_after}

-- After a turn of an opener x, whatever the bytes of the file are: the row of its command allows the turn; what the
-- opener holds is what the law says, and others' locks don't conflict with that; the cursor stands so that its next
-- turn is one of the law again, or rests; the key of the last pair is that of the cursor's turns, and all else of the
-- opener stays; and a record on which the cursor stands lies behind the heads of all chains, at a whole word, and its
-- opener has a last pair. Where a Close ends all is dropped, and so is the cursor. The map m of the file decides
-- nothing.
pub record CursorHeld (f : Form) (own : HeldLocks) (x : Own) (w : WalkCommand) (later : At) (n who : ℕ) (qs : List Piece) (m : Map) (did : Turn) (turn : LawTurn) : Type 0 where
  pub row : IsRow f (OnWalk w) x n turn
  pub holds : (b : ℕ) → held_next turn w (strengths qs who b) ≡ holding f (own_next f w n x m turn) (spot_next turn w later) (task_left (OnWalk w) n turn) b
  pub apart : (o b : ℕ) → o ≢ who → strengths qs who b + strengths qs o b ≤ 2
  pub again : StandsAgain f own x w later turn n m
  pub shows : is_close w ≡ false → own_next f w n x m turn ≡ record x { cursor = cursor_after did later.place x.cursor }
  pub stands : (off : ℕ) → (spot_next turn w later).stands ≡ Some off → (is_some (own_next f w n x m turn).cursor ≡ true) × (data_start f ≤ off) × (off % 4 ≡ 0)

-- Each turn of a cursor is so.
abbrev pub CursorHolds : Type 0
CursorHolds =
    (f : Form) (own : HeldLocks) (x : Own) (w : WalkCommand) (at later : At) (gone : Bool) (n who : ℕ) (ps qs : List Piece) (img : List ℕ) (stood_on : List ℕ) (read_only : Bool) (m : Map) (did : Turn) (turn : LawTurn) (tells : Bool)
    → CursorReady f own x w at gone n who ps → StepTaken (IsTrue tells) f img ps qs (who + 1) own stood_on (goal_of w) read_only at later did → SameOthers (who + 1) ps qs → IsPlaced later.place → IsTurn did turn
    → CursorHeld f own x w later n who qs m did turn
