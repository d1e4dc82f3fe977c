-- A world whose openers have cursors, in the words of the law (`tdb_law`), and that a turn of one of them is a turn of
-- the world.
use Rattle.std.specs.Prelude.{ℕ, IsTrue, ◌+◌, ◌≡◌, ◌≢◌, Bool, false, List, Option, Some}
use Rattle.tdb_words.specs.Header.{sequence_at}
use Rattle.tdb_words.specs.Word.{word}
use Rattle.tdb_space.specs.Form.{Form}
use Rattle.tdb_space.specs.Extents.{HandPair}
use Rattle.tdb_locks.specs.HeldLocks.{HeldLocks}
use Rattle.tdb_locks.specs.declared.piece.Piece.{Piece}
use Rattle.tdb_locks.specs.declared.turn.Turn.{Turn}
use Rattle.tdb_law.specs.Commands.{WalkCommand, Turn as LawTurn}
use Rattle.tdb_law.specs.Commands.Command.{OnWalk}
use Rattle.tdb_law.specs.Openers.{Own, Spot, View, Task}
use Rattle.tdb_law.specs.Effects.{task_left}
use Rattle.tdb_law.specs.World.{State}
use Rattle.tdb_law.specs.Turned.{Turned}
use Rattle.tdb_law.specs.Images.{image_map}
use Rattle.tdb_law.specs.Layout.{Place, chains_in, mark_of}
use Rattle.tdb_law.specs.Layout.Place.{on_record}
use Rattle.tdb_walk.specs.declared.purging.DeadRecord.{DeadRecord}
use Rattle.tdb_walk.specs.NextLive.{place_of}
use Rattle.tdb_walk.specs.Way.{SameOthers}
use Rattle.tdb_walk.specs.Cursors.{At, IsPlaced, StepTaken, StepMade, dead_of}
use Rattle.tdb_walk.specs.InLaw.{CursorBefore, IsTurn, goal_of, held_next, is_dropped, own_next, spot_in, spot_next, strengths}

-- The openers of a world without transactions: how many have joined, the unfinished command of each, what it has, what
-- only the world and what only the file knows of its cursor, where that stands, and what each opener holds at each lock
-- byte.
pub record Walkers : Type 0 where
  pub joined : ℕ
  pub task : ℕ → Option Task
  pub own : ℕ → Own
  pub spot : ℕ → Spot
  pub view : ℕ → View
  pub place : ℕ → Place
  pub table : ℕ → ℕ → ℕ

-- the state of such a world, whose file has these bytes; no gate stands open
abbrev pub state_of : Form → Walkers → List ℕ → State
state_of f ws img = record {
  file = image_map f img;
  table = ws.table;
  joined = ws.joined;
  task = ws.task;
  own = ws.own;
  spot = ws.spot;
  view = ws.view;
  mark = λ o. mark_of f (chains_in f img) (ws.place o);
  stale = false;
  settled = false;
  number = word f.order img sequence_at;
  image_number = λ o. 0;
}

-- The opener `who` takes a turn of a cursor's command in such a world: it and its locks are as before the turn, and are
-- as after it then. Of all others everything stays, and none of their cursors stands on a record that the turn may
-- purge.
pub record TakesTurn (f : Form) (w : WalkCommand) (at later : At) (gone : Bool) (n who : ℕ) (ps qs : List Piece) (a : List ℕ) (turn : LawTurn) (old new : Walkers) : Type 0 where
  pub joined : new.joined ≡ old.joined
  pub task : old.task who ≡ Some (record { command = OnWalk w; steps = n })
  pub task_later : new.task who ≡ task_left (OnWalk w) n turn
  pub own_later : new.own who ≡ own_next f w n (old.own who) (image_map f a) turn
  pub spot : old.spot who ≡ spot_in at gone
  pub spot_later : new.spot who ≡ spot_next turn w later
  pub place : old.place who ≡ place_of at.place
  pub place_later : is_dropped turn w ≡ false → new.place who ≡ place_of later.place
  pub table : (o z : ℕ) → old.table o z ≡ strengths ps o z
  pub table_later : (z : ℕ) → new.table who z ≡ held_next turn w (strengths qs who z)
  pub table_others : (o z : ℕ) → o ≢ who → new.table o z ≡ strengths qs o z
  pub task_others : (o : ℕ) → o ≢ who → new.task o ≡ old.task o
  pub own_others : (o : ℕ) → o ≢ who → new.own o ≡ old.own o
  pub spot_others : (o : ℕ) → o ≢ who → new.spot o ≡ old.spot o
  pub place_others : (o : ℕ) → o ≢ who → new.place o ≡ old.place o
  pub alone : (o : ℕ) → o ≢ who → (d : DeadRecord) → dead_of at.place at.stage ≡ Some d → old.place o ≡ on_record d.chain d.off → ⊥

-- Then it is a turn of the law.
abbrev pub CursorIsTurned : Type 0
CursorIsTurned =
    (f : Form) (own : HeldLocks) (w : WalkCommand) (at later : At) (gone : Bool) (n who : ℕ) (ps qs : List Piece) (a b : List ℕ) (hands : List HandPair) (stood_on : List ℕ) (read_only : Bool) (did : Turn) (turn : LawTurn) (tells : Bool) (old new : Walkers)
    → IsTrue tells → CursorBefore f own (old.own who) w at gone n who ps a hands stood_on read_only (old.view who) → StepTaken (IsTrue tells) f a ps qs (who + 1) own stood_on (goal_of w) read_only at later did → StepMade f a b hands at later did
    → SameOthers (who + 1) ps qs → IsPlaced later.place → IsTurn did turn → TakesTurn f w at later gone n who ps qs a turn old new
    → Turned f (state_of f old a) who (record { command = OnWalk w; steps = n }) turn (state_of f new b)
