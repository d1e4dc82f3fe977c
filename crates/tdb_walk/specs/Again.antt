-- What holds of a cursor after a turn, by which its next turn is taken, and what the turn leaves to others.
use Rattle.std.specs.Prelude.{ℕ, IsTrue, ◌+◌, ◌≡◌, ◌<◌, Bool, false, List, Option, Some, None}
use Rattle.tdb_space.specs.Form.{Form}
use Rattle.tdb_space.specs.Chain.{Member, chain_of}
use Rattle.tdb_space.specs.Extents.{HandPair}
use Rattle.tdb_space.specs.Accepted.{AcceptWith}
use Rattle.tdb_space.specs.Stays.{ChangesOnly}
use Rattle.tdb_locks.specs.HeldLocks.{HeldLocks}
use Rattle.tdb_locks.specs.declared.piece.Piece.{Piece}
use Rattle.tdb_locks.specs.declared.turn.Reply.{Reply}
use Rattle.tdb_locks.specs.declared.turn.Turn.{Turn}
use Rattle.tdb_law.specs.Commands.{WalkCommand, Turn as LawTurn}
use Rattle.tdb_law.specs.Commands.WalkCommand.{Next}
use Rattle.tdb_law.specs.Openers.{Own, Map, View}
use Rattle.tdb_law.specs.Images.{image_map}
use Rattle.tdb_walk.specs.declared.standing.Standing.{Standing}
use Rattle.tdb_walk.specs.declared.standing.Standing.TheVariants.{Before, On, Past}
use Rattle.tdb_walk.specs.declared.stage.Stage.{Stage}
use Rattle.tdb_walk.specs.declared.stage.Stage.TheVariants.{Rested}
use Rattle.tdb_walk.specs.declared.purging.DeadRecord.{DeadRecord}
use Rattle.tdb_walk.specs.Cursors.{At, StepTaken, StepMade, dead_of}
use Rattle.tdb_walk.specs.InLaw.{CursorBefore, IsShown, IsTurn, StandsAfter, goal_of, is_before, is_close, own_next}

-- Between two commands a cursor rests on a record of the chain of the key that was shown last, or it has ended and no
-- key is shown.
abbrev pub RestsAt : Form → Option (List ℕ) → Standing → Stage → Type 0
RestsAt f cursor (On chain off) stage = IsShown f cursor chain off × (stage ≡ Rested)
RestsAt f cursor (Before chain) stage = ⊥
RestsAt f cursor Past stage = (cursor ≡ None) × (stage ≡ Rested)

-- After a turn it stands as after one step more, or blocked as after as many; and after the end of a command it rests,
-- but for a Close, with which it is dropped.
abbrev pub StandsAgain : Form → HeldLocks → Own → WalkCommand → At → LawTurn → ℕ → Map → Type 0
StandsAgain f own x w later LawTurn.Step n m = StandsAfter f own x w later.place later.stage false (n + 1)
StandsAgain f own x w later (LawTurn.Blocked o b) n m = StandsAfter f own x w later.place later.stage (is_before later.place) n
StandsAgain f own x w later (LawTurn.Ends r) n m = is_close w ≡ false → RestsAt f (own_next f w n x m (LawTurn.Ends r)).cursor later.place later.stage

-- So it is after each turn.
abbrev pub CursorStandsAgain : Type 0
CursorStandsAgain =
    (f : Form) (own : HeldLocks) (x : Own) (w : WalkCommand) (at later : At) (gone : Bool) (n who : ℕ) (ps qs : List Piece) (a : List ℕ) (hands : List HandPair) (stood_on : List ℕ) (read_only : Bool) (v : View) (did : Turn) (turn : LawTurn) (tells : Bool)
    → IsTrue tells → CursorBefore f own x w at gone n who ps a hands stood_on read_only v → StepTaken (IsTrue tells) f a ps qs (who + 1) own stood_on (goal_of w) read_only at later did → IsTurn did turn
    → StandsAgain f own x w later turn n (image_map f a)

-- The key that was shown last, after a turn that leaves the cursor at a place: that of the pair which the turn shows,
-- and none once the cursor has ended.
abbrev pub shown_there : Standing → Reply → Option (List ℕ) → Option (List ℕ)
shown_there (On chain off) (Reply.Pair key value) old = Some key
shown_there (On chain off) reply old = old
shown_there place reply old = None

abbrev pub cursor_after : Turn → Standing → Option (List ℕ) → Option (List ℕ)
cursor_after (Turn.Done reply) place old = shown_there place reply old
cursor_after turn place old = old

-- So the key of the last pair, which the law keeps of an opener, is that of the cursor's turns; else the opener stays,
-- but where a Close ends.
abbrev pub CursorShows : Type 0
CursorShows =
    (f : Form) (own : HeldLocks) (x : Own) (w : WalkCommand) (at later : At) (gone : Bool) (n who : ℕ) (ps qs : List Piece) (a : List ℕ) (hands : List HandPair) (stood_on : List ℕ) (read_only : Bool) (v : View) (did : Turn) (turn : LawTurn) (tells : Bool)
    → IsTrue tells → CursorBefore f own x w at gone n who ps a hands stood_on read_only v → StepTaken (IsTrue tells) f a ps qs (who + 1) own stood_on (goal_of w) read_only at later did → IsTurn did turn
    → is_close w ≡ false → own_next f w n x (image_map f a) turn ≡ record x { cursor = cursor_after did later.place x.cursor }

-- A cursor that rests can be asked for any command, and for a Next where it stands on a record.
abbrev pub CursorBegins : Type 0
CursorBegins = (f : Form) (own : HeldLocks) (x : Own) (w : WalkCommand) (place : Standing) (stage : Stage) → RestsAt f x.cursor place stage → (w ≡ Next → place ≡ Past → ⊥) → StandsAfter f own x w place stage false 0

-- the chain of the dead record that a turn may purge
abbrev pub IsPurging : At → ℕ → Type 0
IsPurging at k = (d : DeadRecord) × (dead_of at.place at.stage ≡ Some d) × (k ≡ d.chain)

-- What a turn leaves of an image that was accepted with these hands: it is accepted with them, at most the chain of the
-- record that the turn purges changed, and each record of a chain but that one is one of it still.
pub record CursorLeaves (f : Form) (a b : List ℕ) (hands : List HandPair) (at : At) : Type 0 where
  pub accepted : AcceptWith f b hands
  pub only : ChangesOnly f a b (IsPurging at)
  pub members : (chain off : ℕ) → chain < f.chains → Member off (chain_of f a chain) → ((d : DeadRecord) → dead_of at.place at.stage ≡ Some d → off ≡ d.off → ⊥) → Member off (chain_of f b chain)

abbrev pub CursorLeavesOthers : Type 0
CursorLeavesOthers = (f : Form) (a b : List ℕ) (hands : List HandPair) (at later : At) (did : Turn) → AcceptWith f a hands → StepMade f a b hands at later did → CursorLeaves f a b hands at
