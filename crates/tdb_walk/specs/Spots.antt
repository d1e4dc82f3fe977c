-- The records on which the cursors of openers stand, as a list with an entry for each opener, and a cursor that is
-- asked for.
use Rattle.std.specs.Prelude.{ℕ, IsTrue, ◌≡◌, ◌≢◌, ◌<◌, ◌^◌, List, Bool, true, false, Option, None, unwrap_or}
use Rattle.tdb_space.specs.Form.{Form}
use Rattle.tdb_space.specs.Extents.{HandPair}
use Rattle.tdb_space.specs.Accepted.{AcceptWith}
use Rattle.tdb_walk.specs.declared.standing.Standing.{Standing}
use Rattle.tdb_walk.specs.declared.stage.Goal.{Goal}
use Rattle.tdb_walk.specs.declared.stage.Goal.TheVariants.{Next}
use Rattle.tdb_locks.specs.HeldLocks.{HeldLocks}
use Rattle.tdb_locks.specs.LockTable.{held}
use Rattle.tdb_locks.specs.declared.turn.Turn.{Turn}
use Rattle.tdb_locks.specs.declared.turn.Turn.TheVariants.{Done}
use Rattle.tdb_locks.specs.declared.piece.Piece.{Piece}
use Rattle.tdb_walk.specs.Cursors.{At, IsPlaced, Knows, StepTaken, StepMade, spot_of}

-- the entry of a cursor: 0 where it stands on no record, since no record has that offset
abbrev pub spot_number : Standing → ℕ
spot_number place = unwrap_or (spot_of place) 0

-- the turn is the last of its command
abbrev pub is_last : Turn → Bool
is_last (Done reply) = true
is_last turn = false

-- a Next without a cursor, which is told the end at once
pub record LacksCursor (goal : Goal) (shown : Option (List ℕ)) : Type 0 where
  pub next : goal ≡ Next
  pub nothing : shown ≡ None

-- A step of a cursor that leads from one place to another, over an image a that is b after it, in a file of this
-- length: what it takes and holds, and what it makes of the image, where a contract may see that; the cursor knows its
-- record then, which stands at a whole word.
pub record Stepped (tells : Bool) (f : Form) (a b : List ℕ) (size : ℕ) (ps qs : List Piece) (owner : ℕ) (own : HeldLocks) (stood_on : List ℕ) (goal : Goal) (read_only : Bool) (at later : At) (turn : Turn) : Type 0 where
  pub taken : StepTaken (IsTrue tells) f a ps qs owner own stood_on goal read_only at later turn
  pub made : IsTrue tells → size < 2 ^ 32 → (hands : List HandPair) → AcceptWith f a hands → Knows f a at.place at.stage → StepMade f a b hands at later turn
  pub knows : IsTrue tells → size < 2 ^ 32 → (hands : List HandPair) → AcceptWith f a hands → Knows f a at.place at.stage → Knows f b later.place later.stage
  pub placed : IsPlaced later.place

-- A turn that ends an opener's cursor and lets go of all that the opener holds: the cursor was left by such a turn,
-- with these locks and at this place, and then the opener lost the rest.
pub record IsLeft (Took : List Piece → At → Type 0) (owner : ℕ) (new : List Piece) : Type 0 where
  pub mid : List Piece
  pub later : At
  pub took : Took mid later
  pub gone : (b : ℕ) → held new owner b ≡ None
  pub others : (o b : ℕ) → o ≢ owner → held new o b ≡ held mid o b
