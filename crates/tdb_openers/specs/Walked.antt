-- What one turn of a command on an opener's cursor makes of the opener, of the lock table and of the file.
use Rattle.std.specs.Prelude.{ℕ, ◌≡◌, ◌≢◌, List, Bool, true, false, None}
use Rattle.tdb_space.specs.Form.{Form}
use Rattle.tdb_locks.specs.HeldLocks.{HeldLocks, nothing_held}
use Rattle.tdb_locks.specs.LockTable.{held}
use Rattle.tdb_locks.specs.declared.piece.Piece.{Piece}
use Rattle.tdb_locks.specs.declared.turn.Turn.{Turn}
use Rattle.tdb_law.specs.Commands.{WalkCommand}
use Rattle.tdb_commands.specs.InLaw.{law_turn}
use Rattle.tdb_walk.specs.Way.{SameOthers}
use Rattle.tdb_walk.specs.Cursors.{At}
use Rattle.tdb_walk.specs.InLaw.{goal_of, is_dropped}
use Rattle.tdb_walk.specs.Again.{cursor_after}
use Rattle.tdb_walk.specs.declared.walk.Walk.{Walk}
use Rattle.tdb_walk.specs.Spots.{Stepped}
use Rattle.tdb_openers.specs.declared.opener.Opener.{Opener}
use Rattle.tdb_openers.specs.declared.job.Task.{Task}
use Rattle.tdb_openers.specs.Openers.{no_walk}
use Rattle.tdb_openers.specs.Jobs.{task_after}

-- an opener but for its command
pub record Footing : Type 0 where
  pub live : Bool
  pub held : HeldLocks
  pub walk : Walk

abbrev pub footing_of : Opener → Footing
footing_of x = record { live = x.live; held = x.held; walk = x.walk }

-- The opener goes on, with its cursor where a step has brought that, and this lock table.
pub record GoesOn (x y : Footing) (later : At) (mid new : List Piece) (did : Turn) : Type 0 where
  pub live : y.live ≡ x.live
  pub held : y.held ≡ x.held
  pub cursor : y.walk.cursor ≡ later
  pub shown : y.walk.shown ≡ cursor_after did later.place x.walk.shown
  pub table : new ≡ mid

-- The opener has ended, and has lost all that it held.
pub record HasEnded (y : Footing) (owner : ℕ) (mid new : List Piece) : Type 0 where
  pub live : y.live ≡ false
  pub nothing : y.held ≡ nothing_held
  pub bare : y.walk ≡ no_walk
  pub gone : (b : ℕ) → held new owner b ≡ None
  pub others : (o b : ℕ) → o ≢ owner → held new o b ≡ held mid o b

-- One turn of a command on the cursor of an opener x, in a file of this length, from image a to image b: the cursor
-- took a step, to a place and a lock table, while other cursors stood on these records; and the opener, y after it,
-- goes on so, or it has ended, with the last turn of a Close.
pub record WalkStepped (tells : Bool) (f : Form) (a b : List ℕ) (size : ℕ) (old new : List Piece) (owner : ℕ) (stood_on : List ℕ) (w : WalkCommand) (read_only : Bool) (x y : Footing) (did : Turn) : Type 0 where
  pub later : At
  pub mid : List Piece
  pub stepped : Stepped tells f a b size old mid owner x.held stood_on (goal_of w) read_only x.walk.cursor later did
  pub others : SameOthers owner old mid
  pub goes_on : is_dropped (law_turn did) w ≡ false → GoesOn x y later mid new did
  pub ends : is_dropped (law_turn did) w ≡ true → HasEnded y owner mid new

-- So the opener has what is left of its task, which is t before it.
pub record WalkTurned (tells : Bool) (f : Form) (a b : List ℕ) (size : ℕ) (old new : List Piece) (owner : ℕ) (stood_on : List ℕ) (w : WalkCommand) (read_only : Bool) (t : Task) (x y : Opener) (did : Turn) : Type 0 where
  pub stepped : WalkStepped tells f a b size old new owner stood_on w read_only (footing_of x) (footing_of y) did
  pub task : y.task ≡ task_after t.job t.steps (law_turn did)
