-- What an opener holds of the lock bytes through the turns of a command that begins or ends its transaction, as
-- strengths.
use Rattle.std.specs.Prelude.{ℕ, ◌+◌, ◌≡◌, ◌≢◌, ◌<◌, ◌≤◌, max, List, [], ◌∷◌, Bool, ◌&&◌, ◌==◌, if◌then◌else◌}
use Rattle.tdb_locks.specs.declared.piece.Piece.{Piece}
use Rattle.tdb_law.specs.Commands.{Turn, is_done}
use Rattle.tdb_law.specs.Commands.Reply.{Memory}
use Rattle.tdb_law.specs.Commands.Turn.{Step, Blocked, Ends}
use Rattle.tdb_law.specs.Rows.{Lock, lock}
use Rattle.tdb_law.specs.Held.{covers, locked, locked_next}
use Rattle.tdb_law.specs.Effects.{IsFirstConflict, IsFree}
use Rattle.tdb_steps.specs.Holdings.{table_of}
use Rattle.tdb_txn_turns.specs.declared.taking.Attempt.{Attempt}

-- what a lock wants at each byte
abbrev pub want_of : Lock → ℕ → ℕ
want_of l b = if covers l b then l.strength else 0

-- what the first of the locks wants that a turn takes of a row, after so many steps
abbrev pub first_next : List Lock → ℕ → ℕ → ℕ
first_next [] n b = 0
first_next (l ∷ ls) n b = if l.turn == n then want_of l b else first_next ls n b

-- every other opener holds what it held
abbrev pub OthersHold : ℕ → List Piece → List Piece → Type 0
OthersHold owner old new = (o b : ℕ) → o ≢ owner → table_of new o b ≡ table_of old o b

-- where the opener wants a byte, it holds no more of it than it wants
abbrev pub MayRaise : (ℕ → ℕ) → ℕ → List Piece → Type 0
MayRaise want owner ps = (b : ℕ) → 0 < want b → table_of ps owner b ≤ want b

-- An attempt to take what is wanted, of which the first lock wants a part: nothing conflicts, and the opener holds it
-- beside what it held; or the first conflict is in the way, and it holds what it held; or nothing conflicts with the
-- first lock, there is no memory, and it holds nothing.
abbrev pub AttemptMade : (ℕ → ℕ) → (ℕ → ℕ) → ℕ → List Piece → List Piece → Attempt → Type 0
AttemptMade want first owner old new Attempt.Taken = IsFree (table_of old) owner want × ((b : ℕ) → table_of new owner b ≡ max (want b) (table_of old owner b))
AttemptMade want first owner old new (Attempt.Blocked o byte) = IsFirstConflict (table_of old) owner want o byte × ((b : ℕ) → table_of new owner b ≡ table_of old owner b)
AttemptMade want first owner old new Attempt.Starved = IsFree (table_of old) owner first × ((b : ℕ) → table_of new owner b ≡ 0)

-- The attempt to take the lock byte of the sequence number beside the opening lock: where it is blocked, that is let
-- go.
abbrev pub NumberMade : ℕ → List Piece → List Piece → Attempt → Type 0
NumberMade owner old new (Attempt.Blocked o byte) =
    IsFirstConflict (table_of old) owner (want_of (lock 1 48 49 2)) o byte × ((b : ℕ) → table_of new owner b ≡ (if b == 0 then 0 else table_of old owner b))
NumberMade owner old new attempt = AttemptMade (want_of (lock 1 48 49 2)) (want_of (lock 1 48 49 2)) owner old new attempt

-- the turn of a world that an attempt makes
abbrev pub attempt_turn : Attempt → Turn
attempt_turn Attempt.Taken = Step
attempt_turn (Attempt.Blocked o byte) = Blocked o byte
attempt_turn Attempt.Starved = Ends Memory

-- an opener holds what so many turns of a command have locked of its row, and what it keeps besides
abbrev pub HoldsRow : List Lock → (ℕ → ℕ) → ℕ → ℕ → List Piece → Type 0
HoldsRow row kept owner n ps = (b : ℕ) → table_of ps owner b ≡ max (locked row n b) (kept b)

-- What it holds after a turn of a command that has had n steps: blocked what it held, after a step what that locked
-- too. At the end it holds nothing, but where the command is done and its transaction stays.
abbrev pub held_after : Bool → List Lock → (ℕ → ℕ) → ℕ → Turn → ℕ → ℕ
held_after stays row kept n Step b = max (locked row (n + 1) b) (kept b)
held_after stays row kept n (Blocked o byte) b = max (locked row n b) (kept b)
held_after stays row kept n (Ends r) b = if stays && is_done r then max (locked row n b) (kept b) else 0

-- A turn is blocked by the first conflict of what it wants, and isn't where nothing conflicts. It ends for want of
-- memory only where nothing conflicts with the first lock that it takes.
abbrev pub GoesRightly : List Piece → ℕ → List Lock → ℕ → Turn → Type 0
GoesRightly ps owner row n Step = IsFree (table_of ps) owner (locked_next row n)
GoesRightly ps owner row n (Blocked o byte) = IsFirstConflict (table_of ps) owner (locked_next row n) o byte
GoesRightly ps owner row n (Ends Memory) = IsFree (table_of ps) owner (first_next row n)
GoesRightly ps owner row n (Ends r) = IsFree (table_of ps) owner (locked_next row n)

-- what such a turn does to the lock table
pub record RowTurned (stays : Bool) (row : List Lock) (kept : ℕ → ℕ) (owner n : ℕ) (old new : List Piece) (turn : Turn) : Type 0 where
  pub holds : (b : ℕ) → table_of new owner b ≡ held_after stays row kept n turn b
  pub others : OthersHold owner old new
  pub rightly : GoesRightly old owner row n turn
