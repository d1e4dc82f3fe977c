-- A command that is done in one turn inside its opener's own transaction, in the words of the law (`tdb_law`).
use Rattle.std.specs.Prelude.{ℕ, ◌≡◌, ◌≤◌, ◌<◌, None, Some}
use Rattle.tdb_space.specs.Form.{Form}
use Rattle.tdb_law.specs.Commands.{Command, Reply}
use Rattle.tdb_law.specs.Commands.WalkCommand.{Close}
use Rattle.tdb_law.specs.Commands.Command.{OnWalk}
use Rattle.tdb_law.specs.Commands.Reply.{Done}
use Rattle.tdb_law.specs.Commands.Turn.{Ends}
use Rattle.tdb_law.specs.Openers.{Own, Map, Spot, View, closed, ended, nowhere, seen}
use Rattle.tdb_law.specs.Rows.{all_end}
use Rattle.tdb_law.specs.Ends.{IsRow}
use Rattle.tdb_law.specs.Held.{holding, wanted}
use Rattle.tdb_law.specs.Counting.{number_seen, image_number_after}
use Rattle.tdb_law.specs.Effects.{Effect, IsFree, IsFirstConflict, Finds}
use Rattle.tdb_law.specs.Turned.{number_next}

-- an opener reads the bytes of all chains and records
abbrev pub ReadsAll : (ℕ → ℕ → ℕ) → ℕ → Type 0
ReadsAll table who = (b : ℕ) → 168 ≤ b → b < all_end → 1 ≤ table who b

-- The turn of a command with this reply, of an opener x who is y afterwards. The number of the file is n, and that of
-- its transaction's image is p before the turn and q after it. row      the turn is one that the row of the command
-- allows effect   its effect is one of the law's kinds; the file stays, whatever its map is wants    it wants no lock
-- holds    the opener holds what it held number   the file's number stays, and that of the image is as the law counts
-- it
pub record TurnsInside (f : Form) (x y : Own) (c : Command) (n p q : ℕ) (r : Reply) : Type 0 where
  pub row : IsRow f c x 0 (Ends r)
  pub effect : (table : ℕ → ℕ → ℕ) (who : ℕ) (want : ℕ → ℕ) (file : Map) → IsFree table who want → ReadsAll table who
      → Effect f (IsFree table who want) (IsFirstConflict table who want) (Finds f (table who) want (seen x file)) (number_seen x n p) c 0 x file (Ends r) y file
  pub wants : (a : Spot) (v : View) (b : ℕ) → wanted f c x a v 0 b ≡ 0
  pub holds : (a z : Spot) (b : ℕ) → holding f y z None b ≡ holding f x a (Some (record { command = c; steps = 0 })) b
  pub number : number_next f c 0 x (Ends r) n p ≡ n
  pub image_number : q ≡ image_number_after f c x (Ends r) n p

-- The turn of a command with this reply, of an opener x who is y afterwards and has no transaction, no explicit lock
-- and no cursor then. The file stays, whatever its map is; the command wants no lock, and its opener holds nothing
-- afterwards.
pub record LeavesInside (f : Form) (x y : Own) (c : Command) (n p : ℕ) (r : Reply) : Type 0 where
  pub row : IsRow f c x 0 (Ends r)
  pub effect : (table : ℕ → ℕ → ℕ) (who : ℕ) (want : ℕ → ℕ) (file : Map) → IsFree table who want
      → Effect f (IsFree table who want) (IsFirstConflict table who want) (Finds f (table who) want (seen x file)) (number_seen x n p) c 0 x file (Ends r) y file
  pub wants : (a : Spot) (v : View) (b : ℕ) → wanted f c x a v 0 b ≡ 0
  pub holds : (b : ℕ) → holding f y nowhere None b ≡ 0
  pub number : number_next f c 0 x (Ends r) n p ≡ n

-- that of a command that ends its opener's transaction without a commit, and that of the end of an opener
abbrev pub EndsInside : Form → Own → Command → ℕ → ℕ → Reply → Type 0
EndsInside f x c n p r = LeavesInside f x (ended x) c n p r

abbrev pub ClosesInside : Form → Own → ℕ → ℕ → Type 0
ClosesInside f x n p = LeavesInside f x (closed x) (OnWalk Close) n p Done
