-- What happens to a world besides turns: an opener joins or dies, is given a command, and an open gate is undone.
use Rattle.std.specs.Prelude.{ℕ, suc, ◌≡◌, ◌≢◌, ◌<◌, true, false, ◌||◌, Some, None}
use Rattle.tdb_space.specs.Form.{Form}
use Rattle.tdb_law.specs.Commands.{Command}
use Rattle.tdb_law.specs.Openers.{closed, opened, nowhere, seen, has}
use Rattle.tdb_law.specs.World.{State}
use Rattle.tdb_law.specs.Walks.{Shift}
use Rattle.tdb_law.specs.Lines.{most_openers, leaves_open, MayDie}

-- the file stays, and of all openers but one everything; their walks may shift, and lose nothing
pub record OthersStay (f : Form) (old new : State) (who : ℕ) : Type 0 where
  pub file : new.file ≡ old.file
  pub task : (o : ℕ) → o ≢ who → new.task o ≡ old.task o
  pub own : (o : ℕ) → o ≢ who → new.own o ≡ old.own o
  pub spot : (o : ℕ) → o ≢ who → new.spot o ≡ old.spot o
  pub table : (o b : ℕ) → o ≢ who → new.table o b ≡ old.table o b
  pub walk : (o : ℕ) → o ≢ who → Shift f (λ k. ⊥) (old.mark o) (new.mark o)
  pub number : new.number ≡ old.number
  pub image_number : (o : ℕ) → new.image_number o ≡ old.image_number o
  pub settled : new.settled ≡ old.settled

-- an opener has no command and stands nowhere, and holds nothing
pub record HasNothing (w : State) (who : ℕ) : Type 0 where
  pub task : w.task who ≡ None
  pub spot : w.spot who ≡ nowhere
  pub table : (b : ℕ) → w.table who b ≡ 0

-- The next opener joins: fewer than the most have joined, nobody holds the opening lock, and it has nothing yet.
pub record Joins (f : Form) (old : State) (who : ℕ) (new : State) : Type 0 where
  pub first : who ≡ old.joined
  pub few : old.joined < most_openers
  pub closed_lock : (o : ℕ) → old.table o 0 ≡ 0
  pub stay : OthersStay f old new who
  pub nothing : HasNothing new who
  pub own : new.own who ≡ opened (old.own who)
  pub joined : new.joined ≡ suc old.joined
  pub stale : new.stale ≡ old.stale

-- A live opener dies that may die: it is closed, and has nothing any more. The world is stale from then on where it
-- left a gate open.
pub record Dies (f : Form) (old : State) (who : ℕ) (new : State) : Type 0 where
  pub live : (old.own who).live ≡ true
  pub may_die : MayDie (old.task who)
  pub stay : OthersStay f old new who
  pub nothing : HasNothing new who
  pub own : new.own who ≡ closed (old.own who)
  pub joined : new.joined ≡ old.joined
  pub stale : new.stale ≡ (old.stale || leaves_open f (old.own who) (old.task who))

-- A live opener without a command is given one. Nothing else changes, but what the file adds to its cursor: which
-- chains a move wants on its way depends on the command.
pub record Given (old : State) (who : ℕ) (c : Command) (new : State) : Type 0 where
  pub live : (old.own who).live ≡ true
  pub idle : old.task who ≡ None
  pub task : new.task who ≡ Some (record { command = c; steps = 0 })
  pub others : (o : ℕ) → o ≢ who → new.task o ≡ old.task o
  pub rest : record new { task = old.task; view = old.view } ≡ old

-- An open gate that a dead opener left is undone. The file's map, an open gate undone, is as it was; walks lose at most
-- what isn't seen.
pub record Undoes (f : Form) (old new : State) : Type 0 where
  pub was : old.stale ≡ true
  pub now : new.stale ≡ false
  pub rest : record new { mark = old.mark; view = old.view; stale = old.stale } ≡ old
  pub walk : (o : ℕ) → Shift f (λ k. has (seen (old.own o) old.file) k ≡ false) (old.mark o) (new.mark o)
