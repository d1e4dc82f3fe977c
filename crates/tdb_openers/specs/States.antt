-- A world in the words of the law (`tdb_law`), and what holds of it between any two calls.
use Rattle.std.specs.Prelude.{ℕ, ◌+◌, ◌≤◌, ◌≡◌, ◌≢◌, List, length, slice_get, set, Option, Some, None}
use Rattle.tdb_space.specs.Form.{Form}
use Rattle.tdb_space.specs.Pairs.{joined}
use Rattle.tdb_space.specs.Accepted.{AcceptWith}
use Rattle.tdb_locks.specs.LockTable.{held}
use Rattle.tdb_locks.specs.declared.piece.Piece.{Piece}
use Rattle.tdb_law.specs.Commands.{Command}
use Rattle.tdb_law.specs.Commands.Command.{OnWalk}
use Rattle.tdb_law.specs.Openers.{View, Task as LawTask}
use Rattle.tdb_law.specs.World.{State, IsSound}
use Rattle.tdb_law.specs.Lines.{most_openers}
use Rattle.tdb_steps.specs.Holdings.{table_of}
use Rattle.tdb_walk.specs.InLaw.{goal_of, view_of}
use Rattle.tdb_walk.specs.Walkers.{Walkers}
use Rattle.tdb_walk.specs.Walkers as Walking
use Rattle.tdb_commands.specs.declared.options.Options.{Options}
use Rattle.tdb_openers.specs.declared.opener.Opener.{Opener}
use Rattle.tdb_openers.specs.Openers.{own_at, law_task, task_at, spot_at, place_at, spots_of, hands_at, OpenerStands, OpenerKnows}
use Rattle.tdb_openers.specs.Turning.{no_view}
use Rattle.tdb_openers.specs.Cursors.{is_stood, CursorKnows, OpenerSpares, StandApart, cursor_at}

-- What the file adds to the cursor of an opener, where cursors of others stand on these records. It is asked for while
-- a command on the cursor is under way: else nothing has to be purged, and no move is on its way.
abbrev pub view_for : Form → Options → List ℕ → List ℕ → Opener → Command → View
view_for f options img stood_on x (OnWalk w) = view_of f img x.held stood_on options.read_only (goal_of w) x.walk.cursor.place
view_for f options img stood_on x c = no_view

abbrev pub view_under : Form → Options → List ℕ → List ℕ → Opener → Option LawTask → View
view_under f options img stood_on x None = no_view
view_under f options img stood_on x (Some t) = view_for f options img stood_on x t.command

abbrev pub view_at : Form → Options → List ℕ → List ℕ → Option Opener → View
view_at f options img stood_on None = no_view
view_at f options img stood_on (Some x) = view_under f options img stood_on x (law_task x.task)

-- The openers of a world with this lock table, whose file has these bytes, as those of a world with cursors
-- (`tdb_walk`). The law counts openers from 0; in the lock table they have numbers from 1.
abbrev pub walkers_of : Form → Options → List Opener → List Piece → List ℕ → Walkers
walkers_of f options openers table img = record {
  joined = length openers;
  task = λ o. task_at (slice_get openers o);
  own = λ o. own_at options (slice_get openers o);
  spot = λ o. spot_at (slice_get openers o);
  view = λ o. view_at f options img (set (spots_of openers) o 0) (slice_get openers o);
  place = λ o. place_at (slice_get openers o);
  table = λ o b. table_of table (o + 1) b;
}

-- and the state of that world; no gate stands open
abbrev pub state_of : Form → Options → List Opener → List Piece → List ℕ → State
state_of f options openers table img = Walking.state_of f (walkers_of f options openers table img) img

-- What holds of a world whatever the bytes of its file are: it is sound, no more have joined than may, no lock is of a
-- number below 1, each unfinished command is where its steps have brought it, and the file is no longer than it may be.
pub record WorldStands (f : Form) (options : Options) (openers : List Opener) (table : List Piece) (img : List ℕ) (size : ℕ) : Type 0 where
  pub sound : IsSound f (state_of f options openers table img)
  pub few : length openers ≤ most_openers
  pub numbered : (b : ℕ) → held table 0 b ≡ None
  pub openers_stand : (o : ℕ) → OpenerStands f options size (slice_get openers o)
  pub limit : options.limit ≤ 4294963200
  pub short : size ≤ options.limit

-- What holds of the bytes of its file: they are accepted with the records that commands hold, each command knows its
-- chain, each cursor its record, and no cursor stands on one that a command, or another cursor, is going to take out of
-- its chain.
pub record FileStands (f : Form) (openers : List Opener) (img : List ℕ) : Type 0 where
  pub accepted : AcceptWith f img (joined (length openers) (λ o. hands_at (slice_get openers o)))
  pub known : (o : ℕ) → OpenerKnows f img (slice_get openers o)
  pub cursors : (o : ℕ) → CursorKnows f img (slice_get openers o)
  pub spared : (o : ℕ) → OpenerSpares (is_stood (spots_of openers)) (slice_get openers o)
  pub alone : (o p : ℕ) → o ≢ p → StandApart (cursor_at (slice_get openers o)) (cursor_at (slice_get openers p))
