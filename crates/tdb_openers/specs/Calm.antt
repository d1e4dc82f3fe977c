-- Turns that only look at the file.
use Rattle.std.specs.Prelude.{ℕ, ◌≡◌, ◌<◌, ◌≤◌, List, true, None, Some}
use Rattle.tdb_space.specs.Form.{Form}
use Rattle.tdb_space.specs.Frame.{Looked}
use Rattle.tdb_space.specs.declared.space.Space.{Ghosts}
use Rattle.tdb_law.specs.Commands.{WalkCommand}
use Rattle.tdb_law.specs.Counting.{unsettles_by}
use Rattle.tdb_law.specs.Openers.{Own, Task}
use Rattle.tdb_law.specs.Refusals.{refusal}
use Rattle.tdb_locks.specs.declared.piece.Piece.{Piece}
use Rattle.tdb_walk.specs.Cursors.{dead_of}
use Rattle.tdb_openers.specs.declared.job.Task.{Task as JobTask}
use Rattle.tdb_openers.specs.declared.opener.Opener.{Opener}
use Rattle.tdb_openers.specs.Openers.{walk_in}
use Rattle.tdb_openers.specs.Turning.{law_table}

-- the opener holds the byte of no chain and of no record for writing
abbrev pub WritesNoRecord : List Piece → ℕ → Type 0
WritesNoRecord ps who = (b : ℕ) → 168 ≤ b → law_table ps who b ≤ 1

-- a turn of such an opener only looks at the file: the bytes stay, and so does the disk under the view
abbrev pub IsCalm : {S : Type 0} → Ghosts S → S → S → List Piece → ℕ → Type 0
IsCalm g old new ps who = WritesNoRecord ps who → Looked g old new

-- An opener with this task is in the middle of a change: it has had the first step of a Store, an Append, a Delete or a
-- Wipe outside a transaction, or the second of a command on its cursor, which then takes out a dead record.
pub record IsMidway (f : Form) (x : Own) (t : Task) : Type 0 where
  pub step : ℕ
  pub taken : step < t.steps
  pub unsettles : unsettles_by (refusal f t.command x) t.command x step ≡ true

-- a turn of an opener that isn't only looks at the file
abbrev pub IsSparing : {S : Type 0} → Ghosts S → S → S → Form → Own → Task → Type 0
IsSparing g old new f x t = (IsMidway f x t → ⊥) → Looked g old new

-- The command of an opener is on its cursor, and its next turn doesn't purge the record on which that stands.
pub record OnlyMoves (x : Opener) (t : JobTask) : Type 0 where
  pub walk : WalkCommand
  pub on : walk_in t.job ≡ Some walk
  pub spares : dead_of x.walk.cursor.place x.walk.cursor.stage ≡ None
