-- When a turn of the opener aside is blocked: by the locks of the others, and never by its own lock table, in which it
-- is alone.
use Rattle.std.specs.Prelude.{ℕ, ◌≡◌, ◌≢◌, Bool, true, false, List, [], Some}
use Rattle.tdb_space.specs.Form.{Form}
use Rattle.tdb_locks.specs.declared.piece.Piece.{Piece}
use Rattle.tdb_law.specs.Commands.Turn.{Blocked}
use Rattle.tdb_law.specs.Commands.{Turn}
use Rattle.tdb_law.specs.Openers.{Map, Task, nowhere}
use Rattle.tdb_law.specs.Rows.{Lock, is_changed, start_locks}
use Rattle.tdb_law.specs.Ends.{waits}
use Rattle.tdb_law.specs.Held.{holding}
use Rattle.tdb_law.specs.Effects.{IsFirstConflict}
use Rattle.tdb_steps.specs.Holdings.{table_of}
use Rattle.tdb_txn_turns.specs.Committings.{commit_row}
use Rattle.tdb_txn_turns.specs.Holding.{RowTurned}
use Rattle.tdb_txn_turns.specs.Prepares.{prepare_row}
use Rattle.tdb_txn_turns.specs.declared.committing.Committing.{Committing}
use Rattle.tdb_txn_turns.specs.declared.preparing.Preparing.{Preparing}
use Rattle.tdb_law.specs.OneAside.Own.{OwnTurned, side_wants}
use Rattle.tdb_law.specs.OneAside.Sides.{Past, Side}
use Rattle.tdb_txn_owner.specs.Ends.{IsBlocked}

-- A turn that the first conflict with others' locks stands in the way of is blocked by it: all stays as it is. The file
-- doesn't have the command's change yet.
abbrev pub BlockIsOwn : Type 0
BlockIsOwn = (f : Form) (table : ℕ → ℕ → ℕ) (m : Map) (q : ℕ) (past : Past) (s : Side) (t : Task) (o byte : ℕ)
    → s.task ≡ Some t → s.view.must ≡ false → waits t.command ≡ true → is_changed f t.command s.own t.steps ≡ false → ((b : ℕ) → s.table b ≡ holding f s.own nowhere s.task b)
    → IsFirstConflict table s.here (side_wants f s t) o byte → OwnTurned f table m m q q past past s s t (Blocked o byte)

-- nobody else holds anything in a lock table
abbrev pub IsAlone : ℕ → List Piece → Type 0
IsAlone owner ps = (o b : ℕ) → o ≢ owner → table_of ps o b ≡ 0

-- the rows of the commands that begin and end a transaction; one that is prepared takes no lock for its end
pub data IsRowOfEnds : List Lock → Type 0 where
  of_start : IsRowOfEnds start_locks
  of_prepare : (p : Preparing) → IsRowOfEnds (prepare_row p)
  of_commit : (c : Committing) (numbered : Bool) → IsRowOfEnds (commit_row c numbered)
  of_finish : IsRowOfEnds []

-- Where the opener is alone none of their turns is blocked, and after each it is alone still.
abbrev pub AloneGoes : Type 0
AloneGoes = (stays : Bool) (row : List Lock) (kept : ℕ → ℕ) (owner n : ℕ) (ps rs : List Piece) (u : Turn)
    → IsRowOfEnds row → IsAlone owner ps → RowTurned stays row kept owner n ps rs u → (IsBlocked u → ⊥) × IsAlone owner rs
