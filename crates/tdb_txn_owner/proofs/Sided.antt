-- A side before a turn of a Start, a Commit or a Prepare, and after it.
use Rattle.std.proofs.Common.{◌≡◌, ◌≢◌, ℕ, List, Option, Some, refl, ap, ◌∙◌}
use Rattle.std.specs.Prelude.{if◌then◌else◌}
use Rattle.std.proofs.lemmas.Bool.{eq-eqb, ne_eqb}
use Rattle.tdb_space.specs.Form.{Form}
use Rattle.tdb_locks.specs.declared.piece.Piece.{Piece}
use Rattle.tdb_law.specs.Commands.{Turn}
use Rattle.tdb_law.specs.Openers.{Own, Task, Txn}
use Rattle.tdb_law.specs.Effects.{task_left}
use Rattle.tdb_steps.specs.Holdings.{table_of}
use Rattle.tdb_law.specs.OneAside.Sides.{Past, Side, but_at}
use Rattle.tdb_commands.specs.declared.options.Options.{Options}
use Rattle.tdb_txn_owner.specs.declared.stage.Stage.{Stage}
use Rattle.tdb_txn_owner.specs.Ends.{TurnBegins, TurnLeaves}
use Rattle.tdb_txn_owner.specs.Stages.{stage_task, Known, IsSide}
use Rattle.tdb_txn_owner.specs.Turned.{MayTurn}

-- the side with other locks, another task and another opener
abbrev pub side_after : Side → ℕ → List Piece → Own → Option Task → Side
side_after s owner rs y task = record s { table = table_of rs owner; task = task; own = y }

pub begins : (f : Form) (o : Options) (table : ℕ → ℕ → ℕ) (owner : ℕ) (ps : List Piece) (stage : Stage) (k : Known) (past : Past) (s : Side) (t : Task)
    → IsSide f o owner ps stage k past s → stage_task stage ≡ Some t → MayTurn f table s t → TurnBegins f table s s.own t
begins f o table owner ps stage k past s t S has M = record { own = refl; task = S.task ∙ has; keeps = S.keeps; free = M.free }

-- what a turn leaves that counts nothing and settles nothing
pub leaves : (past : Past) (s : Side) (t : Task) (turn : Turn) (owner : ℕ) (rs : List Piece) (y : Own)
    → TurnLeaves past past s (side_after s owner rs y (task_left t.command t.steps turn)) t turn y past.settled (past.numbers s.here)
leaves past s t turn owner rs y = record { here = refl; own = refl; task = refl; settled = refl; number = refl; others = λ o differs. refl }

pub same_task : (t u : Task) → Some t ≡ Some u → t ≡ u
same_task t u e = cc

pub same_txn : (t u : Txn) → Some t ≡ Some u → t ≡ u
same_txn t u e = cc

-- a list of numbers with another one at one opener
pub put_here : (here x : ℕ) (g : ℕ → ℕ) → but_at here x g here ≡ x
put_here here x g = ap (λ b. if b then x else g here) (eq-eqb here here refl)

pub put_other : (here x o : ℕ) (g : ℕ → ℕ) → o ≢ here → but_at here x g o ≡ g o
put_other here x o g differs = ap (λ b. if b then x else g o) (ne_eqb o here differs)
