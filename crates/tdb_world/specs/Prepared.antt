-- The Commit of a prepared transaction: nothing is in its way, and it is done after so many turns of its opener.
use Rattle.std.specs.Prelude.{ℕ, ◌≡◌, ◌≤◌, true, Some, is_some, nat_lt, if◌then◌else◌}
use Rattle.tdb_disk.specs.History.{History}
use Rattle.tdb_law.specs.Commands.{Turn}
use Rattle.tdb_law.specs.Commands.GroupCommand.{Commit}
use Rattle.tdb_law.specs.Commands.Command.{OnGroup}
use Rattle.tdb_law.specs.Commands.Reply.{Done}
use Rattle.tdb_law.specs.Commands.Turn.{Step, Ends}
use Rattle.tdb_law.specs.Ends.{commit_last}
use Rattle.tdb_law.specs.Openers.{Task, Txn}
use Rattle.tdb_law.specs.Turned.{Turned}
use Rattle.tdb_law.specs.World.{State}
use Rattle.tdb_world.specs.States.{IsStateOf}
use Rattle.tdb_world.specs.Whole.{form_at, Whole}

-- An opener has this transaction, which is prepared, and a Commit of it that has had so many steps.
pub record CommitsPrepared (state : State) (o : ℕ) (txn : Txn) (steps : ℕ) : Type 0 where
  pub task : state.task o ≡ Some (record { command = OnGroup Commit; steps = steps })
  pub has : (state.own o).txn ≡ Some txn
  pub prepared : is_some txn.prepared ≡ true

-- The turn after so many steps of it: a step, or after the last one the end of a Commit that is done.
abbrev pub prepared_turn : Txn → ℕ → Turn
prepared_turn txn steps = if nat_lt steps (commit_last (Some txn)) then Step else Ends Done

-- so each turn is that an opener takes of a world in this state
abbrev pub GoesAsPrepared : Whole → History → ℕ → Turn → Type 0
GoesAsPrepared w h o turn = (state : State) (txn : Txn) (steps : ℕ) → IsStateOf w h state → CommitsPrepared state o txn steps → turn ≡ prepared_turn txn steps

-- In each state that a world may have, each turn of such an opener by the law is this one: it isn't blocked, and no
-- reply but Done ends the Commit.
abbrev pub PreparedCommitGoesOn : Type 0
PreparedCommitGoesOn =
    (w : Whole) (h : History) (state after : State) (o : ℕ) (task : Task) (turn : Turn) (txn : Txn) (steps : ℕ)
    → IsStateOf w h state → CommitsPrepared state o txn steps → Turned (form_at w) state o task turn after → turn ≡ prepared_turn txn steps

-- it has at most three steps, so at most four turns
abbrev pub PreparedCommitIsShort : Type 0
PreparedCommitIsShort = (txn : Txn) → is_some txn.prepared ≡ true → commit_last (Some txn) ≤ 3
