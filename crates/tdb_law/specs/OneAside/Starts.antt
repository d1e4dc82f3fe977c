-- Openers that have been given the Start of a transaction, of which they have had no step.
use Rattle.std.specs.Prelude.{ℕ, Bool, ◌≡◌, true, Some, None, if◌then◌else◌}
use Rattle.tdb_law.specs.Commands.GroupCommand.{Start}
use Rattle.tdb_law.specs.Commands.Command.{OnGroup}
use Rattle.tdb_law.specs.Openers.{Task}
use Rattle.tdb_law.specs.World.{State}

-- a Start before its first turn
abbrev pub new_start : Task
new_start = record { command = OnGroup Start; steps = 0 }

-- the state in which these openers have one, and all else is the same
abbrev pub with_starts : (ℕ → Bool) → State → State
with_starts starts p = record p { task = λ o. if starts o then Some new_start else p.task o }

-- without it, these openers are live and have no command
pub record MayStart (starts : ℕ → Bool) (p : State) : Type 0 where
  pub live : (o : ℕ) → starts o ≡ true → (p.own o).live ≡ true
  pub idle : (o : ℕ) → starts o ≡ true → p.task o ≡ None
