-- Turns that leave the file as it is.
use Rattle.std.specs.Prelude.{ℕ, ◌≡◌, None, Some, true, false}
use Rattle.tdb_disk.specs.History.{History}
use Rattle.tdb_space.specs.Form.{Form}
use Rattle.tdb_law.specs.Commands.{WalkCommand}
use Rattle.tdb_law.specs.Commands.GroupCommand.{Start}
use Rattle.tdb_law.specs.Commands.Command.{OnGroup, OnWalk}
use Rattle.tdb_law.specs.Openers.{Task}
use Rattle.tdb_law.specs.Refusals.{refusal}
use Rattle.tdb_law.specs.World.{State}
use Rattle.tdb_commands.specs.InLaw.{law_opener}
use Rattle.tdb_openers.specs.Calm.{IsMidway}
use Rattle.tdb_world.specs.States.{IsStateOf}
use Rattle.tdb_world.specs.Whole.{Whole, form_at}

-- The next turn of an opener may change the file outside a transaction: it is in the middle of a change, and where its
-- command is on its cursor, that is going to purge the dead record on which it stands.
pub record MayWrite (f : Form) (state : State) (o : ℕ) : Type 0 where
  pub task : Task
  pub has : state.task o ≡ Some task
  pub midway : IsMidway f (state.own o) task
  pub purges : (w : WalkCommand) → task.command ≡ OnWalk w → ((state.spot o).purging ≡ true) × ((state.spot o).gone ≡ false)

-- The next turn of an opener writes nothing: it has no transaction, and no Start of one that its own state grants; and
-- it isn't in the middle of a change. So is each turn, outside a transaction, of a command that changes no map, as of a
-- Fetch, a Check, a lock or a Seqnum, and of one that is refused; the first turn of a Store, an Append, a Delete and a
-- Wipe; and each turn of a command on a cursor but the third, where that purges a dead record.
pub record WritesNothing (f : Form) (state : State) (o : ℕ) : Type 0 where
  pub outside : (state.own o).txn ≡ None
  pub no_start : (task : Task) → state.task o ≡ Some task → task.command ≡ OnGroup Start → refusal f (OnGroup Start) (state.own o) ≡ None → ⊥
  pub calm : MayWrite f state o → ⊥

-- Such a turn makes no write and no sync: the history of the file's disk is as before.
abbrev pub StaysUnwritten : Whole → ℕ → History → History → Type 0
StaysUnwritten w who h g = (state : State) → IsStateOf w h state → WritesNothing (form_at w) state (law_opener who) → g ≡ h
