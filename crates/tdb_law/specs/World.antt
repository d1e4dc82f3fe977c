-- The state of a world that contracts see, and what holds of it between any two calls.
use Rattle.std.specs.Prelude.{ℕ, ◌+◌, ◌^◌, ◌≡◌, ◌≢◌, ◌≤◌, ◌<◌, List, Bool, true, Option, Some, None, is_some}
use Rattle.tdb_space.specs.Form.{Form, data_start}
use Rattle.tdb_law.specs.Commands.{Command}
use Rattle.tdb_law.specs.Openers.{Own, Map, Spot, View, Mark, Task}
use Rattle.tdb_law.specs.Rows.{is_changed}
use Rattle.tdb_law.specs.Outcomes.{touches}
use Rattle.tdb_law.specs.Held.{holding}

-- All that is seen of a world. Openers are counted from 0 here, so the opener that a report calls 1 is 0. The file is
-- the map of its bytes with an open gate undone, and its number is the word at 48 of those. The table has what each
-- opener holds at each byte. Of an opener that hasn't joined all is as if it had nothing. A world is stale while a gate
-- stands open that an opener left by dying.
pub record State : Type 0 where
  pub file : Map
  pub table : ℕ → ℕ → ℕ
  pub joined : ℕ
  pub task : ℕ → Option Task
  pub own : ℕ → Own
  pub spot : ℕ → Spot
  pub view : ℕ → View
  pub mark : ℕ → Mark
  pub stale : Bool
  pub settled : Bool
  pub number : ℕ
  pub image_number : ℕ → ℕ

-- The opener has an unfinished command of which the file has the change, which isn't told yet.
pub record IsPending (f : Form) (w : State) (o : ℕ) (c : Command) (x : Own) : Type 0 where
  pub task : Task
  pub has_task : w.task o ≡ Some task
  pub command : task.command ≡ c
  pub owned : w.own o ≡ x
  pub made : is_changed f c x task.steps ≡ true

-- an opener is there: live, and one of those that joined
pub record IsThere (w : State) (o : ℕ) : Type 0 where
  pub live : (w.own o).live ≡ true
  pub joined : o < w.joined

-- the file has chains, and no more of them than a word counts
pub record HasFewChains (f : Form) : Type 0 where
  pub some : 0 < f.chains
  pub few : f.chains < 2 ^ 32

-- What holds between any two calls: the file has chains; the table is what each opener holds; no two openers' locks
-- conflict; a cursor that stands on a record has a last pair and is outside a transaction; who has a command is there,
-- and who is live has joined; and in a stale world nobody has a change pending, since who died held all records for
-- writing.
pub record IsSound (f : Form) (w : State) : Type 0 where
  pub chains : HasFewChains f
  pub agrees : (o b : ℕ) → w.table o b ≡ holding f (w.own o) (w.spot o) (w.task o) b
  pub apart : (o p b : ℕ) → o ≢ p → w.table o b + w.table p b ≤ 2
  pub stands : (o place : ℕ) → (w.spot o).stands ≡ Some place → ((w.own o).txn ≡ None) × (data_start f ≤ place) × (is_some (w.own o).cursor ≡ true)
  pub busy_there : (o : ℕ) (t : Task) → w.task o ≡ Some t → (w.own o).live ≡ true
  pub live_joined : (o : ℕ) → (w.own o).live ≡ true → o < w.joined
  pub stale : w.stale ≡ true → (o : ℕ) (c : Command) (x : Own) (k : List ℕ) → IsPending f w o c x → touches f c x k ≡ true → ⊥
