-- One file of a group: a world in which one opener has a transaction.
use Rattle.std.specs.Prelude.{ℕ, ◌≡◌, ◌≢◌, Bool, false, Option, None, Some, is_some}
use Rattle.tdb_space.specs.Form.{Form}
use Rattle.tdb_law.specs.Beginning.{nobody}
use Rattle.tdb_law.specs.Openers.{Map, Options, Own, Task, Txn, opened}
use Rattle.tdb_law.specs.Replay.{Replay}
use Rattle.tdb_law.specs.Standing.{Stands}
use Rattle.tdb_law.specs.World.{State, IsSound}
use Rattle.tdb_commands.specs.InLaw.{options_of}
use Rattle.tdb_world.specs.OverFile.{OverFile, HasState}
use Rattle.tdb_world.specs.Stops.{IsSafe}
use Rattle.tdb_world.specs.Whole.{form_at, options_at}

-- the form of a file of a group, and the options of its openers, in the words of the law
abbrev pub form_of_file : OverFile → Form
form_of_file w = form_at w.world

abbrev pub options_of_file : OverFile → Options
options_of_file w = options_of (options_at w.world)

-- an opener with these options that has this transaction, or none, and neither a lock nor a cursor
abbrev pub with_txn : Options → Option Txn → Own
with_txn o t = record (opened (nobody o)) { txn = t }

-- A moment of a file of a group, with this committed map. Its one opener, which the law counts as 0, is like this and
-- has this command, or none. Nobody else has joined, and no gate stands open that somebody left.
pub record IsMember (m : Map) (x : Own) (u : Option Task) (w : OverFile) : Type 0 where
  pub state : State
  pub has : HasState w state
  pub sound : IsSound (form_of_file w) state
  pub replay : Replay
  pub stands : Stands (form_of_file w) state replay
  pub map : replay.map ≡ m
  pub own : replay.own 0 ≡ x
  pub others : (o : ℕ) → o ≢ 0 → replay.own o ≡ nobody (options_of_file w)
  pub command : state.task 0 ≡ u
  pub fresh : state.stale ≡ false

-- What a file of a group holds before its transaction and after it.
pub record Maps : Type 0 where
  pub before : Map
  pub after : Map

-- the transaction in which a file comes from the one map to the other: an outer one that nothing dooms
pub record LeadsTo (n : Map) (prepared : Bool) (t : Txn) : Type 0 where
  pub image : t.image ≡ n
  pub outer : t.depth ≡ 1
  pub intact : t.doomed ≡ false
  pub ready : is_some t.prepared ≡ prepared

-- A file is in its transaction, which is prepared or isn't, and no command has begun.
pub record IsUnderway (prepared : Bool) (p : Maps) (w : OverFile) : Type 0 where
  pub txn : Txn
  pub at : IsMember p.before (with_txn (options_of_file w) (Some txn)) None w
  pub leads : LeadsTo p.after prepared txn
  pub writes : (options_of_file w).read_only ≡ false

-- Its transaction is over, and it has this map, also where the machine stops.
pub record IsSettled (m : Map) (w : OverFile) : Type 0 where
  pub at : IsMember m (with_txn (options_of_file w) None) None w
  pub safe : IsSafe (form_of_file w) w.history
