-- The records on which the cursors of openers stand, and what a turn of a command that is on no cursor leaves of them.
use Rattle.std.specs.Prelude.{ℕ, ◌≡◌, ◌≤◌, ◌<◌, List, Bool, true, false, ◌&&◌, nat_eq, nat_lt, Option, Some, None}
use Rattle.std.specs.List.{list_any}
use Rattle.tdb_space.specs.Form.{Form}
use Rattle.tdb_space.specs.Chain.{Member, chain_of}
use Rattle.tdb_chain.specs.declared.place.Place.{Place as FoundPlace}
use Rattle.tdb_law.specs.Commands.{Turn}
use Rattle.tdb_law.specs.Openers.{Own}
use Rattle.tdb_law.specs.Layout.{Place, IsStood}
use Rattle.tdb_steps.specs.declared.plain.Plain.{Plain as PlainCommand}
use Rattle.tdb_steps.specs.declared.plain.Plain.TheVariants.{Delete, Wipe}
use Rattle.tdb_steps.specs.declared.stage.Stage.{Stage}
use Rattle.tdb_steps.specs.declared.stage.Stage.TheVariants.{Looked, Listed}
use Rattle.tdb_steps.specs.Walks.{StandInChains}
use Rattle.tdb_walk.specs.Cursors.{At, Knows, spot_of}
use Rattle.tdb_walk.specs.InLaw.{is_purging}
use Rattle.tdb_openers.specs.declared.opener.Opener.{Opener}
use Rattle.tdb_openers.specs.declared.job.Job.{Job}
use Rattle.tdb_openers.specs.declared.job.Job.TheVariants.{Plain}
use Rattle.tdb_openers.specs.declared.job.Task.{Task}
use Rattle.tdb_openers.specs.Openers.{command_in}
use Rattle.tdb_openers.specs.Turning.{TurnsWalk}

-- a cursor stands on the record at an offset, where each opener has its entry among these
abbrev pub is_stood : List ℕ → ℕ → Bool
is_stood spots off = nat_lt 0 off && list_any (nat_eq off) spots

-- no cursor stands on the record that a delete has found, which it is going to take out of its chain
abbrev pub FoundSpares : (ℕ → Bool) → Option FoundPlace → Type 0
FoundSpares stands None = Unit {0}
FoundSpares stands (Some place) = stands place.off ≡ false

abbrev pub StageSpares : (ℕ → Bool) → PlainCommand → Stage → Type 0
StageSpares stands (Delete key) (Looked found) = FoundSpares stands found
StageSpares stands (Delete key) (Listed found) = FoundSpares stands found
StageSpares stands command stage = Unit {0}

abbrev pub JobSpares : (ℕ → Bool) → Job → Type 0
JobSpares stands (Plain doing) = StageSpares stands doing.command doing.stage
JobSpares stands job = Unit {0}

abbrev pub TaskSpares : (ℕ → Bool) → Option Task → Type 0
TaskSpares stands None = Unit {0}
TaskSpares stands (Some t) = JobSpares stands t.job

abbrev pub OpenerSpares : (ℕ → Bool) → Option Opener → Type 0
OpenerSpares stands None = Unit {0}
OpenerSpares stands (Some x) = TaskSpares stands x.task

-- no cursor stands on a record beside a wipe that has locked all of them
abbrev pub CommandClears : (ℕ → Bool) → PlainCommand → ℕ → Type 0
CommandClears stands Wipe n = 1 ≤ n → (off : ℕ) → stands off ≡ false
CommandClears stands command n = Unit {0}

abbrev pub JobClears : (ℕ → Bool) → Job → ℕ → Type 0
JobClears stands (Plain doing) n = CommandClears stands doing.command n
JobClears stands job n = Unit {0}

-- Before a turn of a task cursors stand on these records: each is one of a chain; and the turn takes none of them out.
pub record CursorsBeside (f : Form) (a : List ℕ) (stands : ℕ → Bool) (t : Task) : Type 0 where
  pub in_chains : StandInChains f a stands
  pub spares : JobSpares stands t.job
  pub clears : JobClears stands t.job t.steps

-- What a turn of a task of an opener x leaves of these cursors, from image a to image b, where this task is left: each
-- walk, wherever it stands, and each record on which a cursor stands as one of its chain; and a delete still spares
-- them.
pub record LeavesCursors (f : Form) (x : Own) (t : Task) (left : Option Task) (turn : Turn) (a b : List ℕ) (stands : ℕ → Bool) : Type 0 where
  pub walks : (place : Place) → IsStood stands place → TurnsWalk f x (command_in t.job) t.steps turn a b place
  pub members : (chain off : ℕ) → chain < f.chains → stands off ≡ true → Member off (chain_of f a chain) → Member off (chain_of f b chain)
  pub spares : TaskSpares stands left

-- the cursor of an opener stands on a record of its chain, as it knows
abbrev pub CursorKnows : Form → List ℕ → Option Opener → Type 0
CursorKnows f img None = Unit {0}
CursorKnows f img (Some x) = Knows f img x.walk.cursor.place x.walk.cursor.stage

-- A cursor that is going to purge the record on which it stands is the only one there.
abbrev pub PurgesAlone : At → At → Type 0
PurgesAlone at other = is_purging at.stage ≡ true → (off : ℕ) → spot_of at.place ≡ Some off → spot_of other.place ≡ Some off → ⊥

abbrev pub StandApart : Option At → Option At → Type 0
StandApart None other = Unit {0}
StandApart (Some at) None = Unit {0}
StandApart (Some at) (Some other) = PurgesAlone at other

-- the cursor of an opener, which has one past the last chain where it has none
abbrev pub cursor_at : Option Opener → Option At
cursor_at None = None
cursor_at (Some x) = Some x.walk.cursor
