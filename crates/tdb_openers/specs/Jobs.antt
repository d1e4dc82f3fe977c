-- Before one turn of a job, and what the turn leaves of it.
use Rattle.std.specs.Prelude.{ℕ, ◌+◌, ◌≡◌, List, Option, Some, None}
use Rattle.tdb_space.specs.Form.{Form}
use Rattle.tdb_space.specs.Extents.{HandPair}
use Rattle.tdb_locks.specs.declared.piece.Piece.{Piece}
use Rattle.tdb_law.specs.Commands.{Turn}
use Rattle.tdb_law.specs.Commands.Turn.{Step, Blocked, Ends}
use Rattle.tdb_law.specs.Openers.{Own, Spot, View}
use Rattle.tdb_openers.specs.declared.job.Job.{Job}
use Rattle.tdb_openers.specs.declared.job.Job.TheVariants.{Plain}
use Rattle.tdb_openers.specs.declared.job.Task.{Task}
use Rattle.tdb_openers.specs.Openers.{command_in, law_task, JobStands, TaskStands}
use Rattle.tdb_openers.specs.Cursors.{is_stood, CursorsBeside, LeavesCursors}
use Rattle.tdb_openers.specs.Turning.{OpenerHolds, TurnsLocks, TurnsFile, TurnsImage}

-- A job of an opener x has had n steps, in a file of this length. The law counts the opener as `who`, and the lock
-- table as `owner`.
pub record JobIsReady (f : Form) (x : Own) (s : Spot) (job : Job) (n who owner size : ℕ) (ps : List Piece) : Type 0 where
  pub number : owner ≡ who + 1
  pub stands : JobStands f x job n size
  pub holds : OpenerHolds f x s (command_in job) n who ps

-- a job that is a command on the map, but for a check
abbrev pub IsPlain : Job → Type 0
IsPlain (Plain doing) = Unit {0}
IsPlain job = ⊥

-- the task after a turn, of which this job is left: with a step more, with the same steps, or none
abbrev pub task_after : Job → ℕ → Turn → Option Task
task_after job n Step = Some (record { steps = n + 1; job = job })
task_after job n (Blocked owner byte) = Some (record { steps = n; job = job })
task_after job n (Ends r) = None

-- A turn of a job that has had n steps, of an opener x who is y afterwards, with this spot, where this job is left, in
-- a file of this length. Who has a task is as live as before.
pub record JobTurned (f : Form) (x y : Own) (z : Spot) (job left : Job) (n who size : ℕ) (old new : List Piece) (turn : Turn) : Type 0 where
  pub locks : TurnsLocks f x y z (command_in job) n (law_task (task_after left n turn)) who old new turn
  pub stands : TaskStands f y (task_after left n turn) size
  pub lives : (t : Task) → task_after left n turn ≡ Some t → y.live ≡ x.live

-- what it does to the image a, which is b after it, where other commands hold these records and cursors stand on these
pub record JobFiled (f : Form) (x y : Own) (s : Spot) (v : View) (job left : Job) (n who : ℕ) (old : List Piece) (a b : List ℕ) (others : List HandPair) (spots : List ℕ) (turn : Turn) : Type 0 where
  pub file : TurnsFile f x y s v (command_in job) n who old a b turn
  pub image : TurnsImage f (record { steps = n; job = job }) (task_after left n turn) a b others
  pub cursors : CursorsBeside f a (is_stood spots) (record { steps = n; job = job }) → LeavesCursors f x (record { steps = n; job = job }) (task_after left n turn) turn a b (is_stood spots)
