-- An opener in the words of the law (`tdb_law`): what it has, and its unfinished command.
use Rattle.std.specs.Prelude.{ℕ, ◌≡◌, ◌≤◌, Bool, true, List, [], map, Option, Some, None, is_some}
use Rattle.std.specs.FinMap.{len}
use Rattle.tdb_space.specs.Form.{Form}
use Rattle.tdb_space.specs.Pairs.{home}
use Rattle.tdb_space.specs.Spare.{without_bound}
use Rattle.tdb_space.specs.Extents.{HandPair}
use Rattle.tdb_locks.specs.HeldLocks.{HeldLocks}
use Rattle.tdb_locks.specs.declared.kind.Kind.{Kind}
use Rattle.tdb_law.specs.Commands as Law
use Rattle.tdb_law.specs.Openers.{AllLock, Own, Spot, Task as LawTask, nowhere}
use Rattle.tdb_law.specs.Refusals.{Refusal, refusal, says}
use Rattle.tdb_law.specs.Beginning.{nobody}
use Rattle.tdb_law.specs.Images.{image_map}
use Rattle.tdb_law.specs.Layout.{Place}
use Rattle.tdb_law.specs.Layout.Place.{off_chains}
use Rattle.tdb_steps.specs.LockRows.{strength_of}
use Rattle.tdb_steps.specs.PlainCommands.{key_of, command_of}
use Rattle.tdb_steps.specs.Stages.{hands_in}
use Rattle.tdb_steps.specs.Order.{IsAfter}
use Rattle.tdb_steps.specs.Machines.{Doing, Fits, DoingKnows}
use Rattle.tdb_walk.specs.NextLive.{place_of}
use Rattle.tdb_walk.specs.declared.standing.Standing.TheVariants.{Past}
use Rattle.tdb_walk.specs.Cursors.{At, IsPlaced, rested, spot_of}
use Rattle.tdb_walk.specs.InLaw.{StandsAfter, spot_in, is_before}
use Rattle.tdb_walk.specs.Again.{RestsAt}
use Rattle.tdb_walk.specs.declared.walk.Walk.{Walk}
use Rattle.tdb_walk.specs.Spots.{spot_number}
use Rattle.tdb_commands.specs.InLaw.{law_command, law_reply, options_of}
use Rattle.tdb_openers.specs.Given.{IsShortLocking, IsWellHeld}
use Rattle.tdb_commands.specs.declared.options.Options.{Options}
use Rattle.tdb_commands.specs.Counts.{counts_of}
use Rattle.tdb_openers.specs.declared.opener.Opener.{Opener}
use Rattle.tdb_openers.specs.declared.job.Job.{Job}
use Rattle.tdb_openers.specs.declared.job.Job.TheVariants.{Refused, Plain, Check, Locking, Seqnum, Walk as OnWalk}
use Rattle.tdb_openers.specs.declared.job.Locking.{Locking as LockingCommand}
use Rattle.tdb_openers.specs.declared.job.Locking.TheVariants as Locks
use Rattle.tdb_openers.specs.declared.job.Walking.{Walking}
use Rattle.tdb_openers.specs.declared.job.Walking.TheVariants as Walks
use Rattle.tdb_openers.specs.declared.job.Checking.{Checking}
use Rattle.tdb_openers.specs.declared.job.Checking.TheVariants.{Begun, Records, FreeList, Counted}
use Rattle.tdb_openers.specs.declared.job.Task.{Task}

-- the explicit lock of all records
abbrev pub all_of : Option (Kind × ℕ) → Option AllLock
all_of None = None
all_of (Some a) = Some (record { strength = strength_of a.0; count = a.1 })

-- a cursor between two commands: the key of the pair that it has shown last, and the record on which it stands
pub record AtRest : Type 0 where
  pub shown : Option (List ℕ)
  pub stands : Option ℕ

abbrev pub no_cursor : AtRest
no_cursor = record { shown = None; stands = None }

abbrev pub rest_of : Walk → AtRest
rest_of walk = record { shown = walk.shown; stands = spot_of walk.cursor.place }

abbrev pub no_walk : Walk
no_walk = record { cursor = rested Past; shown = None }

-- what an opener with such a cursor has: it has no transaction
abbrev pub own_with : Options → Bool → HeldLocks → AtRest → Own
own_with options live held rest = record { options = options_of options; live = live; txn = None; counts = counts_of held.chains; all = all_of held.all; cursor = rest.shown }

abbrev pub own_of : Options → Opener → Own
own_of options x = own_with options x.live x.held (rest_of x.walk)

abbrev pub own_at : Options → Option Opener → Own
own_at options None = nobody (options_of options)
own_at options (Some x) = own_of options x

-- what only the world knows of the cursor of an opener, where it stands in the chains, and the records on which those
-- of all openers stand
abbrev pub spot_by : At → Spot
spot_by at = spot_in at (is_before at.place)

abbrev pub spot_at : Option Opener → Spot
spot_at None = nowhere
spot_at (Some x) = spot_by x.walk.cursor

abbrev pub place_at : Option Opener → Place
place_at None = off_chains
place_at (Some x) = place_of x.walk.cursor.place

abbrev pub spots_of : List Opener → List ℕ
spots_of openers = map (λ x. spot_number x.walk.cursor.place) openers

-- the commands of the law
abbrev pub locking_command : LockingCommand → Law.LockCommand
locking_command (Locks.Chain key) = Law.LockCommand.ChainLock key
locking_command (Locks.ChainNb key) = Law.LockCommand.ChainLockNb key
locking_command (Locks.Unchain key) = Law.LockCommand.ChainUnlock key
locking_command Locks.All = Law.LockCommand.LockAll
locking_command Locks.AllRead = Law.LockCommand.LockAllRead
locking_command Locks.UnlockAll = Law.LockCommand.UnlockAll

abbrev pub walk_command : Walking → Law.WalkCommand
walk_command Walks.First = Law.WalkCommand.First
walk_command Walks.Next = Law.WalkCommand.Next
walk_command Walks.EndWalk = Law.WalkCommand.EndWalk
walk_command Walks.Close = Law.WalkCommand.Close

abbrev pub command_in : Job → Law.Command
command_in (Refused command reply) = law_command command
command_in (Plain doing) = Law.Command.OnMap (command_of doing.command)
command_in (Check checking) = Law.Command.OnMap Law.MapCommand.Check
command_in (Locking locking) = Law.Command.OnLocks (locking_command locking)
command_in Seqnum = Law.Command.Seqnum
command_in (OnWalk walking) = Law.Command.OnWalk (walk_command walking)

-- what a command asks of its opener's cursor, if it is on that; and how many steps a task has had
abbrev pub walk_in : Job → Option Law.WalkCommand
walk_in (OnWalk walking) = Some (walk_command walking)
walk_in job = None

abbrev pub walk_of : Option Task → Option Law.WalkCommand
walk_of None = None
walk_of (Some t) = walk_in t.job

abbrev pub steps_of : Option Task → ℕ
steps_of None = 0
steps_of (Some t) = t.steps

abbrev pub law_task : Option Task → Option LawTask
law_task None = None
law_task (Some t) = Some (record { command = command_in t.job; steps = t.steps })

abbrev pub task_at : Option Opener → Option LawTask
task_at None = None
task_at (Some x) = law_task x.task

-- the record that an unfinished command holds, which is in no list
abbrev pub hands_of_job : Job → List HandPair
hands_of_job (Plain doing) = hands_in doing.stage
hands_of_job job = []

abbrev pub hands_of_task : Option Task → List HandPair
hands_of_task None = []
hands_of_task (Some t) = hands_of_job t.job

abbrev pub hands_at : Option Opener → List HandPair
hands_at None = []
hands_at (Some x) = hands_of_task x.task

-- how many steps a check has had
abbrev pub CheckAfter : Checking → ℕ → Type 0
CheckAfter Begun n = n ≡ 0
CheckAfter Records n = n ≡ 1
CheckAfter FreeList n = n ≡ 2
CheckAfter (Counted keys) n = n ≡ 3

-- the reply by which the opener's own state answers a command at once: it tells why that is refused, or that a Next
-- without a cursor is at the end
pub data IsRefused (f : Form) (x : Own) (c : Law.Command) (r : Law.Reply) : Type 0 where
  refuses : (why : Refusal) → refusal f c x ≡ Some why → r ≡ says x why → IsRefused f x c r
  has_ended : c ≡ Law.Command.OnWalk Law.WalkCommand.Next → x.txn ≡ None → x.cursor ≡ None → r ≡ Law.Reply.End → IsRefused f x c r

-- a command on the map stands after so many steps: it isn't refused, its machine is on the chain of its key and counts
-- where the options say so, and is where these steps have brought it
pub record PlainStands (f : Form) (x : Own) (d : Doing) (n size : ℕ) : Type 0 where
  pub granted : refusal f (Law.Command.OnMap (command_of d.command)) x ≡ None
  pub chain : d.chain ≡ home f (key_of d.command)
  pub counts : d.seqnum ≡ x.options.seqnum
  pub after : IsAfter d.command d.stage n
  pub fits : Fits d size without_bound

-- a Next is asked only of an opener with a cursor
abbrev pub MayAsk : Own → Law.WalkCommand → Type 0
MayAsk x Law.WalkCommand.Next = is_some x.cursor ≡ true
MayAsk x w = Unit {0}

-- a command of an opener stands after so many steps, in a file of this length, whatever its bytes are: it is refused
-- and had no step, or it isn't, and it is where these steps have brought it. A command on the cursor has two steps at
-- most; where they have brought the cursor is said of that.
abbrev pub JobStands : Form → Own → Job → ℕ → ℕ → Type 0
JobStands f x (Refused command reply) n size = (n ≡ 0) × IsRefused f x (law_command command) (law_reply reply)
JobStands f x (Plain doing) n size = PlainStands f x doing n size
JobStands f x (Check checking) n size = (refusal f (command_in (Check checking)) x ≡ None) × CheckAfter checking n
JobStands f x (Locking locking) n size = (n ≡ 0) × (refusal f (command_in (Locking locking)) x ≡ None) × IsShortLocking locking
JobStands f x (OnWalk walking) n size = (n ≤ 2) × MayAsk x (walk_command walking)
JobStands f x job n size = (n ≡ 0) × (refusal f (command_in job) x ≡ None)

abbrev pub TaskStands : Form → Own → Option Task → ℕ → Type 0
TaskStands f x None size = Unit {0}
TaskStands f x (Some t) size = JobStands f x t.job t.steps size

-- A cursor stands as after so many steps of the command on it, where there is one; else it rests.
abbrev pub WalkAfter : Form → HeldLocks → Own → Option Law.WalkCommand → ℕ → At → Type 0
WalkAfter f held x None n at = RestsAt f x.cursor at.place at.stage
WalkAfter f held x (Some w) n at = StandsAfter f held x w at.place at.stage (is_before at.place) n

-- It stands so, and where it stands on a record, that is at a whole word.
pub record WalkStands (f : Form) (held : HeldLocks) (x : Own) (w : Option Law.WalkCommand) (n : ℕ) (at : At) : Type 0 where
  pub placed : IsPlaced at.place
  pub stands : WalkAfter f held x w n at

abbrev pub OpenerStands : Form → Options → ℕ → Option Opener → Type 0
OpenerStands f options size None = Unit {0}
OpenerStands f options size (Some x) = IsWellHeld x.held × TaskStands f (own_of options x) x.task size × WalkStands f x.held (own_of options x) (walk_of x.task) (steps_of x.task) x.walk.cursor

-- what a command knows of an image; a check that has counted the keys has their number
abbrev pub JobKnows : Form → List ℕ → Job → Type 0
JobKnows f img (Plain doing) = DoingKnows f img doing
JobKnows f img (Check (Counted keys)) = keys ≡ len (image_map f img)
JobKnows f img job = Unit {0}

abbrev pub TaskKnows : Form → List ℕ → Option Task → Type 0
TaskKnows f img None = Unit {0}
TaskKnows f img (Some t) = JobKnows f img t.job

abbrev pub OpenerKnows : Form → List ℕ → Option Opener → Type 0
OpenerKnows f img None = Unit {0}
OpenerKnows f img (Some x) = TaskKnows f img x.task
