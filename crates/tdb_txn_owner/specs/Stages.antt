-- An opener with a transaction at each stage: what the law sees of it, and what is known of the file.
use Rattle.std.specs.Prelude.{◌≡◌, ℕ, ◌+◌, ◌-◌, ◌^◌, ◌<◌, ◌≤◌, ◌≢◌, ◌==◌, List, Bool, true, false, Option, None, Some, if◌then◌else◌}
use Rattle.tdb_disk.specs.History.{History, seen}
use Rattle.tdb_words.specs.declared.header.Header.{Header}
use Rattle.tdb_space.specs.Form.{Form, form_of}
use Rattle.tdb_locks.specs.declared.kind.Kind.{Kind}
use Rattle.tdb_locks.specs.declared.kind.Kind.TheVariants.{Read, Write}
use Rattle.tdb_locks.specs.declared.piece.Piece.{Piece}
use Rattle.tdb_law.specs.Commands.{GroupCommand}
use Rattle.tdb_law.specs.Commands.GroupCommand.{Start, Commit, Prepare}
use Rattle.tdb_law.specs.Commands.Command.{OnGroup}
use Rattle.tdb_law.specs.Openers.{Own, Txn, Task, ended, nowhere}
use Rattle.tdb_law.specs.Held.{holding}
use Rattle.tdb_law.specs.Images.{image_map}
use Rattle.tdb_law.specs.Refusals.{refusal}
use Rattle.tdb_steps.specs.Turns.{number_of}
use Rattle.tdb_txn.specs.Commit.{IsPrepared}
use Rattle.tdb_txn.specs.CommitStates.{prepared_plan, plan_length}
use Rattle.tdb_txn.specs.Txn.{txn_depth}
use Rattle.tdb_txn_turns.specs.Commits.{Carries, RestsAt}
use Rattle.tdb_txn_turns.specs.Starts.{start_steps}
use Rattle.tdb_txn_turns.specs.Prepares.{prepare_steps, IsReady, KnowsStage, StageFits}
use Rattle.tdb_txn_turns.specs.Finishes.{finish_steps, FinishFits, KnowsFinish}
use Rattle.tdb_txn_turns.specs.Committings.{commit_steps, CommitFits, IsNumbered, KnowsCommit}
use Rattle.tdb_txn_turns.specs.Laws.{HasChange, HasPlan}
use Rattle.tdb_txn_turns.specs.declared.committing.Committing.{Committing}
use Rattle.tdb_txn_turns.specs.declared.committing.Committing.TheVariants as Commits
use Rattle.tdb_txn_turns.specs.declared.preparing.PrepareStage.{PrepareStage}
use Rattle.tdb_txn_turns.specs.declared.preparing.PrepareStage.TheVariants.{Unchanged, Begun}
use Rattle.tdb_txn_turns.specs.declared.preparing.Preparing.{Preparing}
use Rattle.tdb_txn_turns.specs.declared.starting.Starting.{Starting}
use Rattle.tdb_txn_turns.specs.declared.starting.Starting.TheVariants as Starts
use Rattle.tdb_txn_turns.specs.InsideTxn.Walks.{mark_in, RestsInside}
use Rattle.tdb_commands.specs.InLaw.{law_command, options_of}
use Rattle.tdb_commands.specs.declared.command.Command.{Command}
use Rattle.tdb_commands.specs.declared.command.Command.TheVariants as Given
use Rattle.tdb_law.specs.OneAside.Sides.{Past, Side}
use Rattle.tdb_commands.specs.declared.options.Options.{Options}
use Rattle.tdb_txn_owner.specs.declared.stage.PreparedTxn.{PreparedTxn}
use Rattle.tdb_txn_owner.specs.declared.stage.PreparedTxn.TheVariants.{Opened, Nothing}
use Rattle.tdb_txn_owner.specs.declared.stage.Stage.{Stage}
use Rattle.tdb_txn_owner.specs.declared.stage.Stage.TheVariants as At
use Rattle.tdb_txn_owner.specs.Ends.{task_of, HoldsIn, IsOuter}
use Rattle.tdb_commands.specs.Short.{IsShortCommand}
use Rattle.tdb_txn_owner.specs.Open.{HasOpen, OpenFits}
use Rattle.tdb_txn_owner.specs.Waits.{IsAlone}

-- the command of an opener, and the steps that it has had
abbrev pub given_task : Option Command → Option Task
given_task None = None
given_task (Some c) = Some (task_of (law_command c) 0)

abbrev pub stage_task : Stage → Option Task
stage_task (At.Starting s) = Some (task_of (OnGroup Start) (start_steps s))
stage_task (At.Open txn command) = given_task command
stage_task (At.Committing c) = Some (task_of (OnGroup Commit) (commit_steps c))
stage_task (At.Preparing p) = Some (task_of (OnGroup Prepare) (prepare_steps p))
stage_task (At.Prepared left command) = given_task command
stage_task (At.Finishing s) = Some (task_of (OnGroup Commit) (finish_steps s))

-- The image whose map and number the file has, an open gate undone; and the image of the transaction.
pub record Known : Type 0 where
  pub file : List ℕ
  pub image : List ℕ

-- The opener has an outer transaction with this image, and its own state doesn't refuse this command of it.
pub record HasOuter (f : Form) (image : List ℕ) (g : GroupCommand) (prepared : Option ℕ) (txn : Txn) (x : Own) : Type 0 where
  pub outer : IsOuter f x txn g
  pub map : txn.image ≡ image_map f image
  pub prepared_is : txn.prepared ≡ prepared

-- how many steps a Prepare had, and whether something was changed in its transaction
abbrev pub prepared_steps : PreparedTxn → ℕ
prepared_steps (Opened state) = 4
prepared_steps (Nothing true) = 2
prepared_steps (Nothing false) = 0

abbrev pub was_changed : PreparedTxn → Bool
was_changed (Opened state) = true
was_changed (Nothing changed) = changed

-- How it holds all records: the second step of a Start reads them, and the first of a Commit or a Prepare that has a
-- change writes them.
abbrev pub start_records : Starting → Option Kind
start_records Starts.Begun = None
start_records Starts.Claimed = None
start_records Starts.Reading = Some Read

abbrev pub plan_records : PrepareStage → Kind
plan_records Unchanged = Read
plan_records (Begun txn) = Read
plan_records _ = Write

abbrev pub commit_records : Committing → Kind
commit_records (Commits.Preparing p) = plan_records p.stage
commit_records (Commits.Finishing s) = Write

abbrev pub prepared_records : PreparedTxn → Kind
prepared_records (Opened state) = Write
prepared_records (Nothing true) = Write
prepared_records (Nothing false) = Read

abbrev pub stage_records : Stage → Option Kind
stage_records (At.Starting s) = start_records s
stage_records (At.Open txn command) = Some Read
stage_records (At.Committing c) = Some (commit_records c)
stage_records (At.Preparing p) = Some (plan_records p.stage)
stage_records (At.Prepared left command) = Some (prepared_records left)
stage_records (At.Finishing s) = Some Write

-- its command ends the opener itself
abbrev pub is_close : Option Command → Bool
is_close (Some Given.Close) = true
is_close _ = false

abbrev pub is_closing : Stage → Bool
is_closing (At.Open txn command) = is_close command
is_closing (At.Prepared left command) = is_close command
is_closing _ = false

-- what the opener has at each stage
pub record StartsWith (f : Form) (x : Own) : Type 0 where
  pub bare : ended x ≡ x
  pub granted : refusal f (OnGroup Start) x ≡ None

pub record CommitsWith (f : Form) (image : List ℕ) (c : Committing) (x : Own) : Type 0 where
  pub txn : Txn
  pub has : HasOuter f image Commit None txn x
  pub change : HasChange txn c
  pub numbered : IsNumbered c txn.numbered

pub record PreparesWith (f : Form) (image : List ℕ) (p : Preparing) (x : Own) : Type 0 where
  pub txn : Txn
  pub has : HasOuter f image Prepare None txn x
  pub plan : HasPlan txn p.stage
  pub numbered : p.numbered ≡ txn.numbered

pub record IsPreparedWith (f : Form) (image : List ℕ) (steps : ℕ) (changed : Bool) (x : Own) : Type 0 where
  pub txn : Txn
  pub has : HasOuter f image Commit (Some steps) txn x
  pub change : txn.changed ≡ changed

abbrev pub OwnIs : Form → Options → Known → Stage → Own → Type 0
OwnIs f o k (At.Starting s) x = StartsWith f x
OwnIs f o k (At.Open txn command) x = HasOpen o txn k.file x
OwnIs f o k (At.Committing c) x = CommitsWith f k.image c x
OwnIs f o k (At.Preparing p) x = PreparesWith f k.image p x
OwnIs f o k (At.Prepared left command) x = IsPreparedWith f k.image (prepared_steps left) (was_changed left) x
OwnIs f o k (At.Finishing s) x = IsPreparedWith f k.image 4 true x

-- what is known of the file of a prepared transaction, of image r of the file before and image b of the transaction
abbrev pub KnowsPrepared : PreparedTxn → History → List ℕ → List ℕ → Type 0
KnowsPrepared (Opened state) h r b = Carries (IsPrepared (prepared_plan state)) h r b
KnowsPrepared (Nothing changed) h r b = RestsAt h r

-- where it has changed something, and yet nothing is to be committed, its image is that of the file
abbrev pub IsUnchanged : PreparedTxn → Known → Type 0
IsUnchanged (Opened state) k = Unit {0}
IsUnchanged (Nothing changed) k = changed ≡ true → k.image ≡ k.file

-- What is known of the file. From the turn on that shuts the gate the file has the image.
abbrev pub KnowsAt : Form → Stage → History → Known → Type 0
KnowsAt f (At.Starting s) h k = seen h ≡ k.file
KnowsAt f (At.Open txn command) h k = IsReady txn.own.txn h k.file k.image × RestsInside txn.own k.file txn.walk
KnowsAt f (At.Committing c) h k = KnowsCommit c h k.file k.image × (8 ≤ commit_steps c → k.file ≡ k.image)
KnowsAt f (At.Preparing p) h k = KnowsStage p.stage h k.file k.image
KnowsAt f (At.Prepared left command) h k = KnowsPrepared left h k.file k.image × IsUnchanged left k
KnowsAt f (At.Finishing s) h k = KnowsFinish s h k.file k.image × (3 ≤ finish_steps s → k.file ≡ k.image)

-- both images have the form of the file, once there is a transaction
abbrev pub HasForms : Form → Stage → Known → Type 0
HasForms f (At.Starting s) k = Unit {0}
HasForms f stage k = (form_of k.file ≡ f) × (form_of k.image ≡ f)

-- What is known of the file at a stage. Where others may read it, it is the image.
pub record KnowsFile (f : Form) (stage : Stage) (h : History) (k : Known) : Type 0 where
  pub at : KnowsAt f stage h k
  pub forms : HasForms f stage k
  pub reads : stage_records stage ≢ Some Write → seen h ≡ k.file

-- The numbers of the world are those of the images: that of the opener's image, where it has a transaction; where
-- changes don't count there the number stays that of the file.
pub record HasNumbers (f : Form) (k : Known) (number : ℕ) (x : Own) : Type 0 where
  pub image : (t : Txn) → x.txn ≡ Some t → number ≡ number_of f k.image
  pub still : (t : Txn) → x.txn ≡ Some t → t.numbered ≡ false → number_of f k.image ≡ number_of f k.file

-- Inside its transaction the walk of its cursor has come to where the cursor stands in the image.
abbrev pub MarkIs : Form → Known → Stage → Side → Type 0
MarkIs f k (At.Open txn command) s = s.mark ≡ mark_in f k.image txn.walk
MarkIs f k stage s = Unit {0}

-- The opener with this number, whose locks these are, at this stage: it is the side of a state. It is alone in its lock
-- table.
pub record IsSide (f : Form) (o : Options) (owner : ℕ) (ps : List Piece) (stage : Stage) (k : Known) (past : Past) (s : Side) : Type 0 where
  pub here : owner ≡ s.here + 1
  pub alone : IsAlone owner ps
  pub table : HoldsIn ps owner s
  pub holds : (b : ℕ) → s.table b ≡ holding f s.own nowhere s.task b
  pub task : s.task ≡ stage_task stage
  pub keeps : s.view.must ≡ false
  pub live : s.own.live ≡ true
  pub options : s.own.options ≡ options_of o
  pub own : OwnIs f o k stage s.own
  pub numbers : HasNumbers f k (past.numbers s.here) s.own
  pub mark : MarkIs f k stage s

-- a command that may be given to an opener inside so many transactions more
abbrev pub MayBeGiven : Command → ℕ → Type 0
MayBeGiven Given.Start depth = depth < 2 ^ 32 - 1
MayBeGiven command depth = Unit {0}

abbrev pub CommandFits : Option Command → ℕ → Type 0
CommandFits None depth = Unit {0}
CommandFits (Some command) depth = IsShortCommand command × MayBeGiven command depth

-- what a prepared transaction asks of the file's length
abbrev pub PreparedFits : PreparedTxn → ℕ → Type 0
PreparedFits (Opened state) size = size ≡ plan_length (prepared_plan state)
PreparedFits (Nothing changed) size = Unit {0}

-- what a stage asks of the file's header and length, where it may get so many bytes, and of the command
abbrev pub IsFit : Stage → Header → ℕ → ℕ → Type 0
IsFit (At.Starting s) h limit size = size ≤ limit
IsFit (At.Open txn command) h limit size = OpenFits txn h limit size × CommandFits command (txn_depth txn.own.txn)
IsFit (At.Committing c) h limit size = CommitFits c size limit
IsFit (At.Preparing p) h limit size = StageFits p.stage size limit
IsFit (At.Prepared left command) h limit size = PreparedFits left size × CommandFits command 0
IsFit (At.Finishing s) h limit size = FinishFits s size

abbrev pub IsFitLeft : Option Stage → Header → ℕ → ℕ → Type 0
IsFitLeft None h limit size = Unit {0}
IsFitLeft (Some stage) h limit size = IsFit stage h limit size
