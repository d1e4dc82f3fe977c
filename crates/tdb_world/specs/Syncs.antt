-- How many syncs of the disk a turn makes.
use Rattle.std.specs.Prelude.{ℕ, zero, suc, ◌+◌, ◌≡◌, ◌≢◌, ◌<◌, ◌≤◌, ◌==◌, nat_le, Bool, IsTrue, true, None, Some, List, length, if◌then◌else◌}
use Rattle.tdb_disk.specs.Count.{RoseBy}
use Rattle.tdb_disk.specs.History.{History, seen}
use Rattle.tdb_words.specs.Word.{word}
use Rattle.tdb_words.specs.Header.{area_head}
use Rattle.tdb_space.specs.Extents.{Extent}
use Rattle.tdb_space.specs.Form.{Form, form_of}
use Rattle.tdb_space.specs.Planned.{content_length}
use Rattle.tdb_space.specs.Runs.{ChangedRuns}
use Rattle.tdb_locks.specs.declared.turn.Turn.{Turn}
use Rattle.tdb_law.specs.Commands.GroupCommand.{Start}
use Rattle.tdb_law.specs.Commands.Command.{OnGroup}
use Rattle.tdb_law.specs.Openers.{Task}
use Rattle.tdb_law.specs.OneAside.Sides.{Past, Side}
use Rattle.tdb_law.specs.World.{State}
use Rattle.tdb_txn.specs.Committing.{HasAreaIn}
use Rattle.tdb_txn_turns.specs.Committings.{commit_steps, CanEnd, CommitFits, CommitLeads, KnowsCommit, LastSyncs, StepSyncs}
use Rattle.tdb_txn_turns.specs.PlanSyncs.{StepPlans}
use Rattle.tdb_txn_turns.specs.Prepares.{at_stage}
use Rattle.tdb_txn_turns.specs.declared.committing.Committing.{Committing}
use Rattle.tdb_txn_turns.specs.declared.committing.Committing.TheVariants.{Preparing}
use Rattle.tdb_txn_turns.specs.declared.committing.CommitTurn.TheVariants.{Step}
use Rattle.tdb_txn_turns.specs.declared.preparing.PrepareStage.TheVariants.{Unchanged}
use Rattle.tdb_txn_turns.specs.declared.starting.Starting.TheVariants.{Begun}
use Rattle.tdb_commands.specs.InLaw.{law_opener}
use Rattle.tdb_txn_owner.specs.Holders.{HolderState}
use Rattle.tdb_txn_owner.specs.Syncs.{HolderPlans, HolderSyncs}
use Rattle.tdb_txn_owner.specs.declared.stage.Stage.{Stage}
use Rattle.tdb_txn_owner.specs.declared.stage.Stage.TheVariants.{Starting}
use Rattle.tdb_world.specs.States.{IsAside}
use Rattle.tdb_world.specs.Steps.{IsAmong}
use Rattle.tdb_world.specs.Stops.{IsChanging}
use Rattle.tdb_world.specs.Whole.{is_starting, Whole}

-- The opener with this number, from 1 on, is at a stage of its transaction: it is aside, or has a Start that has had no
-- turn.
pub data StandsAt (w : Whole) (who : ℕ) (stage : Stage) : Type 0 where
  at_aside : (h : HolderState) → w.aside ≡ Some h → who ≡ h.owner → stage ≡ h.stage → StandsAt w who stage
  at_start : is_starting w.starts (law_opener who) ≡ true → IsAmong w who → stage ≡ Starting Begun → StandsAt w who stage

-- A step of the one aside that sees to the undo area makes as many syncs as the image of the file asks, whose map is
-- that of the state.
abbrev pub PlansAside : Whole → HolderState → History → Turn → ℕ → ℕ → Type 0
PlansAside w holder h turn before now = (image : List ℕ) (past : Past) (s : Side) → IsAside w holder h image past s → HolderPlans holder.stage image turn before now

-- A turn of such an opener makes as many syncs as its stage says; and where the file tells its bytes, as many as the
-- undo area asks.
pub record SyncsByStage (tells : Bool) (w : Whole) (h : History) (who : ℕ) (turn : Turn) (before now : ℕ) : Type 0 where
  pub by_stage : (stage : Stage) → StandsAt w who stage → HolderSyncs stage turn before now
  pub by_area : IsTrue tells → (holder : HolderState) → w.aside ≡ Some holder → who ≡ holder.owner → PlansAside w holder h turn before now

-- The next turn of an opener only looks at the file: it has no transaction and no Start of one, and isn't in the middle
-- of a change outside a transaction.
pub record OnlyLooks (f : Form) (state : State) (o : ℕ) : Type 0 where
  pub outside : (state.own o).txn ≡ None
  pub no_start : (task : Task) → state.task o ≡ Some task → task.command ≢ OnGroup Start
  pub calm : IsChanging f state o → ⊥

-- how many syncs a Commit makes at most from the turn after so many steps on: its plan five, and each of four turns
-- behind it one
abbrev pub syncs_from : ℕ → ℕ
syncs_from n = if nat_le n 2 then 9 else if n == 3 then 4 else if n == 4 then 3 else if nat_le n 6 then 2 else if n == 7 then 1 else 0

-- A Commit goes on from a stage by so many steps, and the turn behind them ends it. The disk had the one count of syncs
-- before and has the other afterwards, where nobody else syncs between.
abbrev pub CommitsBy : ℕ → Committing → ℕ → ℕ → Type 0
CommitsBy zero c before now = CanEnd c × LastSyncs c before now
CommitsBy (suc n) c before now = (next : Committing) × (mid : ℕ) × CommitLeads c (Step next) × StepSyncs c before mid × CommitsBy n next mid now

-- It makes no more than these, and just as many where its gate is open, as that of a prepared transaction is.
abbrev pub CommitsSyncSeldom : Type 0
CommitsSyncSeldom = (n before now : ℕ) (c : Committing) → CommitsBy n c before now
    → (now ≤ before + syncs_from (commit_steps c)) × (5 ≤ commit_steps c → RoseBy (syncs_from (commit_steps c)) before now)

-- A Commit at a stage, in a file that may get so many bytes and tells them: the file was image r before it, and image b
-- is that of its transaction, which is r where no command changed anything.
pub record IsCommitInto (limit : ℕ) (r b : List ℕ) (c : Committing) : Type 0 where
  pub history : History
  pub knows : KnowsCommit c history r b
  pub fits : CommitFits c (length (seen history)) limit
  pub unchanged : (numbered : Bool) → c ≡ Preparing (at_stage numbered Unchanged) → b ≡ r

-- It goes on and ends as above.
abbrev pub CommitsInto : ℕ → List ℕ → List ℕ → ℕ → Committing → ℕ → ℕ → Type 0
CommitsInto limit r b zero c before now = CanEnd c × LastSyncs c before now × (commit_steps c ≡ 2 → b ≡ r)
CommitsInto limit r b (suc n) c before now =
    (next : Committing) × (mid : ℕ) × CommitLeads c (Step next) × StepSyncs c before mid × StepPlans c r before mid × IsCommitInto limit r b next × CommitsInto limit r b n next mid now

-- The undo area of image r, in this extent, has room for the content of all that changes from r to image b, in these
-- runs; or it is too short for that.
pub record AreaHolds (r b : List ℕ) : Type 0 where
  pub area : Extent
  pub runs : List Extent
  pub there : HasAreaIn (form_of r).order r area
  pub changed : ChangedRuns r b (length r) area runs
  pub fits : 24 + content_length runs ≤ area.1

pub record AreaLacks (r b : List ℕ) : Type 0 where
  pub area : Extent
  pub runs : List Extent
  pub there : HasAreaIn (form_of r).order r area
  pub changed : ChangedRuns r b (length r) area runs
  pub short : area.1 < 24 + content_length runs

-- How many syncs a Commit makes in all that brings image b into r: none where nothing changes; four where the undo area
-- has room for it; seven where r has none yet; and nine where another one takes its place.
pub record SyncsInAll (r b : List ℕ) (before now : ℕ) : Type 0 where
  pub nothing : b ≡ r → now ≡ before
  pub kept : (b ≡ r → ⊥) → AreaHolds r b → RoseBy 4 before now
  pub anew : (b ≡ r → ⊥) → word (form_of r).order r area_head ≡ 0 → RoseBy 7 before now
  pub replaced : (b ≡ r → ⊥) → AreaLacks r b → RoseBy 9 before now

-- So it is from any turn on up to the one that plans.
abbrev pub CommitsSyncExactly : Type 0
CommitsSyncExactly = (limit : ℕ) (r b : List ℕ) (n before now : ℕ) (c : Committing) → commit_steps c ≤ 2 → IsCommitInto limit r b c → CommitsInto limit r b n c before now → SyncsInAll r b before now
