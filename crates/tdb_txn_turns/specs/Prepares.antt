-- The turns of an outer Prepare, which are the first five of a Commit.
use Rattle.std.specs.Prelude.{ℕ, ◌+◌, ◌%◌, ◌^◌, ◌≡◌, ◌<◌, ◌≤◌, ◌⊎◌, List, [], Bool, false, if◌then◌else◌}
use Rattle.tdb_disk.specs.Count.{RoseBy, RoseUpTo}
use Rattle.tdb_disk.specs.History.{History, seen}
use Rattle.tdb_disk.specs.Stop.{Quiet}
use Rattle.tdb_law.specs.Commands.{Reply, Turn}
use Rattle.tdb_law.specs.Rows.{Lock, start_locks, commit_locks}
use Rattle.tdb_law.specs.Held.{locked}
use Rattle.tdb_txn.specs.Commit.{IsFilled, IsPrepared}
use Rattle.tdb_txn.specs.Committing.{MayCommit}
use Rattle.tdb_txn.specs.CommitStates.{planned_plan, filled_plan, prepared_plan, plan_length}
use Rattle.tdb_txn.specs.Planned.{IsPlannedOn}
use Rattle.tdb_txn.specs.Txn.{txn_depth, txn_doomed, txn_image, txn_size, txn_start}
use Rattle.tdb_txn.specs.declared.txn.Txn.{Txn}
use Rattle.tdb_txn_turns.specs.Commits.{Carries, RestsAt}
use Rattle.tdb_txn_turns.specs.declared.preparing.PrepareStage.{PrepareStage}
use Rattle.tdb_txn_turns.specs.declared.preparing.PrepareStage.TheVariants.{Unchanged, Begun, Records, Locked, Planned, Filled}
use Rattle.tdb_txn_turns.specs.declared.preparing.Preparing.{Preparing}
use Rattle.tdb_txn_turns.specs.declared.preparing.PrepareTurn.{PrepareTurn}
use Rattle.tdb_txn_turns.specs.declared.preparing.PrepareTurn.TheVariants as To

-- a Prepare at a stage
abbrev pub at_stage : Bool → PrepareStage → Preparing
at_stage numbered stage = record { numbered = numbered; stage = stage }

-- one that has had no turn, by whether a command of its transaction changed anything, and whether its changes raise the
-- sequence number
abbrev pub begun_with : Txn → Bool → Bool → Preparing
begun_with txn changed numbered = at_stage numbered (if changed then Begun txn else Unchanged)

-- how many steps a Prepare has had
abbrev pub stage_steps : PrepareStage → ℕ
stage_steps Unchanged = 0
stage_steps (Begun txn) = 0
stage_steps (Records txn) = 1
stage_steps (Locked txn) = 2
stage_steps (Planned state) = 3
stage_steps (Filled state) = 4

abbrev pub prepare_steps : Preparing → ℕ
prepare_steps p = stage_steps p.stage

-- a turn of it, as a turn of a world
abbrev pub prepare_turn : PrepareTurn → Turn
prepare_turn (To.Step next) = Turn.Step
prepare_turn (To.Blocked owner byte again) = Turn.Blocked owner byte
prepare_turn To.Nothing = Turn.Ends Reply.Done
prepare_turn (To.Full len need) = Turn.Ends (Reply.Full len need)
prepare_turn To.Memory = Turn.Ends Reply.Memory
prepare_turn (To.Done state) = Turn.Ends Reply.Done

-- the locks of its row: none where nothing was changed
abbrev pub row_of : PrepareStage → Bool → List Lock
row_of Unchanged numbered = []
row_of _ numbered = commit_locks numbered

abbrev pub prepare_row : Preparing → List Lock
prepare_row p = row_of p.stage p.numbered

-- what a transaction keeps beside them
abbrev pub start_held : ℕ → ℕ
start_held b = locked start_locks 2 b

-- a transaction that may be planned in a file of this length, which may get so many bytes
pub record MayPlan (txn : Txn) (size limit : ℕ) : Type 0 where
  pub depth : txn_depth txn ≡ 0
  pub whole : txn_doomed txn ≡ false
  pub sized : size ≡ txn_start txn
  pub heads : 48 ≤ txn_start txn
  pub words : txn_size txn % 4 ≡ 0
  pub within : txn_size txn ≤ limit
  pub short : limit < 2 ^ 32

-- what a stage asks of the file's length
abbrev pub StageFits : PrepareStage → ℕ → ℕ → Type 0
StageFits Unchanged size limit = Unit {0}
StageFits (Begun txn) size limit = MayPlan txn size limit
StageFits (Records txn) size limit = MayPlan txn size limit
StageFits (Locked txn) size limit = MayPlan txn size limit
StageFits (Planned state) size limit = size ≡ plan_length (planned_plan state)
StageFits (Filled state) size limit = size ≡ plan_length (filled_plan state)

-- The file is image r, and a stop leaves it so; and a transaction with image b may be committed into it.
pub record IsReady (txn : Txn) (h : History) (r b : List ℕ) : Type 0 where
  pub quiet : Quiet h
  pub file : seen h ≡ r
  pub may : MayCommit txn r
  pub image : b ≡ txn_image txn r

-- what is known at each stage, of image r of the file before the Prepare and image b of the transaction
abbrev pub KnowsStage : PrepareStage → History → List ℕ → List ℕ → Type 0
KnowsStage Unchanged h r b = RestsAt h r
KnowsStage (Begun txn) h r b = IsReady txn h r b
KnowsStage (Records txn) h r b = IsReady txn h r b
KnowsStage (Locked txn) h r b = IsReady txn h r b
KnowsStage (Planned state) h r b = Carries (IsPlannedOn (planned_plan state)) h r b
KnowsStage (Filled state) h r b = Carries (IsFilled (filled_plan state)) h r b

-- there is something that may have to be planned
abbrev pub IsPlanning : PrepareStage → Type 0
IsPlanning Unchanged = ⊥
IsPlanning _ = Unit {0}

-- The turns in their order. The first ends where nothing was changed; the third ends where nothing is to be committed,
-- where there is no room, and where the plan finds no memory; the fifth ends.
abbrev pub PrepareLeads : Preparing → PrepareTurn → Type 0
PrepareLeads p (To.Step next) = IsPlanning p.stage × IsPlanning next.stage × (prepare_steps next ≡ prepare_steps p + 1) × (next.numbered ≡ p.numbered)
PrepareLeads p (To.Blocked owner byte again) = IsPlanning p.stage × (prepare_steps p < 2) × (again ≡ p)
PrepareLeads p To.Nothing = (p.stage ≡ Unchanged) ⊎ (prepare_steps p ≡ 2)
PrepareLeads p (To.Full len need) = prepare_steps p ≡ 2
PrepareLeads p To.Memory = IsPlanning p.stage × (prepare_steps p < 3)
PrepareLeads p (To.Done state) = prepare_steps p ≡ 4

-- What a turn does to the file, of which image r was seen before the Prepare, where image b is that of the transaction.
-- A turn that is blocked or starved, has no room or finds nothing makes no call that changes the file. It finds nothing
-- after the plan where image b is r.
abbrev pub PrepareMade : List ℕ → List ℕ → History → History → Preparing → PrepareTurn → Type 0
PrepareMade r b old new p (To.Step next) = KnowsStage next.stage new r b
PrepareMade r b old new p (To.Blocked owner byte again) = new ≡ old
PrepareMade r b old new p To.Nothing = (new ≡ old) × (prepare_steps p ≡ 2 → b ≡ r)
PrepareMade r b old new p (To.Full len need) = new ≡ old
PrepareMade r b old new p To.Memory = new ≡ old
PrepareMade r b old new p (To.Done state) = Carries (IsPrepared (prepared_plan state)) new r b

-- what a turn leaves of the file's length, in a file that had this length before it
abbrev pub PrepareLeaves : ℕ → ℕ → ℕ → PrepareTurn → Type 0
PrepareLeaves limit before now (To.Step next) = StageFits next.stage now limit
PrepareLeaves limit before now (To.Done state) = now ≡ plan_length (prepared_plan state)
PrepareLeaves limit before now _ = now ≡ before

-- the file gets no shorter, and no longer than a limit
abbrev pub KeepsWithin : ℕ → ℕ → ℕ → Type 0
KeepsWithin limit before now = (before ≤ now) × (before ≤ limit → now ≤ limit)

-- How many syncs a turn makes: the plan none where the undo area is kept or nothing is to be committed, three where a
-- first one is placed, and five where another one is replaced; each of the next two turns one.
abbrev pub StageSyncs : PrepareStage → ℕ → ℕ → Type 0
StageSyncs (Locked txn) before now = (now ≡ before) ⊎ RoseBy 3 before now ⊎ RoseBy 5 before now
StageSyncs (Planned state) before now = RoseUpTo 1 before now
StageSyncs (Filled state) before now = RoseBy 1 before now
StageSyncs _ before now = now ≡ before

-- A turn that ends since nothing is to be committed makes none. Of a plan that is refused nothing is said.
abbrev pub PrepareSyncs : PrepareStage → ℕ → ℕ → PrepareTurn → Type 0
PrepareSyncs s before now To.Nothing = now ≡ before
PrepareSyncs s before now (To.Full len need) = Unit {0}
PrepareSyncs s before now To.Memory = Unit {0}
PrepareSyncs s before now _ = StageSyncs s before now
