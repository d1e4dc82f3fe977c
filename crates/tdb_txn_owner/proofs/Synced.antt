-- How many syncs the turns of each stage make.
use Rattle.std.proofs.Common.{◌≡◌, ℕ, List, Bool, true, false, Option, Some, inl, inr, refl, arith}
use Rattle.std.specs.Prelude.{◌⊎◌}
use Rattle.tdb_disk.specs.History.{History}
use Rattle.tdb_space.specs.Form.{Form}
use Rattle.tdb_locks.specs.declared.turn.Reply.TheVariants.{Full, Memory}
use Rattle.tdb_locks.specs.declared.turn.Turn.{Turn}
use Rattle.tdb_locks.specs.declared.turn.Turn.TheVariants.{Blocked, Done, Step}
use Rattle.tdb_txn.specs.declared.txn.Txn.{Txn}
use Rattle.tdb_txn_turns.specs.Committings.{CommitSyncs}
use Rattle.tdb_txn_turns.specs.PlanSyncs.{CommitPlans, PreparePlans}
use Rattle.tdb_txn_turns.specs.Prepares.{begun_with, stage_steps, PrepareLeads, PrepareSyncs, StageSyncs}
use Rattle.tdb_txn_turns.specs.declared.committing.Committing.{Committing}
use Rattle.tdb_txn_turns.specs.declared.committing.Committing.TheVariants.{Preparing}
use Rattle.tdb_txn_turns.specs.declared.committing.CommitTurn.{CommitTurn}
use Rattle.tdb_txn_turns.specs.declared.committing.CommitTurn.TheVariants as Commits
use Rattle.tdb_txn_turns.specs.declared.preparing.PrepareStage.{PrepareStage}
use Rattle.tdb_txn_turns.specs.declared.preparing.PrepareStage.TheVariants.{Unchanged, Begun, Records, Locked, Planned, Filled}
use Rattle.tdb_txn_turns.specs.declared.preparing.Preparing.{Preparing as Prepare}
use Rattle.tdb_txn_turns.specs.declared.preparing.PrepareTurn.{PrepareTurn}
use Rattle.tdb_txn_turns.specs.declared.preparing.PrepareTurn.TheVariants as Prepares
use Rattle.tdb_commands.specs.declared.command.Command.{Command}
use Rattle.tdb_commands.specs.declared.command.Command.TheVariants as Given
use Rattle.tdb_txn_owner.specs.Stages.{Known, KnowsFile}
use Rattle.tdb_txn_owner.specs.Syncs.{CommitTurnSyncs, EndSyncs, HolderPlans, HolderSyncs, LastOfPrepare, PreparedSyncs, PrepareTurnSyncs, StagePlans, UnlessSpared}
use Rattle.tdb_txn_owner.specs.Wents.{commit_went, prepare_went}
use Rattle.tdb_txn_owner.specs.declared.stage.PreparedTxn.{PreparedTxn}
use Rattle.tdb_txn_owner.specs.declared.stage.PreparedTxn.TheVariants.{Opened, Nothing}
use Rattle.tdb_txn_owner.specs.declared.stage.Stage.{Stage}
use Rattle.tdb_txn_owner.specs.declared.stage.Stage.TheVariants as At

-- A turn of a prepared transaction that makes no call makes no more than it may.
anyway : (turn : Turn) (P : Type 0) → P → UnlessSpared turn P
anyway (Done (Full len need)) P p = tt
anyway (Done Memory) P p = tt
anyway turn P p = p

end_still : (left : PreparedTxn) (n : ℕ) → EndSyncs left n n
end_still (Opened state) n = record { no_more = omega arith; never_falls = omega arith }
end_still (Nothing changed) n = refl

prepared_still : (left : PreparedTxn) (c : Option Command) (n : ℕ) → PreparedSyncs left c n n
prepared_still left (Some Given.Cancel) n = end_still left n
prepared_still left (Some Given.Close) n = end_still left n
prepared_still left (Some Given.Prepare) n = end_still left n
prepared_still left c n = refl

pub still_syncs : (left : PreparedTxn) (c : Option Command) (turn : Turn) (n : ℕ) → HolderSyncs (At.Prepared left c) turn n n
still_syncs left c turn n = anyway turn (PreparedSyncs left c n n) (prepared_still left c n)

-- those of a Commit and of a Prepare are those of the turn that it takes
pub commit_syncs : (c : Committing) (turn : CommitTurn) (before now : ℕ) → CommitSyncs c before now turn → HolderSyncs (At.Committing c) (commit_went turn).turn before now
commit_syncs c (Commits.Step next) before now S = S
commit_syncs c (Commits.Blocked owner byte again) before now S = S
commit_syncs c (Commits.Full len need) before now S = tt
commit_syncs c Commits.Memory before now S = tt
commit_syncs c Commits.Done before now S = S

nothing_syncs : (s : PrepareStage) (before now : ℕ) → (s ≡ Unchanged) ⊎ (stage_steps s ≡ 2) → now ≡ before → LastOfPrepare s before now
nothing_syncs Unchanged before now early S = S
nothing_syncs (Begun txn) before now early S = S
nothing_syncs (Records txn) before now early S = S
nothing_syncs (Locked txn) before now early S = S
nothing_syncs (Planned state) before now early S = S
nothing_syncs (Filled state) before now early S = absurd (elim early [ inl unchanged ↦ cc unchanged | inr third ↦ omega (arith, third) ])

opened_syncs : (s : PrepareStage) (before now : ℕ) → stage_steps s ≡ 4 → StageSyncs s before now → LastOfPrepare s before now
opened_syncs Unchanged before now last S = S
opened_syncs (Begun txn) before now last S = S
opened_syncs (Records txn) before now last S = S
opened_syncs (Locked txn) before now last S = absurd (omega (arith, last))
opened_syncs (Planned state) before now last S = absurd (omega (arith, last))
opened_syncs (Filled state) before now last S = S

pub prepare_syncs : (p : Prepare) (changed : Bool) (turn : PrepareTurn) (before now : ℕ) → PrepareLeads p turn → PrepareSyncs p.stage before now turn → HolderSyncs (At.Preparing p) (prepare_went changed turn).turn before now
prepare_syncs p changed (Prepares.Step next) before now leads S = S
prepare_syncs p changed (Prepares.Blocked owner byte again) before now leads S = S
prepare_syncs p changed Prepares.Nothing before now leads S = nothing_syncs p.stage before now leads S
prepare_syncs p changed (Prepares.Full len need) before now leads S = tt
prepare_syncs p changed Prepares.Memory before now leads S = tt
prepare_syncs p changed (Prepares.Done state) before now leads S = opened_syncs p.stage before now leads S

-- the first turn of either makes none
spared_so : (turn : Turn) (P Q : Type 0) → (P → Q) → UnlessSpared turn P → UnlessSpared turn Q
spared_so (Done (Full len need)) P Q so p = tt
spared_so (Done Memory) P Q so p = tt
spared_so turn P Q so p = so p

commit_begins : (txn : Txn) (changed numbered : Bool) (turn : Turn) (before now : ℕ) → CommitTurnSyncs (Preparing (begun_with txn changed numbered)) turn before now → now ≡ before
commit_begins txn true numbered (Done reply) before now S = S
commit_begins txn true numbered turn before now S = S
commit_begins txn false numbered (Done reply) before now S = S
commit_begins txn false numbered turn before now S = S

pub first_of_commit : (txn : Txn) (changed numbered : Bool) (turn : Turn) (before now : ℕ) → HolderSyncs (At.Committing (Preparing (begun_with txn changed numbered))) turn before now → UnlessSpared turn (now ≡ before)
first_of_commit txn changed numbered turn before now S = spared_so turn _ _ (commit_begins txn changed numbered turn before now) S

prepare_begins : (txn : Txn) (changed numbered : Bool) (turn : Turn) (before now : ℕ) → PrepareTurnSyncs (begun_with txn changed numbered).stage turn before now → now ≡ before
prepare_begins txn true numbered (Done reply) before now S = S
prepare_begins txn true numbered turn before now S = S
prepare_begins txn false numbered (Done reply) before now S = S
prepare_begins txn false numbered turn before now S = S

pub first_of_prepare : (txn : Txn) (changed numbered : Bool) (turn : Turn) (before now : ℕ) → HolderSyncs (At.Preparing (begun_with txn changed numbered)) turn before now → UnlessSpared turn (now ≡ before)
first_of_prepare txn changed numbered turn before now S = spared_so turn _ _ (prepare_begins txn changed numbered turn before now) S

-- what a step makes that sees to the undo area
pub commit_planned : (c : Committing) (r : List ℕ) (turn : CommitTurn) (before now : ℕ) → CommitPlans c r before now turn → HolderPlans (At.Committing c) r (commit_went turn).turn before now
commit_planned c r (Commits.Step next) before now planned = planned
commit_planned c r (Commits.Blocked owner byte again) before now planned = tt
commit_planned c r (Commits.Full len need) before now planned = tt
commit_planned c r Commits.Memory before now planned = tt
commit_planned c r Commits.Done before now planned = tt

pub prepare_planned : (p : Prepare) (r : List ℕ) (changed : Bool) (turn : PrepareTurn) (before now : ℕ) → PreparePlans p.stage r before now turn → HolderPlans (At.Preparing p) r (prepare_went changed turn).turn before now
prepare_planned p r changed (Prepares.Step next) before now planned = planned
prepare_planned p r changed (Prepares.Blocked owner byte again) before now planned = tt
prepare_planned p r changed Prepares.Nothing before now planned = tt
prepare_planned p r changed (Prepares.Full len need) before now planned = tt
prepare_planned p r changed Prepares.Memory before now planned = tt
prepare_planned p r changed (Prepares.Done state) before now planned = tt

-- over each file that may be known at a stage; and at a stage of which nothing is said
abbrev pub PlansAt : Stage → History → Turn → ℕ → ℕ → Type 0
PlansAt stage h turn before now = (f : Form) (k : Known) → KnowsFile f stage h k → HolderPlans stage k.file turn before now

step_planned : (stage : Stage) (r : List ℕ) (turn : Turn) (before now : ℕ) → StagePlans stage r before now → HolderPlans stage r turn before now
step_planned stage r Step before now planned = planned
step_planned stage r (Blocked owner byte) before now planned = tt
step_planned stage r (Done reply) before now planned = tt

pub never_planned : (stage : Stage) (h : History) (turn : Turn) (before now : ℕ) → ((r : List ℕ) → StagePlans stage r before now) → PlansAt stage h turn before now
never_planned stage h turn before now none f k K = step_planned stage k.file turn before now (none k.file)
