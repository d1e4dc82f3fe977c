-- How many syncs a turn of the opener aside makes, by its stage.
use Rattle.std.specs.Prelude.{◌≡◌, ℕ, List, Option, Some}
use Rattle.tdb_disk.specs.Count.{RoseBy, RoseUpTo}
use Rattle.tdb_locks.specs.declared.turn.Reply.TheVariants.{Full, Memory}
use Rattle.tdb_locks.specs.declared.turn.Turn.{Turn}
use Rattle.tdb_locks.specs.declared.turn.Turn.TheVariants.{Done, Step}
use Rattle.tdb_txn_turns.specs.Committings.{LastSyncs, StepSyncs}
use Rattle.tdb_txn_turns.specs.Finishes.{FinishSyncs}
use Rattle.tdb_txn_turns.specs.PlanSyncs.{PlannedSyncs, StepPlans}
use Rattle.tdb_txn_turns.specs.Prepares.{StageSyncs}
use Rattle.tdb_txn_turns.specs.declared.committing.Committing.{Committing}
use Rattle.tdb_txn_turns.specs.declared.preparing.PrepareStage.{PrepareStage}
use Rattle.tdb_txn_turns.specs.declared.preparing.PrepareStage.TheVariants.{Filled}
use Rattle.tdb_commands.specs.declared.command.Command.{Command}
use Rattle.tdb_commands.specs.declared.command.Command.TheVariants as Given
use Rattle.tdb_txn_owner.specs.declared.stage.PreparedTxn.{PreparedTxn}
use Rattle.tdb_txn_owner.specs.declared.stage.PreparedTxn.TheVariants.{Opened, Nothing}
use Rattle.tdb_txn_owner.specs.declared.stage.Stage.{Stage}
use Rattle.tdb_txn_owner.specs.declared.stage.Stage.TheVariants as At

-- a prepared transaction that ends without a commit: one where its gate is open, and else none
abbrev pub EndSyncs : PreparedTxn → ℕ → ℕ → Type 0
EndSyncs (Opened state) before now = RoseUpTo 1 before now
EndSyncs (Nothing changed) before now = now ≡ before

-- The turn of a command that is given then: a Cancel, a Close and another Prepare end it so; the first turn of a Commit
-- makes no sync, nor does a refusal.
abbrev pub PreparedSyncs : PreparedTxn → Option Command → ℕ → ℕ → Type 0
PreparedSyncs left (Some Given.Cancel) before now = EndSyncs left before now
PreparedSyncs left (Some Given.Close) before now = EndSyncs left before now
PreparedSyncs left (Some Given.Prepare) before now = EndSyncs left before now
PreparedSyncs left command before now = now ≡ before

-- A turn of a Commit, by what it led to: one that ends it before the undo area is filled makes none, since nothing is
-- to be committed then.
abbrev pub CommitTurnSyncs : Committing → Turn → ℕ → ℕ → Type 0
CommitTurnSyncs c (Done reply) before now = LastSyncs c before now
CommitTurnSyncs c turn before now = StepSyncs c before now

-- So it is of a Prepare, whose last turn opens the gate and syncs where something is to be committed.
abbrev pub LastOfPrepare : PrepareStage → ℕ → ℕ → Type 0
LastOfPrepare (Filled state) before now = RoseBy 1 before now
LastOfPrepare s before now = now ≡ before

abbrev pub PrepareTurnSyncs : PrepareStage → Turn → ℕ → ℕ → Type 0
PrepareTurnSyncs s (Done reply) before now = LastOfPrepare s before now
PrepareTurnSyncs s turn before now = StageSyncs s before now

-- A Start syncs once at most. Inside its transaction the opener's commands make none, nor does the first turn of a
-- Commit or a Prepare.
abbrev pub TurnSyncs : Stage → Turn → ℕ → ℕ → Type 0
TurnSyncs (At.Starting s) turn before now = RoseUpTo 1 before now
TurnSyncs (At.Open txn command) turn before now = now ≡ before
TurnSyncs (At.Committing c) turn before now = CommitTurnSyncs c turn before now
TurnSyncs (At.Preparing p) turn before now = PrepareTurnSyncs p.stage turn before now
TurnSyncs (At.Prepared left command) turn before now = PreparedSyncs left command before now
TurnSyncs (At.Finishing s) turn before now = FinishSyncs s before now

-- of a turn that ends for want of room or of memory nothing is said
abbrev pub UnlessSpared : Turn → Type 0 → Type 0
UnlessSpared (Done (Full len need)) p = Unit {0}
UnlessSpared (Done Memory) p = Unit {0}
UnlessSpared turn p = p

abbrev pub HolderSyncs : Stage → Turn → ℕ → ℕ → Type 0
HolderSyncs stage turn before now = UnlessSpared turn (TurnSyncs stage turn before now)

-- Over image r of the file before the transaction a step of a Commit or a Prepare makes as many as the undo area asks.
-- The one that plans comes only where something is to be committed: where nothing is, the turn ends the command.
abbrev pub StagePlans : Stage → List ℕ → ℕ → ℕ → Type 0
StagePlans (At.Committing c) r before now = StepPlans c r before now
StagePlans (At.Preparing p) r before now = PlannedSyncs p.stage r before now
StagePlans stage r before now = Unit {0}

abbrev pub HolderPlans : Stage → List ℕ → Turn → ℕ → ℕ → Type 0
HolderPlans stage r Step before now = StagePlans stage r before now
HolderPlans stage r turn before now = Unit {0}
