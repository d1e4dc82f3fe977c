-- How many syncs the turns of a commit make that see to its undo area, over a file that tells its bytes.
use Rattle.std.specs.Prelude.{ℕ, List}
use Rattle.tdb_disk.specs.Count.{RoseBy}
use Rattle.tdb_txn.specs.Answered.{AreaSyncs, ChangesNothing}
use Rattle.tdb_txn_turns.specs.declared.committing.Committing.{Committing}
use Rattle.tdb_txn_turns.specs.declared.committing.Committing.TheVariants.{Preparing, Finishing}
use Rattle.tdb_txn_turns.specs.declared.committing.CommitTurn.{CommitTurn}
use Rattle.tdb_txn_turns.specs.declared.committing.CommitTurn.TheVariants as After
use Rattle.tdb_txn_turns.specs.declared.preparing.PrepareStage.{PrepareStage}
use Rattle.tdb_txn_turns.specs.declared.preparing.PrepareStage.TheVariants.{Locked, Planned}
use Rattle.tdb_txn_turns.specs.declared.preparing.PrepareTurn.{PrepareTurn}
use Rattle.tdb_txn_turns.specs.declared.preparing.PrepareTurn.TheVariants as To

-- A turn from a stage that doesn't end, over image r of the file: the third plans where something is to be committed,
-- and makes the syncs of its undo area; the fourth fills that area, and makes one.
abbrev pub PlannedSyncs : PrepareStage → List ℕ → ℕ → ℕ → Type 0
PlannedSyncs (Locked txn) r before now = (ChangesNothing txn r → ⊥) × AreaSyncs txn r before now
PlannedSyncs (Planned state) r before now = RoseBy 1 before now
PlannedSyncs _ r before now = Unit {0}

-- so it is of a turn of a Prepare
abbrev pub PreparePlans : PrepareStage → List ℕ → ℕ → ℕ → PrepareTurn → Type 0
PreparePlans s r before now (To.Step next) = PlannedSyncs s r before now
PreparePlans s r before now (To.Done state) = PlannedSyncs s r before now
PreparePlans s r before now _ = Unit {0}

-- and of one of a Commit
abbrev pub StepPlans : Committing → List ℕ → ℕ → ℕ → Type 0
StepPlans (Preparing p) r before now = PlannedSyncs p.stage r before now
StepPlans (Finishing s) r before now = Unit {0}

abbrev pub CommitPlans : Committing → List ℕ → ℕ → ℕ → CommitTurn → Type 0
CommitPlans c r before now (After.Step next) = StepPlans c r before now
CommitPlans c r before now _ = Unit {0}
