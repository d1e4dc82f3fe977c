-- How many syncs the turns of a commit make that see to its undo area.
use Rattle.std.proofs.Common.{ℕ, List, subst, sym}
use Rattle.tdb_disk.specs.History.{History, seen}
use Rattle.tdb_txn.specs.Answered.{AreaSyncs}
use Rattle.tdb_txn.specs.Committing.{MayCommit}
use Rattle.tdb_txn.specs.declared.txn.Txn.{Txn}
use Rattle.tdb_txn_turns.specs.Committings.{commit_after}
use Rattle.tdb_txn_turns.specs.Prepares.{IsReady}
use Rattle.tdb_txn_turns.specs.PlanSyncs.{CommitPlans, PlannedSyncs, PreparePlans}
use Rattle.tdb_txn_turns.specs.declared.committing.Committing.TheVariants.{Preparing}
use Rattle.tdb_txn_turns.specs.declared.preparing.Preparing.{Preparing as Prepare}
use Rattle.tdb_txn_turns.specs.declared.preparing.PrepareStage.{PrepareStage}
use Rattle.tdb_txn_turns.specs.declared.preparing.PrepareTurn.{PrepareTurn}
use Rattle.tdb_txn_turns.specs.declared.preparing.PrepareTurn.TheVariants as To

-- those of the plan are those of the file as it was before the transaction
pub plan_syncs : (txn : Txn) (r b : List ℕ) (h : History) → IsReady txn h r b → (before now : ℕ) → (MayCommit txn (seen h) → AreaSyncs txn (seen h) before now) → AreaSyncs txn r before now
plan_syncs txn r b h R before now planned = subst (λ x. AreaSyncs txn x before now) R.file (planned (subst (MayCommit txn) (sym R.file) R.may))

-- those of a turn of a Prepare are those of the turn of a Commit that it is
pub commit_plans : (p : Prepare) (r : List ℕ) (before now : ℕ) (turn : PrepareTurn) → PreparePlans p.stage r before now turn → CommitPlans (Preparing p) r before now (commit_after turn)
commit_plans p r before now (To.Step next) planned = planned
commit_plans p r before now (To.Blocked owner byte again) planned = tt
commit_plans p r before now To.Nothing planned = tt
commit_plans p r before now (To.Full len need) planned = tt
commit_plans p r before now To.Memory planned = tt
commit_plans p r before now (To.Done state) planned = planned

-- what a turn from a stage would make that doesn't end is what each of them makes
pub not_planned : (s : PrepareStage) (r : List ℕ) (before now : ℕ) (turn : PrepareTurn) → PlannedSyncs s r before now → PreparePlans s r before now turn
not_planned s r before now (To.Step next) planned = planned
not_planned s r before now (To.Blocked owner byte again) planned = tt
not_planned s r before now To.Nothing planned = tt
not_planned s r before now (To.Full len need) planned = tt
not_planned s r before now To.Memory planned = tt
not_planned s r before now (To.Done state) planned = planned
