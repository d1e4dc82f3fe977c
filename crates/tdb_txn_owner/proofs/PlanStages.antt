-- The stages of a Prepare, and of a Commit up to its open gate.
use Rattle.std.proofs.Common.{◌≡◌, ℕ, ◌≤◌, ◌⊎◌, List, [], Bool, true, refl, inl, inr, arith}
use Rattle.tdb_disk.specs.History.{History}
use Rattle.tdb_space.specs.Form.{Form, form_of}
use Rattle.tdb_locks.specs.declared.kind.Kind.TheVariants.{Write}
use Rattle.tdb_law.specs.Openers.{Txn}
use Rattle.tdb_law.specs.Rows.{plans_in}
use Rattle.tdb_txn_turns.specs.Committings.{commit_steps, MayGoOn}
use Rattle.tdb_txn_turns.specs.Laws.{HasPlan}
use Rattle.tdb_txn_turns.specs.Prepares.{row_of, stage_steps, IsPlanning, KnowsStage}
use Rattle.tdb_txn_turns.specs.declared.committing.Committing.{Committing}
use Rattle.tdb_txn_turns.specs.declared.committing.Committing.TheVariants.{Preparing, Finishing}
use Rattle.tdb_txn_turns.specs.declared.preparing.PrepareStage.{PrepareStage}
use Rattle.tdb_txn_turns.specs.declared.preparing.PrepareStage.TheVariants.{Unchanged, Begun, Records, Locked, Planned, Filled}
use Rattle.tdb_txn_owner.specs.Stages.{commit_records, plan_records}
use Rattle.tdb_txn_owner.specs.Turned.{RestsLike}
use Rattle.tdb_txn_owner.proofs.Resting.{ready_like}

-- it goes on, or nothing was changed
pub going_or_none : (s : PrepareStage) → IsPlanning s ⊎ ((stage_steps s ≡ 0) × ((numbered : Bool) → row_of s numbered ≡ []))
going_or_none Unchanged = inr (refl, λ numbered. refl)
going_or_none (Begun txn) = inl tt
going_or_none (Records txn) = inl tt
going_or_none (Locked txn) = inl tt
going_or_none (Planned state) = inl tt
going_or_none (Filled state) = inl tt

-- and then it has the change
pub plan_goes : (t : Txn) (s : PrepareStage) → IsPlanning s → plans_in t ≡ true → HasPlan t s
plan_goes t Unchanged some plans = absurd some
plan_goes t (Begun txn) some plans = plans
plan_goes t (Records txn) some plans = plans
plan_goes t (Locked txn) some plans = plans
plan_goes t (Planned state) some plans = plans
plan_goes t (Filled state) some plans = plans

-- after a step it holds all records for writing
pub planned_writes : (s : PrepareStage) → IsPlanning s → 1 ≤ stage_steps s → plan_records s ≡ Write
planned_writes Unchanged some begun = absurd some
planned_writes (Begun txn) some begun = absurd (omega (arith, begun))
planned_writes (Records txn) some begun = refl
planned_writes (Locked txn) some begun = refl
planned_writes (Planned state) some begun = refl
planned_writes (Filled state) some begun = refl

pub commit_writes : (c : Committing) → MayGoOn c → 1 ≤ commit_steps c → commit_records c ≡ Write
commit_writes (Preparing p) some begun = planned_writes p.stage some begun
commit_writes (Finishing s) some begun = refl

-- it has no more than four steps
pub few_planning : (s : PrepareStage) → stage_steps s ≤ 4
few_planning Unchanged = omega arith
few_planning (Begun txn) = omega arith
few_planning (Records txn) = omega arith
few_planning (Locked txn) = omega arith
few_planning (Planned state) = omega arith
few_planning (Filled state) = omega arith

-- up to its plan the file is as it was before
pub early_like : (f : Form) (s : PrepareStage) (h : History) (r b : List ℕ) → form_of r ≡ f → IsPlanning s → stage_steps s ≤ 2 → KnowsStage s h r b → RestsLike f h r
early_like f Unchanged h r b form going early K = absurd going
early_like f (Begun txn) h r b form going early K = ready_like f txn h r b form K
early_like f (Records txn) h r b form going early K = ready_like f txn h r b form K
early_like f (Locked txn) h r b form going early K = ready_like f txn h r b form K
early_like f (Planned state) h r b form going early K = absurd (omega (arith, early))
early_like f (Filled state) h r b form going early K = absurd (omega (arith, early))
