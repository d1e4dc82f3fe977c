-- How an opener aside goes on holding all records, by what its machines promise of a turn.
use Rattle.std.proofs.Common.{◌≡◌, ℕ, ◌+◌, ◌≤◌, Bool, Some, refl, sym, ◌∙◌, ap, subst, arith}
use Rattle.tdb_space.specs.Form.{Form}
use Rattle.tdb_locks.specs.declared.kind.Kind.{Kind}
use Rattle.tdb_locks.specs.declared.kind.Kind.TheVariants.{Read, Write}
use Rattle.tdb_txn_turns.specs.Committings.{commit_steps, CommitLeads, MayGoOn}
use Rattle.tdb_txn_turns.specs.Prepares.{stage_steps, IsPlanning, PrepareLeads}
use Rattle.tdb_txn_turns.specs.Starts.{start_steps, StartLeads}
use Rattle.tdb_txn_turns.specs.declared.committing.Committing.{Committing}
use Rattle.tdb_txn_turns.specs.declared.committing.Committing.TheVariants.{Preparing, Finishing}
use Rattle.tdb_txn_turns.specs.declared.committing.CommitTurn.{CommitTurn}
use Rattle.tdb_txn_turns.specs.declared.committing.CommitTurn.TheVariants as Commits
use Rattle.tdb_txn_turns.specs.declared.finishing.Finishing as Finishes
use Rattle.tdb_txn_turns.specs.declared.finishing.FinishTurn.{FinishTurn}
use Rattle.tdb_txn_turns.specs.declared.finishing.FinishTurn.TheVariants as Ends
use Rattle.tdb_txn_turns.specs.declared.preparing.Preparing as Prepare
use Rattle.tdb_txn_turns.specs.declared.preparing.PrepareStage.{PrepareStage}
use Rattle.tdb_txn_turns.specs.declared.preparing.PrepareStage.TheVariants.{Unchanged, Begun, Records, Locked, Planned, Filled}
use Rattle.tdb_txn_turns.specs.declared.preparing.PrepareTurn.{PrepareTurn}
use Rattle.tdb_txn_turns.specs.declared.preparing.PrepareTurn.TheVariants as To
use Rattle.tdb_txn_turns.specs.declared.starting.Starting.{Starting}
use Rattle.tdb_txn_turns.specs.declared.starting.Starting.TheVariants as At
use Rattle.tdb_txn_turns.specs.declared.starting.StartTurn.{StartTurn}
use Rattle.tdb_txn_turns.specs.declared.starting.StartTurn.TheVariants as Starts
use Rattle.tdb_txn_owner.specs.declared.stage.PreparedTxn.TheVariants.{Nothing}
use Rattle.tdb_txn_owner.specs.declared.stage.Stage.TheVariants as Stages
use Rattle.tdb_txn_owner.specs.declared.stage.Went.{Went}
use Rattle.tdb_txn_owner.specs.Wanting.{commit_wants, plan_wants, records_with, start_wants, RecordsGo}
use Rattle.tdb_txn_owner.specs.Stages.{commit_records, plan_records, prepared_records, stage_records, start_records}
use Rattle.tdb_txn_owner.proofs.PlanStages.{commit_writes, planned_writes}
use Rattle.tdb_txn_owner.specs.Wents.{commit_went, finish_went, has_changed, prepare_went, StartWent}

-- what goes on takes all records for writing, or has them
planning_takes : (numbered : Bool) (s : PrepareStage) → IsPlanning s → records_with (plan_wants numbered s) (Some (plan_records s)) ≡ Some Write
planning_takes numbered Unchanged some = absurd some
planning_takes numbered (Begun txn) some = refl
planning_takes numbered (Records txn) some = refl
planning_takes numbered (Locked txn) some = refl
planning_takes numbered (Planned state) some = refl
planning_takes numbered (Filled state) some = refl

commit_takes : (c : Committing) → MayGoOn c → records_with (commit_wants c) (Some (commit_records c)) ≡ Some Write
commit_takes (Preparing p) some = planning_takes p.numbered p.stage some
commit_takes (Finishing s) some = refl

some_of : (a b : Kind) → a ≡ b → Some a ≡ Some b
some_of a b e = ap (λ k. Some k) e

pub commit_goes : (c : Committing) (turn : CommitTurn) → CommitLeads c turn → RecordsGo (Stages.Committing c) (commit_went turn).turn (commit_went turn).stage
commit_goes c (Commits.Step next) leads = some_of (commit_records next) Write (commit_writes next leads.1 (let more = leads.2 in omega (arith, more))) ∙ sym (commit_takes c leads.0)
commit_goes c (Commits.Blocked owner byte again) leads = ap (λ d. stage_records (Stages.Committing d)) leads.2
commit_goes c (Commits.Full len need) leads = tt
commit_goes c Commits.Memory leads = tt
commit_goes c Commits.Done leads = tt

-- what a Prepare leaves that is done
nothing_goes : (numbered : Bool) (s : PrepareStage) → Some (prepared_records (Nothing (has_changed s))) ≡ records_with (plan_wants numbered s) (Some (plan_records s))
nothing_goes numbered Unchanged = refl
nothing_goes numbered (Begun txn) = refl
nothing_goes numbered (Records txn) = refl
nothing_goes numbered (Locked txn) = refl
nothing_goes numbered (Planned state) = refl
nothing_goes numbered (Filled state) = refl

opened_goes : (numbered : Bool) (s : PrepareStage) → stage_steps s ≡ 4 → Some Write ≡ records_with (plan_wants numbered s) (Some (plan_records s))
opened_goes numbered Unchanged last = absurd (omega (arith, last))
opened_goes numbered (Begun txn) last = refl
opened_goes numbered (Records txn) last = refl
opened_goes numbered (Locked txn) last = refl
opened_goes numbered (Planned state) last = refl
opened_goes numbered (Filled state) last = refl

pub prepare_goes : (p : Prepare.Preparing) (turn : PrepareTurn) → PrepareLeads p turn
    → RecordsGo (Stages.Preparing p) (prepare_went (has_changed p.stage) turn).turn (prepare_went (has_changed p.stage) turn).stage
prepare_goes p (To.Step next) leads =
    some_of (plan_records next.stage) Write (planned_writes next.stage leads.1 (let more = leads.2 in omega (arith, more))) ∙ sym (planning_takes p.numbered p.stage leads.0)
prepare_goes p (To.Blocked owner byte again) leads = ap (λ d. stage_records (Stages.Preparing d)) leads.2
prepare_goes p To.Nothing leads = nothing_goes p.numbered p.stage
prepare_goes p (To.Full len need) leads = tt
prepare_goes p To.Memory leads = tt
prepare_goes p (To.Done state) leads = opened_goes p.numbered p.stage leads

pub finish_goes : (c : Finishes.Finishing) (turn : FinishTurn) → RecordsGo (Stages.Finishing c) (finish_went turn).turn (finish_went turn).stage
finish_goes c (Ends.Step next) = refl
finish_goes c Ends.Done = tt

-- a Start reads them from its second step on
start_next : (s next : Starting) → start_steps next ≡ start_steps s + 1 → start_records next ≡ records_with (start_wants s) (start_records s)
start_next At.Begun At.Begun more = absurd (omega (arith, more))
start_next At.Begun At.Claimed more = refl
start_next At.Begun At.Reading more = absurd (omega (arith, more))
start_next At.Claimed At.Begun more = absurd (omega (arith, more))
start_next At.Claimed At.Claimed more = absurd (omega (arith, more))
start_next At.Claimed At.Reading more = refl
start_next At.Reading At.Begun more = absurd (omega (arith, more))
start_next At.Reading At.Claimed more = absurd (omega (arith, more))
start_next At.Reading At.Reading more = absurd (omega (arith, more))

start_done : (s : Starting) → start_steps s ≡ 2 → Some Read ≡ records_with (start_wants s) (start_records s)
start_done At.Begun last = absurd (omega (arith, last))
start_done At.Claimed last = refl
start_done At.Reading last = refl

pub start_goes : (f : Form) (len : ℕ) (numbered : Bool) (s : Starting) (turn : StartTurn) (went : Went) → StartLeads f len s turn → StartWent numbered s turn went
    → RecordsGo (Stages.Starting s) went.turn went.stage
start_goes f len numbered s (Starts.Step next) went leads is = subst (λ (w : Went). RecordsGo (Stages.Starting s) w.turn w.stage) (sym is) (start_next s next leads)
start_goes f len numbered s (Starts.Blocked owner byte) went leads is = subst (λ (w : Went). RecordsGo (Stages.Starting s) w.turn w.stage) (sym is) refl
start_goes f len numbered s Starts.Memory went leads is = subst (λ (w : Went). RecordsGo (Stages.Starting s) w.turn w.stage) (sym is) tt
start_goes f len numbered s (Starts.Done txn) went leads is = subst (λ (w : Went). RecordsGo (Stages.Starting s) w.turn w.stage) (sym is.5) (start_done s leads.0)
