-- A turn of a Prepare, and one that ends a commit, as a turn of a Commit.
use Rattle.std.proofs.Common.{Bool, false, ◌+◌, ℕ, List, IsTrue, subst, sym}
use Rattle.tdb_law.specs.Commands.Reply.{Done}
use Rattle.tdb_law.specs.Commands.Turn.{Step, Ends}
use Rattle.tdb_law.specs.Rows.{commit_locks}
use Rattle.tdb_txn_turns.specs.Committings.{commit_row, commit_steps, commit_turn, CommitLeads, IsNumbered, KnowsCommit}
use Rattle.tdb_txn_turns.specs.Finishes.{finish_steps, finish_turn}
use Rattle.tdb_txn_turns.specs.Holding.{HoldsRow, RowTurned}
use Rattle.tdb_txn_turns.specs.Prepares.{prepare_row, prepare_steps, start_held}
use Rattle.tdb_txn_turns.specs.PlanSyncs.{CommitPlans, StepPlans}
use Rattle.tdb_txn_turns.specs.Room.{CommitFull, PrepareFull}
use Rattle.tdb_txn_turns.specs.declared.committing.Committing.TheVariants.{Preparing}
use Rattle.tdb_txn_turns.specs.declared.finishing.FinishTurn.TheVariants as To
use Rattle.tdb_txn_turns.proofs.CommitTurns.{finishing_wants, opened_wants, prepare_leads}
use Rattle.tdb_txn_turns.proofs.PlanSyncs.{commit_plans}
use Rattle.tdb_txn_turns.proofs.Room.{commit_full, never_done, never_step}
use Rattle.tdb_txn_turns.proofs.committing.Committing.step.Goals as goal

pub returns-in_ok-turn-in-Preparing-clause-locks : goal.returns-in_ok-turn-in-Preparing-clause-locks
returns-in_ok-turn-in-Preparing-clause-locks g c =
    let i = c.in_ok-turn-in-Preparing in
    let p = c.in-Preparing.preparing in
    let ps = c.args.locks.now in
    subst (λ s. (numbered : Bool) → IsNumbered s numbered → HoldsRow (commit_row s numbered) start_held c.args.owner (commit_steps s) ps
    → RowTurned false (commit_row s numbered) start_held c.args.owner (commit_steps s) ps c.go_on.new.locks (commit_turn c.go_on.result)) (sym c.in-Preparing.is)
    (λ numbered same H. c.go_on.ensures.locks (prepare_row p) start_held (prepare_steps p) ps (i.ensures.locks H) (opened_wants p i.turn i.ensures.leads))

pub returns-in_ok-turn-in-Preparing-clause-leads : goal.returns-in_ok-turn-in-Preparing-clause-leads
returns-in_ok-turn-in-Preparing-clause-leads g c =
    let i = c.in_ok-turn-in-Preparing in
    let p = c.in-Preparing.preparing in
    subst (λ s. CommitLeads s c.go_on.result) (sym c.in-Preparing.is)
    (subst (CommitLeads (Preparing p)) (sym c.go_on.ensures.result) (prepare_leads p i.turn i.ensures.leads))

pub returns-in-Step-clause-locks : goal.returns-in-Step-clause-locks
returns-in-Step-clause-locks g c =
    let i = c.in_ok-next-in-Finishing in
    let s = c.in-Finishing.finishing in
    let ps = c.args.locks.now in
    subst (λ s. (numbered : Bool) → IsNumbered s numbered → HoldsRow (commit_row s numbered) start_held c.args.owner (commit_steps s) ps
    → RowTurned false (commit_row s numbered) start_held c.args.owner (commit_steps s) ps c.step-in-Finishing.new.locks (finish_turn (To.Step c.in-Step.next))) (sym c.in-Finishing.is)
    (λ numbered same H. subst (λ t. RowTurned false (commit_locks numbered) start_held c.args.owner (5 + finish_steps s) ps c.step-in-Finishing.new.locks (finish_turn t)) c.in-Step.is
    (i.ensures.locks (commit_locks numbered) start_held (5 + finish_steps s) H (finishing_wants numbered s)))

pub returns-in-Done-clause-locks : goal.returns-in-Done-clause-locks
returns-in-Done-clause-locks g c =
    let i = c.in_ok-next-in-Finishing in
    let s = c.in-Finishing.finishing in
    let ps = c.args.locks.now in
    subst (λ s. (numbered : Bool) → IsNumbered s numbered → HoldsRow (commit_row s numbered) start_held c.args.owner (commit_steps s) ps
    → RowTurned false (commit_row s numbered) start_held c.args.owner (commit_steps s) ps c.step-in-Finishing.new.locks (finish_turn To.Done)) (sym c.in-Finishing.is)
    (λ numbered same H. subst (λ t. RowTurned false (commit_locks numbered) start_held c.args.owner (5 + finish_steps s) ps c.step-in-Finishing.new.locks (finish_turn t)) c.in-Done.is
    (i.ensures.locks (commit_locks numbered) start_held (5 + finish_steps s) H (finishing_wants numbered s)))

-- Full, as in the turn of a Prepare, and never later
pub returns-in_ok-turn-in-Preparing-clause-full : goal.returns-in_ok-turn-in-Preparing-clause-full
returns-in_ok-turn-in-Preparing-clause-full g c =
    let i = c.in_ok-turn-in-Preparing in
    let p = c.in-Preparing.preparing in
    let h = g.D.Disk.history c.args.d.now in
    subst (λ s. IsTrue g.D.Disk.tells → (r b : List ℕ) → KnowsCommit s h r b → CommitFull s c.args.limit r (commit_turn c.go_on.result)) (sym c.in-Preparing.is)
    (λ told r b K. subst (λ t. PrepareFull p.stage c.args.limit r (commit_turn t)) (sym c.go_on.ensures.result) (commit_full p.stage c.args.limit r i.turn (i.ensures.full told r b K)))

pub returns-in-Step-clause-full : goal.returns-in-Step-clause-full
returns-in-Step-clause-full g c told r b K = subst (λ s. CommitFull s c.args.limit r Step) (sym c.in-Finishing.is) never_step

pub returns-in-Done-clause-full : goal.returns-in-Done-clause-full
returns-in-Done-clause-full g c told r b K = subst (λ s. CommitFull s c.args.limit r (Ends Done)) (sym c.in-Finishing.is) never_done

-- how many syncs a turn makes that sees to the undo area
pub returns-in_ok-turn-in-Preparing-clause-plans : goal.returns-in_ok-turn-in-Preparing-clause-plans
returns-in_ok-turn-in-Preparing-clause-plans g c =
    let i = c.in_ok-turn-in-Preparing in
    let p = c.in-Preparing.preparing in
    let h = g.D.Disk.history c.args.d.now in
    let before = g.D.Disk.syncs c.args.d.now in
    let now = g.D.Disk.syncs c.step.new.d in
    subst (λ s. IsTrue g.D.Disk.tells → (r b : List ℕ) → KnowsCommit s h r b → CommitPlans s r before now c.go_on.result) (sym c.in-Preparing.is)
    (λ told r b K. subst (CommitPlans (Preparing p) r before now) (sym c.go_on.ensures.result) (commit_plans p r before now i.turn (i.ensures.plans told r b K)))

pub returns-in-Step-clause-plans : goal.returns-in-Step-clause-plans
returns-in-Step-clause-plans g c told r b K = subst (λ s. StepPlans s r (g.D.Disk.syncs c.args.d.now) (g.D.Disk.syncs c.step-in-Finishing.new.d)) (sym c.in-Finishing.is) tt
