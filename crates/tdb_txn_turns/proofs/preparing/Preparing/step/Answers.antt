-- What is known of a stage is what its turn begins with.
use Rattle.std.proofs.Common.{List, ℕ, IsTrue, IfOk, sym, subst, arith}
use Rattle.tdb_disk.specs.Count.{RoseBy}
use Rattle.tdb_law.specs.Commands.Reply.{Done}
use Rattle.tdb_law.specs.Commands.Turn.{Step, Ends}
use Rattle.tdb_txn.specs.Commit.{IsFilled, IsPrepared}
use Rattle.tdb_txn.specs.CommitStates.{planned_plan, filled_plan, prepared_plan}
use Rattle.tdb_txn.specs.Planned.{IsPlannedOn}
use Rattle.tdb_txn_turns.specs.Commits.{Carries}
use Rattle.tdb_txn_turns.specs.Prepares.{at_stage, prepare_turn, KnowsStage, StageFits, PrepareMade}
use Rattle.tdb_txn_turns.specs.PlanSyncs.{PlannedSyncs, PreparePlans}
use Rattle.tdb_txn_turns.specs.Room.{PrepareFull}
use Rattle.tdb_txn_turns.specs.declared.preparing.PrepareStage.{PrepareStage}
use Rattle.tdb_txn_turns.specs.declared.preparing.PrepareStage.TheVariants as Stage
use Rattle.tdb_txn_turns.specs.declared.preparing.PrepareTurn.TheVariants as To
use Rattle.tdb_txn_turns.proofs.Carried.{carried_stops, carried_on, carried_filled, rests_stops, ready_rests}
use Rattle.tdb_txn_turns.proofs.PlanSyncs.{not_planned}
use Rattle.tdb_txn_turns.proofs.Room.{early_full, never_done, never_step}
use Rattle.tdb_txn_turns.proofs.preparing.Preparing.step.Goals as goal

pub returns-in_err-fill-in-Planned-clause-stops : goal.returns-in_err-fill-in-Planned-clause-stops
returns-in_err-fill-in-Planned-clause-stops g c told r b K =
    let h = g.D.Disk.history c.args.d.now in
    carried_stops (IsPlannedOn (planned_plan c.in-Planned.state)) h (g.D.Disk.history c.fill.new.d) r b (subst (λ s. KnowsStage s h r b) c.in-Planned.is K) (c.fill.ensures.stops told)

pub returns-in_err-open_gate-in-Filled-clause-stops : goal.returns-in_err-open_gate-in-Filled-clause-stops
returns-in_err-open_gate-in-Filled-clause-stops g c told r b K =
    let h = g.D.Disk.history c.args.d.now in
    carried_stops (IsFilled (filled_plan c.in-Filled.state)) h (g.D.Disk.history c.open_gate.new.d) r b (subst (λ s. KnowsStage s h r b) c.in-Filled.is K) (c.open_gate.ensures.stops told)

pub returns-in-Unchanged-clause-stops : goal.returns-in-Unchanged-clause-stops
returns-in-Unchanged-clause-stops g c told r b K =
    let h = g.D.Disk.history c.args.d.now in
    rests_stops h r (subst (λ s. KnowsStage s h r b) c.in-Unchanged.is K)

pub returns-in-Begun-clause-stops : goal.returns-in-Begun-clause-stops
returns-in-Begun-clause-stops g c told r b K =
    let h = g.D.Disk.history c.args.d.now in
    rests_stops h r (ready_rests c.in-Begun.txn h r b (subst (λ s. KnowsStage s h r b) c.in-Begun.is K))

pub returns-in-Begun-clause-made : goal.returns-in-Begun-clause-made
returns-in-Begun-clause-made g c told r b =
    let h = g.D.Disk.history c.args.d.now in
    subst (λ s. KnowsStage s h r b → PrepareMade r b h h (at_stage c.args.self.numbered s) c.records_turn.result) (sym c.in-Begun.is)
    (c.records_turn.ensures.made r b h)

pub returns-in-Begun-clause-leaves : goal.returns-in-Begun-clause-leaves
returns-in-Begun-clause-leaves g c =
    let size = g.D.Disk.size c.args.d.now in
    c.records_turn.ensures.leaves size c.args.limit (subst (λ s. StageFits s size c.args.limit) c.in-Begun.is c.requires.fits)

pub returns-in-Records-clause-stops : goal.returns-in-Records-clause-stops
returns-in-Records-clause-stops g c told r b K =
    let h = g.D.Disk.history c.args.d.now in
    rests_stops h r (ready_rests c.in-Records.txn h r b (subst (λ s. KnowsStage s h r b) c.in-Records.is K))

pub returns-in-Records-clause-made : goal.returns-in-Records-clause-made
returns-in-Records-clause-made g c told r b =
    let h = g.D.Disk.history c.args.d.now in
    subst (λ s. KnowsStage s h r b → PrepareMade r b h h (at_stage c.args.self.numbered s) c.opening_turn.result) (sym c.in-Records.is)
    (c.opening_turn.ensures.made r b h)

pub returns-in-Records-clause-leaves : goal.returns-in-Records-clause-leaves
returns-in-Records-clause-leaves g c =
    let size = g.D.Disk.size c.args.d.now in
    c.opening_turn.ensures.leaves size c.args.limit (subst (λ s. StageFits s size c.args.limit) c.in-Records.is c.requires.fits)

pub returns-in-Locked-clause-stops : goal.returns-in-Locked-clause-stops
returns-in-Locked-clause-stops g c told r b K =
    let h = g.D.Disk.history c.args.d.now in
    c.plan_turn.ensures.stops told r b (subst (λ s. KnowsStage s h r b) c.in-Locked.is K)

pub returns-in-Locked-clause-made : goal.returns-in-Locked-clause-made
returns-in-Locked-clause-made g c =
    let h = g.D.Disk.history c.args.d.now in
    let new = g.D.Disk.history c.plan_turn.new.d in
    subst (λ s. IfOk c.plan_turn.result (λ turn. IsTrue g.D.Disk.tells → (r b : List ℕ) → KnowsStage s h r b → PrepareMade r b h new (at_stage c.args.self.numbered s) turn)) (sym c.in-Locked.is)
    c.plan_turn.ensures.made

pub returns-in_ok-fill-in-Planned-clause-stops : goal.returns-in_ok-fill-in-Planned-clause-stops
returns-in_ok-fill-in-Planned-clause-stops g c told r b K =
    let h = g.D.Disk.history c.args.d.now in
    carried_stops (IsPlannedOn (planned_plan c.in-Planned.state)) h (g.D.Disk.history c.fill.new.d) r b (subst (λ s. KnowsStage s h r b) c.in-Planned.is K) (c.fill.ensures.stops told)

pub returns-in_ok-fill-in-Planned-clause-made : goal.returns-in_ok-fill-in-Planned-clause-made
returns-in_ok-fill-in-Planned-clause-made g c told r b K =
    let h = g.D.Disk.history c.args.d.now in
    carried_filled (RoseBy 1 (g.D.Disk.syncs c.args.d.now) (g.D.Disk.syncs c.fill.new.d)) (planned_plan c.in-Planned.state) (filled_plan c.in_ok-fill-in-Planned.field-0) h (g.D.Disk.history c.fill.new.d) r b
    (subst (λ s. KnowsStage s h r b) c.in-Planned.is K) (c.in_ok-fill-in-Planned.ensures.filled told)

pub returns-in_ok-open_gate-in-Filled-clause-stops : goal.returns-in_ok-open_gate-in-Filled-clause-stops
returns-in_ok-open_gate-in-Filled-clause-stops g c told r b K =
    let h = g.D.Disk.history c.args.d.now in
    carried_stops (IsFilled (filled_plan c.in-Filled.state)) h (g.D.Disk.history c.open_gate.new.d) r b (subst (λ s. KnowsStage s h r b) c.in-Filled.is K) (c.open_gate.ensures.stops told)

pub returns-in_ok-open_gate-in-Filled-clause-made : goal.returns-in_ok-open_gate-in-Filled-clause-made
returns-in_ok-open_gate-in-Filled-clause-made g c told r b K =
    let h = g.D.Disk.history c.args.d.now in
    carried_on (IsFilled (filled_plan c.in-Filled.state)) (IsPrepared (prepared_plan c.in_ok-open_gate-in-Filled.field-0)) h (g.D.Disk.history c.open_gate.new.d) r b
    (subst (λ s. KnowsStage s h r b) c.in-Filled.is K) (c.in_ok-open_gate-in-Filled.ensures.prepared told)

-- Full, by the stage
pub returns-in-Unchanged-clause-full : goal.returns-in-Unchanged-clause-full
returns-in-Unchanged-clause-full g c told r b K = subst (λ s. PrepareFull s c.args.limit r (prepare_turn To.Nothing)) (sym c.in-Unchanged.is) never_done

pub returns-in-Begun-clause-full : goal.returns-in-Begun-clause-full
returns-in-Begun-clause-full g c told r b K =
    subst (λ s. PrepareFull s c.args.limit r (prepare_turn c.records_turn.result)) (sym c.in-Begun.is)
    (early_full c.args.self.numbered (Stage.Begun c.in-Begun.txn) c.args.limit r c.records_turn.result c.records_turn.ensures.leads (λ third. omega (arith, third)))

pub returns-in-Records-clause-full : goal.returns-in-Records-clause-full
returns-in-Records-clause-full g c told r b K =
    subst (λ s. PrepareFull s c.args.limit r (prepare_turn c.opening_turn.result)) (sym c.in-Records.is)
    (early_full c.args.self.numbered (Stage.Records c.in-Records.txn) c.args.limit r c.opening_turn.result c.opening_turn.ensures.leads (λ third. omega (arith, third)))

pub returns-in-Locked-clause-full : goal.returns-in-Locked-clause-full
returns-in-Locked-clause-full g c =
    let h = g.D.Disk.history c.args.d.now in
    subst (λ s. IfOk c.plan_turn.result (λ turn. IsTrue g.D.Disk.tells → (r b : List ℕ) → KnowsStage s h r b → PrepareFull s c.args.limit r (prepare_turn turn))) (sym c.in-Locked.is)
    c.plan_turn.ensures.full

pub returns-in_ok-fill-in-Planned-clause-full : goal.returns-in_ok-fill-in-Planned-clause-full
returns-in_ok-fill-in-Planned-clause-full g c told r b K = subst (λ s. PrepareFull s c.args.limit r Step) (sym c.in-Planned.is) never_step

pub returns-in_ok-open_gate-in-Filled-clause-full : goal.returns-in_ok-open_gate-in-Filled-clause-full
returns-in_ok-open_gate-in-Filled-clause-full g c told r b K = subst (λ s. PrepareFull s c.args.limit r (Ends Done)) (sym c.in-Filled.is) never_done

-- how many syncs a turn makes that sees to the undo area
pub returns-in-Unchanged-clause-plans : goal.returns-in-Unchanged-clause-plans
returns-in-Unchanged-clause-plans g c told r b K = tt

pub returns-in-Begun-clause-plans : goal.returns-in-Begun-clause-plans
returns-in-Begun-clause-plans g c told r b K =
    subst (λ s. PreparePlans s r (g.D.Disk.syncs c.args.d.now) (g.D.Disk.syncs c.args.d.now) c.records_turn.result) (sym c.in-Begun.is) (not_planned (Stage.Begun c.in-Begun.txn) r (g.D.Disk.syncs c.args.d.now) (g.D.Disk.syncs c.args.d.now) c.records_turn.result tt)

pub returns-in-Records-clause-plans : goal.returns-in-Records-clause-plans
returns-in-Records-clause-plans g c told r b K =
    subst (λ s. PreparePlans s r (g.D.Disk.syncs c.args.d.now) (g.D.Disk.syncs c.args.d.now) c.opening_turn.result) (sym c.in-Records.is) (not_planned (Stage.Records c.in-Records.txn) r (g.D.Disk.syncs c.args.d.now) (g.D.Disk.syncs c.args.d.now) c.opening_turn.result tt)

pub returns-in-Locked-clause-plans : goal.returns-in-Locked-clause-plans
returns-in-Locked-clause-plans g c =
    let h = g.D.Disk.history c.args.d.now in
    subst (λ s. IfOk c.plan_turn.result (λ turn. IsTrue g.D.Disk.tells → (r b : List ℕ) → KnowsStage s h r b → PreparePlans s r (g.D.Disk.syncs c.args.d.now) (g.D.Disk.syncs c.plan_turn.new.d) turn)) (sym c.in-Locked.is)
    c.plan_turn.ensures.plans

pub returns-in_ok-fill-in-Planned-clause-plans : goal.returns-in_ok-fill-in-Planned-clause-plans
returns-in_ok-fill-in-Planned-clause-plans g c told r b K =
    let h = g.D.Disk.history c.args.d.now in
    let C : Carries (IsPlannedOn (planned_plan c.in-Planned.state)) h r b = subst (λ s. KnowsStage s h r b) c.in-Planned.is K in
    subst (λ s. PlannedSyncs s r (g.D.Disk.syncs c.args.d.now) (g.D.Disk.syncs c.fill.new.d)) (sym c.in-Planned.is) (c.in_ok-fill-in-Planned.ensures.filled told C.before C.after C.state).1

pub returns-in_ok-open_gate-in-Filled-clause-plans : goal.returns-in_ok-open_gate-in-Filled-clause-plans
returns-in_ok-open_gate-in-Filled-clause-plans g c told r b K = subst (λ s. PlannedSyncs s r (g.D.Disk.syncs c.args.d.now) (g.D.Disk.syncs c.open_gate.new.d)) (sym c.in-Filled.is) tt
