-- What the plan answers.
use Rattle.std.proofs.Common.{true, Ok, Err, sym, ◌∙◌, ap, subst}
use Rattle.tdb_disk.specs.History.{seen}
use Rattle.tdb_law.specs.Rows.{commit_locks}
use Rattle.tdb_txn.specs.Answered.{AnsweredRightly, LeftFor, PlanSyncs}
use Rattle.tdb_txn.specs.declared.planning.ToCommit.TheVariants.{Nothing, Ready}
use Rattle.tdb_txn.specs.declared.refusal.TxnRefusal.TheVariants as TxnRefusal
use Rattle.tdb_txn.specs.CommitStates.{planned_plan}
use Rattle.tdb_steps.specs.Holdings.{strength}
use Rattle.tdb_steps.proofs.Holdings.{idle_free}
use Rattle.tdb_txn_turns.specs.Holding.{first_next}
use Rattle.tdb_txn_turns.specs.Prepares.{start_held}
use Rattle.tdb_txn_turns.proofs.CommitLocks.{third_first, third_wants}
use Rattle.tdb_txn_turns.proofs.Planned.{plan_answer, plan_finds_nothing, plan_is_ready, plan_stops}
use Rattle.tdb_txn_turns.proofs.PlanSyncs.{plan_syncs}
use Rattle.tdb_txn_turns.proofs.Room.{planned_full, planned_memory, planned_nothing, planned_ready}
use Rattle.tdb_txn_turns.proofs.Rows.{row_steps}
use Rattle.tdb_txn_turns.proofs.preparing.plan_turn.Goals as goal

pub returns-in-Ok-Nothing-clause-made : goal.returns-in-Ok-Nothing-clause-made
returns-in-Ok-Nothing-clause-made g c told r b R =
    let i = c.in-Ok-Nothing in
    let h = g.D.Disk.history c.args.d.now in
    let new = g.D.Disk.history c.plan.new.d in (
      (subst (λ x. LeftFor h (g.D.Disk.size c.args.d.now) new (g.D.Disk.size c.plan.new.d) (Ok x)) i.field-0-is i.ensures.left).0,
      λ third. plan_finds_nothing c.args.txn c.args.limit r b h new R (sym c.requires.fits.sized ∙ sym (g.met.D.Disk.told_size c.args.d.now told))
          (λ quiet may. subst (λ x. AnsweredRightly c.args.txn c.args.limit (seen h) new (Ok x)) i.field-0-is (i.ensures.answered told quiet may)),
    )

pub returns-in-Ok-Ready-clause-locks : goal.returns-in-Ok-Ready-clause-locks
returns-in-Ok-Ready-clause-locks g c H = row_steps true (commit_locks c.args.numbered) start_held c.args.owner 2 c.args.locks.now H (third_wants c.args.numbered)

-- where memory is wanting nothing is wanted of the locks
pub returns-in-Err-Memory-clause-locks : goal.returns-in-Err-Memory-clause-locks
returns-in-Err-Memory-clause-locks g c H = record {
  holds = λ b. ap strength (c.drop_owner-in-Err-Memory.ensures.gone b);
  others = λ o b differs. ap strength (c.drop_owner-in-Err-Memory.ensures.others o b differs);
  rightly = idle_free c.args.locks.now c.args.owner (first_next (commit_locks c.args.numbered) 2) (third_first c.args.numbered);
}

pub returns-in-Ok-Ready-clause-made : goal.returns-in-Ok-Ready-clause-made
returns-in-Ok-Ready-clause-made g c told r b R =
    let i = c.in-Ok-Ready in
    let h = g.D.Disk.history c.args.d.now in
    let new = g.D.Disk.history c.plan.new.d in
    plan_is_ready c.args.txn c.args.limit r b h new R i.state
    (λ quiet may. subst (λ x. AnsweredRightly c.args.txn c.args.limit (seen h) new (Ok x)) i.field-0-is (i.ensures.answered told quiet may))

-- what it answers in the file as it was before
pub returns-in-Ok-Nothing-clause-full : goal.returns-in-Ok-Nothing-clause-full
returns-in-Ok-Nothing-clause-full g c told r b R =
    let i = c.in-Ok-Nothing in
    let a = c.args in
    let h = g.D.Disk.history a.d.now in
    let new = g.D.Disk.history c.plan.new.d in
    let A = plan_answer a.txn a.limit r b h new R (Ok Nothing) (λ quiet may. subst (λ x. AnsweredRightly a.txn a.limit (seen h) new (Ok x)) i.field-0-is (i.ensures.answered told quiet may)) in
    planned_nothing a.txn a.limit r A

pub returns-in-Ok-Ready-clause-full : goal.returns-in-Ok-Ready-clause-full
returns-in-Ok-Ready-clause-full g c told r b R =
    let i = c.in-Ok-Ready in
    let a = c.args in
    let h = g.D.Disk.history a.d.now in
    let new = g.D.Disk.history c.plan.new.d in
    let A = plan_answer a.txn a.limit r b h new R (Ok (Ready i.state)) (λ quiet may. subst (λ x. AnsweredRightly a.txn a.limit (seen h) new (Ok x)) i.field-0-is (i.ensures.answered told quiet may)) in
    planned_ready a.txn a.limit r new (planned_plan i.state) A.1

pub returns-in-Err-Full-clause-full : goal.returns-in-Err-Full-clause-full
returns-in-Err-Full-clause-full g c told r b R =
    let i = c.in-Err-Full in
    let a = c.args in
    let h = g.D.Disk.history a.d.now in
    let new = g.D.Disk.history c.plan.new.d in
    let A = plan_answer a.txn a.limit r b h new R (Err (TxnRefusal.Full i.len i.need)) (λ quiet may. subst (λ x. AnsweredRightly a.txn a.limit (seen h) new (Err x)) i.field-0-is (i.ensures.answered told quiet may)) in
    planned_full a.txn a.limit r new i.len i.need A

pub returns-in-Err-Memory-clause-full : goal.returns-in-Err-Memory-clause-full
returns-in-Err-Memory-clause-full g c told r b R =
    let i = c.in-Err-Memory in
    let a = c.args in
    let h = g.D.Disk.history a.d.now in
    let new = g.D.Disk.history c.plan.new.d in
    planned_memory a.txn a.limit r
    (plan_answer a.txn a.limit r b h new R (Err TxnRefusal.Memory) (λ quiet may. subst (λ x. AnsweredRightly a.txn a.limit (seen h) new (Err x)) i.field-0-is (i.ensures.answered told quiet may)))

-- how many syncs the plan makes
pub returns-in-Ok-Nothing-clause-syncs : goal.returns-in-Ok-Nothing-clause-syncs
returns-in-Ok-Nothing-clause-syncs g c = c.in-Ok-Nothing.ensures.idle c.in-Ok-Nothing.field-0-is

pub returns-in-Ok-Ready-clause-plans : goal.returns-in-Ok-Ready-clause-plans
returns-in-Ok-Ready-clause-plans g c told r b R =
    let i = c.in-Ok-Ready in
    let a = c.args in
    let h = g.D.Disk.history a.d.now in
    let new = g.D.Disk.history c.plan.new.d in
    let A = plan_answer a.txn a.limit r b h new R (Ok (Ready i.state)) (λ quiet may. subst (λ x. AnsweredRightly a.txn a.limit (seen h) new (Ok x)) i.field-0-is (i.ensures.answered told quiet may)) in (
      A.0,
      plan_syncs a.txn r b h R (g.D.Disk.syncs a.d.now) (g.D.Disk.syncs c.plan.new.d)
          (λ may. subst (λ x. PlanSyncs a.txn (seen h) (g.D.Disk.syncs a.d.now) (g.D.Disk.syncs c.plan.new.d) (Ok x)) i.field-0-is (i.ensures.as_often told may)),
    )

-- what a stop leaves
pub returns-in-Ok-Nothing-clause-stops : goal.returns-in-Ok-Nothing-clause-stops
returns-in-Ok-Nothing-clause-stops g c told r b R = plan_stops c.args.txn c.args.limit r b (g.D.Disk.history c.args.d.now) (g.D.Disk.history c.plan.new.d) R (c.plan.ensures.stops told)

pub returns-in-Ok-Ready-clause-stops : goal.returns-in-Ok-Ready-clause-stops
returns-in-Ok-Ready-clause-stops g c told r b R = plan_stops c.args.txn c.args.limit r b (g.D.Disk.history c.args.d.now) (g.D.Disk.history c.plan.new.d) R (c.plan.ensures.stops told)

pub returns-in-Err-Full-clause-stops : goal.returns-in-Err-Full-clause-stops
returns-in-Err-Full-clause-stops g c told r b R = plan_stops c.args.txn c.args.limit r b (g.D.Disk.history c.args.d.now) (g.D.Disk.history c.plan.new.d) R (c.plan.ensures.stops told)

pub returns-in-Err-Memory-clause-stops : goal.returns-in-Err-Memory-clause-stops
returns-in-Err-Memory-clause-stops g c told r b R = plan_stops c.args.txn c.args.limit r b (g.D.Disk.history c.args.d.now) (g.D.Disk.history c.plan.new.d) R (c.plan.ensures.stops told)

pub returns-in-Err-Io-clause-stops : goal.returns-in-Err-Io-clause-stops
returns-in-Err-Io-clause-stops g c told r b R = plan_stops c.args.txn c.args.limit r b (g.D.Disk.history c.args.d.now) (g.D.Disk.history c.plan.new.d) R (c.plan.ensures.stops told)
