-- What is known of a stage is what its turn begins with.
use Rattle.std.proofs.Common.{false, sym, subst}
use Rattle.tdb_disk.specs.Stop.{LeavesOnly}
use Rattle.tdb_txn.specs.Commit.{IsPrepared, IsApplied, IsSettled}
use Rattle.tdb_txn.specs.CommitStates.{prepared_plan, applied_plan, settled_plan}
use Rattle.tdb_txn_turns.specs.Finishes.{KnowsFinish, MayLeave}
use Rattle.tdb_txn_turns.proofs.Carried.{carried_stops, carried_on, carried_shut, shutting_stops, shut_stops}
use Rattle.tdb_txn_turns.proofs.Rows.{row_steps}
use Rattle.tdb_txn_turns.proofs.finishing.Finishing.step.Goals as goal

pub returns-in_err-apply-in-Open-clause-stops : goal.returns-in_err-apply-in-Open-clause-stops
returns-in_err-apply-in-Open-clause-stops g c told r b K =
    let h = g.D.Disk.history c.args.d.now in
    let new = g.D.Disk.history c.apply.new.d in
    subst (λ s. LeavesOnly h new (MayLeave s r b)) (sym c.in-Open.is)
    (carried_stops (IsPrepared (prepared_plan c.in-Open.state)) h new r b (subst (λ s. KnowsFinish s h r b) c.in-Open.is K) (c.apply.ensures.stops told))

pub returns-in_err-settle-in-Applied-clause-stops : goal.returns-in_err-settle-in-Applied-clause-stops
returns-in_err-settle-in-Applied-clause-stops g c told r b K =
    let h = g.D.Disk.history c.args.d.now in
    let new = g.D.Disk.history c.settle.new.d in
    subst (λ s. LeavesOnly h new (MayLeave s r b)) (sym c.in-Applied.is)
    (carried_stops (IsApplied (applied_plan c.in-Applied.state)) h new r b (subst (λ s. KnowsFinish s h r b) c.in-Applied.is K) (c.settle.ensures.stops told))

pub returns-in_err-finish-in-Settled-clause-stops : goal.returns-in_err-finish-in-Settled-clause-stops
returns-in_err-finish-in-Settled-clause-stops g c told r b K =
    let h = g.D.Disk.history c.args.d.now in
    let new = g.D.Disk.history c.finish.new.d in
    subst (λ s. LeavesOnly h new (MayLeave s r b)) (sym c.in-Settled.is)
    (shutting_stops (IsSettled (settled_plan c.in-Settled.state)) h new r b (subst (λ s. KnowsFinish s h r b) c.in-Settled.is K) (c.finish.ensures.stops told))

pub returns-in_ok-apply-in-Open-clause-locks : goal.returns-in_ok-apply-in-Open-clause-locks
returns-in_ok-apply-in-Open-clause-locks g c row kept n H none = row_steps false row kept c.args.owner n c.args.locks.now H none

pub returns-in_ok-apply-in-Open-clause-stops : goal.returns-in_ok-apply-in-Open-clause-stops
returns-in_ok-apply-in-Open-clause-stops g c told r b K =
    let h = g.D.Disk.history c.args.d.now in
    let new = g.D.Disk.history c.apply.new.d in
    subst (λ s. LeavesOnly h new (MayLeave s r b)) (sym c.in-Open.is)
    (carried_stops (IsPrepared (prepared_plan c.in-Open.state)) h new r b (subst (λ s. KnowsFinish s h r b) c.in-Open.is K) (c.apply.ensures.stops told))

pub returns-in_ok-apply-in-Open-clause-made : goal.returns-in_ok-apply-in-Open-clause-made
returns-in_ok-apply-in-Open-clause-made g c told r b K =
    let h = g.D.Disk.history c.args.d.now in
    carried_on (IsPrepared (prepared_plan c.in-Open.state)) (IsApplied (applied_plan c.in_ok-apply-in-Open.field-0)) h (g.D.Disk.history c.apply.new.d) r b
    (subst (λ s. KnowsFinish s h r b) c.in-Open.is K) (c.in_ok-apply-in-Open.ensures.applied told)

pub returns-in_ok-settle-in-Applied-clause-locks : goal.returns-in_ok-settle-in-Applied-clause-locks
returns-in_ok-settle-in-Applied-clause-locks g c row kept n H none = row_steps false row kept c.args.owner n c.args.locks.now H none

pub returns-in_ok-settle-in-Applied-clause-stops : goal.returns-in_ok-settle-in-Applied-clause-stops
returns-in_ok-settle-in-Applied-clause-stops g c told r b K =
    let h = g.D.Disk.history c.args.d.now in
    let new = g.D.Disk.history c.settle.new.d in
    subst (λ s. LeavesOnly h new (MayLeave s r b)) (sym c.in-Applied.is)
    (carried_stops (IsApplied (applied_plan c.in-Applied.state)) h new r b (subst (λ s. KnowsFinish s h r b) c.in-Applied.is K) (c.settle.ensures.stops told))

pub returns-in_ok-settle-in-Applied-clause-made : goal.returns-in_ok-settle-in-Applied-clause-made
returns-in_ok-settle-in-Applied-clause-made g c told r b K =
    let h = g.D.Disk.history c.args.d.now in
    carried_on (IsApplied (applied_plan c.in-Applied.state)) (IsSettled (settled_plan c.in_ok-settle-in-Applied.field-0)) h (g.D.Disk.history c.settle.new.d) r b
    (subst (λ s. KnowsFinish s h r b) c.in-Applied.is K) (c.in_ok-settle-in-Applied.ensures.settled told)

pub returns-in_ok-finish-in-Settled-clause-locks : goal.returns-in_ok-finish-in-Settled-clause-locks
returns-in_ok-finish-in-Settled-clause-locks g c row kept n H none = row_steps false row kept c.args.owner n c.args.locks.now H none

pub returns-in_ok-finish-in-Settled-clause-stops : goal.returns-in_ok-finish-in-Settled-clause-stops
returns-in_ok-finish-in-Settled-clause-stops g c told r b K =
    let h = g.D.Disk.history c.args.d.now in
    let new = g.D.Disk.history c.finish.new.d in
    subst (λ s. LeavesOnly h new (MayLeave s r b)) (sym c.in-Settled.is)
    (shutting_stops (IsSettled (settled_plan c.in-Settled.state)) h new r b (subst (λ s. KnowsFinish s h r b) c.in-Settled.is K) (c.finish.ensures.stops told))

pub returns-in_ok-finish-in-Settled-clause-made : goal.returns-in_ok-finish-in-Settled-clause-made
returns-in_ok-finish-in-Settled-clause-made g c told r b K =
    let h = g.D.Disk.history c.args.d.now in
    carried_shut (settled_plan c.in-Settled.state) h (g.D.Disk.history c.finish.new.d) r b (subst (λ s. KnowsFinish s h r b) c.in-Settled.is K)
    (c.in_ok-finish-in-Settled.ensures.done told)

pub returns-in-Shut-clause-stops : goal.returns-in-Shut-clause-stops
returns-in-Shut-clause-stops g c told r b K =
    let h = g.D.Disk.history c.args.d.now in
    subst (λ s. LeavesOnly h h (MayLeave s r b)) (sym c.in-Shut.is) (shut_stops h b (subst (λ s. KnowsFinish s h r b) c.in-Shut.is K))
