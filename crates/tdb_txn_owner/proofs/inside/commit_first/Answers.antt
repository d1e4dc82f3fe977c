-- The turn is that of the machine.
use Rattle.std.proofs.Common.{IsTrue, IfOk, rules, arith, sym, subst}
use Rattle.tdb_disk.specs.Stop.{LeavesOnly}
use Rattle.tdb_space.specs.Form.{Form}
use Rattle.tdb_txn_turns.specs.Committings.{CommitFits, CommitMayLeave, KnowsCommit}
use Rattle.tdb_txn_turns.proofs.Carried.{rests_stops}
use Rattle.tdb_commands.specs.declared.options.Options.{Options}
use Rattle.tdb_txn_owner.specs.declared.stage.Stage.TheVariants as Stage
use Rattle.tdb_txn_owner.specs.Wents.{TurnsFrom}
use Rattle.tdb_txn_owner.proofs.OpenEnds.{first_fits, first_rests}
use Rattle.tdb_txn_owner.specs.Wanting.{RecordsGo}
use Rattle.tdb_txn_owner.proofs.inside.commit_first.Goals as goal

pub returns-clause-turned : goal.returns-clause-turned
returns-clause-turned g c =
    let a = c.args in
    let h = g.D.Disk.history a.d.now in
    let new = g.D.Disk.history c.commit_turn.new.d in
    subst (λ m. IfOk c.commit_turn.result (λ went. IsTrue g.D.Disk.tells → (f : Form) (o : Options) → TurnsFrom f o a.owner a.locks.now c.commit_turn.new.locks (Stage.Committing m) went h new)) c.new.ensures c.commit_turn.ensures.turned

pub returns-then-not-may_plan-clause-stops : goal.returns-then-not-may_plan-clause-stops
returns-then-not-may_plan-clause-stops g c told r image K =
    let own = c.args.own in
    let h = g.D.Disk.history c.args.d.now in rests_stops h r (first_rests own.txn own.changed h r image K)

pub commit_turn-requires : goal.commit_turn-requires
commit_turn-requires g c =
    let a = c.args in
    let q = c.requires in
    let size = g.D.Disk.size a.d.now in
    let most = q.limit in
    let plan = c.if-not-may_plan.ensures.plan (search rules) size a.limit q.outer q.whole q.sized q.within (omega (arith, most)) in
    record { fits = subst (λ m. CommitFits m size a.limit) (sym c.new.ensures) (first_fits a.own.txn a.own.changed size a.limit plan) }

pub returns-clause-stops : goal.returns-clause-stops
returns-clause-stops g c told r image =
    let h = g.D.Disk.history c.args.d.now in
    let new = g.D.Disk.history c.commit_turn.new.d in
    subst (λ m. KnowsCommit m h r image → LeavesOnly h new (CommitMayLeave m r image)) c.new.ensures (c.commit_turn.ensures.stops told r image)

pub returns-clause-records : goal.returns-clause-records
returns-clause-records g c =
    subst (λ m. IfOk c.commit_turn.result (λ went. RecordsGo (Stage.Committing m) went.turn went.stage)) c.new.ensures c.commit_turn.ensures.records
