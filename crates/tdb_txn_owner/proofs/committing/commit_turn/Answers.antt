-- The turn is one of the law's.
use Rattle.std.proofs.Common.{sym, subst}
use Rattle.tdb_law.specs.Commands.GroupCommand.{Commit}
use Rattle.tdb_law.specs.Commands.Command.{OnGroup}
use Rattle.tdb_txn_turns.specs.Committings.{commit_steps}
use Rattle.tdb_txn_turns.specs.Room.{CommitFull}
use Rattle.tdb_commands.specs.InLaw.{law_turn}
use Rattle.tdb_txn_owner.specs.declared.stage.Stage.TheVariants as Stage
use Rattle.tdb_txn_owner.specs.Ends.{task_of}
use Rattle.tdb_txn_owner.specs.Turned.{MayTurn, StageTurned}
use Rattle.tdb_txn_owner.specs.Syncs.{HolderPlans, HolderSyncs}
use Rattle.tdb_txn_owner.specs.Wents.{commit_went}
use Rattle.tdb_txn_owner.proofs.Committed.{commit_turned}
use Rattle.tdb_txn_owner.proofs.Sided.{same_task}
use Rattle.tdb_txn_owner.specs.Wanting.{RecordsGo}
use Rattle.tdb_txn_owner.proofs.Recorded.{commit_goes}
use Rattle.tdb_txn_owner.proofs.Room.{commit_went_full}
use Rattle.tdb_txn_owner.proofs.Synced.{commit_planned, commit_syncs}
use Rattle.tdb_txn_owner.proofs.committing.commit_turn.Goals as goal

pub returns-clause-turned : goal.returns-clause-turned
returns-clause-turned g c told f o table k past s t S K has M =
    let a = c.args in
    let h = g.D.Disk.history a.d.now in
    let new = g.D.Disk.history c.step.new.d in
    let i = c.in_ok-turn in
    let stage = Stage.Committing a.commit in
    let mine = same_task (task_of (OnGroup Commit) (commit_steps a.commit)) t has in
    subst (λ went. StageTurned f o table a.owner c.step.new.locks stage went.stage h new k past s t (law_turn went.turn)) (sym c.commit_left.ensures)
    (subst (λ u. StageTurned f o table a.owner c.step.new.locks stage (commit_went i.turn).stage h new k past s u (law_turn (commit_went i.turn).turn)) mine
    (commit_turned f o table a.owner a.locks.now c.step.new.locks a.commit h new k past s S K (subst (MayTurn f table s) (sym mine) M) i.turn i.ensures.locks i.ensures.leads
    (i.ensures.made told k.file k.image K.at.0)))

pub returns-clause-full : goal.returns-clause-full
returns-clause-full g c told r b K =
    let a = c.args in
    let i = c.in_ok-turn in
    subst (λ went. CommitFull a.commit a.limit r (law_turn went.turn)) (sym c.commit_left.ensures) (commit_went_full a.commit a.limit r i.turn (i.ensures.full told r b K))

pub returns-clause-records : goal.returns-clause-records
returns-clause-records g c =
    subst (λ went. RecordsGo (Stage.Committing c.args.commit) went.turn went.stage) (sym c.commit_left.ensures) (commit_goes c.args.commit c.in_ok-turn.turn c.in_ok-turn.ensures.leads)

-- how many syncs it makes
pub returns-clause-syncs : goal.returns-clause-syncs
returns-clause-syncs g c =
    let a = c.args in
    let i = c.in_ok-turn in
    let before = g.D.Disk.syncs a.d.now in
    let now = g.D.Disk.syncs c.step.new.d in
    subst (λ went. HolderSyncs (Stage.Committing a.commit) went.turn before now) (sym c.commit_left.ensures) (commit_syncs a.commit i.turn before now i.ensures.syncs)

pub returns-clause-plans : goal.returns-clause-plans
returns-clause-plans g c told r b K =
    let a = c.args in
    let i = c.in_ok-turn in
    let before = g.D.Disk.syncs a.d.now in
    let now = g.D.Disk.syncs c.step.new.d in
    subst (λ went. HolderPlans (Stage.Committing a.commit) r went.turn before now) (sym c.commit_left.ensures) (commit_planned a.commit r i.turn before now (i.ensures.plans told r b K))
