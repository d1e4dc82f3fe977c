-- The turn is one of the law's.
use Rattle.std.proofs.Common.{sym, ◌∙◌, ap, subst}
use Rattle.tdb_law.specs.Commands.GroupCommand.{Prepare}
use Rattle.tdb_law.specs.Commands.Command.{OnGroup}
use Rattle.tdb_txn_turns.specs.Prepares.{prepare_steps}
use Rattle.tdb_txn_turns.specs.Room.{PrepareFull}
use Rattle.tdb_commands.specs.InLaw.{law_turn}
use Rattle.tdb_txn_owner.specs.declared.stage.Stage.TheVariants as Stage
use Rattle.tdb_txn_owner.specs.Ends.{task_of}
use Rattle.tdb_txn_owner.specs.Turned.{MayTurn, StageTurned}
use Rattle.tdb_txn_owner.specs.Syncs.{HolderPlans, HolderSyncs}
use Rattle.tdb_txn_owner.specs.Wents.{has_changed, prepare_went}
use Rattle.tdb_txn_owner.proofs.Readied.{prepare_turned}
use Rattle.tdb_txn_owner.proofs.Sided.{same_task}
use Rattle.tdb_txn_owner.specs.Wanting.{RecordsGo}
use Rattle.tdb_txn_owner.proofs.Recorded.{prepare_goes}
use Rattle.tdb_txn_owner.proofs.Room.{prepare_went_full}
use Rattle.tdb_txn_owner.proofs.Synced.{prepare_planned, prepare_syncs}
use Rattle.tdb_txn_owner.proofs.preparing.prepare_turn.Goals as goal

pub returns-clause-turned : goal.returns-clause-turned
returns-clause-turned g c told f o table k past s t S K has M =
    let a = c.args in
    let h = g.D.Disk.history a.d.now in
    let new = g.D.Disk.history c.step.new.d in
    let i = c.in_ok-turn in
    let stage = Stage.Preparing a.preparing in
    let mine = same_task (task_of (OnGroup Prepare) (prepare_steps a.preparing)) t has in
    subst (λ went. StageTurned f o table a.owner c.step.new.locks stage went.stage h new k past s t (law_turn went.turn)) (sym (c.prepare_left.ensures ∙ ap (λ changed. prepare_went changed i.turn) c.has_change-changed.ensures))
    (subst (λ u. StageTurned f o table a.owner c.step.new.locks stage (prepare_went (has_changed a.preparing.stage) i.turn).stage h new k past s u (law_turn (prepare_went (has_changed a.preparing.stage) i.turn).turn)) mine
    (prepare_turned f o table a.owner a.locks.now c.step.new.locks a.preparing h new k past s S K (subst (MayTurn f table s) (sym mine) M) i.turn i.ensures.locks i.ensures.leads
    (i.ensures.made told k.file k.image K.at)))

pub returns-clause-full : goal.returns-clause-full
returns-clause-full g c told r b K =
    let p = c.args.preparing in
    let i = c.in_ok-turn in
    subst (λ went. PrepareFull p.stage c.args.limit r (law_turn went.turn)) (sym (c.prepare_left.ensures ∙ ap (λ changed. prepare_went changed i.turn) c.has_change-changed.ensures))
    (prepare_went_full p.stage c.args.limit r (has_changed p.stage) i.turn (i.ensures.full told r b K))

pub returns-clause-records : goal.returns-clause-records
returns-clause-records g c =
    let i = c.in_ok-turn in
    subst (λ went. RecordsGo (Stage.Preparing c.args.preparing) went.turn went.stage)
    (sym (c.prepare_left.ensures ∙ ap (λ changed. prepare_went changed i.turn) c.has_change-changed.ensures)) (prepare_goes c.args.preparing i.turn i.ensures.leads)

-- how many syncs it makes
pub returns-clause-syncs : goal.returns-clause-syncs
returns-clause-syncs g c =
    let p = c.args.preparing in
    let i = c.in_ok-turn in
    let before = g.D.Disk.syncs c.args.d.now in
    let now = g.D.Disk.syncs c.step.new.d in
    subst (λ went. HolderSyncs (Stage.Preparing p) went.turn before now) (sym (c.prepare_left.ensures ∙ ap (λ changed. prepare_went changed i.turn) c.has_change-changed.ensures))
    (prepare_syncs p (has_changed p.stage) i.turn before now i.ensures.leads i.ensures.syncs)

pub returns-clause-plans : goal.returns-clause-plans
returns-clause-plans g c told r b K =
    let p = c.args.preparing in
    let i = c.in_ok-turn in
    let before = g.D.Disk.syncs c.args.d.now in
    let now = g.D.Disk.syncs c.step.new.d in
    subst (λ went. HolderPlans (Stage.Preparing p) r went.turn before now) (sym (c.prepare_left.ensures ∙ ap (λ changed. prepare_went changed i.turn) c.has_change-changed.ensures))
    (prepare_planned p r (has_changed p.stage) i.turn before now (i.ensures.plans told r b K))
