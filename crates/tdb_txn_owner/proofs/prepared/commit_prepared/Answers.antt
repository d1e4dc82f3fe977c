-- A Commit goes on from the open gate, or is done.
use Rattle.std.proofs.Common.{◌≡◌, sym, ap, subst, Some, None}
use Rattle.tdb_law.specs.Commands.GroupCommand.{Commit}
use Rattle.tdb_law.specs.Commands.Command.{OnGroup}
use Rattle.tdb_law.specs.Commands.Reply.{Done}
use Rattle.tdb_law.specs.Commands.Turn.{Ends}
use Rattle.tdb_steps.specs.Holdings.{strength}
use Rattle.tdb_txn_turns.proofs.Carried.{rests_stops}
use Rattle.tdb_commands.specs.InLaw.{law_turn}
use Rattle.tdb_commands.specs.declared.command.Command.TheVariants as Given
use Rattle.tdb_txn_owner.specs.declared.stage.PreparedTxn.TheVariants.{Nothing}
use Rattle.tdb_txn_owner.specs.declared.stage.Stage.TheVariants as Stage
use Rattle.tdb_txn_owner.specs.Ends.{task_of}
use Rattle.tdb_txn_owner.specs.Stages.{stage_task, IsSide, KnowsFile, KnowsPrepared}
use Rattle.tdb_txn_owner.specs.Turned.{MayTurn, StageTurned}
use Rattle.tdb_txn_owner.proofs.Opened.{weaker}
use Rattle.tdb_txn_owner.proofs.PreparedTurns.{nothing_turned, open_known, open_side, open_turned}
use Rattle.tdb_txn_owner.proofs.Sided.{same_task}
use Rattle.tdb_txn_owner.proofs.prepared.commit_prepared.Goals as goal

pub returns-in-Opened-clause-turned : goal.returns-in-Opened-clause-turned
returns-in-Opened-clause-turned g c =
    weaker c.finish_turn.result _ _
    (λ went turn told f o table k past s t S K has M.
    let a = c.args in
    let h = g.D.Disk.history a.d.now in
    let new = g.D.Disk.history c.finish_turn.new.d in
    let is = c.in-Opened.is in
    let state = c.in-Opened.state in
    let rs = c.finish_turn.new.locks in
    let T = turn told f o table k past s t (open_side f o table a.owner a.locks.now rs state h new k past s (subst (λ left. IsSide f o a.owner a.locks.now (Stage.Prepared left (Some Given.Commit)) k past s) is S))
    (open_known f o table a.owner a.locks.now rs state h new k past s (subst (λ left. KnowsFile f (Stage.Prepared left (Some Given.Commit)) h k) is K))
    (subst (λ left. stage_task (Stage.Prepared left (Some Given.Commit)) ≡ Some t) is has) M in
    subst (λ left. StageTurned f o table a.owner rs (Stage.Prepared left (Some Given.Commit)) went.stage h new k past s t (law_turn went.turn)) (sym is)
    (open_turned f o table a.owner a.locks.now rs state h new k past s went.stage t (law_turn went.turn) T)) c.finish_turn.ensures.turned

pub returns-in-Opened-clause-stops : goal.returns-in-Opened-clause-stops
returns-in-Opened-clause-stops g c told r b K = c.finish_turn.ensures.stops told r b (subst (λ left. KnowsPrepared left (g.D.Disk.history c.args.d.now) r b) c.in-Opened.is K)

pub returns-in-Nothing-clause-turned : goal.returns-in-Nothing-clause-turned
returns-in-Nothing-clause-turned g c told f o table k past s t S K has M =
    let a = c.args in
    let h = g.D.Disk.history a.d.now in
    let is = c.in-Nothing.is in
    let rs = c.drop_owner.new.self in
    let changed = c.in-Nothing.changed in
    let mine = same_task (task_of (OnGroup Commit) 0) t (subst (λ left. stage_task (Stage.Prepared left (Some Given.Commit)) ≡ Some t) is has) in
    subst (λ went. StageTurned f o table a.owner rs (Stage.Prepared a.left (Some Given.Commit)) went.stage h h k past s t (law_turn went.turn)) (sym c.over.ensures)
    (subst (λ left. StageTurned f o table a.owner rs (Stage.Prepared left (Some Given.Commit)) None h h k past s t (Ends Done)) (sym is)
    (subst (λ u. StageTurned f o table a.owner rs (Stage.Prepared (Nothing changed) (Some Given.Commit)) None h h k past s u (Ends Done)) mine
    (nothing_turned f o table a.owner a.locks.now rs changed h k past s (subst (λ left. IsSide f o a.owner a.locks.now (Stage.Prepared left (Some Given.Commit)) k past s) is S)
    (subst (λ left. KnowsFile f (Stage.Prepared left (Some Given.Commit)) h k) is K) (subst (MayTurn f table s) (sym mine) M)
    (λ b. ap strength (c.drop_owner.ensures.gone b)) (λ p b differs. ap strength (c.drop_owner.ensures.others p b differs)))))

pub returns-in-Nothing-clause-stops : goal.returns-in-Nothing-clause-stops
returns-in-Nothing-clause-stops g c told r b K =
    let h = g.D.Disk.history c.args.d.now in
    rests_stops h r (subst (λ left. KnowsPrepared left h r b) c.in-Nothing.is K)
