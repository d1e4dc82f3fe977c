-- The turn is one of the law's.
use Rattle.std.proofs.Common.{refl, sym, subst}
use Rattle.tdb_space.specs.Form.{form_in}
use Rattle.tdb_law.specs.Commands.GroupCommand.{Start}
use Rattle.tdb_law.specs.Commands.Command.{OnGroup}
use Rattle.tdb_txn_turns.specs.Starts.{start_steps}
use Rattle.tdb_commands.specs.InLaw.{law_turn}
use Rattle.tdb_txn_owner.specs.declared.stage.Stage.TheVariants as Stage
use Rattle.tdb_txn_owner.specs.Ends.{task_of}
use Rattle.tdb_txn_owner.specs.Turned.{MayTurn, StageTurned}
use Rattle.tdb_txn_owner.proofs.Recorded.{start_goes}
use Rattle.tdb_txn_owner.proofs.Started.{start_turned}
use Rattle.tdb_txn_owner.proofs.Sided.{same_task}
use Rattle.tdb_txn_owner.proofs.starting.start_turn.Goals as goal

pub returns-clause-turned : goal.returns-clause-turned
returns-clause-turned g c told table k past s t S K accepted has M =
    let a = c.args in
    let f = form_in a.header.now in
    let o = a.options.now in
    let h = g.D.Disk.history a.d.now in
    let new = g.D.Disk.history c.step.new.d in
    let i = c.in_ok-turn in
    let mine = same_task (task_of (OnGroup Start) (start_steps a.starting)) t has in
    let went = c.start_left.result in
    subst (λ u. StageTurned f o table a.owner c.step.new.locks (Stage.Starting a.starting) went.stage h new k past s u (law_turn went.turn)) mine
    (start_turned f o table a.owner (g.D.Disk.size a.d.now) a.locks.now c.step.new.locks a.starting h new k past s S K (subst (MayTurn f table s) (sym mine) M) i.turn o.seqnum went refl c.start_left.ensures i.ensures.locks i.ensures.leads accepted
    (i.ensures.made told))

pub returns-clause-records : goal.returns-clause-records
returns-clause-records g c =
    let a = c.args in
    start_goes (form_in a.header.now) (g.D.Disk.size a.d.now) a.options.now.seqnum a.starting c.in_ok-turn.turn c.start_left.result c.in_ok-turn.ensures.leads c.start_left.ensures
