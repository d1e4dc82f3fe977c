-- The transaction ends.
use Rattle.std.proofs.Common.{None, Some, refl, sym, subst}
use Rattle.tdb_law.specs.Commands.Command.{OnGroup}
use Rattle.tdb_law.specs.Commands.GroupCommand.{Cancel}
use Rattle.tdb_law.specs.Commands.Reply.{Done}
use Rattle.tdb_law.specs.Commands.Turn.{Ends}
use Rattle.tdb_commands.specs.InLaw.{law_turn}
use Rattle.tdb_commands.specs.declared.command.Command.TheVariants as Given
use Rattle.tdb_txn_owner.specs.declared.stage.Stage.TheVariants as Stage
use Rattle.tdb_txn_owner.specs.Ends.{task_of}
use Rattle.tdb_txn_owner.specs.Turned.{MayTurn, StageTurned}
use Rattle.tdb_txn_owner.proofs.OpenEnds.{cancels}
use Rattle.tdb_txn_owner.proofs.Sided.{same_task}
use Rattle.tdb_txn_owner.proofs.inside.cancel_turn.Goals as goal

pub returns-clause-turned : goal.returns-clause-turned
returns-clause-turned c f o h table k past s t S K has M =
    let a = c.args in
    let rs = c.end.new.locks in
    let stage = Stage.Open a.txn (Some Given.Cancel) in
    let mine = same_task (task_of (OnGroup Cancel) 0) t has in
    subst (λ went. StageTurned f o table a.owner rs stage went.stage h h k past s t (law_turn went.turn)) (sym c.over.ensures)
    (subst (λ u. StageTurned f o table a.owner rs stage None h h k past s u (Ends Done)) mine
    (cancels f o table a.owner a.locks.now rs h a.txn Given.Cancel k past s c.end.ensures.gone c.end.ensures.others S K Cancel refl (subst (MayTurn f table s) (sym mine) M) c.requires.outer refl))
