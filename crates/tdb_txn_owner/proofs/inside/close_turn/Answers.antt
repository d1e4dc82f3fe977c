-- The transaction ends with its opener.
use Rattle.std.proofs.Common.{None, Some, refl, sym, subst}
use Rattle.tdb_law.specs.Commands.Command.{OnWalk}
use Rattle.tdb_law.specs.Commands.Reply.{Done}
use Rattle.tdb_law.specs.Commands.Turn.{Ends}
use Rattle.tdb_law.specs.Commands.WalkCommand.{Close}
use Rattle.tdb_commands.specs.InLaw.{law_turn}
use Rattle.tdb_commands.specs.declared.command.Command.TheVariants as Given
use Rattle.tdb_txn_owner.specs.declared.stage.Stage.TheVariants as Stage
use Rattle.tdb_txn_owner.specs.Ends.{task_of}
use Rattle.tdb_txn_owner.specs.Turned.{MayTurn, StageTurned}
use Rattle.tdb_txn_owner.proofs.OpenEnds.{open_closes}
use Rattle.tdb_txn_owner.proofs.Sided.{same_task}
use Rattle.tdb_txn_owner.proofs.inside.close_turn.Goals as goal

pub returns-clause-turned : goal.returns-clause-turned
returns-clause-turned c f o h table k past s t S K has M =
    let a = c.args in
    let rs = c.close.new.locks in
    let stage = Stage.Open a.txn (Some Given.Close) in
    let mine = same_task (task_of (OnWalk Close) 0) t has in
    subst (λ went. StageTurned f o table a.owner rs stage went.stage h h k past s t (law_turn went.turn)) (sym c.over.ensures)
    (subst (λ u. StageTurned f o table a.owner rs stage None h h k past s u (Ends Done)) mine
    (open_closes f o table a.owner a.locks.now rs h a.txn Given.Close k past s c.close.ensures.gone c.close.ensures.others S K refl (subst (MayTurn f table s) (sym mine) M)))
