-- The command is given to the side.
use Rattle.std.proofs.Common.{Some, sym, ◌∙◌, ap, subst}
use Rattle.tdb_commands.specs.InLaw.{law_command}
use Rattle.tdb_txn_owner.specs.Ends.{task_of}
use Rattle.tdb_txn_owner.specs.Holders.{with_command, HolderState}
use Rattle.tdb_txn_owner.specs.Stages.{IsSide}
use Rattle.tdb_txn_owner.proofs.HolderTurns.{given_side}
use Rattle.tdb_txn_owner.proofs.txn_owner.TxnOwner.assign.Goals as goal

pub returns-clause-side : goal.returns-clause-side
returns-clause-side c f o k past s S =
    let v = c.args.self.now in
    let command = c.args.command in
    let given = record s { task = Some (task_of (law_command command) 0) } in
    subst (λ (w : HolderState). IsSide f o w.owner w.locks c.give.new.self k past given) (sym c.self.view_is)
    (subst (λ stage. IsSide f o v.owner v.locks stage k past given) (sym (c.give.ensures ∙ ap (λ (w : HolderState). with_command w.stage command) c.self.view_is))
    (given_side f o v.owner v.locks k past s command v.stage c.requires.idle S))
