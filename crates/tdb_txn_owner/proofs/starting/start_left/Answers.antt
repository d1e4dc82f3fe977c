-- With its end there is a transaction in which nothing is counted, and no cursor.
use Rattle.std.proofs.Common.{sym, ◌∙◌, subst}
use Rattle.tdb_txn_owner.specs.Wents.{StartWent}
use Rattle.tdb_txn_owner.proofs.starting.start_left.Goals as goal

pub returns-in-Done : goal.returns-in-Done
returns-in-Done c =
    subst (λ turn. StartWent c.args.numbered c.args.starting turn c.on-in-Done.result) (sym c.in-Done.is)
    (c.new-in-Done.result, c.new-in-Done.ensures.own ∙ c.new.ensures, c.new-in-Done.ensures.held, c.new-in-Done.ensures.cursor, c.new-in-Done.ensures.shown, c.on-in-Done.ensures)
