-- A world without openers stands.
use Rattle.std.proofs.Common.{[], sym, subst}
use Rattle.tdb_space.specs.Form.{form_in}
use Rattle.tdb_openers.specs.States.{WorldStands}
use Rattle.tdb_openers.proofs.Joining.Arriving.{empty_stands}
use Rattle.tdb_openers.proofs.openers.Openers.new.Goals as goal

pub returns-clause-stands : goal.returns-clause-stands
returns-clause-stands c img size few limit short =
    subst (λ xs. WorldStands (form_in c.args.header.now) c.args.options.now xs c.new.result img size) (sym c.new-2.ensures.items)
    (subst (λ ps. WorldStands (form_in c.args.header.now) c.args.options.now [] ps img size) (sym c.new.ensures)
    (empty_stands (form_in c.args.header.now) c.args.options.now img size few limit short))
