-- Who is there and live may die as its command allows, and nobody else.
use Rattle.tdb_openers.proofs.Joining.Deaths.{none_may}
use Rattle.tdb_openers.proofs.openers.Openers.may_die.Goals as goal

pub returns-in-None-clause-may_not : goal.returns-in-None-clause-may_not
returns-in-None-clause-may_not c isnt img M = none_may c.args.self.now img c.args.who (c.in-None.ensures.none c.requires.named) M
