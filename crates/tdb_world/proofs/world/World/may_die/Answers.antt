-- Whether one of the openers may die.
use Rattle.tdb_world.proofs.world.World.may_die.Goals as goal

pub returns-clause-can : goal.returns-clause-can
returns-clause-can g c = rw (← c.self.view_is) c.may_die.ensures.can

pub returns-clause-may : goal.returns-clause-may
returns-clause-may g c = rw (← c.self.view_is) c.may_die.ensures.may

pub returns-clause-may_not : goal.returns-clause-may_not
returns-clause-may_not g c = rw (← c.self.view_is) c.may_die.ensures.may_not
