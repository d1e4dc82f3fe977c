-- The laws are the lemmas.
use Rattle.tdb_space.proofs.Planned.Settled.{plan_fills, settled_is}
use Rattle.tdb_space.proofs.laws.planned.planned_law.Goals as goal

pub returns-clause-fills : goal.returns-clause-fills
returns-clause-fills c = plan_fills

pub returns-clause-settled : goal.returns-clause-settled
returns-clause-settled c = settled_is
