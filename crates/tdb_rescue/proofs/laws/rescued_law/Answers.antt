-- The laws are the lemmas.
use Rattle.tdb_rescue.proofs.Stood.{rescued_stand, accepted_rescued}
use Rattle.tdb_rescue.proofs.laws.rescued_law.Goals as goal

pub returns-clause-stand : goal.returns-clause-stand
returns-clause-stand c = rescued_stand

pub returns-clause-accepted : goal.returns-clause-accepted
returns-clause-accepted c = accepted_rescued
