-- Every turn shifts every walk.
use Rattle.tdb_steps.proofs.Shifts.{turns_shift, stood_stay}
use Rattle.tdb_steps.proofs.laws.turns_shift.Goals as goal

pub returns : goal.returns
returns c = record { law = turns_shift; stood = stood_stay }
