-- The laws are the lemmas.
use Rattle.tdb_gen.proofs.GoingOn.{round_goes_on, groups_done}
use Rattle.tdb_gen.proofs.laws.groups_end.Goals as goal

pub returns : goal.returns
returns c = record { round = round_goes_on; group = groups_done }
