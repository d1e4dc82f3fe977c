-- The law of what the file of a world is read as.
use Rattle.tdb_world.proofs.Reopening.{state_reopens}
use Rattle.tdb_world.proofs.laws.states_are_read.Goals as goal

pub returns : goal.returns
returns c = record { law = state_reopens }
