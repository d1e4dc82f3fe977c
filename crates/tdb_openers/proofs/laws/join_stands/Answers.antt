-- The laws are the lemmas.
use Rattle.tdb_openers.proofs.Joining.Arriving.{join_keeps_world, join_keeps_file, join_joins}
use Rattle.tdb_openers.proofs.laws.join_stands.Goals as goal

pub returns : goal.returns
returns c = record { world = join_keeps_world; file = join_keeps_file; joins = join_joins }
