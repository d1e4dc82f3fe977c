-- The laws are the lemmas.
use Rattle.tdb_openers.proofs.Joining.Arriving.{empty_stands, empty_file_stands, empty_is_loaded}
use Rattle.tdb_openers.proofs.laws.empty_stands.Goals as goal

pub returns : goal.returns
returns c = record { world = empty_stands; file = empty_file_stands; loaded = empty_is_loaded }
