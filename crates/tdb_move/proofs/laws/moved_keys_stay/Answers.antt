-- The law of a move.
use Rattle.tdb_move.proofs.Keeping.{key_stays}
use Rattle.tdb_move.proofs.laws.moved_keys_stay.Goals as goal

pub returns : goal.returns
returns c = record { law = key_stays }
