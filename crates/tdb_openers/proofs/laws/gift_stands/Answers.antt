-- The laws are the lemmas.
use Rattle.tdb_openers.proofs.Joining.Giving.{gift_keeps_world, gift_keeps_file, gift_is_given}
use Rattle.tdb_openers.proofs.laws.gift_stands.Goals as goal

pub returns : goal.returns
returns c = record { world = gift_keeps_world; file = gift_keeps_file; given = gift_is_given }
