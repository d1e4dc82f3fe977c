-- The laws are the lemmas.
use Rattle.tdb_law.proofs.OneAside.Shut.{records_held, others_only_read, others_shut_out, shut_out_meets}
use Rattle.tdb_law.proofs.one_aside.sides.joined_side.Goals as goal

pub returns : goal.returns
returns c = record { held = records_held; readers = others_only_read; shut = others_shut_out; meets = shut_out_meets }
