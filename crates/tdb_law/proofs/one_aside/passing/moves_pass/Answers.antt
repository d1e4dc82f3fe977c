-- The laws are the lemmas.
use Rattle.tdb_law.proofs.OneAside.Passing.{shut_out_ends, shut_out_halts}
use Rattle.tdb_law.proofs.one_aside.passing.moves_pass.Goals as goal

pub returns : goal.returns
returns c = record { ends = shut_out_ends; halts = shut_out_halts }
