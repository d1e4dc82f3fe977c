-- The law is the lemma.
use Rattle.tdb_openers.proofs.Files.Filing.{turn_keeps_file}
use Rattle.tdb_openers.proofs.laws.turn_keeps_file.Goals as goal

pub returns : goal.returns
returns c = record { law = turn_keeps_file }
