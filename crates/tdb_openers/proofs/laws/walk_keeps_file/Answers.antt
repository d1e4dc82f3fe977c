-- The law is the lemma.
use Rattle.tdb_openers.proofs.Walks.WalkFiled.{walk_keeps_file}
use Rattle.tdb_openers.proofs.laws.walk_keeps_file.Goals as goal

pub returns : goal.returns
returns c = record { law = walk_keeps_file }
