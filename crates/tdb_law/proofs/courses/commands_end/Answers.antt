-- The law is the lemma.
use Rattle.tdb_law.proofs.Joining as joining
use Rattle.tdb_law.proofs.courses.commands_end.Goals as goal

pub returns : goal.returns
returns c = record { law = joining.commands_end }
