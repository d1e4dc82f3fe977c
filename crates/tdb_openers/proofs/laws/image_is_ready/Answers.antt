-- The law is the lemma.
use Rattle.tdb_openers.proofs.Joining.Working.{image_is_ready}
use Rattle.tdb_openers.proofs.laws.image_is_ready.Goals as goal

pub returns : goal.returns
returns c = record { law = image_is_ready }
