-- The law is the lemma.
use Rattle.tdb_law.proofs.Plainly.{quiet_plain}
use Rattle.tdb_law.proofs.plain.quiet_is_plain.Goals as goal

pub returns : goal.returns
returns c = record { law = quiet_plain }
