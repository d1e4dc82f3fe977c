-- The law is the lemma.
use Rattle.tdb_openers.proofs.PlainTurns.Standing.{opener_is_ready}
use Rattle.tdb_openers.proofs.laws.opener_is_ready.Goals as goal

pub returns : goal.returns
returns c = record { law = opener_is_ready }
