-- The law is the lemma.
use Rattle.tdb_openers.proofs.Joining.Opening.{low_is_free}
use Rattle.tdb_openers.proofs.laws.low_is_free.Goals as goal

pub returns : goal.returns
returns c = record { law = low_is_free }
