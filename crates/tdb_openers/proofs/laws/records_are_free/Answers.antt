-- The laws are the lemmas.
use Rattle.tdb_openers.proofs.ExplicitLocks.Sharing.{others_write_none, records_are_free}
use Rattle.tdb_openers.proofs.laws.records_are_free.Goals as goal

pub returns : goal.returns
returns c = record { write = others_write_none; accepted = records_are_free }
