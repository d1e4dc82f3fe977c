-- The laws are the lemmas.
use Rattle.tdb_law.proofs.Marking as marking
use Rattle.tdb_law.proofs.layout.walks_shift.Goals as goal

pub returns : goal.returns
returns c = record { one = marking.walks_shift; all = marking.all_shift }
