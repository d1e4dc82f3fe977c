-- The laws are the lemmas.
use Rattle.tdb_law.proofs.Plainly.{file_plain, number_plain}
use Rattle.tdb_law.proofs.plain.file_is_plain.Goals as goal

pub returns : goal.returns
returns c = record { map = file_plain; number = number_plain }
