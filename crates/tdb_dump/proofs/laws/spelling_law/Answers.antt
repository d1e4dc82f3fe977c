use Rattle.tdb_dump.proofs.GrammarLemmas.{dump_text_spelled, one_spelling}
use Rattle.tdb_dump.proofs.laws.spelling_law.Goals as goal

pub returns-clause-writes : goal.returns-clause-writes
returns-clause-writes c = dump_text_spelled

pub returns-clause-one : goal.returns-clause-one
returns-clause-one c = one_spelling
