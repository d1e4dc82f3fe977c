use Rattle.tdb_dump.proofs.GrammarLemmas.{one_word, no_word}
use Rattle.tdb_dump.proofs.laws.word_law.Goals as goal

pub returns-clause-one : goal.returns-clause-one
returns-clause-one c = one_word

pub returns-clause-no : goal.returns-clause-no
returns-clause-no c = no_word
