use Rattle.tdb_script.proofs.NumberLemmas.{digits_text}
use Rattle.tdb_script.proofs.number.number_of.Goals as goal

pub returns-in_default-clause-refused : goal.returns-in_default-clause-refused
returns-in_default-clause-refused c none n is = c.text_of.ensures.refused c.in_default.is (digits_text c.args.word.now is.digits.1)
