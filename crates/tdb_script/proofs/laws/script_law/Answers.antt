use Rattle.tdb_script.proofs.LawLemmas.{one_script, one_place, no_place}
use Rattle.tdb_script.proofs.PartLemmas.{stays_bad}
use Rattle.tdb_script.proofs.laws.script_law.Goals as goal

pub returns-clause-reading : goal.returns-clause-reading
returns-clause-reading c = one_script

pub returns-clause-place : goal.returns-clause-place
returns-clause-place c = one_place

pub returns-clause-no : goal.returns-clause-no
returns-clause-no c = no_place

pub returns-clause-stays : goal.returns-clause-stays
returns-clause-stays c = stays_bad
