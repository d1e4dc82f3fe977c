-- The laws are the lemmas.
use Rattle.tdb_mend.proofs.Alike.{opens_and_mends_alike, opens_at_front, accepted_is_as_it_is}
use Rattle.tdb_mend.proofs.Faults.{mends_or_fault, one_mend_fault}
use Rattle.tdb_mend.proofs.Strays.{strays_count_for_nothing}
use Rattle.tdb_mend.proofs.laws.mended_law.Goals as goal

pub returns-clause-opens : goal.returns-clause-opens
returns-clause-opens c = opens_and_mends_alike

pub returns-clause-at_front : goal.returns-clause-at_front
returns-clause-at_front c = opens_at_front

pub returns-clause-accepted : goal.returns-clause-accepted
returns-clause-accepted c = accepted_is_as_it_is

pub returns-clause-strays : goal.returns-clause-strays
returns-clause-strays c = strays_count_for_nothing

pub returns-clause-mends_or_fault : goal.returns-clause-mends_or_fault
returns-clause-mends_or_fault c = mends_or_fault

pub returns-clause-one_fault : goal.returns-clause-one_fault
returns-clause-one_fault c = one_mend_fault
