-- The laws are the lemmas.
use Rattle.tdb_space.proofs.Opening.Undone.{read_as_it_is, read_undone, undone_once, accepted_opens}
use Rattle.tdb_space.proofs.laws.opening.opening_law.Goals as goal

pub returns-clause-as_it_is : goal.returns-clause-as_it_is
returns-clause-as_it_is c = read_as_it_is

pub returns-clause-undone : goal.returns-clause-undone
returns-clause-undone c = read_undone

pub returns-clause-once : goal.returns-clause-once
returns-clause-once c = undone_once

pub returns-clause-accepted : goal.returns-clause-accepted
returns-clause-accepted c = accepted_opens
