-- The laws are the lemmas.
use Rattle.tdb_space.proofs.FirstFault.Faults.{one_first, none_first}
use Rattle.tdb_space.proofs.FirstFault.Agreed.{no_fault_accepted, accepted_no_fault}
use Rattle.tdb_space.proofs.FirstFault.Refused.{fault_or_accepted}
use Rattle.tdb_space.proofs.laws.first_fault.first_fault_law.Goals as goal

pub returns-clause-sound : goal.returns-clause-sound
returns-clause-sound c img = (no_fault_accepted img, accepted_no_fault img)

pub returns-clause-one : goal.returns-clause-one
returns-clause-one c = one_first

pub returns-clause-none : goal.returns-clause-none
returns-clause-none c img e first accepted = none_first img e first (accepted_no_fault img accepted)

pub returns-clause-some : goal.returns-clause-some
returns-clause-some c = fault_or_accepted
