-- The laws are the lemmas.
use Rattle.tdb_space.proofs.OpeningFault.OneFault.{opens_or_fault, one_opening, never_both_ways, same_where_shut}
use Rattle.tdb_space.proofs.OpeningFault.HeaderFaults.{header_fault_is}
use Rattle.tdb_space.proofs.laws.opening_fault.opening_fault_law.Goals as goal

pub returns-clause-some : goal.returns-clause-some
returns-clause-some c = opens_or_fault

pub returns-clause-one : goal.returns-clause-one
returns-clause-one c = one_opening

pub returns-clause-never : goal.returns-clause-never
returns-clause-never c = never_both_ways

pub returns-clause-shut : goal.returns-clause-shut
returns-clause-shut c = same_where_shut

pub returns-clause-header : goal.returns-clause-header
returns-clause-header c = header_fault_is
