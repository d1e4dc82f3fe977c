-- The laws are the lemmas.
use Rattle.tdb_space.proofs.Runs.Stretches.{runs_one, no_run_no_change, runs_of_other, runs_lie}
use Rattle.tdb_space.proofs.laws.runs.runs_law.Goals as goal

pub returns-clause-one : goal.returns-clause-one
returns-clause-one c = runs_one

pub returns-clause-none : goal.returns-clause-none
returns-clause-none c = no_run_no_change

pub returns-clause-other : goal.returns-clause-other
returns-clause-other c = runs_of_other

pub returns-clause-place : goal.returns-clause-place
returns-clause-place c = runs_lie
