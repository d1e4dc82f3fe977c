-- The laws are the lemmas.
use Rattle.tdb_space.proofs.Scheme.WritesUndone.{stays_within, runs_alike, runs_undone, runs_reopen, opened_reopens}
use Rattle.tdb_space.proofs.laws.scheme.scheme_law.Goals as goal

pub returns-clause-within : goal.returns-clause-within
returns-clause-within c = stays_within

pub returns-clause-alike : goal.returns-clause-alike
returns-clause-alike c = runs_alike

pub returns-clause-undone : goal.returns-clause-undone
returns-clause-undone c = runs_undone

pub returns-clause-reopen : goal.returns-clause-reopen
returns-clause-reopen c = runs_reopen

pub returns-clause-opened : goal.returns-clause-opened
returns-clause-opened c = opened_reopens
