-- The laws are the lemmas.
use Rattle.tdb_space.proofs.RecoverySteps.Steps.{stays_alike, steps_are_tails, low_exact, area_behind, tail_shut}
use Rattle.tdb_space.proofs.RecoverySteps.Emptying.{emptying_steps}
use Rattle.tdb_space.proofs.laws.undoing.recovery_steps_law.Goals as goal

pub returns-clause-first : goal.returns-clause-first
returns-clause-first c = stays_alike

pub returns-clause-tails : goal.returns-clause-tails
returns-clause-tails c = steps_are_tails

pub returns-clause-goes_on : goal.returns-clause-goes_on
returns-clause-goes_on c = emptying_steps

pub returns-clause-low : goal.returns-clause-low
returns-clause-low c f a b image u low written size same gate = low_exact f a u b image low written size same gate

pub returns-clause-high : goal.returns-clause-high
returns-clause-high c f a b image u past words written blank size same gate = (area_behind f a u past, tail_shut f a u b image past words written blank size same gate)
