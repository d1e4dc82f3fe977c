-- The law is the lemma.
use Rattle.tdb_world.proofs.Courses.Changes.{steps_tell}
use Rattle.tdb_world.proofs.course.laws.steps_tell_changes.Goals as goal

pub returns : goal.returns
returns c = record { law = steps_tell }
