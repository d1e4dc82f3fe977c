-- The laws are the lemmas.
use Rattle.tdb_world.proofs.Courses.Finishing.{report_lawful, ends_alike}
use Rattle.tdb_world.proofs.course.laws.report_is_lawful.Goals as goal

pub returns : goal.returns
returns c = record { report = report_lawful; ends = ends_alike }
