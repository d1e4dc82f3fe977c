-- The law is the lemma.
use Rattle.tdb_world.proofs.Courses.Reading.{read_only_stays}
use Rattle.tdb_world.proofs.course.laws.read_only_files_stay.Goals as goal

pub returns : goal.returns
returns c = record { law = read_only_stays }
