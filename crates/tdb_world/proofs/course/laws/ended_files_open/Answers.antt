-- The law is the lemma.
use Rattle.tdb_world.proofs.Courses.EndedFiles.{ended_opens}
use Rattle.tdb_world.proofs.course.laws.ended_files_open.Goals as goal

pub returns : goal.returns
returns c = record { law = ended_opens }
