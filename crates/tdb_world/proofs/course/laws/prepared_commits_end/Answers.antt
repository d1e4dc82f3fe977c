-- The law is the lemma.
use Rattle.tdb_world.proofs.Courses.PreparedCommits.{commits_end}
use Rattle.tdb_world.proofs.course.laws.prepared_commits_end.Goals as goal

pub returns : goal.returns
returns c = record { law = commits_end }
