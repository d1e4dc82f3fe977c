-- The law is the lemma.
use Rattle.tdb_law.proofs.Joining.{course_lawful}
use Rattle.tdb_law.proofs.courses.course_is_lawful.Goals as goal

pub returns : goal.returns
returns c = record { law = course_lawful }
