-- The law is the lemma.
use Rattle.tdb_law.proofs.HandsOut.{image_answers}
use Rattle.tdb_law.proofs.images.image_map_answers.Goals as goal

pub returns : goal.returns
returns c = record { law = image_answers }
