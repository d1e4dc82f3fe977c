-- The laws are the lemmas.
use Rattle.tdb_law.proofs.HandsOut.{turn_keeps_image, image_plain, idle_accepted}
use Rattle.tdb_law.proofs.images.image_stays_accepted.Goals as goal

pub returns : goal.returns
returns c = record { turn = turn_keeps_image; plain = image_plain; idle = idle_accepted }
