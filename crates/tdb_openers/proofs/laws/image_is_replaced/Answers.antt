-- The laws are the lemmas.
use Rattle.tdb_openers.proofs.Files.Images.{image_keeps_world, image_keeps_file, lock_keeps_file}
use Rattle.tdb_openers.proofs.laws.image_is_replaced.Goals as goal

pub returns : goal.returns
returns c = record { world = image_keeps_world; file = image_keeps_file; locked = lock_keeps_file }
