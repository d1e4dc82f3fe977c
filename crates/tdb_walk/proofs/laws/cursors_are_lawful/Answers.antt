-- The laws of the turns of cursors.
use Rattle.tdb_walk.proofs.Lawful.{cursor_is_lawful}
use Rattle.tdb_walk.proofs.WalkLawful.{walk_is_lawful}
use Rattle.tdb_walk.proofs.WalkShown.{others_stay}
use Rattle.tdb_walk.proofs.Viewed.{view_is_so}
use Rattle.tdb_walk.proofs.Walkers.{cursor_is_turned}
use Rattle.tdb_walk.proofs.laws.cursors_are_lawful.Goals as goal

pub returns : goal.returns
returns c = record { turn = cursor_is_lawful; walk = walk_is_lawful; others = others_stay; view = view_is_so; world = cursor_is_turned }
