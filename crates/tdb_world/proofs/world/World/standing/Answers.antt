-- How an opener stands among the openers.
use Rattle.tdb_world.proofs.OverFiles.{stands_so}
use Rattle.tdb_world.proofs.world.World.standing.Goals as goal

pub returns : goal.returns
returns g c = let e = c.standing.ensures in rw (← c.self.view_is) (stands_so _ _ _ e.absent e.nobody e.idle e.busy)
