-- The gate that a dead opener left open is undone on the world's disk.
use Rattle.tdb_world.proofs.OverFiles.{was_undone}
use Rattle.tdb_world.proofs.world.World.undo_stale.Goals as goal

pub returns-clause-undone : goal.returns-clause-undone
returns-clause-undone g c =
    let e = c.undo_stale-undone.ensures in rw (← c.self.view_is) (was_undone _ _ _ _ e.undoes e.bytes e.safe e.syncs e.made e.world e.length e.shorter)

pub returns-clause-stops : goal.returns-clause-stops
returns-clause-stops g c = rw (← c.self.view_is) c.undo_stale-undone.ensures.stops
