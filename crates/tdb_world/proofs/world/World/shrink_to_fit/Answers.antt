-- The openers give memory back, and the disk stays.
use Rattle.std.proofs.Common.{ap}
use Rattle.tdb_disk.specs.History.{seen}
use Rattle.tdb_openers.specs.Worlds.{World}
use Rattle.tdb_world.proofs.ButRoom.{fits_still, rest_still, states_still}
use Rattle.tdb_world.proofs.OverFiles.{only_memory}
use Rattle.tdb_world.proofs.world.World.shrink_to_fit.Goals as goal

pub invariant_of-self : goal.invariant_of-self
invariant_of-self g c unspent = fits_still _ _ c.shrink_to_fit.ensures.room (seen (g.D.Disk.history c.self.inside.disk)) (g.D.Disk.size c.self.inside.disk) (c.self.invariant unspent)

pub returns-clause-states : goal.returns-clause-states
returns-clause-states g c = rw (← c.self.view_is) (states_still _ _ c.shrink_to_fit.ensures.room)

pub returns-clause-room : goal.returns-clause-room
returns-clause-room g c = rw (← c.self.view_is) c.shrink_to_fit.ensures.room

pub returns-clause-memory : goal.returns-clause-memory
returns-clause-memory g c =
    let rest = rest_still _ _ c.shrink_to_fit.ensures.room in
    rw (← c.self.view_is) (only_memory _ _ (ap (λ (w : World). w.header) rest) (ap (λ (w : World). w.options) rest))
