-- A play is taken over the world's disk.
use Rattle.tdb_world.proofs.world.World.play.Goals as goal

pub returns-clause-taken : goal.returns-clause-taken
returns-clause-taken g c = let e = c.play-taken.ensures in rw (← c.self.view_is) (record { led = e.led; stops = e.stops; heard = e.heard })
