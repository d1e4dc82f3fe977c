-- An opener joins the openers, and the disk stays.
use Rattle.std.proofs.Common.{ap}
use Rattle.tdb_disk.specs.History.{seen}
use Rattle.tdb_world.specs.OverFile.{OverFile}
use Rattle.tdb_world.proofs.OverFiles.{has_joined, cannot_join, only_memory}
use Rattle.tdb_world.proofs.world.World.join.Goals as goal

pub invariant_of-self : goal.invariant_of-self
invariant_of-self g c unspent = c.join.ensures.fits (seen (g.D.Disk.history c.self.inside.disk)) (g.D.Disk.size c.self.inside.disk) (c.self.invariant unspent)

pub returns-clause-joined : goal.returns-clause-joined
returns-clause-joined g c = let e = c.join.ensures in rw (← c.self.view_is) (has_joined _ _ _ e.number e.joins e.stale (only_memory _ _ e.header e.options))

pub returns-clause-refused : goal.returns-clause-refused
returns-clause-refused g c = let e = c.join.ensures in cannot_join c.args.self.now c.self.inside.openers c.join.result (ap (λ (w : OverFile). w.world) c.self.view_is) e.blocked e.many
