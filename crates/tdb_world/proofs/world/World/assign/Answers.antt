-- A command is given to one of the openers, and the disk stays.
use Rattle.std.proofs.Common.{sym, subst}
use Rattle.tdb_disk.specs.History.{seen}
use Rattle.tdb_world.specs.Steps.{HasNoCommand}
use Rattle.tdb_world.specs.OverFile.{OverFile}
use Rattle.tdb_world.proofs.OverFiles.{was_given, only_memory}
use Rattle.tdb_world.proofs.world.World.assign.Goals as goal

pub assign-requires-clause-free : goal.assign-requires-clause-free
assign-requires-clause-free g c = subst (λ (w : OverFile). HasNoCommand w.world c.args.who) (sym c.self.view_is) c.requires.idle

pub invariant_of-self : goal.invariant_of-self
invariant_of-self g c unspent = c.assign.ensures.fits (seen (g.D.Disk.history c.self.inside.disk)) (g.D.Disk.size c.self.inside.disk) (c.self.invariant unspent)

pub returns-clause-given : goal.returns-clause-given
returns-clause-given g c = let e = c.assign.ensures in rw (← c.self.view_is) (was_given _ _ _ _ _ e.may e.busy e.given e.stale (only_memory _ _ e.header e.options))
