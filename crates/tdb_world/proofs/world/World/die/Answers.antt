-- One of the openers dies, and the disk stays.
use Rattle.std.proofs.Common.{sym, subst}
use Rattle.tdb_disk.specs.History.{seen}
use Rattle.tdb_world.specs.Died.{CanDie}
use Rattle.tdb_world.specs.OverFile.{OverFile}
use Rattle.tdb_world.proofs.OverFiles.{only_memory}
use Rattle.tdb_world.proofs.world.World.die.Goals as goal

pub die-requires-clause-can : goal.die-requires-clause-can
die-requires-clause-can g c = subst (λ (w : OverFile). CanDie w.world c.args.who) (sym c.self.view_is) c.requires.can

pub invariant_of-self : goal.invariant_of-self
invariant_of-self g c unspent = c.die.ensures.fits (seen (g.D.Disk.history c.self.inside.disk)) (g.D.Disk.size c.self.inside.disk) (c.self.invariant unspent)

pub returns : goal.returns
returns g c = let e = c.die.ensures in rw (← c.self.view_is) (record { leads = e.dies; memory = only_memory _ _ e.header e.options })
