-- A gift to one of the openers, of which no report tells, and the disk stays.
use Rattle.std.proofs.Common.{◌∙◌, ap}
use Rattle.tdb_disk.specs.History.{seen}
use Rattle.tdb_world.specs.OverFile.{OverFile}
use Rattle.tdb_world.proofs.OverFiles.{given_form, only_memory}
use Rattle.tdb_world.proofs.world.World.give_unreported.Goals as goal

pub invariant_of-self : goal.invariant_of-self
invariant_of-self g c unspent = c.give_unreported.ensures.fits (seen (g.D.Disk.history c.self.inside.disk)) (g.D.Disk.size c.self.inside.disk) (c.self.invariant unspent)

pub returns-clause-led : goal.returns-clause-led
returns-clause-led g c =
    let fits = c.self.invariant (ap (λ (w : OverFile). w.spent) c.self.view_is ∙ c.requires.unspent) in
    rw (← c.self.view_is) (c.give_unreported.ensures.led _ _ _ _ fits)

pub returns-clause-memory : goal.returns-clause-memory
returns-clause-memory g c =
    let e = c.give_unreported.ensures in
    let d = c.self.inside.disk in
    let fits = c.self.invariant (ap (λ (w : OverFile). w.spent) c.self.view_is ∙ c.requires.unspent) in
    let led = e.led g.D.Disk.tells (g.D.Disk.history d) (g.D.Disk.size d) (g.D.Disk.faults d) fits in
    let form = given_form _ _ _ led.header led.options e.err in
    rw (← c.self.view_is) (only_memory _ _ form.0 form.1)
