-- A turn of one of the openers over the world's disk.
use Rattle.std.proofs.Common.{sym, subst, ap, ◌∙◌}
use Rattle.tdb_world.specs.Steps.{HasCommand}
use Rattle.tdb_world.specs.OverFile.{OverFile}
use Rattle.tdb_world.proofs.Ended.{idle_so}
use Rattle.tdb_world.proofs.OverFiles.{took_turn, counts_faults}
use Rattle.tdb_world.proofs.world.World.turn.Goals as goal

pub turn-turned-requires-clause-busy : goal.turn-turned-requires-clause-busy
turn-turned-requires-clause-busy g c = subst (λ (w : OverFile). HasCommand w.world c.args.who) (sym c.self.view_is) c.requires.busy

pub returns-clause-turned : goal.returns-clause-turned
returns-clause-turned g c =
    let e = c.turn-turned.ensures in
    let spent = ap (λ (w : OverFile). w.spent) c.self.view_is ∙ c.requires.unspent in
    let busy = subst (λ (w : OverFile). HasCommand w.world c.args.who) (sym c.self.view_is) c.requires.busy in
    let idle = idle_so g.D.Disk.tells _ _ _ _ _ _ _ _ c.args.who c.requires.named (c.self.invariant spent) busy c.turn-turned.result e.fits e.turned in
    rw (← c.self.view_is) (took_turn _ _ _ _ _ e.turned e.full e.starves e.waits e.prepared e.safe e.syncs e.busy idle e.fresh e.longer e.header e.options)

pub returns-clause-stopped : goal.returns-clause-stopped
returns-clause-stopped g c = rw (← c.self.view_is) c.turn-turned.ensures.stopped

pub returns-clause-stops : goal.returns-clause-stops
returns-clause-stops g c = rw (← c.self.view_is) (λ told state S. c.turn-turned.ensures.stops told state S.has S.safe S.calm)

pub returns-clause-no_sync : goal.returns-clause-no_sync
returns-clause-no_sync g c = rw (← c.self.view_is) c.turn-turned.ensures.no_sync

pub returns-clause-still : goal.returns-clause-still
returns-clause-still g c = rw (← c.self.view_is) c.turn-turned.ensures.still

pub returns-clause-faults : goal.returns-clause-faults
returns-clause-faults g c = let e = c.turn-turned.ensures in rw (← c.self.view_is) (counts_faults _ _ _ _ e.cause e.done e.rises)
