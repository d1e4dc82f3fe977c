-- What was prepared is purged.
use Rattle.std.proofs.Common.{ap, arith}
use Rattle.tdb_walk.specs.Cursors.{At}
use Rattle.tdb_walk.proofs.Making.{purge_made, purge_broken}
use Rattle.tdb_space.proofs.Results.{on_err}
use Rattle.tdb_walk.proofs.cursor.Cursor.depart.Goals as goal

pub returns-in-Ok-clause-made : goal.returns-in-Ok-clause-made
returns-in-Ok-clause-made g c told small hands A knows =
    let r = c.in-Ok.ensures.readied in
    purge_made (g.S.Space.form c.args.s.now) (g.S.Space.form c.prepare_purge.new.s) (g.S.Space.image c.args.s.now) (g.S.Space.image c.prepare_purge.new.s) (g.S.Space.image c.purge_prepared.new.s) hands c.args.self.now c.leave.new.self c.args.told
    c.dead.result c.in-Ok.dead c.dead.ensures r.form r.image (ap (λ (x : At). x.stage) c.leave.ensures.stands) c.requires.spares (c.in-Ok.ensures.found told hands)
    (λ dead B ready. c.in_ok-purge_prepared-in-Ok.ensures.purged told (omega (arith, small, r.size)) hands B dead ready) A knows

-- the purge failed
pub returns-in_err-purge_prepared-in-Ok-clause-stopped : goal.returns-in_err-purge_prepared-in-Ok-clause-stopped
returns-in_err-purge_prepared-in-Ok-clause-stopped g c = on_err c.from_residual.result (λ told small hands A knows.
    (let r = c.in-Ok.ensures.readied in
    purge_broken (g.S.Space.form c.args.s.now) (g.S.Space.form c.prepare_purge.new.s) (g.S.Space.image c.args.s.now) (g.S.Space.image c.prepare_purge.new.s) (g.S.Space.image c.purge_prepared.new.s) hands c.args.self.now
    c.dead.result c.in-Ok.dead c.dead.ensures r.form r.image (c.in-Ok.ensures.found told hands)
    (λ dead B ready. c.in_err-purge_prepared-in-Ok.ensures.stopped told (omega (arith, small, r.size)) hands B dead ready) A knows))
