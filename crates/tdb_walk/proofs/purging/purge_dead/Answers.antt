-- What was prepared is purged.
use Rattle.std.proofs.Common.{Some, arith}
use Rattle.tdb_space.specs.Accepted.{AcceptWith}
use Rattle.tdb_space.proofs.Results.{on_err}
use Rattle.tdb_walk.specs.Purging.{IsPrepared, PurgesOf, PurgeBroken}
use Rattle.tdb_walk.specs.declared.purging.DeadRecord.{DeadRecord}
use Rattle.tdb_walk.proofs.Purged.{purge_nothing}
use Rattle.tdb_walk.proofs.Views.{moved}
use Rattle.tdb_walk.proofs.purging.purge_dead.Goals as goal

pub returns-clause-purged : goal.returns-clause-purged
returns-clause-purged g c told small hands A below dead =
    let f = g.S.Space.form c.args.s.now in
    let a = g.S.Space.image c.args.s.now in
    let b = g.S.Space.image c.purge_prepared.new.s in
    let r = c.in_ok-place.ensures.readied in
    let record_of : DeadRecord = record { chain = c.args.chain; off = c.args.off } in
    moved (λ x i. AcceptWith x i hands → IsPrepared x i (Some record_of) c.in_ok-place.place → PurgesOf x i b (Some record_of) hands) f (g.S.Space.form c.prepare_purge.new.s) a (g.S.Space.image c.prepare_purge.new.s) r.form r.image
    (λ B prepared. c.in_ok-purge_prepared.ensures.purged told (omega (arith, small, r.size)) hands B (Some record_of) prepared)
    A (c.in_ok-place.ensures.found told hands A (below, dead))

-- nothing was written
pub returns-in_err-place-clause-stopped : goal.returns-in_err-place-clause-stopped
returns-in_err-place-clause-stopped g c = on_err c.from_residual.result (λ told small hands A below dead.
    purge_nothing (g.S.Space.form c.args.s.now) (g.S.Space.image c.args.s.now) (g.S.Space.image c.prepare_purge.new.s) c.args.chain hands A c.prepare_purge.ensures.readied.image)

-- a write failed
pub returns-in_err-purge_prepared-clause-stopped : goal.returns-in_err-purge_prepared-clause-stopped
returns-in_err-purge_prepared-clause-stopped g c = on_err c.from_residual-in_err-purge_prepared.result (λ told small hands A below dead.
    (let f = g.S.Space.form c.args.s.now in
    let a = g.S.Space.image c.args.s.now in
    let b = g.S.Space.image c.purge_prepared.new.s in
    let r = c.prepare_purge.ensures.readied in
    let record_of : DeadRecord = record { chain = c.args.chain; off = c.args.off } in
    moved (λ x i. AcceptWith x i hands → IsPrepared x i (Some record_of) c.in_ok-place.place → PurgeBroken x i b (Some record_of) hands) f (g.S.Space.form c.prepare_purge.new.s) a (g.S.Space.image c.prepare_purge.new.s) r.form r.image
    (λ B prepared. c.in_err-purge_prepared.ensures.stopped told (omega (arith, small, r.size)) hands B (Some record_of) prepared)
    A (c.in_ok-place.ensures.found told hands A (below, dead))))
