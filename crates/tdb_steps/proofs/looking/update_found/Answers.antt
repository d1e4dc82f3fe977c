-- The value is changed where the record stands.
use Rattle.std.proofs.Common.{length, refl, Some, [], arith}
use Rattle.tdb_steps.specs.Asked.{stores}
use Rattle.tdb_steps.proofs.Walks.{updated_in_place}
use Rattle.tdb_steps.proofs.Made.{moved, in_place_made}
use Rattle.tdb_space.specs.Accepted.{AcceptWith}
use Rattle.tdb_space.specs.Chain.{chain_of}
use Rattle.tdb_space.specs.Record.{data_at}
use Rattle.tdb_space.specs.Pairs.{home}
use Rattle.tdb_space.proofs.Results.{on_err, ok_not}
use Rattle.tdb_chain.specs.Place.{HoldsKey}
use Rattle.tdb_steps.specs.Turns.{TurnStopped}
use Rattle.tdb_steps.proofs.Stopped.{stopped_set}
use Rattle.tdb_steps.proofs.looking.update_found.Goals as goal

pub returns-clause-made : goal.returns-clause-made
returns-clause-made g c told key flag others A known =
    in_place_made (g.S.Space.form c.args.s.now) (g.S.Space.form c.ready.new.self) (g.S.Space.image c.args.s.now) (g.S.Space.image c.ready.new.self) (g.S.Space.image c.update_in_place.new.s)
    key (stores flag c.args.value.now) (Some c.args.value.now) c.args.place others c.ready.ensures.form c.ready.ensures.image (c.in_ok-update_in_place.ensures.set told) refl A known
    (updated_in_place (g.S.Space.image c.ready.new.self) (g.S.Space.image c.update_in_place.new.s) c.args.place (length c.args.value.now) (let fits = c.if-need-place.false in omega (arith, fits)) (c.update_in_place.ensures.written told))

-- the update failed
pub returns-in_err-update_in_place-clause-stopped : goal.returns-in_err-update_in_place-clause-stopped
returns-in_err-update_in_place-clause-stopped g c = on_err c.from_residual.result (λ told key others A holds.
    (let k = g.S.Space.form c.ready.new.self in
    let v = g.S.Space.image c.ready.new.self in
    let b = g.S.Space.image c.update_in_place.new.s in
    let p = c.args.place in
    moved (λ x img. AcceptWith x img others → HoldsKey x img key p → TurnStopped x img b key []) (g.S.Space.form c.args.s.now) k (g.S.Space.image c.args.s.now) v c.ready.ensures.form c.ready.ensures.image
    (λ B there. stopped_set k v b key (Some (data_at k.order b p.off)) (chain_of k v (home k key)) [] others others (c.in_err-update_in_place.ensures.stopped_kept told others key B there))
    A holds))

-- where the room has no bound, it could be made
pub returns-in_default-clause-starves : goal.returns-in_default-clause-starves
returns-in_default-clause-starves g c is free = ok_not c.ready.result (c.ready.ensures.unbounded free) c.in_default.not-Ok
