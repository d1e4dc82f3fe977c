-- The record is marked as dead where it stands.
use Rattle.std.proofs.Common.{[], refl, None}
use Rattle.tdb_steps.specs.Asked.{deletes}
use Rattle.tdb_words.specs.declared.record.TheConstants.{DEAD}
use Rattle.tdb_steps.proofs.Walks.{marked_in_place}
use Rattle.tdb_steps.proofs.Made.{moved, in_place_made}
use Rattle.tdb_space.specs.Accepted.{AcceptWith}
use Rattle.tdb_space.specs.Chain.{chain_of}
use Rattle.tdb_space.specs.Pairs.{home}
use Rattle.tdb_space.proofs.Results.{on_err, ok_not}
use Rattle.tdb_chain.specs.Place.{HoldsKey}
use Rattle.tdb_steps.specs.Turns.{TurnStopped}
use Rattle.tdb_steps.proofs.Stopped.{stopped_either}
use Rattle.tdb_steps.proofs.looking.mark_found.Goals as goal

pub returns-clause-made : goal.returns-clause-made
returns-clause-made g c told key others A known =
    in_place_made (g.S.Space.form c.args.s.now) (g.S.Space.form c.ready.new.self) (g.S.Space.image c.args.s.now) (g.S.Space.image c.ready.new.self) (g.S.Space.image c.mark_dead.new.s)
    key deletes None c.args.place others c.ready.ensures.form c.ready.ensures.image (c.in_ok-mark_dead.ensures.set told) refl A known
    (marked_in_place (g.S.Space.form c.ready.new.self) (g.S.Space.image c.ready.new.self) (g.S.Space.image c.mark_dead.new.s) c.args.place DEAD (c.mark_dead.ensures.written told))

-- the mark failed
pub returns-in_err-mark_dead-clause-stopped : goal.returns-in_err-mark_dead-clause-stopped
returns-in_err-mark_dead-clause-stopped g c = on_err c.from_residual.result (λ told key others A holds.
    (let k = g.S.Space.form c.ready.new.self in
    let v = g.S.Space.image c.ready.new.self in
    let b = g.S.Space.image c.mark_dead.new.s in
    moved (λ x img. AcceptWith x img others → HoldsKey x img key c.args.place → TurnStopped x img b key []) (g.S.Space.form c.args.s.now) k (g.S.Space.image c.args.s.now) v c.ready.ensures.form c.ready.ensures.image
    (λ B there. stopped_either k v b key None (chain_of k v (home k key)) [] others others B (c.in_err-mark_dead.ensures.stopped told others key B there))
    A holds))

-- where the room has no bound, it could be made
pub returns-in_default-clause-starves : goal.returns-in_default-clause-starves
returns-in_default-clause-starves g c is free = ok_not c.ready.result (c.ready.ensures.unbounded free) c.in_default.not-Ok
