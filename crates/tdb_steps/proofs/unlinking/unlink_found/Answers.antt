-- The record is taken out of its chain.
use Rattle.tdb_steps.proofs.Made.{moved, unlinked_made}
use Rattle.std.proofs.Common.{◌≡◌, ◌⊎◌, None, [], ◌∷◌, subst}
use Rattle.tdb_space.specs.Accepted.{AcceptWith}
use Rattle.tdb_space.specs.Chain.{chain_of, without}
use Rattle.tdb_space.specs.Pairs.{home}
use Rattle.tdb_space.proofs.Results.{on_err, ok_not}
use Rattle.tdb_chain.specs.Place.{HoldsKey}
use Rattle.tdb_chain.specs.Changed.{KeySet, hand_at}
use Rattle.tdb_steps.specs.Turns.{TurnStopped}
use Rattle.tdb_steps.proofs.Stopped.{stopped_either}
use Rattle.tdb_steps.proofs.unlinking.unlink_found.Goals as goal

pub returns-clause-made : goal.returns-clause-made
returns-clause-made g c told key others A known =
    unlinked_made (g.S.Space.form c.args.s.now) (g.S.Space.form c.ready.new.self) (g.S.Space.image c.args.s.now) (g.S.Space.image c.ready.new.self) (g.S.Space.image c.unlink.new.s) key c.args.place c.in_ok-hand.hand others
    c.ready.ensures.form c.ready.ensures.image (c.in_ok-hand.ensures.removed told) c.in_ok-hand.ensures.hand (c.unlink.ensures.written told) A known

-- the unlink failed
pub returns-in_err-hand-clause-stopped : goal.returns-in_err-hand-clause-stopped
returns-in_err-hand-clause-stopped g c = on_err c.from_residual.result (λ told key others A holds.
    (let k = g.S.Space.form c.ready.new.self in
    let v = g.S.Space.image c.ready.new.self in
    let b = g.S.Space.image c.unlink.new.s in
    let p = c.args.place in
    moved (λ x img. AcceptWith x img others → HoldsKey x img key p → TurnStopped x img b key []) (g.S.Space.form c.args.s.now) k (g.S.Space.image c.args.s.now) v c.ready.ensures.form c.ready.ensures.image
    (λ B there. stopped_either k v b key None (without p.off (chain_of k v (home k key))) [] others (hand_at p ∷ others) B
    (subst (λ q. (b ≡ v) ⊎ KeySet k v b q None (without p.off (chain_of k v (home k q))) [] others (hand_at p ∷ others)) there.has_key (c.in_err-hand.ensures.stopped told others B there.place there.used)))
    A holds))

-- where the room has no bound, it could be made
pub returns-in_default-clause-starves : goal.returns-in_default-clause-starves
returns-in_default-clause-starves g c is free = ok_not c.ready.result (c.ready.ensures.unbounded free) c.in_default.not-Ok
