-- The old record is marked as dead, and the new one is linked.
use Rattle.std.proofs.Common.{◌≡◌, ◌+◌, ◌<◌, ◌/◌, [], ◌∷◌, List, ℕ, ◌∙◌, subst, arith}
use Rattle.std.specs.Prelude.{◌^◌, IsTrue, None, Some}
use Rattle.tdb_space.specs.Extents.{HandPair}
use Rattle.tdb_space.specs.Accepted.{AcceptWith}
use Rattle.tdb_chain.specs.Place.{HoldsKey, IsFound}
use Rattle.tdb_steps.specs.Asked.{stores}
use Rattle.tdb_steps.specs.Turns.{Makes, TurnStopped, LinkedOver}
use Rattle.tdb_steps.specs.declared.flag.Flag.{Flag}
use Rattle.tdb_steps.specs.declared.flag.Flag.TheVariants.{Replace}
use Rattle.tdb_steps.specs.declared.stage.Stage.TheVariants as Stage
use Rattle.tdb_steps.specs.declared.stage.Next.TheVariants as Next
use Rattle.tdb_words.specs.declared.record.TheConstants.{DEAD}
use Rattle.tdb_steps.proofs.Walks.{marked_in_place}
use Rattle.tdb_steps.proofs.Made.{of_both, beside_made, beside_ends}
use Rattle.tdb_steps.proofs.Rooms.{room_fewer}
use Rattle.std.proofs.lemmas.Map.{update_same}
use Rattle.std.proofs.lemmas.Result.{on_err_weaker}
use Rattle.tdb_space.specs.Chain.{chain_of}
use Rattle.tdb_space.specs.Pairs.{map_of, home, same_key}
use Rattle.tdb_space.proofs.Pairs.Maps.{same_key-refl}
use Rattle.tdb_steps.proofs.Stopped.{stopped_either, stopped_after}
use Rattle.tdb_steps.proofs.linking.link_beside.Goals as goal

pub link_over-requires-clause-room : goal.link_over-requires-clause-room
link_over-requires-clause-room g c =
    let h = c.args.hand in
    let s = g.S.Space.spare c.args.s.now in
    c.in_default.ensures.spare.each (12 + h.1 / 4096) (76 + h.1)
    (room_fewer s (13 + h.1 / 4096) (80 + h.1) (1 + (12 + h.1 / 4096)) (4 + (76 + h.1)) (omega arith) (omega arith) c.requires.can.room)

pub returns-clause-made : goal.returns-clause-made
returns-clause-made g c =
    let f = g.S.Space.form c.args.s.now in
    let a = g.S.Space.image c.args.s.now in
    let m = g.S.Space.image c.mark_dead.new.s in
    let b = g.S.Space.image c.link_over.new.s in
    let k = g.S.Space.form c.mark_dead.new.s in
    let key = c.args.key.now in
    let value = c.args.value.now in
    let old = c.args.old in
    let h = c.args.hand in
    of_both c.link_over.result
    (λ next. IsTrue g.S.Space.tells → g.S.Space.size c.mark_dead.new.s < 2 ^ 32 → (flag : Flag) → Makes k m b key (stores flag value) (Stage.Taken None h) next)
    (λ next. IsTrue g.S.Space.tells → g.S.Space.size c.mark_dead.new.s < 2 ^ 32 → LinkedOver k m h None next)
    (λ next. IsTrue g.S.Space.tells → g.S.Space.size c.args.s.now < 2 ^ 32 → (flag : Flag) → Makes f a b key (stores flag value) (Stage.Taken (Some old) h) next)
    (λ next made ended told small flag others A known.
    let less : g.S.Space.size c.mark_dead.new.s < 2 ^ 32 = omega (arith, c.mark_dead.ensures.size, small) in
    beside_made f k a m b key value old h flag next others c.mark_dead.ensures.wrote.form A known.found (c.in_default.ensures.set told (h ∷ others) key A known.found)
    (marked_in_place f a m old DEAD (c.mark_dead.ensures.written told)) (ended told less) (made told less Replace))
    c.link_over.ensures.made c.link_over.ensures.rightly

pub returns-clause-ending : goal.returns-clause-ending
returns-clause-ending g c =
    let f = g.S.Space.form c.args.s.now in
    let a = g.S.Space.image c.args.s.now in
    let m = g.S.Space.image c.mark_dead.new.s in
    let k = g.S.Space.form c.mark_dead.new.s in
    let h = c.args.hand in
    let b = g.S.Space.image c.link_over.new.s in
    of_both c.link_over.result
    (λ next. IsTrue g.S.Space.tells → g.S.Space.size c.mark_dead.new.s < 2 ^ 32 → LinkedOver k m h None next)
    (λ next. IsTrue g.S.Space.tells → g.S.Space.size c.mark_dead.new.s < 2 ^ 32 → LinkedOver k m h None next)
    (λ next. IsTrue g.S.Space.tells → g.S.Space.size c.args.s.now < 2 ^ 32 → (key : List ℕ) (others : List HandPair) → AcceptWith f a (h ∷ others) → HoldsKey f a key c.args.old → next ≡ Next.Step Stage.Ending)
    (λ next ended _ told small key others A holds.
    let less : g.S.Space.size c.mark_dead.new.s < 2 ^ 32 = omega (arith, c.mark_dead.ensures.size, small) in
    beside_ends f k a m b key c.args.value.now c.args.old h Replace next others c.mark_dead.ensures.wrote.form A holds (c.in_default.ensures.set told (h ∷ others) key A holds)
    (marked_in_place f a m c.args.old DEAD (c.mark_dead.ensures.written told)) (ended told less))
    c.link_over.ensures.rightly c.link_over.ensures.rightly

-- the mark failed
pub returns-in-Err-clause-stopped : goal.returns-in-Err-clause-stopped
returns-in-Err-clause-stopped g c told small others A holds =
    let f = g.S.Space.form c.args.s.now in
    let a = g.S.Space.image c.args.s.now in
    let key = c.args.key.now in
    stopped_either f a (g.S.Space.image c.mark_dead.new.s) key None (chain_of f a (home f key)) (c.args.hand ∷ []) (c.args.hand ∷ others) (c.args.hand ∷ others) A (c.in-Err.ensures.stopped told (c.args.hand ∷ others) key A holds)

-- the link failed
pub returns-clause-stopped : goal.returns-clause-stopped
returns-clause-stopped g c =
    let f = g.S.Space.form c.args.s.now in
    let a = g.S.Space.image c.args.s.now in
    let m = g.S.Space.image c.mark_dead.new.s in
    let b = g.S.Space.image c.link_over.new.s in
    let key = c.args.key.now in
    let h = c.args.hand in
    on_err_weaker c.link_over.result (λ stopped told small others A holds.
    (let K = c.in_default.ensures.set told (h ∷ others) key A holds in
    let less : g.S.Space.size c.mark_dead.new.s < 2 ^ 32 = omega (arith, c.mark_dead.ensures.size, small) in
    let missing : map_of f m key ≡ None = K.map key ∙ update_same same_key (map_of f a) key None key (same_key-refl key) in
    stopped_after f a m b key None (chain_of f a (home f key)) (h ∷ []) (h ∷ others) K
    (subst (λ x. AcceptWith x m (h ∷ others) → IsFound x m key None → TurnStopped x m b key (h ∷ [])) c.mark_dead.ensures.wrote.form (stopped told less others) K.changed.accepted missing)))
    c.link_over.ensures.stopped
