-- The new record is linked, and the old one was taken out where there was one.
use Rattle.std.proofs.Common.{◌∷◌, [], Some, refl, ◌∙◌, ap, subst, arith}
use Rattle.tdb_space.specs.Chain.{chain_of}
use Rattle.tdb_space.specs.Pairs.{home}
use Rattle.tdb_space.proofs.Pairs.Maps.{home_below}
use Rattle.tdb_chain.specs.Changed.{KeySet, with_hand, without_place}
use Rattle.tdb_steps.specs.Asked.{stores}
use Rattle.tdb_steps.specs.declared.stage.Stage.TheVariants as Stage
use Rattle.tdb_steps.specs.declared.stage.Next.TheVariants as Next
use Rattle.tdb_space.specs.Extents.{HandPair}
use Rattle.tdb_space.proofs.Results.{on_err}
use Rattle.tdb_steps.proofs.Walks.{linked_walks, some_hand, no_hand}
use Rattle.tdb_steps.proofs.Made.{set_made, chain_number}
use Rattle.tdb_steps.proofs.Stopped.{stopped_link}
use Rattle.tdb_steps.proofs.linking.link_over.Goals as goal

pub returns-in-Some-clause-made : goal.returns-in-Some-clause-made
returns-in-Some-clause-made g c told small flag others A known =
    let f = g.S.Space.form c.args.s.now in
    let a = g.S.Space.image c.args.s.now in
    let b = g.S.Space.image c.link.new.s in
    let key = c.args.key.now in
    let value = c.args.value.now in
    let h = c.args.hand in
    let offs = h.0 ∷ without_place c.args.over (chain_of f a (home f key)) in
    let K = subst (λ out. KeySet f a b key (Some value) offs (h ∷ []) (h ∷ others) (with_hand out others)) c.in-Some.is (c.in_ok-old.ensures.set told small others A known.found) in
    set_made f a b key (stores flag value) (Stage.Taken c.args.over h) (Next.Step (Stage.Changed c.in-Some.old)) others (Some value) offs (h ∷ []) (h ∷ others) K
    (chain_number f a b (home f key) offs (h ∷ []) (h ∷ others) (c.in-Some.old ∷ others) A (home_below f key A.some) (A.held.0, tt) K.changed) tt refl refl refl tt tt
    (linked_walks f a b key (Some value) (Stage.Taken c.args.over h) (Next.Step (Stage.Changed c.in-Some.old)) h others (c.in-Some.old ∷ others) A refl refl (let size = K.changed.size in omega (arith, size)) c.args.over known.found K
    (λ stands spares p is. ap (λ (k : HandPair). stands k.0) (some_hand (c.in_ok-old.ensures.back told small others A) c.in-Some.is is) ∙ spares) (c.link.ensures.written told))

pub returns-in-None-clause-made : goal.returns-in-None-clause-made
returns-in-None-clause-made g c told small flag others A known =
    let f = g.S.Space.form c.args.s.now in
    let a = g.S.Space.image c.args.s.now in
    let b = g.S.Space.image c.link.new.s in
    let key = c.args.key.now in
    let value = c.args.value.now in
    let h = c.args.hand in
    let offs = h.0 ∷ without_place c.args.over (chain_of f a (home f key)) in
    let K = subst (λ out. KeySet f a b key (Some value) offs (h ∷ []) (h ∷ others) (with_hand out others)) c.in-None.is (c.in_ok-old.ensures.set told small others A known.found) in
    set_made f a b key (stores flag value) (Stage.Taken c.args.over h) (Next.Step Stage.Ending) others (Some value) offs (h ∷ []) (h ∷ others) K
    (chain_number f a b (home f key) offs (h ∷ []) (h ∷ others) others A (home_below f key A.some) (A.held.0, tt) K.changed) tt refl refl refl tt tt
    (linked_walks f a b key (Some value) (Stage.Taken c.args.over h) (Next.Step Stage.Ending) h others others A refl refl (let size = K.changed.size in omega (arith, size)) c.args.over known.found K
    (λ stands spares p is. no_hand (c.in_ok-old.ensures.back told small others A) c.in-None.is is) (c.link.ensures.written told))

-- the link failed
pub returns-in_err-old-clause-stopped : goal.returns-in_err-old-clause-stopped
returns-in_err-old-clause-stopped g c = on_err c.from_residual.result (λ told small others A found.
    stopped_link (g.S.Space.form c.args.s.now) (g.S.Space.image c.args.s.now) (g.S.Space.image c.link.new.s) c.args.key.now c.args.value.now c.args.over c.args.hand others A found
    (c.in_err-old.ensures.stopped told small others A found) (c.link.ensures.written told))
