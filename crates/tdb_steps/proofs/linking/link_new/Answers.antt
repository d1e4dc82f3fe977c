-- The new record is linked beside the old one or over it.
use Rattle.std.proofs.Common.{◌≡◌, ◌<◌, [], ◌∷◌, List, ℕ, sym, subst}
use Rattle.std.specs.Prelude.{◌^◌, IsTrue, IfOk, OnErr}
use Rattle.std.proofs.lemmas.Result.{IfOk-weaker}
use Rattle.tdb_space.specs.Extents.{HandPair}
use Rattle.tdb_space.specs.Accepted.{AcceptWith}
use Rattle.tdb_chain.specs.Place.{HoldsKey, IsFound}
use Rattle.tdb_chain.specs.Changed.{hand_at}
use Rattle.tdb_steps.specs.Asked.{stores}
use Rattle.tdb_steps.specs.Turns.{Makes, TurnStopped, LinkedOver, LinksRightly}
use Rattle.tdb_steps.specs.declared.flag.Flag.{Flag}
use Rattle.tdb_steps.specs.declared.stage.Stage.TheVariants as Stage
use Rattle.tdb_steps.specs.declared.stage.Next.TheVariants as Next
use Rattle.tdb_steps.proofs.Made.{not_both, none_rightly, over_rightly, beside_rightly}
use Rattle.tdb_steps.proofs.linking.link_new.Goals as goal

pub returns-then-has-clause-made : goal.returns-then-has-clause-made
returns-then-has-clause-made g c =
    subst (λ found. IfOk c.link_beside.result (λ next. IsTrue g.S.Space.tells → g.S.Space.size c.args.s.now < 2 ^ 32 → (flag : Flag)
    → Makes (g.S.Space.form c.args.s.now) (g.S.Space.image c.args.s.now) (g.S.Space.image c.link_beside.new.s) c.args.key.now (stores flag c.args.value.now) (Stage.Taken found c.args.hand) next))
    (sym c.in-Some.is) c.link_beside.ensures.made

pub returns-then-has-clause-rightly : goal.returns-then-has-clause-rightly
returns-then-has-clause-rightly g c =
    let f = g.S.Space.form c.args.s.now in
    let a = g.S.Space.image c.args.s.now in
    IfOk-weaker c.link_beside.result
    (λ next. IsTrue g.S.Space.tells → g.S.Space.size c.args.s.now < 2 ^ 32 → (key : List ℕ) (others : List HandPair) → AcceptWith f a (c.args.hand ∷ others) → HoldsKey f a key c.in-Some.old → next ≡ Next.Step Stage.Ending)
    (λ next. IsTrue g.S.Space.tells → g.S.Space.size c.args.s.now < 2 ^ 32 → LinksRightly f a c.args.hand c.args.stood_on.now c.args.found next)
    (λ next ended told small. beside_rightly f a c.args.hand c.args.stood_on.now c.args.found next c.in-Some.old c.in-Some.is (c.has.ensures.0 c.if-has.true) (ended told small))
    c.link_beside.ensures.ending

pub returns-else-has-clause-made : goal.returns-else-has-clause-made
returns-else-has-clause-made g c =
    subst (λ found. IfOk c.link_over.result (λ next. IsTrue g.S.Space.tells → g.S.Space.size c.args.s.now < 2 ^ 32 → (flag : Flag)
    → Makes (g.S.Space.form c.args.s.now) (g.S.Space.image c.args.s.now) (g.S.Space.image c.link_over.new.s) c.args.key.now (stores flag c.args.value.now) (Stage.Taken found c.args.hand) next))
    (sym c.in-Some.is) c.link_over.ensures.made

pub returns-else-has-clause-rightly : goal.returns-else-has-clause-rightly
returns-else-has-clause-rightly g c =
    let f = g.S.Space.form c.args.s.now in
    let a = g.S.Space.image c.args.s.now in
    IfOk-weaker c.link_over.result
    (λ next. IsTrue g.S.Space.tells → g.S.Space.size c.args.s.now < 2 ^ 32 → (others : List HandPair) → AcceptWith f a (c.args.hand ∷ others) → next ≡ Next.Step (Stage.Changed (hand_at c.in-Some.old)))
    (λ next. IsTrue g.S.Space.tells → g.S.Space.size c.args.s.now < 2 ^ 32 → LinksRightly f a c.args.hand c.args.stood_on.now c.args.found next)
    (λ next linked told small. over_rightly f a c.args.hand c.args.stood_on.now c.args.found next c.in-Some.old c.in-Some.is (λ stands. not_both c.has.result (c.has.ensures.1 stands) c.if-has.false) (linked told small))
    c.link_over.ensures.rightly

pub returns-in-None-clause-rightly : goal.returns-in-None-clause-rightly
returns-in-None-clause-rightly g c =
    let f = g.S.Space.form c.args.s.now in
    let a = g.S.Space.image c.args.s.now in
    IfOk-weaker c.link_over-in-None.result
    (λ next. IsTrue g.S.Space.tells → g.S.Space.size c.args.s.now < 2 ^ 32 → LinkedOver f a c.args.hand c.args.found next)
    (λ next. IsTrue g.S.Space.tells → g.S.Space.size c.args.s.now < 2 ^ 32 → LinksRightly f a c.args.hand c.args.stood_on.now c.args.found next)
    (λ next linked told small. none_rightly f a c.args.hand c.args.stood_on.now c.args.found next c.in-None.is (linked told small))
    c.link_over-in-None.ensures.rightly

-- the link failed, beside the old one
pub returns-then-has-clause-stopped : goal.returns-then-has-clause-stopped
returns-then-has-clause-stopped g c =
    subst (λ found. OnErr c.link_beside.result (IsTrue g.S.Space.tells → g.S.Space.size c.args.s.now < 2 ^ 32 → (others : List HandPair) → AcceptWith (g.S.Space.form c.args.s.now) (g.S.Space.image c.args.s.now) (c.args.hand ∷ others)
    → IsFound (g.S.Space.form c.args.s.now) (g.S.Space.image c.args.s.now) c.args.key.now found → TurnStopped (g.S.Space.form c.args.s.now) (g.S.Space.image c.args.s.now) (g.S.Space.image c.link_beside.new.s) c.args.key.now (c.args.hand ∷ [])))
    (sym c.in-Some.is) c.link_beside.ensures.stopped

-- the link failed, over it
pub returns-else-has-clause-stopped : goal.returns-else-has-clause-stopped
returns-else-has-clause-stopped g c =
    subst (λ found. OnErr c.link_over.result (IsTrue g.S.Space.tells → g.S.Space.size c.args.s.now < 2 ^ 32 → (others : List HandPair) → AcceptWith (g.S.Space.form c.args.s.now) (g.S.Space.image c.args.s.now) (c.args.hand ∷ others)
    → IsFound (g.S.Space.form c.args.s.now) (g.S.Space.image c.args.s.now) c.args.key.now found → TurnStopped (g.S.Space.form c.args.s.now) (g.S.Space.image c.args.s.now) (g.S.Space.image c.link_over.new.s) c.args.key.now (c.args.hand ∷ [])))
    (sym c.in-Some.is) c.link_over.ensures.stopped
