-- The turn that wipes is that of its stage.
use Rattle.std.proofs.Common.{◌<◌, List, ◌++◌, sym, ap, ◌∙◌, subst}
use Rattle.std.specs.Prelude.{◌^◌, IsTrue, IfOk, OnErr}
use Rattle.std.proofs.lemmas.Result.{on_err_weaker}
use Rattle.tdb_space.specs.Accepted.{AcceptWith}
use Rattle.tdb_space.specs.Extents.{HandPair}
use Rattle.tdb_steps.specs.Stages.{hands_in, MayBeOut}
use Rattle.tdb_steps.specs.Wiped.{WipeStopped}
use Rattle.tdb_steps.specs.Turns.{WipeMakes}
use Rattle.tdb_steps.specs.declared.stage.Stage.TheVariants as Stage
use Rattle.tdb_steps.proofs.wipe_turns.wipe_turn.Goals as goal

pub returns-in-FreeList-clause-made : goal.returns-in-FreeList-clause-made
returns-in-FreeList-clause-made g c =
    subst (λ then. IfOk c.wipe_all.result (λ next. IsTrue g.S.Space.tells → g.S.Space.size c.args.s.now < 2 ^ 32 → WipeMakes (g.S.Space.form c.args.s.now) (g.S.Space.image c.args.s.now) (g.S.Space.image c.wipe_all.new.s) then next))
    (sym (c.in-Wiping.is ∙ ap Stage.Wiping c.in-FreeList.is)) c.wipe_all.ensures.made

pub returns-in-FreeList-clause-stopped : goal.returns-in-FreeList-clause-stopped
returns-in-FreeList-clause-stopped g c =
    let f = g.S.Space.form c.args.s.now in
    let a = g.S.Space.image c.args.s.now in
    let b = g.S.Space.image c.wipe_all.new.s in
    subst (λ then. OnErr c.wipe_all.result (IsTrue g.S.Space.tells → (others : List HandPair) → MayBeOut then others → AcceptWith f a (hands_in then ++ others) → WipeStopped f a b))
    (sym (c.in-Wiping.is ∙ ap Stage.Wiping c.in-FreeList.is))
    (on_err_weaker c.wipe_all.result (λ stopped told others none A. stopped told (subst (AcceptWith f a) none A)) c.wipe_all.ensures.stopped)
