-- Each turn of a delete is that of its stage.
use Rattle.std.proofs.Common.{◌<◌, ℕ, List, Some, sym, subst, ap, ◌∙◌}
use Rattle.std.specs.Prelude.{◌^◌, IsTrue, IfOk, OnErr}
use Rattle.std.proofs.lemmas.Result.{IfOk-weaker, on_err_weaker}
use Rattle.tdb_steps.specs.Asked.{Asked, deletes}
use Rattle.tdb_steps.specs.Turns.{Makes, Stops, Finds, MarksRightly, DeletesRightly}
use Rattle.tdb_steps.specs.declared.stage.Stage.TheVariants as Stage
use Rattle.tdb_steps.proofs.Starving.{give_starves}
use Rattle.tdb_steps.proofs.deleting.delete_turn.Goals as goal

pub returns-in-Chained-clause-made : goal.returns-in-Chained-clause-made
returns-in-Chained-clause-made g c =
    let f = g.S.Space.form c.args.s.now in
    let a = g.S.Space.image c.args.s.now in
    let b = g.S.Space.image c.look_to_delete.new.s in
    let key = c.args.key.now in
    subst (λ then. IfOk c.look_to_delete.result (λ next. IsTrue g.S.Space.tells → g.S.Space.size c.args.s.now < 2 ^ 32 → Makes f a b key deletes then next)) (sym c.in-Chained.is)
    (IfOk-weaker c.look_to_delete.result (λ next. IsTrue g.S.Space.tells → Makes f a b key deletes Stage.Chained next)
    (λ next. IsTrue g.S.Space.tells → g.S.Space.size c.args.s.now < 2 ^ 32 → Makes f a b key deletes Stage.Chained next)
    (λ next made told small. made told) c.look_to_delete.ensures.made)

pub returns-in-Chained-clause-rightly : goal.returns-in-Chained-clause-rightly
returns-in-Chained-clause-rightly g c =
    let f = g.S.Space.form c.args.s.now in
    let a = g.S.Space.image c.args.s.now in
    let b = g.S.Space.image c.look_to_delete.new.s in
    subst (λ then. IfOk c.look_to_delete.result (λ next. IsTrue g.S.Space.tells → g.S.Space.size c.args.s.now < 2 ^ 32 → DeletesRightly f a b c.args.key.now c.args.stood_on.now then next)) (sym c.in-Chained.is)
    (IfOk-weaker c.look_to_delete.result (λ next. IsTrue g.S.Space.tells → Finds f a c.args.key.now (λ place. MarksRightly c.args.stood_on.now place next))
    (λ next. IsTrue g.S.Space.tells → g.S.Space.size c.args.s.now < 2 ^ 32 → Finds f a c.args.key.now (λ place. MarksRightly c.args.stood_on.now place next))
    (λ next rightly told small. rightly told) c.look_to_delete.ensures.rightly)

pub returns-in-Some-clause-made : goal.returns-in-Some-clause-made
returns-in-Some-clause-made g c =
    let f = g.S.Space.form c.args.s.now in
    let a = g.S.Space.image c.args.s.now in
    let b = g.S.Space.image c.unlink_found.new.s in
    let key = c.args.key.now in
    subst (λ then. IfOk c.unlink_found.result (λ next. IsTrue g.S.Space.tells → g.S.Space.size c.args.s.now < 2 ^ 32 → Makes f a b key deletes then next)) (sym (c.in-Listed.is ∙ ap Stage.Listed c.in-Some.is))
    (IfOk-weaker c.unlink_found.result (λ next. IsTrue g.S.Space.tells → (key : List ℕ) → Makes f a b key deletes (Stage.Listed (Some c.in-Some.place)) next)
    (λ next. IsTrue g.S.Space.tells → g.S.Space.size c.args.s.now < 2 ^ 32 → Makes f a b key deletes (Stage.Listed (Some c.in-Some.place)) next)
    (λ next made told small. made told key) c.unlink_found.ensures.made)

pub returns-in-Changed-clause-made : goal.returns-in-Changed-clause-made
returns-in-Changed-clause-made g c =
    let f = g.S.Space.form c.args.s.now in
    let a = g.S.Space.image c.args.s.now in
    let b = g.S.Space.image c.give_back.new.s in
    let key = c.args.key.now in
    subst (λ then. IfOk c.give_back.result (λ next. IsTrue g.S.Space.tells → g.S.Space.size c.args.s.now < 2 ^ 32 → Makes f a b key deletes then next)) (sym c.in-Changed.is)
    (IfOk-weaker c.give_back.result (λ next. IsTrue g.S.Space.tells → g.S.Space.size c.args.s.now < 2 ^ 32 → (key : List ℕ) (asked : Asked) → Makes f a b key asked (Stage.Changed c.in-Changed.hand) next)
    (λ next. IsTrue g.S.Space.tells → g.S.Space.size c.args.s.now < 2 ^ 32 → Makes f a b key deletes (Stage.Changed c.in-Changed.hand) next)
    (λ next made told small. made told small key deletes) c.give_back.ensures.made)

pub returns-in-Changed-clause-rightly : goal.returns-in-Changed-clause-rightly
returns-in-Changed-clause-rightly g c =
    let f = g.S.Space.form c.args.s.now in
    let a = g.S.Space.image c.args.s.now in
    let b = g.S.Space.image c.give_back.new.s in
    subst (λ then. IfOk c.give_back.result (λ next. IsTrue g.S.Space.tells → g.S.Space.size c.args.s.now < 2 ^ 32 → DeletesRightly f a b c.args.key.now c.args.stood_on.now then next))
    (sym c.in-Changed.is) c.give_back.ensures.rightly

pub returns-in-Chained-clause-stopped : goal.returns-in-Chained-clause-stopped
returns-in-Chained-clause-stopped g c =
    let f = g.S.Space.form c.args.s.now in
    let a = g.S.Space.image c.args.s.now in
    let b = g.S.Space.image c.look_to_delete.new.s in
    subst (λ then. OnErr c.look_to_delete.result (IsTrue g.S.Space.tells → g.S.Space.size c.args.s.now < 2 ^ 32 → Stops f a b c.args.key.now then)) (sym c.in-Chained.is)
    (on_err_weaker c.look_to_delete.result (λ stopped told small asked others A known. stopped told others A) c.look_to_delete.ensures.stopped)

pub returns-in-Some-clause-stopped : goal.returns-in-Some-clause-stopped
returns-in-Some-clause-stopped g c =
    let f = g.S.Space.form c.args.s.now in
    let a = g.S.Space.image c.args.s.now in
    let b = g.S.Space.image c.unlink_found.new.s in
    subst (λ then. OnErr c.unlink_found.result (IsTrue g.S.Space.tells → g.S.Space.size c.args.s.now < 2 ^ 32 → Stops f a b c.args.key.now then)) (sym (c.in-Listed.is ∙ ap Stage.Listed c.in-Some.is))
    (on_err_weaker c.unlink_found.result (λ stopped told small asked others A known. stopped told c.args.key.now others A known.found) c.unlink_found.ensures.stopped)

pub returns-in-Changed-clause-stopped : goal.returns-in-Changed-clause-stopped
returns-in-Changed-clause-stopped g c =
    let f = g.S.Space.form c.args.s.now in
    let a = g.S.Space.image c.args.s.now in
    let b = g.S.Space.image c.give_back.new.s in
    subst (λ then. OnErr c.give_back.result (IsTrue g.S.Space.tells → g.S.Space.size c.args.s.now < 2 ^ 32 → Stops f a b c.args.key.now then)) (sym c.in-Changed.is)
    (on_err_weaker c.give_back.result (λ stopped told small asked others A known. stopped told small c.args.key.now others A) c.give_back.ensures.stopped)

-- a turn that gives a record back wants no memory
pub returns-in-Changed-clause-starves : goal.returns-in-Changed-clause-starves
returns-in-Changed-clause-starves g c = IfOk-weaker c.give_back.result _ _ (give_starves (g.S.Space.spare c.args.s.now)) c.give_back.ensures.ending
