-- Each turn of a store is that of its stage.
use Rattle.std.proofs.Common.{◌<◌, ◌+◌, ℕ, List, length, sym, subst}
use Rattle.std.specs.Prelude.{◌^◌, IsTrue, IfOk, OnErr}
use Rattle.std.proofs.lemmas.Result.{IfOk-weaker, on_err_weaker}
use Rattle.tdb_space.specs.NewRecord.{rec_len_for}
use Rattle.tdb_steps.specs.Asked.{Asked, stores}
use Rattle.tdb_steps.specs.Turns.{Makes, Stops, Finds, UpdatesRightly, StoresRightly}
use Rattle.tdb_steps.specs.declared.flag.Flag.{Flag}
use Rattle.tdb_steps.specs.declared.stage.Stage.TheVariants as Stage
use Rattle.tdb_steps.proofs.Starving.{give_starves, link_starves}
use Rattle.tdb_steps.specs.Order.{LinksOn}
use Rattle.tdb_steps.proofs.storing.store_turn.Goals as goal

pub returns-in-Chained-clause-made : goal.returns-in-Chained-clause-made
returns-in-Chained-clause-made g c =
    let f = g.S.Space.form c.args.s.now in
    let a = g.S.Space.image c.args.s.now in
    let b = g.S.Space.image c.look_to_store.new.s in
    let key = c.args.key.now in
    subst (λ then. IfOk c.look_to_store.result (λ next. IsTrue g.S.Space.tells → g.S.Space.size c.args.s.now < 2 ^ 32 → Makes f a b key (stores c.args.flag c.args.value.now) then next)) (sym c.in-Chained.is)
    (IfOk-weaker c.look_to_store.result (λ next. IsTrue g.S.Space.tells → Makes f a b key (stores c.args.flag c.args.value.now) Stage.Chained next)
    (λ next. IsTrue g.S.Space.tells → g.S.Space.size c.args.s.now < 2 ^ 32 → Makes f a b key (stores c.args.flag c.args.value.now) Stage.Chained next)
    (λ next made told small. made told) c.look_to_store.ensures.made)

pub returns-in-Chained-clause-rightly : goal.returns-in-Chained-clause-rightly
returns-in-Chained-clause-rightly g c =
    let f = g.S.Space.form c.args.s.now in
    let a = g.S.Space.image c.args.s.now in
    let b = g.S.Space.image c.look_to_store.new.s in
    subst (λ then. IfOk c.look_to_store.result (λ next. IsTrue g.S.Space.tells → g.S.Space.size c.args.s.now < 2 ^ 32 → StoresRightly f a b c.args.key.now (length c.args.value.now) (rec_len_for (length c.args.key.now) (length c.args.value.now)) c.args.limit c.args.stood_on.now then next)) (sym c.in-Chained.is)
    (IfOk-weaker c.look_to_store.result (λ next. IsTrue g.S.Space.tells → Finds f a c.args.key.now (λ place. UpdatesRightly a b (length c.args.value.now) place next))
    (λ next. IsTrue g.S.Space.tells → g.S.Space.size c.args.s.now < 2 ^ 32 → Finds f a c.args.key.now (λ place. UpdatesRightly a b (length c.args.value.now) place next))
    (λ next rightly told small. rightly told) c.look_to_store.ensures.rightly)

pub returns-in-Chained-clause-leads : goal.returns-in-Chained-clause-leads
returns-in-Chained-clause-leads g c = c.look_to_store.ensures.leads (length c.args.key.now + length c.args.value.now)

pub returns-in-Listed-clause-made : goal.returns-in-Listed-clause-made
returns-in-Listed-clause-made g c =
    let f = g.S.Space.form c.args.s.now in
    let a = g.S.Space.image c.args.s.now in
    let b = g.S.Space.image c.take_new.new.s in
    let key = c.args.key.now in
    subst (λ then. IfOk c.take_new.result (λ next. IsTrue g.S.Space.tells → g.S.Space.size c.args.s.now < 2 ^ 32 → Makes f a b key (stores c.args.flag c.args.value.now) then next)) (sym c.in-Listed.is)
    (IfOk-weaker c.take_new.result (λ next. IsTrue g.S.Space.tells → g.S.Space.size c.args.s.now < 2 ^ 32 → (key : List ℕ) (asked : Asked) → Makes f a b key asked (Stage.Listed c.in-Listed.found) next)
    (λ next. IsTrue g.S.Space.tells → g.S.Space.size c.args.s.now < 2 ^ 32 → Makes f a b key (stores c.args.flag c.args.value.now) (Stage.Listed c.in-Listed.found) next)
    (λ next made told small. made told small key (stores c.args.flag c.args.value.now)) c.take_new.ensures.made)

pub returns-in-Taken-clause-made : goal.returns-in-Taken-clause-made
returns-in-Taken-clause-made g c =
    let f = g.S.Space.form c.args.s.now in
    let a = g.S.Space.image c.args.s.now in
    let b = g.S.Space.image c.link_new.new.s in
    let key = c.args.key.now in
    subst (λ then. IfOk c.link_new.result (λ next. IsTrue g.S.Space.tells → g.S.Space.size c.args.s.now < 2 ^ 32 → Makes f a b key (stores c.args.flag c.args.value.now) then next)) (sym c.in-Taken.is)
    (IfOk-weaker c.link_new.result (λ next. IsTrue g.S.Space.tells → g.S.Space.size c.args.s.now < 2 ^ 32 → (flag : Flag) → Makes f a b key (stores flag c.args.value.now) (Stage.Taken c.in-Taken.found c.in-Taken.hand) next)
    (λ next. IsTrue g.S.Space.tells → g.S.Space.size c.args.s.now < 2 ^ 32 → Makes f a b key (stores c.args.flag c.args.value.now) (Stage.Taken c.in-Taken.found c.in-Taken.hand) next)
    (λ next made told small. made told small c.args.flag) c.link_new.ensures.made)

pub returns-in-Changed-clause-made : goal.returns-in-Changed-clause-made
returns-in-Changed-clause-made g c =
    let f = g.S.Space.form c.args.s.now in
    let a = g.S.Space.image c.args.s.now in
    let b = g.S.Space.image c.give_back.new.s in
    let key = c.args.key.now in
    subst (λ then. IfOk c.give_back.result (λ next. IsTrue g.S.Space.tells → g.S.Space.size c.args.s.now < 2 ^ 32 → Makes f a b key (stores c.args.flag c.args.value.now) then next)) (sym c.in-Changed.is)
    (IfOk-weaker c.give_back.result (λ next. IsTrue g.S.Space.tells → g.S.Space.size c.args.s.now < 2 ^ 32 → (key : List ℕ) (asked : Asked) → Makes f a b key asked (Stage.Changed c.in-Changed.hand) next)
    (λ next. IsTrue g.S.Space.tells → g.S.Space.size c.args.s.now < 2 ^ 32 → Makes f a b key (stores c.args.flag c.args.value.now) (Stage.Changed c.in-Changed.hand) next)
    (λ next made told small. made told small key (stores c.args.flag c.args.value.now)) c.give_back.ensures.made)

pub returns-in-Changed-clause-rightly : goal.returns-in-Changed-clause-rightly
returns-in-Changed-clause-rightly g c =
    let f = g.S.Space.form c.args.s.now in
    let a = g.S.Space.image c.args.s.now in
    let b = g.S.Space.image c.give_back.new.s in
    subst (λ then. IfOk c.give_back.result (λ next. IsTrue g.S.Space.tells → g.S.Space.size c.args.s.now < 2 ^ 32
    → StoresRightly f a b c.args.key.now (length c.args.value.now) (rec_len_for (length c.args.key.now) (length c.args.value.now)) c.args.limit c.args.stood_on.now then next))
    (sym c.in-Changed.is) c.give_back.ensures.rightly

pub returns-in-Chained-clause-stopped : goal.returns-in-Chained-clause-stopped
returns-in-Chained-clause-stopped g c =
    let f = g.S.Space.form c.args.s.now in
    let a = g.S.Space.image c.args.s.now in
    let b = g.S.Space.image c.look_to_store.new.s in
    subst (λ then. OnErr c.look_to_store.result (IsTrue g.S.Space.tells → g.S.Space.size c.args.s.now < 2 ^ 32 → Stops f a b c.args.key.now then)) (sym c.in-Chained.is)
    (on_err_weaker c.look_to_store.result (λ stopped told small asked others A known. stopped told others A) c.look_to_store.ensures.stopped)

pub returns-in-Listed-clause-stopped : goal.returns-in-Listed-clause-stopped
returns-in-Listed-clause-stopped g c =
    let f = g.S.Space.form c.args.s.now in
    let a = g.S.Space.image c.args.s.now in
    let b = g.S.Space.image c.take_new.new.s in
    subst (λ then. OnErr c.take_new.result (IsTrue g.S.Space.tells → g.S.Space.size c.args.s.now < 2 ^ 32 → Stops f a b c.args.key.now then)) (sym c.in-Listed.is)
    (on_err_weaker c.take_new.result (λ stopped told small asked others A known. stopped told small c.args.key.now others A) c.take_new.ensures.stopped)

pub returns-in-Taken-clause-stopped : goal.returns-in-Taken-clause-stopped
returns-in-Taken-clause-stopped g c =
    let f = g.S.Space.form c.args.s.now in
    let a = g.S.Space.image c.args.s.now in
    let b = g.S.Space.image c.link_new.new.s in
    subst (λ then. OnErr c.link_new.result (IsTrue g.S.Space.tells → g.S.Space.size c.args.s.now < 2 ^ 32 → Stops f a b c.args.key.now then)) (sym c.in-Taken.is)
    (on_err_weaker c.link_new.result (λ stopped told small asked others A known. stopped told small others A known.found) c.link_new.ensures.stopped)

pub returns-in-Changed-clause-stopped : goal.returns-in-Changed-clause-stopped
returns-in-Changed-clause-stopped g c =
    let f = g.S.Space.form c.args.s.now in
    let a = g.S.Space.image c.args.s.now in
    let b = g.S.Space.image c.give_back.new.s in
    subst (λ then. OnErr c.give_back.result (IsTrue g.S.Space.tells → g.S.Space.size c.args.s.now < 2 ^ 32 → Stops f a b c.args.key.now then)) (sym c.in-Changed.is)
    (on_err_weaker c.give_back.result (λ stopped told small asked others A known. stopped told small c.args.key.now others A) c.give_back.ensures.stopped)

-- a turn that gives a record back, or links one, wants no memory
pub returns-in-Changed-clause-starves : goal.returns-in-Changed-clause-starves
returns-in-Changed-clause-starves g c = IfOk-weaker c.give_back.result _ _ (give_starves (g.S.Space.spare c.args.s.now)) c.give_back.ensures.ending

pub returns-in-Taken-clause-starves : goal.returns-in-Taken-clause-starves
returns-in-Taken-clause-starves g c = IfOk-weaker c.link_new.result LinksOn _ (link_starves (g.S.Space.spare c.args.s.now)) c.link_new.ensures.order
