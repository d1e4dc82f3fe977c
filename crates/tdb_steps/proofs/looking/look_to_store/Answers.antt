-- The store goes on with the record that was found, or has updated it.
use Rattle.std.proofs.Common.{ℕ, List, [], Some, length, subst, rules, arith}
use Rattle.std.specs.Prelude.{IsTrue}
use Rattle.std.proofs.lemmas.Result.{IfOk-weaker, on_err_weaker}
use Rattle.tdb_space.specs.Extents.{HandPair}
use Rattle.tdb_space.specs.Accepted.{AcceptWith}
use Rattle.tdb_chain.specs.Place.{IsFound}
use Rattle.tdb_steps.specs.Asked.{stores}
use Rattle.tdb_steps.specs.Stages.{IsKnown}
use Rattle.tdb_steps.specs.Turns.{Makes, TurnMade, TurnStopped, UpdatesRightly, Finds}
use Rattle.tdb_steps.specs.declared.flag.Flag.{Flag}
use Rattle.tdb_steps.specs.declared.stage.Stage.TheVariants as Stage
use Rattle.tdb_steps.proofs.Made.{moved, store_known}
use Rattle.tdb_space.proofs.Results.{on_err}
use Rattle.tdb_chain.specs.Place.{HoldsKey}
use Rattle.tdb_steps.proofs.Stopped.{stopped_nothing}
use Rattle.tdb_chain.proofs.Rising.{rose_then}
use Rattle.std.specs.Prelude.{IfOk}
use Rattle.tdb_steps.specs.Memory.{StarvesBounded}
use Rattle.tdb_steps.proofs.looking.look_to_store.Goals as goal

pub returns-clause-made : goal.returns-clause-made
returns-clause-made g c =
    let f = g.S.Space.form c.args.s.now in
    let a = g.S.Space.image c.args.s.now in
    let k = g.S.Space.form c.find.new.s in
    let v = g.S.Space.image c.find.new.s in
    let b = g.S.Space.image c.update_found.new.s in
    let key = c.args.key.now in
    let value = c.args.value.now in
    let place = c.in-Some.place in
    IfOk-weaker c.update_found.result
    (λ next. IsTrue g.S.Space.tells → (key : List ℕ) (flag : Flag) (others : List HandPair) → AcceptWith k v others → IsKnown k v key (stores flag value) (Some place) → TurnMade k v b key (stores flag value) Stage.Chained next others)
    (λ next. IsTrue g.S.Space.tells → Makes f a b key (stores c.args.flag value) Stage.Chained next)
    (λ next made told others A _.
    moved (λ x img. (key : List ℕ) (flag : Flag) (others : List HandPair) → AcceptWith x img others → IsKnown x img key (stores flag value) (Some place) → TurnMade x img b key (stores flag value) Stage.Chained next others) f k a v
    c.find.ensures.looked.form c.find.ensures.looked.image (made told) key c.args.flag others A (store_known f a key value c.args.flag place (search rules) (subst (IsFound f a key) c.in-Some.is (c.in_ok-place.ensures.found told others A))))
    c.update_found.ensures.made

pub returns-clause-rightly : goal.returns-clause-rightly
returns-clause-rightly g c =
    let f = g.S.Space.form c.args.s.now in
    let a = g.S.Space.image c.args.s.now in
    let key = c.args.key.now in
    let n = length c.args.value.now in
    let place = c.in-Some.place in
    let v = g.S.Space.image c.find.new.s in
    let b = g.S.Space.image c.update_found.new.s in
    IfOk-weaker c.update_found.result (UpdatesRightly v b n (Some place)) (λ next. IsTrue g.S.Space.tells → Finds f a key (λ found. UpdatesRightly a b n found next))
    (λ next rightly told others A.
    (Some place, subst (IsFound f a key) c.in-Some.is (c.in_ok-place.ensures.found told others A), subst (λ i. UpdatesRightly i b n (Some place) next) c.find.ensures.looked.image rightly))
    c.update_found.ensures.rightly

-- the look failed
pub returns-in_err-place-clause-stopped : goal.returns-in_err-place-clause-stopped
returns-in_err-place-clause-stopped g c = on_err c.from_residual.result (λ told others A.
    stopped_nothing (g.S.Space.form c.args.s.now) (g.S.Space.image c.args.s.now) (g.S.Space.image c.find.new.s) c.args.key.now [] others A c.find.ensures.looked.image)

-- the change failed
pub returns-clause-stopped : goal.returns-clause-stopped
returns-clause-stopped g c =
    let f = g.S.Space.form c.args.s.now in
    let a = g.S.Space.image c.args.s.now in
    let b = g.S.Space.image c.update_found.new.s in
    let key = c.args.key.now in
    let place = c.in-Some.place in
    on_err_weaker c.update_found.result (λ stopped told others A.
    moved (λ x img. (key : List ℕ) (others : List HandPair) → AcceptWith x img others → HoldsKey x img key place → TurnStopped x img b key []) f (g.S.Space.form c.find.new.s) a (g.S.Space.image c.find.new.s)
    c.find.ensures.looked.form c.find.ensures.looked.image (stopped told) key others A (subst (IsFound f a key) c.in-Some.is (c.in_ok-place.ensures.found told others A)))
    c.update_found.ensures.stopped

-- what was read
pub returns-clause-reads : goal.returns-clause-reads
returns-clause-reads g c told = rose_then _ _ _ _ _ _ (c.find.ensures.reads told) c.update_found.ensures.bytes_read (omega arith)

-- where it has no bound, no memory is wanting
pub returns-clause-starves : goal.returns-clause-starves
returns-clause-starves g c = subst (λ x. IfOk c.update_found.result (StarvesBounded x)) c.find.ensures.looked.spare c.update_found.ensures.starves
