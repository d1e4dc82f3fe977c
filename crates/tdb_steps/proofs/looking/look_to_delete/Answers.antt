-- The record that was found is marked as dead, or the delete goes on with it.
use Rattle.std.proofs.Common.{ℕ, List, [], Some, refl, subst, arith}
use Rattle.std.specs.Prelude.{IsTrue}
use Rattle.std.proofs.lemmas.Result.{IfOk-weaker, on_err_weaker}
use Rattle.tdb_space.specs.Extents.{HandPair}
use Rattle.tdb_space.specs.Accepted.{AcceptWith}
use Rattle.tdb_chain.specs.Place.{IsFound}
use Rattle.tdb_steps.specs.Asked.{deletes}
use Rattle.tdb_steps.specs.Stages.{IsKnown, IsEnd}
use Rattle.tdb_steps.specs.Turns.{Makes, TurnMade, TurnStopped, MarksRightly, Finds}
use Rattle.tdb_steps.specs.declared.stage.Stage.TheVariants as Stage
use Rattle.tdb_steps.specs.declared.stage.Next.TheVariants as Next
use Rattle.tdb_steps.proofs.Made.{moved, same_made, delete_known, marked_rightly}
use Rattle.tdb_space.proofs.Results.{on_err}
use Rattle.tdb_chain.specs.Place.{HoldsKey}
use Rattle.tdb_steps.proofs.Stopped.{stopped_nothing}
use Rattle.tdb_chain.proofs.Rising.{rose_then}
use Rattle.tdb_steps.proofs.looking.look_to_delete.Goals as goal

pub returns-then-has-clause-made : goal.returns-then-has-clause-made
returns-then-has-clause-made g c =
    let f = g.S.Space.form c.args.s.now in
    let a = g.S.Space.image c.args.s.now in
    let k = g.S.Space.form c.find.new.s in
    let v = g.S.Space.image c.find.new.s in
    let b = g.S.Space.image c.mark_found.new.s in
    let key = c.args.key.now in
    let place = c.in-Some.place in
    IfOk-weaker c.mark_found.result
    (λ next. IsTrue g.S.Space.tells → (key : List ℕ) (others : List HandPair) → AcceptWith k v others → IsKnown k v key deletes (Some place) → TurnMade k v b key deletes Stage.Chained next others)
    (λ next. IsTrue g.S.Space.tells → Makes f a b key deletes Stage.Chained next)
    (λ next made told others A _.
    moved (λ x img. (key : List ℕ) (others : List HandPair) → AcceptWith x img others → IsKnown x img key deletes (Some place) → TurnMade x img b key deletes Stage.Chained next others) f k a v
    c.find.ensures.looked.form c.find.ensures.looked.image (made told) key others A (delete_known f a key place (subst (IsFound f a key) c.in-Some.is (c.in_ok-place.ensures.found told others A))))
    c.mark_found.ensures.made

pub returns-then-has-clause-rightly : goal.returns-then-has-clause-rightly
returns-then-has-clause-rightly g c =
    let f = g.S.Space.form c.args.s.now in
    let a = g.S.Space.image c.args.s.now in
    let key = c.args.key.now in
    let place = c.in-Some.place in
    IfOk-weaker c.mark_found.result IsEnd (λ next. IsTrue g.S.Space.tells → Finds f a key (λ found. MarksRightly c.args.stood_on.now found next))
    (λ next ended told others A. (Some place, subst (IsFound f a key) c.in-Some.is (c.in_ok-place.ensures.found told others A), marked_rightly c.args.stood_on.now place next ended (c.has.ensures.0 c.if-has.true)))
    c.mark_found.ensures.done

pub returns-clause-made : goal.returns-clause-made
returns-clause-made g c told others A _ =
    let f = g.S.Space.form c.args.s.now in
    let a = g.S.Space.image c.args.s.now in
    let key = c.args.key.now in
    let place = c.in-Some.place in
    same_made f a (g.S.Space.image c.find.new.s) key deletes Stage.Chained (Next.Step (Stage.Looked (Some place))) others c.find.ensures.looked.image A refl
    (delete_known f a key place (subst (IsFound f a key) c.in-Some.is (c.in_ok-place.ensures.found told others A))) tt

-- the look failed
pub returns-in_err-place-clause-stopped : goal.returns-in_err-place-clause-stopped
returns-in_err-place-clause-stopped g c = on_err c.from_residual.result (λ told others A.
    stopped_nothing (g.S.Space.form c.args.s.now) (g.S.Space.image c.args.s.now) (g.S.Space.image c.find.new.s) c.args.key.now [] others A c.find.ensures.looked.image)

-- the change failed
pub returns-then-has-clause-stopped : goal.returns-then-has-clause-stopped
returns-then-has-clause-stopped g c =
    let f = g.S.Space.form c.args.s.now in
    let a = g.S.Space.image c.args.s.now in
    let b = g.S.Space.image c.mark_found.new.s in
    let key = c.args.key.now in
    let place = c.in-Some.place in
    on_err_weaker c.mark_found.result (λ stopped told others A.
    moved (λ x img. (key : List ℕ) (others : List HandPair) → AcceptWith x img others → HoldsKey x img key place → TurnStopped x img b key []) f (g.S.Space.form c.find.new.s) a (g.S.Space.image c.find.new.s)
    c.find.ensures.looked.form c.find.ensures.looked.image (stopped told) key others A (subst (IsFound f a key) c.in-Some.is (c.in_ok-place.ensures.found told others A)))
    c.mark_found.ensures.stopped

-- what was read
pub returns-then-has-clause-reads : goal.returns-then-has-clause-reads
returns-then-has-clause-reads g c told = rose_then _ _ _ _ _ _ (c.find.ensures.reads told) c.mark_found.ensures.bytes_read (omega arith)
