-- The append goes on as a store of the joined value, or has stored it where the record stands.
use Rattle.std.proofs.Common.{◌≡◌, ℕ, inr, List, [], Some, length, refl, ◌∙◌, ap, subst}
use Rattle.std.specs.Prelude.{IsTrue, IfSome}
use Rattle.tdb_space.specs.Pairs.{map_of}
use Rattle.tdb_space.specs.Extents.{HandPair}
use Rattle.tdb_space.specs.Accepted.{AcceptWith}
use Rattle.tdb_chain.specs.Place.{IsFound, HoldsKey}
use Rattle.tdb_steps.specs.Asked.{stores, joined}
use Rattle.tdb_steps.specs.Stages.{IsKnown}
use Rattle.tdb_steps.specs.Turns.{TurnMade, TurnStopped, UpdatesRightly}
use Rattle.tdb_steps.specs.declared.flag.Flag.{Flag}
use Rattle.tdb_steps.specs.declared.flag.Flag.TheVariants.{Replace}
use Rattle.tdb_steps.specs.declared.stage.Stage.TheVariants as Stage
use Rattle.tdb_steps.proofs.Made.{moved, as_append}
use Rattle.tdb_space.proofs.Results.{on_err}
use Rattle.tdb_steps.proofs.Stopped.{stopped_nothing}
use Rattle.tdb_steps.proofs.appending.look_to_append.Goals as goal

pub returns-clause-made : goal.returns-clause-made
returns-clause-made g c told others A known =
    let f = g.S.Space.form c.args.s.now in
    let a = g.S.Space.image c.args.s.now in
    let k = g.S.Space.form c.find.new.s in
    let v = g.S.Space.image c.find.new.s in
    let m = g.S.Space.form c.joined_value.new.s in
    let w = g.S.Space.image c.joined_value.new.s in
    let b = g.S.Space.image c.update_found.new.s in
    let key = c.args.key.now in
    let more = c.args.more.now in
    let bytes = c.as_slice.result.now in
    let place = c.in-Some.place in
    let form = c.joined_value.ensures.looked.form ∙ c.find.ensures.looked.form in
    let image = c.joined_value.ensures.looked.image ∙ c.find.ensures.looked.image in
    let holds = subst (IsFound f a key) c.in-Some.is (c.in_ok-place.ensures.found told others A) in
    let same : bytes ≡ joined (map_of f a key) more = c.as_slice.ensures ∙ moved (λ x img. (key : List ℕ) → HoldsKey x img key place → c.in-Some-2.bytes ≡ joined (map_of x img key) more) f k a v c.find.ensures.looked.form c.find.ensures.looked.image (subst (λ made. IfSome made (λ bytes. IsTrue g.S.Space.tells → (key : List ℕ) → HoldsKey k v key place → bytes ≡ joined (map_of k v key) more)) c.in-Some-2.is c.in_ok-bytes.ensures.joined told) key holds in
    as_append f a b key more bytes Stage.Chained c.in_ok-next.next others (λ before now. same)
    (moved (λ x img. (key : List ℕ) (flag : Flag) (others : List HandPair) → AcceptWith x img others → IsKnown x img key (stores flag bytes) (Some place) → TurnMade x img b key (stores flag bytes) Stage.Chained c.in_ok-next.next others) f m a w form image (c.in_ok-next.ensures.made told) key Replace others A (record { found = holds; granted = refl }))

pub returns-clause-rightly : goal.returns-clause-rightly
returns-clause-rightly g c told others A =
    let f = g.S.Space.form c.args.s.now in
    let a = g.S.Space.image c.args.s.now in
    let b = g.S.Space.image c.update_found.new.s in
    let image = c.joined_value.ensures.looked.image ∙ c.find.ensures.looked.image in (
      Some c.in-Some.place,
      subst (IsFound f a c.args.key.now) c.in-Some.is (c.in_ok-place.ensures.found told others A),
      subst (λ i. UpdatesRightly i b (length c.in-Some-2.bytes) (Some c.in-Some.place) c.in_ok-next.next) image
          (subst (λ n. UpdatesRightly (g.S.Space.image c.joined_value.new.s) b n (Some c.in-Some.place) c.in_ok-next.next) (ap length c.as_slice.ensures) c.in_ok-next.ensures.rightly),
    )

pub returns-clause-joined : goal.returns-clause-joined
returns-clause-joined g c told hands A =
    let f = g.S.Space.form c.args.s.now in
    let a = g.S.Space.image c.args.s.now in
    let k = g.S.Space.form c.find.new.s in
    let v = g.S.Space.image c.find.new.s in
    let key = c.args.key.now in
    let more = c.args.more.now in
    let place = c.in-Some.place in
    let holds = subst (IsFound f a key) c.in-Some.is (c.in_ok-place.ensures.found told hands A) in
    inr (moved (λ x img. (key : List ℕ) → HoldsKey x img key place → c.in-Some-2.bytes ≡ joined (map_of x img key) more) f k a v c.find.ensures.looked.form c.find.ensures.looked.image (subst (λ made. IfSome made (λ bytes. IsTrue g.S.Space.tells → (key : List ℕ) → HoldsKey k v key place → bytes ≡ joined (map_of k v key) more)) c.in-Some-2.is c.in_ok-bytes.ensures.joined told) key holds)

-- a look failed
pub returns-in_err-place-clause-stopped : goal.returns-in_err-place-clause-stopped
returns-in_err-place-clause-stopped g c = on_err c.from_residual.result (λ told others A.
    stopped_nothing (g.S.Space.form c.args.s.now) (g.S.Space.image c.args.s.now) (g.S.Space.image c.find.new.s) c.args.key.now [] others A c.find.ensures.looked.image)

pub returns-in_err-bytes-clause-stopped : goal.returns-in_err-bytes-clause-stopped
returns-in_err-bytes-clause-stopped g c = on_err c.from_residual-in_err-bytes.result (λ told others A.
    stopped_nothing (g.S.Space.form c.args.s.now) (g.S.Space.image c.args.s.now) (g.S.Space.image c.joined_value.new.s) c.args.key.now [] others A (c.joined_value.ensures.looked.image ∙ c.find.ensures.looked.image))

-- the update failed
pub returns-in_err-next-clause-stopped : goal.returns-in_err-next-clause-stopped
returns-in_err-next-clause-stopped g c = on_err c.from_residual-in_err-next.result (λ told others A.
    (let f = g.S.Space.form c.args.s.now in
    let a = g.S.Space.image c.args.s.now in
    let b = g.S.Space.image c.update_found.new.s in
    let key = c.args.key.now in
    let place = c.in-Some.place in
    moved (λ x img. (key : List ℕ) (others : List HandPair) → AcceptWith x img others → HoldsKey x img key place → TurnStopped x img b key []) f (g.S.Space.form c.joined_value.new.s) a (g.S.Space.image c.joined_value.new.s)
    (c.joined_value.ensures.looked.form ∙ c.find.ensures.looked.form) (c.joined_value.ensures.looked.image ∙ c.find.ensures.looked.image) (c.in_err-next.ensures.stopped told) key others A
    (subst (IsFound f a key) c.in-Some.is (c.in_ok-place.ensures.found told others A))))
