-- The text of the pair that was read is held, and handed on where there is enough of it.
use Rattle.std.proofs.Common.{◌≡◌, ◌++◌, ◌∷◌, [], refl, sym, ◌∙◌, subst}
use Rattle.std.proofs.lemmas.Bool.{MatchBool-at_true, MatchBool-at_false}
use Rattle.tdb_dump.specs.Listing.{entry_text}
use Rattle.tdb_free.proofs.Results.{on_err}
use Rattle.tdb_space.specs.Pairs.{order_of}
use Rattle.tdb_backup.specs.Traversal.{Gave, pair_at_hand}
use Rattle.tdb_backup.specs.Dump.{text_of, HandedOn, WroteFront}
use Rattle.tdb_backup.proofs.Dumped.{none_next, one_next}
use Rattle.tdb_backup.proofs.dumping.list_next.Goals as goal

pub returns-then-not-branch-clause-listed : goal.returns-then-not-branch-clause-listed
returns-then-not-branch-clause-listed g c told heard hands A given h =
    let f = g.S.Space.form c.args.s.now in
    let img = g.S.Space.image c.args.s.now in
    let u = c.advance.new.self in
    ((MatchBool-at_false (Gave f img (given ++ pair_at_hand u ∷ []) u) (Gave f img given u × (order_of f img ≡ given)) c.if-not-branch.true (c.in_ok-advance.ensures.gave told hands A given h)).1, refl, refl)

pub returns-clause-listed : goal.returns-clause-listed
returns-clause-listed g c told heard hands A given h =
    let f = g.S.Space.form c.args.s.now in
    let img = g.S.Space.image c.args.s.now in
    let u = c.advance.new.self in
    let text : c.push.new.text.items ≡ c.args.text.now.items ++ text_of c.args.listing (pair_at_hand u) = c.in_ok-push.ensures ∙ (λ j. c.args.text.now.items ++ entry_text c.args.listing (c.key.ensures j) (c.value.ensures j)) in (
      MatchBool-at_true (Gave f img (given ++ pair_at_hand u ∷ []) u) (Gave f img given u × (order_of f img ≡ given)) c.if-not-branch.false (c.in_ok-advance.ensures.gave told hands A given h),
      subst (λ held. HandedOn (g.K.Sink.written c.args.out.now) held (g.K.Sink.written c.hand_on.new.out) c.hand_on.new.text.items) text (c.in_ok-hand_on.ensures.done heard),
    )

pub returns-in_err-advance-clause-front : goal.returns-in_err-advance-clause-front
returns-in_err-advance-clause-front g c = on_err c.from_residual.result (λ told heard hands A given h.
    none_next c.args.listing (g.S.Space.form c.args.s.now) (g.S.Space.image c.args.s.now) (g.K.Sink.written c.args.out.now) c.args.text.now.items _ given c.args.traversal.now h refl)

pub returns-in_err-push-clause-front : goal.returns-in_err-push-clause-front
returns-in_err-push-clause-front g c = on_err c.from_residual-in_err-push.result (λ told heard hands A given h.
    none_next c.args.listing (g.S.Space.form c.args.s.now) (g.S.Space.image c.args.s.now) (g.K.Sink.written c.args.out.now) c.args.text.now.items _ given c.args.traversal.now h refl)

pub returns-in_err-hand_on-clause-front : goal.returns-in_err-hand_on-clause-front
returns-in_err-hand_on-clause-front g c = on_err c.from_residual-in_err-hand_on.result (λ told heard hands A given h.
    (let f = g.S.Space.form c.args.s.now in
    let img = g.S.Space.image c.args.s.now in
    let u = c.advance.new.self in
    let before = g.K.Sink.written c.args.out.now in
    let now = g.K.Sink.written c.hand_on.new.out in
    let text : c.push.new.text.items ≡ c.args.text.now.items ++ text_of c.args.listing (pair_at_hand u) = c.in_ok-push.ensures ∙ (λ j. c.args.text.now.items ++ entry_text c.args.listing (c.key.ensures j) (c.value.ensures j)) in
    let next = MatchBool-at_true (Gave f img (given ++ pair_at_hand u ∷ []) u) (Gave f img given u × (order_of f img ≡ given)) c.if-not-branch.false (c.in_ok-advance.ensures.gave told hands A given h) in
    one_next c.args.listing f img before c.args.text.now.items now given (pair_at_hand u) u next (subst (λ held. WroteFront before held now) text (c.in_err-hand_on.ensures.failed heard))))
