-- The record was taken and linked, and the old one given back, where there was one; or it wasn't taken.
use Rattle.std.proofs.Common.{◌≡◌, [], ◌+◌, ◌<◌, ◌^◌, length, subst, ◌∙◌, arith}
use Rattle.std.proofs.lemmas.Result.{err_from_is_err_and}
use Rattle.tdb_free.proofs.Results.{on_err}
use Rattle.tdb_free.proofs.ChangesList.{take_changes}
use Rattle.tdb_space.proofs.Stays.Changes.{changes_weaker}
use Rattle.tdb_space.specs.Pairs.{home}
use Rattle.tdb_space.specs.Chain.{free_of}
use Rattle.tdb_space.specs.NewRecord.{rec_len_for}
use Rattle.tdb_free.specs.Growth.{RefusedRightly}
use Rattle.tdb_free.proofs.Traded.{can_take}
use Rattle.tdb_edit.proofs.Putting.{given_only, no_room, stays_short, put_links, put_new, put_over}
use Rattle.tdb_edit.proofs.storing.put.Goals as goal

pub returns-in_err-hand-clause-full : goal.returns-in_err-hand-clause-full
returns-in_err-hand-clause-full g c =
    let p = err_from_is_err_and c.from_residual.result c.from_residual.ensures.1 in
    let f = g.S.Space.form c.args.s.now in
    let a = g.S.Space.image c.args.s.now in
    let b = g.S.Space.image c.take.new.s in
    let e = c.in_err-hand.field-0.0 in
    rw (p.1, p.2)
    (λ told small A.
    let short : length a < 2 ^ 32 = omega (arith, g.met.S.Space.told_size c.args.s.now told, small) in
    no_room f a b (rec_len_for (length c.args.key.now) (length c.args.value.now)) c.args.limit e
    (subst (λ n. RefusedRightly f a b (free_of f a) n c.args.limit e) c.rec_len_for.ensures (c.in_err-hand.ensures.full told (free_of f a) (can_take f a [] A short))))

pub returns-in_ok-give-clause-put : goal.returns-in_ok-give-clause-put
returns-in_ok-give-clause-put g c told small A found =
    let after : g.S.Space.size c.take.new.s < 2 ^ 32 = stays_short (g.S.Space.size c.args.s.now) (24 + c.rec_len_for.result) c.args.limit (g.S.Space.size c.take.new.s) small c.requires.limit c.take.ensures.size in
    put_over (g.S.Space.form c.args.s.now) (g.S.Space.form c.take.new.s) (g.S.Space.image c.args.s.now) (g.S.Space.image c.take.new.s) (g.S.Space.image c.link.new.s) c.args.key.now c.args.value.now c.in_ok-hand.hand c.args.over c.in_ok-old.field-0 _
    A c.take.ensures.wrote.form (c.in_ok-hand.ensures.kept told small [] A) found (c.in_ok-old.ensures.set told after)
    (g.S.Space.form c.link.new.s) (g.S.Space.image c.give.new.s) c.in-Some.old (c.link.ensures.wrote.form ∙ c.take.ensures.wrote.form) c.in-Some.is
    (omega (arith, c.link.ensures.size, after, g.met.S.Space.told_size c.link.new.s told)) (c.give.ensures.only told) (c.in_ok-give.ensures.kept told (omega (arith, c.link.ensures.size, after)))

pub returns-in_default-clause-put : goal.returns-in_default-clause-put
returns-in_default-clause-put g c told small A found =
    let after : g.S.Space.size c.take.new.s < 2 ^ 32 = stays_short (g.S.Space.size c.args.s.now) (24 + c.rec_len_for.result) c.args.limit (g.S.Space.size c.take.new.s) small c.requires.limit c.take.ensures.size in
    put_new (g.S.Space.form c.args.s.now) (g.S.Space.form c.take.new.s) (g.S.Space.image c.args.s.now) (g.S.Space.image c.take.new.s) (g.S.Space.image c.link.new.s) c.args.key.now c.args.value.now c.in_ok-hand.hand c.args.over c.in_ok-old.field-0 _
    A c.take.ensures.wrote.form (c.in_ok-hand.ensures.kept told small [] A) found (c.in_ok-old.ensures.set told after) c.in_default.is

-- the record couldn't be taken, or linked, or the old one couldn't be given back
pub returns-in_err-hand-clause-broken : goal.returns-in_err-hand-clause-broken
returns-in_err-hand-clause-broken g c = on_err c.from_residual.result (λ told small A found.
    let f = g.S.Space.form c.args.s.now in
    let a = g.S.Space.image c.args.s.now in
    let b = g.S.Space.image c.take.new.s in
    changes_weaker f a b (λ k. ⊥) (λ k. k ≡ home f c.args.key.now) (λ k never. absurd never)
    (take_changes f a b [] A (omega (arith, g.met.S.Space.told_size c.args.s.now told, small)) (c.take.ensures.only told)))

pub returns-in_err-old-clause-broken : goal.returns-in_err-old-clause-broken
returns-in_err-old-clause-broken g c = on_err c.from_residual-in_err-old.result (λ told small A found.
    let after : g.S.Space.size c.take.new.s < 2 ^ 32 = stays_short (g.S.Space.size c.args.s.now) (24 + c.rec_len_for.result) c.args.limit (g.S.Space.size c.take.new.s) small c.requires.limit c.take.ensures.size in
    put_links (g.S.Space.form c.args.s.now) (g.S.Space.form c.take.new.s) (g.S.Space.image c.args.s.now) (g.S.Space.image c.take.new.s) c.args.key.now c.in_ok-hand.hand c.args.over
    A c.take.ensures.wrote.form (c.in_ok-hand.ensures.kept told small [] A) found (g.S.Space.image c.link.new.s) (λ hands B F. (c.in_err-old.ensures.stopped told after hands B F).only))

pub returns-in_err-give-clause-broken : goal.returns-in_err-give-clause-broken
returns-in_err-give-clause-broken g c = on_err c.from_residual-in_err-give.result (λ told small A found.
    let after : g.S.Space.size c.take.new.s < 2 ^ 32 = stays_short (g.S.Space.size c.args.s.now) (24 + c.rec_len_for.result) c.args.limit (g.S.Space.size c.take.new.s) small c.requires.limit c.take.ensures.size in
    given_only (g.S.Space.form c.args.s.now) (g.S.Space.form c.take.new.s) (g.S.Space.image c.args.s.now) (g.S.Space.image c.take.new.s) (g.S.Space.image c.link.new.s) c.args.key.now c.args.value.now c.in_ok-hand.hand c.args.over c.in_ok-old.field-0 _
    A c.take.ensures.wrote.form (c.in_ok-hand.ensures.kept told small [] A) found (c.in_ok-old.ensures.set told after)
    (g.S.Space.form c.link.new.s) (g.S.Space.image c.give.new.s) c.in-Some.old (c.link.ensures.wrote.form ∙ c.take.ensures.wrote.form) c.in-Some.is
    (omega (arith, c.link.ensures.size, after, g.met.S.Space.told_size c.link.new.s told)) (c.give.ensures.only told))
