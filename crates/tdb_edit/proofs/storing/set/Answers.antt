-- The record of the key was changed where it stands; or a new one was put.
use Rattle.std.proofs.Common.{[], None, Some, length, subst, arith}
use Rattle.std.proofs.lemmas.Result.{IfErr-weaker, on_err_weaker, on_ok_weaker}
use Rattle.tdb_free.proofs.Results.{on_err}
use Rattle.tdb_space.specs.NewRecord.{rec_len_for}
use Rattle.tdb_space.specs.Accepted.{AcceptWith}
use Rattle.tdb_chain.specs.Place.{IsFound, HoldsKey}
use Rattle.tdb_edit.specs.Edited.{KeyChanged, OnlyKeyChanges}
use Rattle.tdb_edit.specs.Stored.{FoundNoRoom}
use Rattle.tdb_edit.proofs.Freeing.{looked}
use Rattle.tdb_edit.proofs.Setting.{still_only, updated}
use Rattle.tdb_edit.proofs.storing.set.Goals as goal

pub returns-in_default-clause-set : goal.returns-in_default-clause-set
returns-in_default-clause-set g c =
    let f = g.S.Space.form c.args.s.now in
    let a = g.S.Space.image c.args.s.now in
    let key = c.args.key.now in
    let l = c.in_ok-place.ensures.looked in
    on_ok_weaker c.put.result
    (λ put told small A.
    looked (λ x img. AcceptWith x img [] → IsFound x img key None → KeyChanged x img (g.S.Space.image c.put.new.s) key (Some c.args.value.now)) f (g.S.Space.form c.find.new.s) a (g.S.Space.image c.find.new.s) l.form l.image
    (put told (omega (arith, l.size, small))) A (subst (IsFound f a key) c.in_default.is (c.in_ok-place.ensures.found told [] A)))
    c.put.ensures.put

pub returns-in_default-clause-full : goal.returns-in_default-clause-full
returns-in_default-clause-full g c =
    let f = g.S.Space.form c.args.s.now in
    let a = g.S.Space.image c.args.s.now in
    let n = rec_len_for (length c.args.key.now) (length c.args.value.now) in
    let l = c.in_ok-place.ensures.looked in
    IfErr-weaker c.put.result _ _
    (λ e full told small A.
    looked (λ x img. AcceptWith x img [] → FoundNoRoom x img n c.args.limit e) f (g.S.Space.form c.find.new.s) a (g.S.Space.image c.find.new.s) l.form l.image
    (full told (omega (arith, l.size, small))) A)
    c.put.ensures.full

pub returns-then-not-fits-clause-set : goal.returns-then-not-fits-clause-set
returns-then-not-fits-clause-set g c =
    let f = g.S.Space.form c.args.s.now in
    let a = g.S.Space.image c.args.s.now in
    let key = c.args.key.now in
    let l = c.in_ok-place.ensures.looked in
    on_ok_weaker c.put-then-not-fits.result
    (λ put told small A.
    looked (λ x img. AcceptWith x img [] → IsFound x img key (Some c.in-Some.place) → KeyChanged x img (g.S.Space.image c.put-then-not-fits.new.s) key (Some c.args.value.now)) f (g.S.Space.form c.find.new.s) a (g.S.Space.image c.find.new.s) l.form l.image
    (put told (omega (arith, l.size, small))) A (subst (IsFound f a key) c.in-Some.is (c.in_ok-place.ensures.found told [] A)))
    c.put-then-not-fits.ensures.put

pub returns-then-not-fits-clause-full : goal.returns-then-not-fits-clause-full
returns-then-not-fits-clause-full g c =
    let f = g.S.Space.form c.args.s.now in
    let a = g.S.Space.image c.args.s.now in
    let n = rec_len_for (length c.args.key.now) (length c.args.value.now) in
    let l = c.in_ok-place.ensures.looked in
    IfErr-weaker c.put-then-not-fits.result _ _
    (λ e full told small A.
    looked (λ x img. AcceptWith x img [] → FoundNoRoom x img n c.args.limit e) f (g.S.Space.form c.find.new.s) a (g.S.Space.image c.find.new.s) l.form l.image
    (full told (omega (arith, l.size, small))) A)
    c.put-then-not-fits.ensures.full

pub returns-clause-set : goal.returns-clause-set
returns-clause-set g c told small A =
    let f = g.S.Space.form c.args.s.now in
    let a = g.S.Space.image c.args.s.now in
    let key = c.args.key.now in
    let l = c.in_ok-place.ensures.looked in
    let at : HoldsKey f a key c.in-Some.place = subst (IsFound f a key) c.in-Some.is (c.in_ok-place.ensures.found told [] A) in
    looked (λ x img. AcceptWith x img [] → HoldsKey x img key c.in-Some.place → KeyChanged x img (g.S.Space.image c.update_in_place.new.s) key (Some c.args.value.now)) f (g.S.Space.form c.find.new.s) a (g.S.Space.image c.find.new.s) l.form l.image
    (λ accepted there. updated (g.S.Space.form c.find.new.s) (g.S.Space.image c.find.new.s) (g.S.Space.image c.update_in_place.new.s) key c.args.value.now _ (c.in_ok-update_in_place.ensures.set told [] key accepted there)) A at

-- where a call failed, no other chain has changed
pub returns-in_err-place-clause-broken : goal.returns-in_err-place-clause-broken
returns-in_err-place-clause-broken g c = on_err c.from_residual.result (λ told small A. still_only (g.S.Space.form c.args.s.now) (g.S.Space.image c.args.s.now) (g.S.Space.image c.find.new.s) c.args.key.now c.find.ensures.looked.image)

pub returns-in_default-clause-broken : goal.returns-in_default-clause-broken
returns-in_default-clause-broken g c =
    let f = g.S.Space.form c.args.s.now in
    let a = g.S.Space.image c.args.s.now in
    let key = c.args.key.now in
    let l = c.in_ok-place.ensures.looked in
    on_err_weaker c.put.result
    (λ broken told small A.
    looked (λ x img. AcceptWith x img [] → IsFound x img key None → OnlyKeyChanges x img (g.S.Space.image c.put.new.s) key) f (g.S.Space.form c.find.new.s) a (g.S.Space.image c.find.new.s) l.form l.image
    (broken told (omega (arith, l.size, small))) A (subst (IsFound f a key) c.in_default.is (c.in_ok-place.ensures.found told [] A)))
    c.put.ensures.broken

pub returns-then-not-fits-clause-broken : goal.returns-then-not-fits-clause-broken
returns-then-not-fits-clause-broken g c =
    let f = g.S.Space.form c.args.s.now in
    let a = g.S.Space.image c.args.s.now in
    let key = c.args.key.now in
    let l = c.in_ok-place.ensures.looked in
    on_err_weaker c.put-then-not-fits.result
    (λ broken told small A.
    looked (λ x img. AcceptWith x img [] → IsFound x img key (Some c.in-Some.place) → OnlyKeyChanges x img (g.S.Space.image c.put-then-not-fits.new.s) key) f (g.S.Space.form c.find.new.s) a (g.S.Space.image c.find.new.s) l.form l.image
    (broken told (omega (arith, l.size, small))) A (subst (IsFound f a key) c.in-Some.is (c.in_ok-place.ensures.found told [] A)))
    c.put-then-not-fits.ensures.broken

pub returns-in_err-update_in_place-clause-broken : goal.returns-in_err-update_in_place-clause-broken
returns-in_err-update_in_place-clause-broken g c = on_err c.from_residual-in_err-update_in_place.result (λ told small A.
    let f = g.S.Space.form c.args.s.now in
    let a = g.S.Space.image c.args.s.now in
    let key = c.args.key.now in
    let l = c.in_ok-place.ensures.looked in
    let at : HoldsKey f a key c.in-Some.place = subst (IsFound f a key) c.in-Some.is (c.in_ok-place.ensures.found told [] A) in
    looked (λ x img. AcceptWith x img [] → HoldsKey x img key c.in-Some.place → OnlyKeyChanges x img (g.S.Space.image c.update_in_place.new.s) key) f (g.S.Space.form c.find.new.s) a (g.S.Space.image c.find.new.s) l.form l.image
    (λ accepted there. (c.in_err-update_in_place.ensures.stopped_kept told [] key accepted there).changed.only) A at)
