-- The key was found and its record freed; or it wasn't there; or a call failed.
use Rattle.std.proofs.Common.{[], None, arith, subst}
use Rattle.tdb_space.specs.Accepted.{AcceptWith}
use Rattle.tdb_chain.specs.Place.{IsFound, HoldsKey}
use Rattle.tdb_free.proofs.Results.{on_err}
use Rattle.tdb_edit.specs.Edited.{KeyChanged, BrokenOff}
use Rattle.tdb_edit.proofs.Freeing.{looked, is_there}
use Rattle.tdb_edit.proofs.deleting.delete.Goals as goal

pub returns-in_default-clause-deleted : goal.returns-in_default-clause-deleted
returns-in_default-clause-deleted g c told small A =
    (subst (IsFound (g.S.Space.form c.args.s.now) (g.S.Space.image c.args.s.now) c.args.key.now) c.in_default.is (c.in_ok-place.ensures.found told [] A), c.in_ok-place.ensures.looked.image)

pub returns-in_err-free-clause-broken : goal.returns-in_err-free-clause-broken
returns-in_err-free-clause-broken g c = on_err c.from_residual-in_err-free.result (λ told small A.
    let f = g.S.Space.form c.args.s.now in
    let a = g.S.Space.image c.args.s.now in
    let key = c.args.key.now in
    let p = c.in-Some.place in
    let at : HoldsKey f a key p = subst (IsFound f a key) c.in-Some.is (c.in_ok-place.ensures.found told [] A) in
    looked (λ x img. AcceptWith x img [] → HoldsKey x img key p → BrokenOff x img (g.S.Space.image c.free.new.s) key None) f (g.S.Space.form c.find.new.s) a (g.S.Space.image c.find.new.s)
    c.in_ok-place.ensures.looked.form c.in_ok-place.ensures.looked.image
    (λ accepted there. c.in_err-free.ensures.broken told (omega (arith, c.in_ok-place.ensures.looked.size, small)) accepted key there) A at)

pub returns-clause-deleted : goal.returns-clause-deleted
returns-clause-deleted g c told small A =
    let f = g.S.Space.form c.args.s.now in
    let a = g.S.Space.image c.args.s.now in
    let key = c.args.key.now in
    let p = c.in-Some.place in
    let at : HoldsKey f a key p = subst (IsFound f a key) c.in-Some.is (c.in_ok-place.ensures.found told [] A) in (
      is_there f a key p at,
      looked (λ x img. AcceptWith x img [] → HoldsKey x img key p → KeyChanged x img (g.S.Space.image c.free.new.s) key None) f (g.S.Space.form c.find.new.s) a (g.S.Space.image c.find.new.s)
          c.in_ok-place.ensures.looked.form c.in_ok-place.ensures.looked.image
          (λ accepted there. c.in_ok-free.ensures.freed told (omega (arith, c.in_ok-place.ensures.looked.size, small)) accepted key there) A at,
    )
