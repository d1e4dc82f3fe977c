-- The next record is the first one ahead.
use Rattle.std.proofs.Common.{◌≡◌, refl, subst, arith}
use Rattle.std.specs.Prelude.{IfSome}
use Rattle.tdb_words.specs.Record.{rec_at}
use Rattle.tdb_space.specs.Standing.{Stands}
use Rattle.tdb_rewrite.proofs.Walking.{none_left, none_there, found_next}
use Rattle.tdb_rewrite.proofs.walk.ListWalk.next.Goals as goal

pub returns-then-self-eq0-clause-gives : goal.returns-then-self-eq0-clause-gives
returns-then-self-eq0-clause-gives g c told offs h =
    none_left (g.S.Space.form c.args.s.now) (g.S.Space.image c.args.s.now) offs c.args.self.now h c.if-self-eq0.true

pub returns-in_default-clause-gives : goal.returns-in_default-clause-gives
returns-in_default-clause-gives g c told offs h =
    let f = g.S.Space.form c.args.s.now in
    let img = g.S.Space.image c.args.s.now in
    let at = c.args.self.now.at in
    none_there f img offs c.args.self.now h (λ whole. c.in_default.not-Some (rec_at f.order img at) (c.in_ok-rec.ensures.there told whole))

pub returns-clause-header : goal.returns-clause-header
returns-clause-header g c told =
    let f = g.S.Space.form c.args.s.now in
    let img = g.S.Space.image c.args.s.now in
    subst (λ found. IfSome found (λ r. r ≡ rec_at f.order img c.args.self.now.at)) c.in-Some.is (c.in_ok-rec.ensures.header told)

pub returns-clause-gives : goal.returns-clause-gives
returns-clause-gives g c told offs h =
    let f = g.S.Space.form c.args.s.now in
    let img = g.S.Space.image c.args.s.now in
    let at = c.args.self.now.at in
    let stands = subst (λ found. IfSome found (λ r. Stands f (g.S.Space.size c.args.s.now) at r.rec_len)) c.in-Some.is c.in_ok-rec.ensures.stands in
    let read : c.in-Some.rec ≡ rec_at f.order img at = subst (λ found. IfSome found (λ r. r ≡ rec_at f.order img at)) c.in-Some.is (c.in_ok-rec.ensures.header told) in
    found_next f img offs c.args.self.now h c.in-Some.rec _ (λ zero. absurd (omega (arith, zero, stands.above))) read refl refl
