-- The record to which the link leads.
use Rattle.std.proofs.Common.{◌≡◌, refl, ap, subst}
use Rattle.std.specs.Prelude.{IfSome}
use Rattle.tdb_words.specs.Word.{word}
use Rattle.tdb_words.specs.Record.{rec_at}
use Rattle.tdb_space.specs.Form.{free_head}
use Rattle.tdb_space.specs.Record.{Whole}
use Rattle.tdb_free.specs.Walk.{IsLed}
use Rattle.tdb_free.proofs.Led.{found_whole, found_there}
use Rattle.tdb_free.proofs.walk.read_spot.Goals as goal

pub returns-in_default-2-clause-found : goal.returns-in_default-2-clause-found
returns-in_default-2-clause-found g c told offs list sought led =
    let f = g.S.Space.form c.args.s.now in
    let img = g.S.Space.image c.args.s.now in
    let here = c.in-Some.here in
    let never : Whole f img here.at → ⊥ = λ whole. c.in_default-2.not-Some (rec_at f.order img here.at) (c.in_ok-rec.ensures.there told whole) in
    found_whole f img offs (word f.order img free_head) sought here list (subst (λ k. IsLed f img offs sought k) c.in-Some.is led) never

pub returns-clause-found : goal.returns-clause-found
returns-clause-found g c told offs list sought led =
    let f = g.S.Space.form c.args.s.now in
    let img = g.S.Space.image c.args.s.now in
    let here = c.in-Some.here in
    let rec = c.in-Some-2.rec in
    let read : rec ≡ rec_at f.order img here.at = subst (λ found. IfSome found (λ r. r ≡ rec_at f.order img here.at)) c.in-Some-2.is (c.in_ok-rec.ensures.header told) in
    found_there f img offs sought here (record { off = here.at; before = here.before; next = rec.next; rec_len = rec.rec_len }) (subst (λ k. IsLed f img offs sought k) c.in-Some.is led) refl refl
    (ap (λ q. q.next) read) (ap (λ q. q.rec_len) read)
