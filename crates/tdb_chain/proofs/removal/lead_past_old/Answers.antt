-- The record of the place, where there is one, is led past.
use Rattle.std.proofs.Common.{◌≡◌, ◌<◌, ◌^◌, ◌⊎◌, [], ◌∷◌, sym, subst, inl, inr, arith, rules}
use Rattle.std.specs.Prelude.{IfSome}
use Rattle.tdb_space.specs.Stays.{OnlyIn}
use Rattle.tdb_space.proofs.Results.{on_err}
use Rattle.tdb_chain.specs.Place.{StandsWithin}
use Rattle.tdb_chain.specs.Changed.{TookOut, word_before}
use Rattle.tdb_chain.proofs.Unlinked.{led_past_place, word_only}
use Rattle.tdb_chain.proofs.removal.lead_past_old.Goals as goal

pub returns-in_ok-lead_past-in-Some-clause-took : goal.returns-in_ok-lead_past-in-Some-clause-took
returns-in_ok-lead_past-in-Some-clause-took g c told =
    let f = g.S.Space.form c.args.s.now in
    let a = g.S.Space.image c.args.s.now in
    let b = g.S.Space.image c.lead_past.new.s in
    let p = c.in-Some.place in
    let within : StandsWithin p (g.S.Space.size c.args.s.now) = subst (λ o. IfSome o (λ q. StandsWithin q (g.S.Space.size c.args.s.now))) c.in-Some.is c.requires.within in
    subst (TookOut f a b) (sym c.in-Some.is)
    (λ at. led_past_place f a b p at (search rules) (omega (arith, within.led, g.met.S.Space.told_size c.args.s.now told)) (c.in_ok-lead_past-in-Some.ensures.past told))

pub returns-in_ok-lead_past-in-Some-clause-written : goal.returns-in_ok-lead_past-in-Some-clause-written
returns-in_ok-lead_past-in-Some-clause-written g c told =
    let a = g.S.Space.image c.args.s.now in
    let b = g.S.Space.image c.lead_past.new.s in
    let p = c.in-Some.place in
    subst (λ o. OnlyIn (word_before o) a b) (sym c.in-Some.is)
    (word_only (g.S.Space.form c.args.s.now).order a b p.before p.rec.next ((p.before, 4) ∷ []) (λ i none. omega (arith, none)) (c.lead_past.ensures.written told))

pub returns-in_err-lead_past-in-Some-clause-written : goal.returns-in_err-lead_past-in-Some-clause-written
returns-in_err-lead_past-in-Some-clause-written g c told =
    let a = g.S.Space.image c.args.s.now in
    let b = g.S.Space.image c.lead_past.new.s in
    let p = c.in-Some.place in
    subst (λ o. OnlyIn (word_before o) a b) (sym c.in-Some.is)
    (word_only (g.S.Space.form c.args.s.now).order a b p.before p.rec.next ((p.before, 4) ∷ []) (λ i none. omega (arith, none)) (c.lead_past.ensures.written told))

-- the word leads to the record, or past it
pub returns-in_err-lead_past-in-Some-clause-stopped : goal.returns-in_err-lead_past-in-Some-clause-stopped
returns-in_err-lead_past-in-Some-clause-stopped g c = on_err c.from_residual.result (λ told.
    (let f = g.S.Space.form c.args.s.now in
    let a = g.S.Space.image c.args.s.now in
    let b = g.S.Space.image c.lead_past.new.s in
    let p = c.in-Some.place in
    let fits : p.rec.next < 2 ^ 32 = search rules in
    let within : StandsWithin p (g.S.Space.size c.args.s.now) = subst (λ o. IfSome o (λ q. StandsWithin q (g.S.Space.size c.args.s.now))) c.in-Some.is c.requires.within in
    subst (λ o. (b ≡ a) ⊎ TookOut f a b o) (sym c.in-Some.is)
    (elim (c.lead_past.ensures.written told) [
      | inl same ↦ inl same
      | inr put ↦ inr (λ at. led_past_place f a b p at fits (omega (arith, within.led, g.met.S.Space.told_size c.args.s.now told)) put)
    ])))
