-- The word that was written leads past the record.
use Rattle.std.proofs.Common.{◌≡◌, ◌<◌, ◌^◌, IsTrue, ◌⊎◌, sym, subst, inl, inr, arith, rules}
use Rattle.std.specs.Prelude.{OnOk, OnErr, IfSome}
use Rattle.std.proofs.lemmas.Result.{on_ok_weaker, on_err_weaker}
use Rattle.tdb_space.proofs.Exchange.Overlaid.{led_past_written}
use Rattle.tdb_free.specs.Removal.{LeftOut}
use Rattle.tdb_free.specs.Search.{SpotWithin}
use Rattle.tdb_free.proofs.removal.take_out.Goals as goal

pub returns-in-Some-clause-left : goal.returns-in-Some-clause-left
returns-in-Some-clause-left g c =
    let f = g.S.Space.form c.args.s.now in
    let a = g.S.Space.image c.args.s.now in
    let b = g.S.Space.image c.write_link.new.s in
    let spot = c.in-Some.spot in
    let fits : spot.next < 2 ^ 32 = search rules in
    let within : SpotWithin spot f (g.S.Space.size c.args.s.now) = subst (λ o. IfSome o (λ p. SpotWithin p f (g.S.Space.size c.args.s.now))) c.in-Some.is c.requires.within in
    subst (λ o. OnOk c.write_link.result (IsTrue g.S.Space.tells → LeftOut f a b o)) (sym c.in-Some.is)
    (on_ok_weaker c.write_link.result (λ written told next.
    led_past_written f a b spot.before spot.off spot.next fits next (omega (arith, g.met.S.Space.told_size c.args.s.now told, within.led)) (written told)) c.write_link.ensures.image)

pub returns-in-Some-clause-stopped : goal.returns-in-Some-clause-stopped
returns-in-Some-clause-stopped g c =
    let f = g.S.Space.form c.args.s.now in
    let a = g.S.Space.image c.args.s.now in
    let b = g.S.Space.image c.write_link.new.s in
    let spot = c.in-Some.spot in
    let fits : spot.next < 2 ^ 32 = search rules in
    let within : SpotWithin spot f (g.S.Space.size c.args.s.now) = subst (λ o. IfSome o (λ p. SpotWithin p f (g.S.Space.size c.args.s.now))) c.in-Some.is c.requires.within in
    subst (λ o. OnErr c.write_link.result (IsTrue g.S.Space.tells → (b ≡ a) ⊎ LeftOut f a b o)) (sym c.in-Some.is)
    (on_err_weaker c.write_link.result (λ stopped told.
    elim (stopped told) [
      | inl same ↦ inl same
      | inr written ↦ inr (λ next. led_past_written f a b spot.before spot.off spot.next fits next (omega (arith, g.met.S.Space.told_size c.args.s.now told, within.led)) written)
    ]) c.write_link.ensures.stopped)
