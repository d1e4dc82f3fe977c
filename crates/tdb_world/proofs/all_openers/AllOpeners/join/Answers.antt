-- An opener that joins does so in each state of the world.
use Rattle.std.proofs.Common.{◌≡◌, ◌++◌, ◌∷◌, [], false, ◌<◌, ◌+◌, length, if◌then◌else◌, Some, ◌∙◌, ap, subst, arith, refl}
use Rattle.tdb_world.specs.Whole.{Whole}
use Rattle.tdb_world.proofs.Arrivals.{fits_joined, join_leads, joined_world}
use Rattle.tdb_world.proofs.all_openers.AllOpeners.join.Goals as goal
use Rattle.tdb_world.specs.contracts.all_openers.AllOpeners.{the_view}

pub returns-in-Some-clause-blocked : goal.returns-in-Some-clause-blocked
returns-in-Some-clause-blocked c = λ owner e.
    let few = c.requires.fits.2.openers.few in
    let same : c.in-Some.owner ≡ owner = cc in
    (omega (arith, few, c.joined-count.ensures), c.in-Some.ensures.some owner (ap Some same))

module _ (c : goal.In-Ok) where
  pushed : c.push.new.self.items ≡ c.self.inside.starts.items ++ (false ∷ [])
  pushed = c.push.ensures.items ∙ ap (λ z. if z then c.self.inside.starts.items ++ (false ∷ []) else c.self.inside.starts.items) c.if-is_err.ensures.negation

  arrives : the_view (record { openers = c.join.new.self; starts = c.push.new.self; aside = c.self.inside.aside; number = c.self.inside.number; stale = c.self.inside.stale }) ≡ joined_world c.args.self.now
  arrives = (λ i. record (the_view c.self.inside) { openers = c.in-Ok.ensures.joined i; starts = pushed i }) ∙ ap joined_world c.self.view_is

  few : length c.args.self.now.openers.openers < 1000
  few = subst (λ (w : Whole). length w.openers.openers < 1000) c.self.view_is c.in-Ok.ensures.few

  number : c.in-Ok.who ≡ length c.args.self.now.openers.openers + 1
  number = c.in-Ok.ensures.number ∙ ap (λ (w : Whole). length w.openers.openers + 1) c.self.view_is

pub returns-in-Ok-clause-fits : goal.returns-in-Ok-clause-fits
returns-in-Ok-clause-fits c = fits_joined c.args.self.now _ (arrives c) (few c)

pub returns-in-Ok-clause-joins : goal.returns-in-Ok-clause-joins
returns-in-Ok-clause-joins c =
    join_leads c.args.self.now _ (arrives c) (few c) c.in-Ok.who (number c) c.requires.fits.0 c.requires.fits.1 c.requires.fits.2 (c.in_default.ensures.none refl)
