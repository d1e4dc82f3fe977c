-- The one aside gives memory back, where there is one.
use Rattle.std.proofs.Common.{◌≡◌, Some, refl, sym, ◌∙◌, ap, subst}
use Rattle.tdb_world.specs.ButRoom.{AsideButRoom, WholeButRoom}
use Rattle.tdb_world.specs.Whole.{Whole}
use Rattle.tdb_world.proofs.ButRoom.{same_aside}
use Rattle.tdb_world.proofs.all_openers.AllOpeners.shrink_to_fit.Goals as goal

pub returns-in_default-clause-room : goal.returns-in_default-clause-room
returns-in_default-clause-room c =
    let w = c.args.self.now in
    subst (λ z. WholeButRoom w z) (sym c.self.view_is) (record { aside = same_aside w.aside; rest = refl })

pub returns-clause-room : goal.returns-clause-room
returns-clause-room c =
    let w = c.args.self.now in
    let aside : w.aside ≡ Some c.in-Some.holder = ap (λ (z : Whole). z.aside) (sym c.self.view_is) ∙ c.in-Some.is in
    subst (λ z. WholeButRoom w z) (ap (λ (z : Whole). record z { aside = Some c.shrink_to_fit.new.self }) (sym c.self.view_is))
    (record { aside = subst (λ a. AsideButRoom a (Some c.shrink_to_fit.new.self)) (sym aside) c.shrink_to_fit.ensures.room; rest = refl })
