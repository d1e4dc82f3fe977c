-- An opener that isn't the one aside is among the others.
use Rattle.std.proofs.Common.{◌≢◌, sym, ◌∙◌, ap, arith}
use Rattle.std.proofs.lemmas.Bool.Decides.{nat_tests}
use Rattle.tdb_world.specs.Steps.IsAmong.{among_all, among_others}
use Rattle.tdb_world.specs.Whole.{Whole}
use Rattle.tdb_world.proofs.all_openers.AllOpeners.holder.Goals as goal
use Rattle.tdb_world.proofs.all_openers.AllOpeners.holder.Goals.{in_default-via-in-Some+else-owner-who, in_default-via-in_default}

pub returns-in_default-clause-none : goal.returns-in_default-clause-none
returns-in_default-clause-none c =
    elim c.in_default.branch [
      | in_default-via-in-Some+else-owner-who w ↦
          let other : c.args.who ≢ w.in-Some.holder.owner = grind (arith, nat_tests, w.owner.ensures, w.if-owner-who.false) in
          among_others w.in-Some.holder (ap (λ (w : Whole). w.aside) (sym c.self.view_is) ∙ w.in-Some.is) other
      | in_default-via-in_default w ↦ among_all (ap (λ (w : Whole). w.aside) (sym c.self.view_is) ∙ w.in_default.is)
    ]
