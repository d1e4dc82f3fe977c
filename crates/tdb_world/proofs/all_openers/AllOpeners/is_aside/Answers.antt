-- An opener that isn't the one aside is among the others.
use Rattle.std.proofs.Common.{◌≡◌, false, is_some, Option, None, Some, sym, ◌∙◌}
use Rattle.std.specs.Prelude.{IfNone}
use Rattle.tdb_world.proofs.all_openers.AllOpeners.is_aside.Goals as goal

where_none : {X : Type 0} (o : Option X) (P : Type 0) → is_some o ≡ false → IfNone o P → P
where_none None P e p = p
where_none (Some x) P e p = absurd (cc e)

pub returns-clause-no : goal.returns-clause-no
returns-clause-no c = λ e. where_none c.holder.result _ (sym c.is_some.ensures ∙ e) c.holder.ensures.none
