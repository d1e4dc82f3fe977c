-- Facts on tests: what a conjunction, a disjunction and a negation that hold say of their parts.
use Rattle.std.proofs.Common.{◌≡◌, Bool, true, false, not, refl, sym, inl, inr, ◌⊎◌}
use Rattle.std.specs.Prelude.{◌&&◌, ◌||◌}

pub never_true : false ≡ true → ⊥
never_true e = cc

pub and_both : (a b : Bool) → a && b ≡ true → (a ≡ true) × (b ≡ true)
and_both true b e = (refl, e)
and_both false b e = absurd (never_true e)

pub and_make : (a b : Bool) → a ≡ true → b ≡ true → a && b ≡ true
and_make true b p q = q
and_make false b p q = p

pub or_cases : (a b : Bool) → a || b ≡ true → (a ≡ true) ⊎ (b ≡ true)
or_cases true b e = inl e
or_cases false b e = inr e

pub or_first : (a b : Bool) → a ≡ true → a || b ≡ true
or_first true b e = refl
or_first false b e = absurd (never_true e)

pub or_second : (a b : Bool) → b ≡ true → a || b ≡ true
or_second true b e = refl
or_second false b e = e

pub from_not : (b : Bool) → not b ≡ true → b ≡ false
from_not true e = absurd (never_true e)
from_not false e = refl

pub to_not : (b : Bool) → b ≡ false → not b ≡ true
to_not true e = sym e
to_not false e = refl
