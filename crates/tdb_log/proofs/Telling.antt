-- Notices that were told, and then more of them.
use Rattle.std.proofs.Common.{◌≡◌, ◌<◌, ℕ, List, [], ◌∷◌, ◌++◌, Bool, true, false, append_assoc, refl, sym, ◌∙◌, ap, subst, arith}
use Rattle.std.specs.Prelude.{nat_lt, if◌then◌else◌}
use Rattle.std.proofs.lemmas.Bool.{ltb-false}
use Rattle.tdb_log.specs.Logs.{Logged, ToldAll, ToldUpTo, LastRefused, growth}
use Rattle.tdb_log.specs.declared.log.LogRefusal.{LogRefusal}
use Rattle.tdb_log.specs.declared.notice.Notice.{Notice}
use Rattle.tdb_log.specs.declared.notice.Notice.TheVariants.{Grew}

-- some were told, and then others
pub told_joined : (a b : List Notice) (old mid new : List Logged) → ToldAll a old mid → ToldAll b mid new → ToldAll (a ++ b) old new
told_joined [] b old mid new here more = subst (λ (l : List Logged). ToldAll b l new) here more
told_joined (n ∷ a) b old mid new here more = (here.0, here.1, told_joined a b here.0 mid new here.2 more)

-- some were told, and one of others was refused
pub told_then_refused : (refusal : LogRefusal) (a b : List Notice) (old mid new : List Logged) → ToldAll a old mid → ToldUpTo refusal b mid new → ToldUpTo refusal (a ++ b) old new
told_then_refused refusal a b old mid new here more = record {
  front = a ++ more.front;
  notice = more.notice;
  rest = more.rest;
  parts = ap (λ (l : List Notice). a ++ l) more.parts ∙ sym (append_assoc a more.front (more.notice ∷ more.rest));
  mid = more.mid;
  told = told_joined a more.front old mid more.mid here more.told;
  refused = more.refused;
}

-- one of some was refused, and others would have followed
pub refused_before : (refusal : LogRefusal) (a b : List Notice) (old new : List Logged) → ToldUpTo refusal a old new → ToldUpTo refusal (a ++ b) old new
refused_before refusal a b old new up = record {
  front = up.front;
  notice = up.notice;
  rest = up.rest ++ b;
  parts = ap (λ (l : List Notice). l ++ b) up.parts ∙ append_assoc up.front (up.notice ∷ up.rest) b;
  mid = up.mid;
  told = up.told;
  refused = up.refused;
}

-- a growth is told where there is one
growth_some : (from to : ℕ) → from < to → growth from to ≡ Grew from to ∷ []
growth_some from to lt = of (nat_lt from to) refl
  where
    of : (b : Bool) → nat_lt from to ≡ b → growth from to ≡ Grew from to ∷ []
    of true is = ap (λ b. if b then Grew from to ∷ [] else []) is
    of false is = absurd (omega (arith, ltb-false from to is, lt))

-- and was refused
pub growth_refused : (from to : ℕ) (refusal : LogRefusal) (old new : List Logged) → from < to → LastRefused refusal old new → ToldUpTo refusal (growth from to) old new
growth_refused from to refusal old new lt refused = record { front = []; notice = Grew from to; rest = []; parts = growth_some from to lt; mid = old; told = refl; refused = refused }
