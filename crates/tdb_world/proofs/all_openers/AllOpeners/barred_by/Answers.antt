-- Nobody holds the opening lock, where the one aside doesn't.
use Rattle.std.proofs.Common.{◌≡◌, ◌<◌, ℕ, Some, None, sym, ◌∙◌, ap, subst, arith}
use Rattle.tdb_world.specs.Whole.{Whole, form_at, options_at}
use Rattle.tdb_world.proofs.Arrivals.{opening_free, LeavesOpen}
use Rattle.tdb_world.proofs.all_openers.AllOpeners.barred_by.Goals as goal

none_more : (n : ℕ) → (0 < n → ⊥) → n ≡ 0
none_more n never = omega arith

pub returns-in_default-clause-none : goal.returns-in_default-clause-none
returns-in_default-clause-none c = λ e.
    let w = c.args.self.now in
    let F = c.requires.fits in
    let aside : w.aside ≡ Some c.in-Some.holder = ap (λ (z : Whole). z.aside) (sym c.self.view_is) ∙ c.in-Some.is in
    opening_free w F.0 F.1 F.2.openers
    (subst (LeavesOpen w) (sym aside) (λ k past s S. none_more (s.table 0) (λ more. (let held = (c.if-holds.ensures.law (form_at w) (options_at w) k past s S).1 more in cc held))))

pub returns-in_default-2-clause-none : goal.returns-in_default-2-clause-none
returns-in_default-2-clause-none c = λ e.
    let w = c.args.self.now in
    let F = c.requires.fits in
    let aside : w.aside ≡ None = ap (λ (z : Whole). z.aside) (sym c.self.view_is) ∙ c.in_default.is in
    opening_free w F.0 F.1 F.2.openers (subst (LeavesOpen w) (sym aside) tt)
