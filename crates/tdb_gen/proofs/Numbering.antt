-- Numbers one after the other.
use Rattle.std.proofs.Common.{◌≡◌, ℕ, zero, suc, ◌+◌, refl, subst, arith}
use Rattle.std.specs.Fn.{iterate}

iterate_behind : {A : Type 0} (h : A → A) (n : ℕ) (x : A) → iterate h (suc n) x ≡ h (iterate h n x)
iterate_behind h zero x = refl
iterate_behind h (suc n) x = iterate_behind h n (h x)

pub iterate_more : {A : Type 0} (h : A → A) (n : ℕ) (x : A) → iterate h (n + 1) x ≡ h (iterate h n x)
iterate_more h n x = subst (λ k. iterate h k x ≡ h (iterate h n x)) (let e : suc n ≡ n + 1 = omega arith in e) (iterate_behind h n x)
