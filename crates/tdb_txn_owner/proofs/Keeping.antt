-- What an opener keeps between commands.
use Rattle.std.proofs.Common.{◌≡◌, ℕ, max, Bool, true, false, nat_lt, None, arith}
use Rattle.std.specs.Prelude.{◌&&◌, if◌then◌else◌}
use Rattle.std.specs.Ordering.{nat_cmp}
use Rattle.std.specs.FinMap.{get-empty, get, empty}
use Rattle.tdb_space.specs.Form.{Form, data_start}
use Rattle.tdb_law.specs.Openers.{Own, nowhere}
use Rattle.tdb_law.specs.Held.{kept}

-- one without transaction and explicit locks keeps nothing
pub keeps_nothing : (f : Form) (x : Own) → x.txn ≡ None → x.counts ≡ empty → x.all ≡ None → (b : ℕ) → kept f x nowhere b ≡ 0
keeps_nothing f x out uncounted unlocked b = let none : get (empty {X = ℕ} {R = nat_cmp}) b ≡ None = get-empty nat_cmp b in rw (out, uncounted, unlocked, none) (go (nat_lt b (data_start f)))
  where
    go : (z : Bool) → ◌≡◌ {A = ℕ} (max (max (if z && false then 2 else 0) 0) 0) 0
    go true = omega arith
    go false = omega arith
