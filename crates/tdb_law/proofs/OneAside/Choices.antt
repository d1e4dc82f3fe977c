-- A value of one opener beside those of the others, and what goes on to stand aside.
use Rattle.std.proofs.Common.{◌≡◌, ℕ, ◌≤◌, List, Bool, true, false, cond, refl, sym, ◌∙◌, arith}
use Rattle.tdb_space.specs.Form.{Form}
use Rattle.tdb_law.specs.Openers.{Mark}
use Rattle.tdb_law.specs.World.{State}
use Rattle.tdb_law.specs.Walks.{Shift}
use Rattle.tdb_law.specs.OneAside.Sides.{Side, StandsAside}
use Rattle.tdb_law.proofs.OneAside.Idle.{still_shift}

-- beside an opener whose mark stays a walk shifts as it does
pub shift_choice : (f : Form) (z : Bool) (lost : Mark → List ℕ → Type 0) (m a b : Mark) → Shift f (lost a) a b → Shift f (lost (cond z m a)) (cond z m a) (cond z m b)
shift_choice f true lost m a b shift = still_shift f (lost m) m
shift_choice f false lost m a b shift = shift

-- and a row of the lock table is as it is
pub hold_choice : (z : Bool) (m g h : ℕ → ℕ) (b : ℕ) → g b ≡ h b → cond z m g b ≡ cond z m h b
hold_choice true m g h b same = refl
hold_choice false m g h b same = same

-- who stands aside goes on to, where the plain state has the same of it
pub aside_stays : (p later : State) (s : Side) → StandsAside p s → p.joined ≤ later.joined → later.task s.here ≡ p.task s.here → later.spot s.here ≡ p.spot s.here → ((b : ℕ) → later.table s.here b ≡ p.table s.here b) → StandsAside later s
aside_stays p later s A more task spot table = record {
  joined = omega (arith, more, A.joined);
  idle = task ∙ A.idle;
  spot = spot ∙ A.spot;
  records = λ b from. A.records b from ∙ sym (table b);
  below = λ b under. table b ∙ A.below b under;
  shuts = A.shuts;
}
