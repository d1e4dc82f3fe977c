-- Walks that a turn leaves as they are.
use Rattle.std.proofs.Common.{◌≡◌, ℕ, List, refl, subst, inl, sym}
use Rattle.tdb_space.specs.Form.{Form}
use Rattle.tdb_law.specs.Commands.{Command, Turn}
use Rattle.tdb_law.specs.Openers.{Own, Mark}
use Rattle.tdb_law.specs.Walks.{Shift}
use Rattle.tdb_law.specs.Layout.{Place}
use Rattle.tdb_openers.specs.Turning.{TurnsWalk}

pub still_shift : (f : Form) (lost : List ℕ → Type 0) (m : Mark) → Shift f lost m m
still_shift f lost m = record { inside = refl; reached = refl; fewer = λ k e. inl e; kept = λ k e. inl e }

-- where the file stays
pub still_walk : (f : Form) (x : Own) (c : Command) (n : ℕ) (turn : Turn) (a b : List ℕ) (place : Place) → b ≡ a → TurnsWalk f x c n turn a b place
still_walk f x c n turn a b place same = subst (λ i. TurnsWalk f x c n turn a i place) (sym same) (λ mine. still_shift f _ _)
