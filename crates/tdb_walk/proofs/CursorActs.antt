-- What a turn of a cursor does to the file, and to the record on which the cursor stands.
use Rattle.std.proofs.Common.{◌≡◌, ℕ}
use Rattle.tdb_space.specs.Form.{Form}
use Rattle.tdb_law.specs.Commands.{WalkCommand, Turn as LawTurn}
use Rattle.tdb_law.specs.Commands.Command.{OnWalk}
use Rattle.tdb_law.specs.Openers.{Own, Map, Spot, View}
use Rattle.tdb_law.specs.Held.{wanted, decided}
use Rattle.tdb_law.specs.Effects.{Effect, IsFree, IsFirstConflict, Finds, SpotLeft}
use Rattle.tdb_law.specs.Turned.{number_next}

-- the effect of a turn, and where the cursor stands after it, are of the law's kinds
pub record CursorActs (f : Form) (x y : Own) (w : WalkCommand) (n who : ℕ) (a z : Spot) (v : View) (old : ℕ → ℕ → ℕ) (m m2 : Map) (q q2 : ℕ) (turn : LawTurn) : Type 0 where
  pub leaves_spot : SpotLeft f (old who) (wanted f (OnWalk w) x (decided a v n) v n) (OnWalk w) n x y a v z turn
  pub effect : Effect f (IsFree old who (wanted f (OnWalk w) x (decided a v n) v n)) (IsFirstConflict old who (wanted f (OnWalk w) x (decided a v n) v n))
      (Finds f (old who) (wanted f (OnWalk w) x (decided a v n) v n) m) q (OnWalk w) n x m turn y m2
  pub number : q2 ≡ number_next f (OnWalk w) n x turn q 0
