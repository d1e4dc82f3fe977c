-- The undo area of a planned commit is filled.
use Rattle.std.specs.Prelude.{ℕ, List}
use Rattle.tdb_disk.specs.History.{History, seen}
use Rattle.tdb_space.specs.Form.{form_of}
use Rattle.tdb_space.specs.Moved.{StaysAccepted}
use Rattle.tdb_space.specs.Undoing.{Reopens}
use Rattle.tdb_txn.specs.Commit.{IsFilled}
use Rattle.tdb_txn.specs.declared.planned.Plan.{Plan}

-- The old bytes are in the undo area of the file, which was image r before the plan. It is accepted with all that r
-- holds, so what reopens to its map reopens to that of r.
pub record IsFilledFrom (plan : Plan) (h : History) (r b : List ℕ) : Type 0 where
  pub filled : IsFilled plan h (seen h) b
  pub stays : StaysAccepted (form_of r) r (seen h)
  pub reopens : (c : List ℕ) → Reopens (seen h) c → Reopens r c
