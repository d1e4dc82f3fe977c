-- The turns of a Start that make no call on the disk.
use Rattle.std.proofs.Common.{ℕ, ◌<◌, refl, arith}
use Rattle.tdb_disk.specs.History.{History}
use Rattle.tdb_disk.specs.Stop.{LeavesOnly, Leaves}
use Rattle.tdb_disk.proofs.Runs.{leaves_start}
use Rattle.tdb_space.specs.Form.{Form}
use Rattle.tdb_txn_turns.specs.Starts.{start_steps, StartLeads, StartMade}
use Rattle.tdb_txn_turns.specs.declared.starting.Starting.{Starting}
use Rattle.tdb_txn_turns.specs.declared.starting.StartTurn.{StartTurn}
use Rattle.tdb_txn_turns.specs.declared.starting.StartTurn.TheVariants.{Step, Blocked, Memory, Done}

-- the first two turns leave the file
pub still_made : (f : Form) (len : ℕ) (s : Starting) (turn : StartTurn) (h : History) → start_steps s < 2 → StartLeads f len s turn → StartMade h h turn
still_made f len s (Step next) h early leads = refl
still_made f len s (Blocked owner byte) h early leads = refl
still_made f len s Memory h early leads = refl
still_made f len s (Done txn) h early leads = absurd (omega (arith, early, leads.0))

-- and so does a stop
pub still_stops : (h : History) → LeavesOnly h h (Leaves h)
still_stops h = leaves_start h (Leaves h) (λ image left. left)
