-- The text so far was taken, the new file holds the pairs that ended in it, and logs heard of
-- each growth.
use Rattle.std.proofs.Common.{◌≡◌, ◌+◌, ◌<◌, ◌++◌, [], ℕ, List, IsTrue, length}
use Rattle.std.specs.Prelude.{◌^◌, ◌≤◌, max}
use Rattle.tdb_space.specs.Frame.{Wrote}
use Rattle.tdb_backup.specs.declared.restoring.TheConstants.{LONGEST_TEXT}
use Rattle.tdb_backup.specs.Restoring.{WentOn}
use Rattle.tdb_backup.proofs.restoring.add_text.Given as goal

abbrev pub invariant-loop-left : goal.invariant-loop-left
invariant-loop-left g l = record {
  taken : (text : List ℕ) × WentOn l.limit (IsTrue g.T.Space.tells × (g.T.Space.size l.fn.to < 2 ^ 32)) (g.T.Space.form l.fn.to) (g.T.Space.image l.fn.to) (g.T.Space.image l.to) [] [] text l.reader (g.L.Logs.logs l.fn.logs) (g.L.Logs.logs l.logs)
      × (length text + l.left ≡ LONGEST_TEXT) × (IsTrue g.S.Source.tells → g.S.Source.left l.fn.input ≡ text ++ g.S.Source.left l.input);
  room : 0 < length l.piece;
  within : g.T.Space.size l.to ≤ max (g.T.Space.size l.fn.to) l.limit;
  wrote : Wrote g.T.Space l.fn.to l.to;
  read_faults : g.S.Source.faults l.input ≡ g.S.Source.faults l.fn.input;
  write_faults : g.T.Space.faults l.to ≡ g.T.Space.faults l.fn.to;
}

abbrev pub decreases-loop-left : goal.decreases-loop-left
decreases-loop-left g l = l.left
