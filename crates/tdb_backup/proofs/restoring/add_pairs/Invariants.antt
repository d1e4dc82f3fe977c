-- The pairs so far were added, and logs heard of each growth.
use Rattle.std.proofs.Common.{◌≡◌, ◌<◌, ◌++◌, ℕ, List, IsTrue, take}
use Rattle.std.specs.Prelude.{◌^◌, ◌≤◌, max}
use Rattle.std.specs.List.{IsDistinct}
use Rattle.std.specs.Map.{keys_of}
use Rattle.tdb_dump.specs.declared.pairs.Pair.{Pair}
use Rattle.tdb_space.specs.Frame.{Wrote}
use Rattle.tdb_space.specs.Pairs.{same_key}
use Rattle.tdb_backup.specs.Building.{HoldsPairs}
use Rattle.tdb_backup.specs.Growths.{CarriesTold}
use Rattle.tdb_backup.specs.Restoring.{keys_and_values}
use Rattle.tdb_backup.proofs.restoring.add_pairs.Given as goal

abbrev pub invariant-loop-pair : goal.invariant-loop-pair
invariant-loop-pair g l = record {
  held : IsTrue g.T.Space.tells → g.T.Space.size l.fn.to < 2 ^ 32 → (before : List Pair) → IsDistinct same_key (keys_of (keys_and_values (before ++ l.pairs)))
      → (first : List ℕ) → HoldsPairs l.limit first (g.T.Space.form l.fn.to) (g.T.Space.image l.fn.to) (keys_and_values before)
      → HoldsPairs l.limit first (g.T.Space.form l.fn.to) (g.T.Space.image l.to) (keys_and_values (before ++ take l.pair-index l.pairs));
  told : IsTrue g.T.Space.tells → g.T.Space.size l.fn.to < 2 ^ 32 → (before : List Pair) → IsDistinct same_key (keys_of (keys_and_values (before ++ l.pairs)))
      → (first : List ℕ) → HoldsPairs l.limit first (g.T.Space.form l.fn.to) (g.T.Space.image l.fn.to) (keys_and_values before)
      → CarriesTold l.limit (g.T.Space.form l.fn.to) first (keys_and_values before) (keys_and_values (before ++ take l.pair-index l.pairs)) (g.L.Logs.logs l.fn.logs) (g.L.Logs.logs l.logs);
  within : g.T.Space.size l.to ≤ max (g.T.Space.size l.fn.to) l.limit;
  wrote : Wrote g.T.Space l.fn.to l.to;
  faults : g.T.Space.faults l.to ≡ g.T.Space.faults l.fn.to;
}
