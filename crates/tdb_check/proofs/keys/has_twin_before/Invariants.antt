-- None of those from a place on has the key.
use Rattle.std.proofs.Common.{◌≡◌, ◌+◌, ◌*◌, ◌≤◌, ℕ, List, IsTrue, length, take, get_or}
use Rattle.std.specs.Prelude.{sum_by}
use Rattle.tdb_check.specs.declared.keys.Noted.{Noted}
use Rattle.tdb_check.specs.Keys.{AllNoted, NoTwinBefore}
use Rattle.tdb_check.specs.Reads.{shared}
use Rattle.tdb_space.specs.Frame.{Looked}
use Rattle.tdb_check.proofs.keys.has_twin_before.Given as goal

abbrev pub invariant-loop-k : goal.invariant-loop-k
invariant-loop-k g l = record {
  within : l.k ≤ l.i;
  apart : IsTrue g.S.Space.tells → length (g.S.Space.image l.fn.s) ≡ l.len → (mark : List ℕ → ℕ) → AllNoted mark (g.S.Space.form l.fn.s) (g.S.Space.image l.fn.s) l.sorted
      → NoTwinBefore (g.S.Space.form l.fn.s) (g.S.Space.image l.fn.s) l.sorted l.i l.k;
  no_more : (d : Noted) → g.S.Space.bytes_read l.s + 2 * sum_by (shared (get_or l.sorted l.i d)) (take l.k l.sorted)
      ≤ g.S.Space.bytes_read l.fn.s + 2 * sum_by (shared (get_or l.sorted l.i d)) (take l.i l.sorted);
  never_falls : g.S.Space.bytes_read l.fn.s ≤ g.S.Space.bytes_read l.s;
  looked : Looked g.S.Space l.fn.s l.s;
  faults : g.S.Space.faults l.s ≡ g.S.Space.faults l.fn.s;
}

abbrev pub decreases-loop-k : goal.decreases-loop-k
decreases-loop-k g l = l.k
