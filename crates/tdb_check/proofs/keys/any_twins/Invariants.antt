-- None of the records so far has the key of one before it.
use Rattle.std.proofs.Common.{◌≡◌, ◌*◌, ℕ, List, IsTrue, length, take}
use Rattle.tdb_disk.specs.Count.{RoseUpTo}
use Rattle.tdb_check.specs.Keys.{AllNoted}
use Rattle.tdb_check.specs.Reads.{shared_by_pairs}
use Rattle.tdb_space.specs.Frame.{Looked}
use Rattle.tdb_check.proofs.Notings.{ApartTo}
use Rattle.tdb_check.proofs.keys.any_twins.Given as goal

abbrev pub invariant-loop-i : goal.invariant-loop-i
invariant-loop-i g l = record {
  apart : IsTrue g.S.Space.tells → length (g.S.Space.image l.fn.s) ≡ l.len → (mark : List ℕ → ℕ) → AllNoted mark (g.S.Space.form l.fn.s) (g.S.Space.image l.fn.s) l.sorted
      → ApartTo (g.S.Space.form l.fn.s) (g.S.Space.image l.fn.s) l.sorted l.i;
  bytes_read : RoseUpTo (2 * shared_by_pairs (take l.i l.sorted)) (g.S.Space.bytes_read l.fn.s) (g.S.Space.bytes_read l.s);
  looked : Looked g.S.Space l.fn.s l.s;
  faults : g.S.Space.faults l.s ≡ g.S.Space.faults l.fn.s;
}
