-- The records so far were marked by digests.
use Rattle.std.proofs.Common.{◌≡◌, ℕ, List, IsTrue, length, map, take}
use Rattle.tdb_disk.specs.Count.{RoseUpTo}
use Rattle.tdb_check.specs.Keys.{AllNoted, digested}
use Rattle.tdb_check.specs.Reads.{key_bytes}
use Rattle.tdb_space.specs.Frame.{Looked}
use Rattle.tdb_check.proofs.keys.copy_digests.Given as goal

abbrev pub invariant-loop-record : goal.invariant-loop-record
invariant-loop-record g l = record {
  marked : IsTrue g.S.Space.tells → length (g.S.Space.image l.fn.s) ≡ l.len → (mark : List ℕ → ℕ) → AllNoted mark (g.S.Space.form l.fn.s) (g.S.Space.image l.fn.s) l.noted
      → l.sorted.items ≡ map (digested (g.S.Space.form l.fn.s) (g.S.Space.image l.fn.s)) (take l.record-index l.noted);
  long : length l.sorted.items ≡ l.record-index;
  bytes_read : RoseUpTo (key_bytes (take l.record-index l.noted)) (g.S.Space.bytes_read l.fn.s) (g.S.Space.bytes_read l.s);
  looked : Looked g.S.Space l.fn.s l.s;
  faults : g.S.Space.faults l.s ≡ g.S.Space.faults l.fn.s;
}
