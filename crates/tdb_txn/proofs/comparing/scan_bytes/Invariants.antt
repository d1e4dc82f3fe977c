-- The bytes before one were compared.
use Rattle.std.proofs.Common.{◌≡◌, ◌+◌, ◌≤◌, ℕ, List, length}
use Rattle.tdb_txn.specs.Found.{FoundSoFar, InPlace, StandsAt}
use Rattle.tdb_txn.proofs.comparing.scan_bytes.Given as goal

abbrev pub invariant-loop-k : goal.invariant-loop-k
invariant-loop-k l = record {
  place : InPlace l.found;
  next : l.found.next ≡ l.initial.found.next + l.k;
  found : (a b : List ℕ) (old : ℕ) → l.initial.found.next + length l.file ≤ old → StandsAt l.file (length l.file) l.initial.found.next a
      → StandsAt l.page (length l.file) l.initial.found.next b → FoundSoFar a b old l.skip l.initial.found → FoundSoFar a b old l.skip l.found;
}
