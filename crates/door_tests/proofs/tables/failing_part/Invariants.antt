use Rattle.std.proofs.Common.{◌≡◌, ℕ, List, false}
use Rattle.tdb_disk.specs.MemFiles.{name_is_taken}
use Rattle.door_tests.proofs.tables.failing_part.Given as goal

-- every file that was taken was given back
abbrev pub invariant-loop-words : goal.invariant-loop-words
invariant-loop-words g l = record {
  free : (name : List ℕ) → name_is_taken l.files name ≡ false;
}
