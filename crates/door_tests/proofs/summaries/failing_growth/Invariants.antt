use Rattle.std.proofs.Common.{◌≡◌, ℕ, List, false}
use Rattle.tdb_disk.specs.MemFiles.{name_is_taken}
use Rattle.door_tests.proofs.summaries.failing_growth.Given as goal

-- every file that was taken was given back
abbrev pub invariant-loop-name : goal.invariant-loop-name
invariant-loop-name l = record {
  free : (name : List ℕ) → name_is_taken l.files name ≡ false;
}
