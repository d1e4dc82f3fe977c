use Rattle.std.proofs.Common.{ℕ, List, ◌++◌, take}
use Rattle.tdb_words.specs.Running.{OldHolds}
use Rattle.tdb_words.proofs.old.OldRun.feed.Given as goal

abbrev pub invariant-loop-byte : goal.invariant-loop-byte
invariant-loop-byte l =
    (n : ℕ) (bytes : List ℕ) → OldHolds l.initial.self.value l.initial.self.shift n bytes
    → OldHolds l.self.value l.self.shift n (bytes ++ take l.byte-index l.piece)
