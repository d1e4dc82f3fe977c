use Rattle.std.proofs.Common.{◌≡◌, ◌≤◌, ◌-◌, ◌++◌, ℕ, List, length, take}
use Rattle.tdb_dump.specs.declared.pairs.Pair.{Pair}
use Rattle.tdb_dump.specs.Taken.{Goes, refusal_of}
use Rattle.tdb_dump.proofs.reader.Reader.read.Given as goal

-- the front of the piece was taken, and its pairs are in the list
abbrev pub invariant-loop-at : goal.invariant-loop-at
invariant-loop-at l = record {
  within : l.at ≤ length l.piece;
  goes : (text : List ℕ) (before : List Pair) → Goes text before l.fn.self → Goes (text ++ take l.at l.piece) (before ++ l.pairs.items) l.self;
  refusal : refusal_of l.self ≡ refusal_of l.fn.self;
}

abbrev pub decreases-loop-at : goal.decreases-loop-at
decreases-loop-at l = length l.piece - l.at
