use Rattle.std.proofs.Common.{◌≤◌, ◌-◌, length, take}
use Rattle.tdb_dump.specs.Escape.{Letters}
use Rattle.tdb_dump.specs.Word.{stands_in_word}
use Rattle.tdb_dump.proofs.words.letters_of.Given as goal

-- the bytes are those of the front that was read
abbrev pub invariant-loop-at : goal.invariant-loop-at
invariant-loop-at l = record {
  within : l.at ≤ length l.word;
  read : Letters stands_in_word (take l.at l.word) l.bytes.items;
}

abbrev pub decreases-loop-at : goal.decreases-loop-at
decreases-loop-at l = length l.word - l.at
