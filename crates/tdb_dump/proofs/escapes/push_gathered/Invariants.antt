-- The text of the bytes so far stands in front of the block.
use Rattle.std.proofs.Common.{◌≡◌, ◌≤◌, ◌*◌, take}
use Rattle.tdb_dump.specs.Escape.{escaped}
use Rattle.tdb_dump.proofs.escapes.push_gathered.Given as goal

abbrev pub invariant-loop-byte : goal.invariant-loop-byte
invariant-loop-byte l = record {
  short : l.end ≤ 3 * l.byte-index;
  gathered : take l.end l.block ≡ escaped (take l.byte-index l.bytes);
}
