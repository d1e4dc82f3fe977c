-- Where all bytes so far stand as they are, they are their own text.
use Rattle.std.proofs.Common.{◌≡◌, take, true}
use Rattle.tdb_dump.specs.Escape.{escaped}
use Rattle.tdb_dump.proofs.escapes.are_plain.Given as goal

abbrev pub invariant-loop-byte : goal.invariant-loop-byte
invariant-loop-byte l = l.plain ≡ true → escaped (take l.byte-index l.bytes) ≡ take l.byte-index l.bytes
