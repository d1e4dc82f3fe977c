-- The digits of the bytes so far have been put at the end.
use Rattle.std.proofs.Common.{◌≡◌, ◌++◌, take}
use Rattle.tdb_dump.specs.Escape.{hex}
use Rattle.tdb_dump.proofs.escapes.push_all_digits.Given as goal

abbrev pub invariant-loop-byte : goal.invariant-loop-byte
invariant-loop-byte l = l.text.items ≡ l.fn.text.items ++ hex (take l.byte-index l.bytes)
