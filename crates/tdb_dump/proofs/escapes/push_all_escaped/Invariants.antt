-- The text of the bytes so far has been put at the end.
use Rattle.std.proofs.Common.{◌≡◌, ◌≤◌, ◌-◌, ◌++◌, length, take}
use Rattle.tdb_dump.specs.Escape.{escaped}
use Rattle.tdb_dump.proofs.escapes.push_all_escaped.Given as goal

abbrev pub invariant-loop-done : goal.invariant-loop-done
invariant-loop-done l = record {
  within : l.done ≤ length l.bytes;
  put : l.text.items ≡ l.fn.text.items ++ escaped (take l.done l.bytes);
}

abbrev pub decreases-loop-done : goal.decreases-loop-done
decreases-loop-done l = length l.bytes - l.done
