use Rattle.std.proofs.Common.{◌≡◌, ◌≤◌, ◌<◌, ℕ, get_or, true}
use Rattle.tdb_dump.specs.Escape.{is_plain}
use Rattle.tdb_dump.proofs.partial.plain_run.Given as goal

-- the bytes so far are plain
abbrev pub invariant-loop-byte : goal.invariant-loop-byte
invariant-loop-byte l = record {
  all : l.run ≡ l.byte-index;
  few : l.run ≤ l.most;
  plain : (k : ℕ) → k < l.run → is_plain (get_or l.text k 0) ≡ true;
}
