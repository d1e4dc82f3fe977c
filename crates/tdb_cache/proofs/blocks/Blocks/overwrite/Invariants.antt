use Rattle.std.proofs.Common.{◌≡◌, ◌+◌, ◌-◌, ◌≤◌, ℕ, List, length, take}
use Rattle.tdb_disk.specs.Image.{overlay}
use Rattle.tdb_cache.specs.Blocks.{kept_count, AllShown, AllSized, Reaches, SameKept}
use Rattle.tdb_cache.proofs.blocks.Blocks.overwrite.Given as goal

abbrev pub invariant-loop-done : goal.invariant-loop-done
invariant-loop-done l = record {
  inside : l.done ≤ length l.bytes;
  reaches : Reaches l.self (l.off + length l.bytes);
  sized : (size : ℕ) → AllSized l.initial.self size → AllSized l.self size;
  shown : (image : List ℕ) → l.off + length l.bytes ≤ length image → AllSized l.initial.self (length image)
      → AllShown l.initial.self image → AllShown l.self (overlay image l.off (take l.done l.bytes));
  same : SameKept l.initial.self l.self;
  count : kept_count l.self ≡ kept_count l.initial.self;
}

abbrev pub decreases-loop-done : goal.decreases-loop-done
decreases-loop-done l = length l.bytes - l.done
