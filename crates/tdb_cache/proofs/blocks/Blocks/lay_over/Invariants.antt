use Rattle.std.proofs.Common.{◌≡◌, ◌+◌, ◌-◌, ◌<◌, ◌≤◌, ℕ, length}
use Rattle.std.specs.Prelude.{slice_index}
use Rattle.tdb_cache.specs.Laid.{byte_at}
use Rattle.tdb_cache.proofs.blocks.Blocks.lay_over.Given as goal

abbrev pub invariant-loop-done : goal.invariant-loop-done
invariant-loop-done l = record {
  inside : l.done ≤ length l.initial.buf;
  front : (at : ℕ) → at < l.done → slice_index l.buf at ≡ byte_at l.self (l.off + at) (slice_index l.initial.buf at);
  back : (at : ℕ) → l.done ≤ at → slice_index l.buf at ≡ slice_index l.initial.buf at;
}

abbrev pub decreases-loop-done : goal.decreases-loop-done
decreases-loop-done l = length l.initial.buf - l.done
