use Rattle.std.proofs.Common.{◌≡◌, ◌+◌, ◌-◌, ◌/◌, ◌%◌, ◌≤◌, ◌<◌, ◌⊎◌, ℕ, length, take, drop}
use Rattle.std.specs.Prelude.{IsTrue}
use Rattle.tdb_disk.specs.History.{seen}
use Rattle.tdb_cache.specs.Blocks.{block_size, most_kept, Refused}
use Rattle.tdb_cache.specs.Cached.{cached_asked, cached_count, cached_inner, IsKept, KeepsRange, Looked}
use Rattle.tdb_cache.proofs.cached.Cached.read_pieces.Given as goal

abbrev pub invariant-loop-done : goal.invariant-loop-done
invariant-loop-done g l = record {
  inside : l.done ≤ length l.initial.buf;
  bytes : IsTrue g.D.Disk.tells
      → take l.done l.buf ≡ take l.done (drop l.off (seen (g.D.Disk.history (cached_inner l.initial.self))));
  looked : Looked l.initial.self l.self;
  faults : g.D.Disk.faults (cached_inner l.self) ≡ g.D.Disk.faults (cached_inner l.initial.self);
  bytes_read : g.D.Disk.bytes_read (cached_inner l.self)
      ≤ g.D.Disk.bytes_read (cached_inner l.initial.self) + l.off % block_size + l.done + block_size;
  never_falls : g.D.Disk.bytes_read (cached_inner l.initial.self) ≤ g.D.Disk.bytes_read (cached_inner l.self);
  at_a_block : (l.done ≡ length l.initial.buf) ⊎ ((l.done ≡ 0) ⊎ ((l.off + l.done) % block_size ≡ 0));
  at_first : l.done ≡ 0 → g.D.Disk.bytes_read (cached_inner l.self) ≤ g.D.Disk.bytes_read (cached_inner l.initial.self);
  on_the_way : l.done < length l.initial.buf → g.D.Disk.bytes_read (cached_inner l.self)
      ≤ g.D.Disk.bytes_read (cached_inner l.initial.self) + l.off % block_size + l.done;
  full : most_kept ≤ cached_count l.initial.self → g.D.Disk.bytes_read (cached_inner l.self)
      ≤ g.D.Disk.bytes_read (cached_inner l.initial.self) + l.done;
  there : KeepsRange l.initial.self l.off (length l.initial.buf) → cached_inner l.self ≡ cached_inner l.initial.self;
  filled : (at : ℕ) → l.off ≤ at → at < l.off + l.done
      → IsKept l.self at ⊎ Refused l.initial.self.blocks l.self.blocks (at / block_size);
  asked : cached_asked l.self ≡ cached_asked l.initial.self;
}

abbrev pub decreases-loop-done : goal.decreases-loop-done
decreases-loop-done g l = length l.initial.buf - l.done
