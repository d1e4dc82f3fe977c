-- What a contract sees of a disk with a cache.
use Rattle.std.specs.Prelude.{◌≡◌, ℕ, ◌+◌, ◌/◌, ◌<◌, ◌≤◌, IsSome, List, Option}
use Rattle.tdb_disk.specs.Count.{RoseUpTo}
use Rattle.tdb_disk.specs.declared.disk.Disk.{Ghosts}
use Rattle.tdb_cache.specs.Blocks.{block_at, block_size, Refused, kept_count, starved_count, StillKept}
use Rattle.tdb_cache.specs.declared.cached.Cached.{Cached}

-- the disk within
abbrev pub cached_inner : {D : Type 0} {g : Ghosts D} → Cached D g → D
cached_inner cached = cached.inner

-- how many bytes were asked for
abbrev pub cached_asked : {D : Type 0} {g : Ghosts D} → Cached D g → ℕ
cached_asked cached = cached.asked

-- how many blocks are kept
abbrev pub cached_count : {D : Type 0} {g : Ghosts D} → Cached D g → ℕ
cached_count cached = kept_count cached.blocks

-- how many times a block wasn't kept for want of memory
abbrev pub cached_starved : {D : Type 0} {g : Ghosts D} → Cached D g → ℕ
cached_starved cached = starved_count cached.blocks

-- the bytes that are kept of the block with this number
abbrev pub cached_block : {D : Type 0} {g : Ghosts D} → Cached D g → ℕ → Option (List ℕ)
cached_block cached number = block_at cached.blocks number

-- why a block wasn't kept: the most are kept, it is one that never is, or there was no memory
abbrev pub WasRefused : {D : Type 0} {g : Ghosts D} → Cached D g → Cached D g → ℕ → Type 0
WasRefused old new number = Refused old.blocks new.blocks number

-- the block in which the byte at this offset lies is kept
abbrev pub IsKept : {D : Type 0} {g : Ghosts D} → Cached D g → ℕ → Type 0
IsKept cached at = IsSome (cached_block cached (at / block_size))

-- each byte of a range lies in a block that is kept
abbrev pub KeepsRange : {D : Type 0} {g : Ghosts D} → Cached D g → ℕ → ℕ → Type 0
KeepsRange cached off len = (at : ℕ) → off ≤ at → at < off + len → IsKept cached at

-- what was kept is kept
abbrev pub KeepsAll : {D : Type 0} {g : Ghosts D} → Cached D g → Cached D g → Type 0
KeepsAll old new = (at : ℕ) → IsKept old at → IsKept new at

-- a look at the disk: what was kept is kept, and of the disk within nothing but its counts has changed
pub record Looked {D : Type 0} {g : Ghosts D} (old new : Cached D g) : Type 0 where
  pub size : g.size (cached_inner new) ≡ g.size (cached_inner old)
  pub history : g.history (cached_inner new) ≡ g.history (cached_inner old)
  pub syncs : g.syncs (cached_inner new) ≡ g.syncs (cached_inner old)
  pub kept : StillKept old.blocks new.blocks
  pub count : cached_count old ≤ cached_count new
  pub starved : cached_starved old ≤ cached_starved new

-- a read of so many bytes went past the blocks: nothing of them has changed, and the disk within was asked for no more
-- than that
pub record WentPast {D : Type 0} {g : Ghosts D} (len : ℕ) (old new : Cached D g) : Type 0 where
  pub blocks : (number : ℕ) → cached_block new number ≡ cached_block old number
  pub count : cached_count new ≡ cached_count old
  pub starved : cached_starved new ≡ cached_starved old
  pub bytes_read : RoseUpTo len (g.bytes_read (cached_inner old)) (g.bytes_read (cached_inner new))
