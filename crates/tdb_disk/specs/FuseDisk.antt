-- What a contract sees of a disk behind a fuse.
use Rattle.std.specs.Prelude.{ℕ}
use Rattle.tdb_disk.specs.declared.fuse_disk.FuseDisk.{FuseDisk}

-- the disk within
abbrev pub fuse_inner : {D : Type 0} → FuseDisk D → D
fuse_inner fuse = fuse.inner

-- how many calls are still passed on
abbrev pub fuse_left : {D : Type 0} → FuseDisk D → ℕ
fuse_left fuse = fuse.left

-- how many calls were not passed on
abbrev pub fuse_stopped : {D : Type 0} → FuseDisk D → ℕ
fuse_stopped fuse = fuse.stopped
