-- What a disk has come to.
use Rattle.std.specs.Prelude.{ℕ}
use Rattle.tdb_disk.specs.History.{History}

-- the calls that changed a disk, its length in bytes, and how many syncs answered Ok; the calls say something of the
-- disk only where it tells
pub record DiskState : Type 0 where
  pub history : History
  pub size : ℕ
  pub syncs : ℕ

-- a disk of these
abbrev pub disk_state : History → ℕ → ℕ → DiskState
disk_state history size syncs = record { history = history; size = size; syncs = syncs }
