-- What a contract sees of a disk that is written behind.
use Rattle.std.specs.Prelude.{ℕ, List, Bool}
use Rattle.tdb_disk.specs.History.{seen}
use Rattle.tdb_disk.specs.declared.disk.Disk.{Ghosts}
use Rattle.tdb_cache.specs.Kept.{is_nothing, is_whole, owed_by, view_of, HoldsRange}
use Rattle.tdb_cache.specs.declared.write_behind.WriteBehind.{WriteBehind}
pub use Rattle.tdb_cache.specs.View.{ViewTried, ViewTriedOver}

-- the disk within
abbrev pub behind_inner : {D : Type 0} {g : Ghosts D} → WriteBehind D g → D
behind_inner behind = behind.inner

-- how many bytes were asked for
abbrev pub behind_asked : {D : Type 0} {g : Ghosts D} → WriteBehind D g → ℕ
behind_asked behind = behind.asked

-- whether the content is kept
abbrev pub keeps_content : {D : Type 0} {g : Ghosts D} → WriteBehind D g → Bool
keeps_content behind = is_whole behind.kept

-- whether each call is passed on
abbrev pub passes_on : {D : Type 0} {g : Ghosts D} → WriteBehind D g → Bool
passes_on behind = is_nothing behind.kept

-- what a read gives
abbrev pub behind_view : {D : Type 0} {g : Ghosts D} → WriteBehind D g → List ℕ
behind_view {g = g} behind = view_of behind.kept (g.size behind.inner) (seen (g.history behind.inner))

-- how many calls at most write what the disk within lacks: one where the content is kept, and at most 32
abbrev pub owed : {D : Type 0} {g : Ghosts D} → WriteBehind D g → ℕ
owed behind = owed_by behind.kept

-- each byte of a range is in memory
abbrev pub HasInMemory : {D : Type 0} {g : Ghosts D} → WriteBehind D g → ℕ → ℕ → Type 0
HasInMemory behind off len = HoldsRange behind.kept off len
