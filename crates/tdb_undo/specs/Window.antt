-- What a window over a file holds, and what is read of the file as it moves on.
use Rattle.std.specs.Prelude.{◌≡◌, ℕ, ◌+◌, ◌-◌, ◌<◌, ◌≤◌, max, List, slice_index}
use Rattle.tdb_disk.specs.Count.{RoseUpTo}
use Rattle.tdb_undo.specs.declared.window.Window.{Window}

-- a window holds the bytes of this image
abbrev pub Holds : Window → List ℕ → Type 0
Holds w img = (k : ℕ) → k < w.len → slice_index w.bytes k ≡ slice_index img (w.from + k)

-- A window moved on to the entry at a place, within what ends at another. It ends no sooner than before. What was read
-- is no more than the bytes that it now holds behind that place and behind its old end, and seven bytes by which it may
-- overlap with what it held.
pub record MovedOn (old new : Window) (at end before now : ℕ) : Type 0 where
  pub no_less : old.from + old.len ≤ new.from + new.len
  pub within : new.from + new.len ≤ end
  pub has : at + 8 ≤ new.from + new.len
  pub read : RoseUpTo (7 + (new.from + new.len - max at (old.from + old.len))) before now
