-- What a window onto a file holds.
use Rattle.std.specs.Prelude.{◌≡◌, ℕ, ◌+◌, ◌≤◌, List, length, take, drop}
use Rattle.tdb_rescue.specs.declared.window.Window.{Window}

-- the bytes that are held are those of the image from the window's offset on
abbrev pub Shows : List ℕ → Window → Type 0
Shows img w = w.bytes.items ≡ take (length w.bytes.items) (drop w.from img)

-- so many bytes from an offset on are held
pub record Holds (w : Window) (off count : ℕ) : Type 0 where
  pub front : w.from ≤ off
  pub end : off + count ≤ w.from + length w.bytes.items
