-- The undo area of a file as one extent.
use Rattle.std.specs.Prelude.{◌≡◌, ℕ, ◌+◌, ◌%◌, ◌≤◌, List}
use Rattle.tdb_words.specs.declared.word.Order.{Order}
use Rattle.tdb_words.specs.Word.{word}
use Rattle.tdb_words.specs.Header.{area_head}
use Rattle.tdb_space.specs.Extents.{Extent, extent_at}

-- the extent is that of the undo area, or both its numbers are 0 where the image has none
pub data IsAreaExtent (o : Order) (img : List ℕ) (e : Extent) : Type 0 where
  none : word o img area_head ≡ 0 → e ≡ (0, 0) → IsAreaExtent o img e
  there : (word o img area_head ≡ 0 → ⊥) → e ≡ extent_at o img (word o img area_head) → IsAreaExtent o img e

-- an undo area can stand in this extent of a file of so many bytes
pub record CanHold (len : ℕ) (e : Extent) : Type 0 where
  pub aligned : e.0 % 4 ≡ 0
  pub words : e.1 % 4 ≡ 0
  pub header : 24 ≤ e.1
  pub within : e.0 + e.1 ≤ len
