-- The image of a file with the blocks that are kept laid over it.
use Rattle.std.specs.Prelude.{◌≡◌, ℕ, ◌+◌, ◌/◌, ◌%◌, ◌≤◌, List, Option, Some, None, IsSome, length, map, slice_index}
use Rattle.std.specs.List.{range_with_len}
use Rattle.tdb_cache.specs.Blocks.{block_at, block_size}
use Rattle.tdb_cache.specs.declared.blocks.Blocks.{Blocks}

-- a byte of a block, or another one where there is no block
abbrev pub byte_of : Option (List ℕ) → ℕ → ℕ → ℕ
byte_of None within other = other
byte_of (Some block) within other = slice_index block within

-- the byte at this place of the file, if its block is kept, or another one
abbrev pub byte_at : Blocks → ℕ → ℕ → ℕ
byte_at blocks at other = byte_of (block_at blocks (at / block_size)) (at % block_size) other

-- the image with the blocks that are kept laid over it
abbrev pub laid : Blocks → List ℕ → List ℕ
laid blocks image = map (λ at. byte_at blocks at (slice_index image at)) (range_with_len 0 (length image))

-- no block is kept
abbrev pub NoneKept : Blocks → Type 0
NoneKept blocks = (number : ℕ) → block_at blocks number ≡ None

-- a range of bytes lies in one block, and that is kept
pub record LiesInKept (blocks : Blocks) (off len : ℕ) : Type 0 where
  pub kept : IsSome (block_at blocks (off / block_size))
  pub one_block : off % block_size + len ≤ block_size
