-- The parts of a range of bytes that lie in one block each.
use Rattle.std.specs.Prelude.{◌≡◌, ℕ, ◌+◌, ◌<◌, ◌≤◌, ◌⊎◌}
use Rattle.tdb_cache.specs.Blocks.{block_size, block_start}
use Rattle.tdb_cache.specs.declared.piece.Piece.{Piece}

-- the part begins behind the first `done` bytes of the range, and ends with the range or with its block
pub record IsPiece (off done len : ℕ) (piece : Piece) : Type 0 where
  pub start : block_start piece.number + piece.within ≡ off + done
  pub more : done < piece.end
  pub inside : piece.end ≤ len
  pub one_block : piece.within + piece.end ≤ block_size + done
  pub whole : (piece.end ≡ len) ⊎ (piece.within + piece.end ≡ block_size + done)
