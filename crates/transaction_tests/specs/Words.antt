-- Pieces of a lock table that are one byte long.
use Rattle.std.specs.Prelude.{ℕ, ◌+◌, ◌%◌, ◌≡◌}
use Rattle.tdb_locks.specs.declared.piece.Piece.{Piece}

-- a piece of this owner is one byte, and not one that is 3 past a multiple of 4
abbrev pub IsWordOf : ℕ → Piece → Type 0
IsWordOf owner p = p.owner ≡ owner → (p.end ≡ p.start + 1) × (p.start % 4 ≡ 3 → ⊥)
