-- Where a search in a sorted table of pieces stops.
use Rattle.std.specs.Prelude.{◌≡◌, ◌≤◌, ◌==◌, ◌&&◌, ◌||◌, All, Bool, List, drop, false, length, nat_le, nat_lt, take, true, ℕ}
use Rattle.tdb_locks.specs.declared.piece.Piece.{Piece}

-- whether the piece is an earlier owner's, or one of the owner's that ends by the byte
abbrev pub ends_by : ℕ → ℕ → Piece → Bool
ends_by owner byte p = nat_lt p.owner owner || ((p.owner == owner) && nat_le p.end byte)

-- whether the piece is an earlier owner's, or one of the owner's that starts before the byte
abbrev pub starts_before : ℕ → ℕ → Piece → Bool
starts_before owner byte p = nat_lt p.owner owner || ((p.owner == owner) && nat_lt p.start byte)

-- the pieces before place i pass the test, and those from there on fail it
pub record IsSplitBy (test : Piece → Bool) (ps : List Piece) (i : ℕ) : Type 0 where
  pub within : i ≤ length ps
  pub front : All (λ p. test p ≡ true) (take i ps)
  pub back : All (λ p. test p ≡ false) (drop i ps)
