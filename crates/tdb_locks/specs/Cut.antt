-- What a range leaves standing of its owner's pieces in a table.
use Rattle.std.specs.Prelude.{◌≡◌, ◌≤◌, ◌<◌, ◌+◌, ◌-◌, ◌++◌, IsSome, List, drop, length, take, ℕ}
use Rattle.std.specs.List.{HoldsAt}
use Rattle.std.specs.Option.{option_to_list}
use Rattle.tdb_locks.specs.LockTable.{IsInsidePiece, before, from}
use Rattle.tdb_locks.specs.declared.cut.Cut.{Cut}
use Rattle.tdb_locks.specs.declared.piece.Piece.{Piece}

-- the piece at place i is the owner's and begins before the byte
pub record BeginsBefore (ps : List Piece) (i owner byte : ℕ) : Type 0 where
  pub within : i < length ps
  pub owned : HoldsAt (λ p. p.owner ≡ owner) ps i
  pub begins : HoldsAt (λ p. p.start < byte) ps i

-- the piece just before place i is the owner's and goes on from the byte
pub record GoesOn (ps : List Piece) (i owner byte : ℕ) : Type 0 where
  pub some : 0 < i
  pub within : i ≤ length ps
  pub owned : HoldsAt (λ p. p.owner ≡ owner) ps (i - 1)
  pub goes_on : HoldsAt (λ p. byte < p.end) ps (i - 1)

-- the cut's pieces meet the range: before it stand the pieces up to the first one and what is left of that, and
-- after it what is left of the last one and the pieces from there on
pub record IsCut (ps : List Piece) (owner start end : ℕ) (cut : Cut) : Type 0 where
  pub in_order : cut.from ≤ cut.to
  pub within : cut.to ≤ length ps
  pub left : before owner start ps ≡ take cut.from ps ++ option_to_list cut.left
  pub right : from owner end ps ≡ option_to_list cut.right ++ drop cut.to ps
  pub left_of : IsSome cut.left → cut.from < cut.to
  pub right_of : IsSome cut.right → cut.from < cut.to
  pub inside : IsSome cut.left → IsSome cut.right → cut.to ≤ cut.from + 1 → (p : Piece) × IsInsidePiece ps owner start end p
