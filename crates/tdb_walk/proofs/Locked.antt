-- Locks that are taken and let go in one turn, and what of a table counts for what another opener may have.
use Rattle.std.proofs.Common.{◌≡◌, ℕ, ◌+◌, ◌<◌, ◌≤◌, List, Option, None, sym, ◌∙◌, subst, inl, inr, arith}
use Rattle.std.proofs.lemmas.Bool.{cases_lt, cases_eq}
use Rattle.tdb_locks.specs.LockTable.{ChangesRange, Conflicts, IsFirstConflict, IsFree, held}
use Rattle.tdb_locks.specs.HeldLocks.{HeldLocks}
use Rattle.tdb_locks.specs.declared.kind.Kind.{Kind}
use Rattle.tdb_locks.specs.declared.piece.Piece.{Piece}
use Rattle.tdb_walk.specs.Way.{SameLocks, SameOthers, CanRead, IsHeldOff, lock_byte}

-- a byte at which the opener held nothing is taken and let go
pub same_again : (old mid new : List Piece) (owner b : ℕ) (k : Option Kind) → ChangesRange old mid owner b (b + 1) k → ChangesRange mid new owner b (b + 1) None → held old owner b ≡ None → SameLocks old new
same_again old mid new owner b k took let_go free other byte =
    elim (cases_eq other owner) [
      | inr apart ↦ let_go.others other byte apart ∙ took.others other byte apart
      | inl mine ↦ subst (λ o. held new o byte ≡ held old o byte) (sym mine) (elim (cases_lt byte b) [
        | inl low ↦ let_go.below byte low ∙ took.below byte low
        | inr above ↦ elim (cases_lt byte (b + 1)) [
          | inl here ↦ let_go.inside byte above here ∙ subst (λ x. None ≡ held old owner x) (at above here) (sym free)
          | inr high ↦ let_go.above byte high ∙ took.above byte high
        ]
      ])
    ]
  where
    at : b ≤ byte → byte < b + 1 → b ≡ byte
    at above here = omega (arith, above, here)

-- a conflict is one with another opener, so it is one in each table that says the same of the others
module _ (owner : ℕ) (old new : List Piece) (same : SameOthers owner old new) (start end : ℕ) (want : Kind) where
  conflict_now : (other byte : ℕ) (kind : Kind) → Conflicts old owner start end want other byte kind → Conflicts new owner start end want other byte kind
  conflict_now other byte kind c = record { other_owner = c.other_owner; from_start = c.from_start; before_end = c.before_end; holds = same other byte c.other_owner ∙ c.holds; writes = c.writes }

  conflict_then : (other byte : ℕ) (kind : Kind) → Conflicts new owner start end want other byte kind → Conflicts old owner start end want other byte kind
  conflict_then other byte kind c = record { other_owner = c.other_owner; from_start = c.from_start; before_end = c.before_end; holds = sym (same other byte c.other_owner) ∙ c.holds; writes = c.writes }

  pub free_then : IsFree new owner start end want → IsFree old owner start end want
  free_then free = record { free = λ other byte kind c. free.free other byte kind (conflict_now other byte kind c) }

  pub first_then : (other byte : ℕ) (kind : Kind) → IsFirstConflict new owner start end want other byte kind → IsFirstConflict old owner start end want other byte kind
  first_then other byte kind first = record {
    conflict = conflict_then other byte kind first.conflict;
    least = λ o b k c. first.least o b k (conflict_now o b k c);
  }

-- two tables that say the same say the same of the others
pub others_same : (owner : ℕ) (old new : List Piece) → SameLocks old new → SameOthers owner old new
others_same owner old new same other byte apart = same other byte

pub can_read_then : (owner : ℕ) (old new : List Piece) (own : HeldLocks) (j : ℕ) → SameLocks old new → CanRead new owner own j → CanRead old owner own j
can_read_then owner old new own j same (inl mine) = inl mine
can_read_then owner old new own j same (inr (inl holds)) = inr (inl (λ none. holds (same owner (lock_byte j) ∙ none)))
can_read_then owner old new own j same (inr (inr free)) = inr (inr (free_then owner old new (others_same owner old new same) _ _ _ free))

pub held_off_then : (owner : ℕ) (old new : List Piece) (own : HeldLocks) (j other byte : ℕ) → SameLocks old new → IsHeldOff new owner own j other byte → IsHeldOff old owner own j other byte
held_off_then owner old new own j other byte same off = record { uncovered = off.uncovered; kind = off.kind; conflict = first_then owner old new (others_same owner old new same) _ _ _ other byte off.kind off.conflict }
