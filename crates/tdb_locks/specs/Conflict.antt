-- The search for the first conflict, piece by piece.
use Rattle.std.specs.Prelude.{◌≡◌, ◌≤◌, ◌<◌, ◌==◌, ◌&&◌, ◌⊎◌, All, Any, Bool, List, MatchOption, None, Option, Some, false, if◌then◌else◌, max, nat_le, nat_lt, not, true, ℕ}
use Rattle.tdb_locks.specs.LockTable.{kinds_conflict}
use Rattle.tdb_locks.specs.declared.conflict.Conflict.{Conflict}
use Rattle.tdb_locks.specs.declared.conflict.Want.{Want}
use Rattle.tdb_locks.specs.declared.piece.Piece.{Piece}

-- whether the piece has a byte that conflicts with what is wanted
abbrev pub clashing : Piece → Want → Bool
clashing p want = not (p.owner == want.owner) && (nat_lt p.start want.end && (nat_lt want.start p.end && kinds_conflict p.kind want.kind))

-- the first byte that the piece and the wanted range share
abbrev pub clash_at : Piece → Want → ℕ
clash_at p want = max p.start want.start

-- the conflict with the piece
abbrev pub clash : Piece → Want → Conflict
clash p want = record { owner = p.owner; byte = clash_at p want; kind = p.kind }

-- the sooner of the conflict that was found and that with the piece
abbrev pub sooner : Option Conflict → Piece → Want → Option Conflict
sooner None p want = Some (clash p want)
sooner (Some c) p want = if nat_le c.byte (clash_at p want) then Some c else Some (clash p want)

-- the conflict is with a piece of the list, and no piece has one at an earlier byte, or there of a lesser owner
pub record IsSoonest (ps : List Piece) (want : Want) (c : Conflict) : Type 0 where
  pub one : Any (λ p. (clashing p want ≡ true) × (clash p want ≡ c)) ps
  pub least : All (λ p. clashing p want ≡ true → (c.byte < clash_at p want) ⊎ ((c.byte ≡ clash_at p want) × (c.owner ≤ p.owner))) ps

-- what a search that has gone through these pieces has found
abbrev pub Found : List Piece → Want → Option Conflict → Type 0
Found ps want first = MatchOption first (All (λ p. clashing p want ≡ false) ps) (IsSoonest ps want)
