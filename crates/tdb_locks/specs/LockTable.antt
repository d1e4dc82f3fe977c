-- A lock table as contracts see it: a finite list of pieces. What an owner holds at a byte is a test on that list.
use Rattle.std.specs.Prelude.{◌≡◌, ◌≢◌, ◌≤◌, ◌<◌, ◌+◌, ◌^◌, ◌==◌, ◌&&◌, ◌++◌, ◌∷◌, ◌⊎◌, ◌↔◌, [], All, AllPairs, Any, Bool, Contains, List, None, Option, Some, false, if◌then◌else◌, max, min, nat_le, nat_lt, true, ℕ}
use Rattle.std.specs.List.{filter_map}
use Rattle.tdb_locks.specs.declared.kind.Kind.TheVariants.{Read, Write}
use Rattle.tdb_locks.specs.declared.kind.Kind.{Kind}
use Rattle.tdb_locks.specs.declared.len.Len.TheVariants.{Bytes, ToEnd}
use Rattle.tdb_locks.specs.declared.len.Len.{Len}
use Rattle.tdb_locks.specs.declared.piece.Piece.{Piece}

-- two owners may not hold these kinds on one byte: one of the two is for writing
abbrev pub kinds_conflict : Kind → Kind → Bool
kinds_conflict Read Read = false
kinds_conflict Read Write = true
kinds_conflict Write Read = true
kinds_conflict Write Write = true

-- the byte past the last of the range that begins at `start`; a range to the end stops at 2 ^ 63, past every byte of a
-- file
abbrev pub stop : ℕ → Len → ℕ
stop start (Bytes count) = start + count
stop start ToEnd = 2 ^ 63

-- a range that can be locked: it isn't empty, and ends below 2 ^ 63 or has no end
abbrev pub IsRange : ℕ → Len → Type 0
IsRange start (Bytes count) = (0 < count) × (start + count < 2 ^ 63)
IsRange start ToEnd = start < 2 ^ 63

-- whether the piece is one of the owner's and the byte lies in it
abbrev pub covers : Piece → ℕ → ℕ → Bool
covers p owner byte = (p.owner == owner) && (nat_le p.start byte && nat_lt byte p.end)

-- what the owner holds at the byte: the kind of its piece that covers the byte
abbrev pub held : List Piece → ℕ → ℕ → Option Kind
held [] owner byte = None
held (p ∷ ps) owner byte = if covers p owner byte then Some p.kind else held ps owner byte

-- a piece of a table has a byte at least, and none from 2 ^ 63 on
pub record IsPiece (p : Piece) : Type 0 where
  pub has_bytes : p.start < p.end
  pub within : p.end ≤ 2 ^ 63

-- q stands after p in a table: in the order of owners, and of one owner past p's last byte
pub record Follows (p q : Piece) : Type 0 where
  pub owners : p.owner ≤ q.owner
  pub apart : p.owner ≡ q.owner → p.end ≤ q.start

-- the pieces of a table are in order, and those of one owner are apart
pub record IsTable (ps : List Piece) : Type 0 where
  pub pieces : All IsPiece ps
  pub sorted : AllPairs Follows ps

-- what is left of a piece before the byte `start` of `owner`, in the order of owners and then of bytes
abbrev pub part_before : ℕ → ℕ → Piece → Option Piece
part_before owner start p = if nat_lt p.owner owner then Some p else (if (p.owner == owner) && nat_lt p.start start then Some (record p { end = min p.end start }) else None)

-- what is left of a piece from the byte `end` of `owner` on, in that order
abbrev pub part_from : ℕ → ℕ → Piece → Option Piece
part_from owner end p = if nat_lt owner p.owner then Some p else (if (p.owner == owner) && nat_lt end p.end then Some (record p { start = max p.start end }) else None)

-- the table up to a byte of an owner: its pieces, the last one cut off there
abbrev pub before : ℕ → ℕ → List Piece → List Piece
before owner start ps = filter_map (part_before owner start) ps

-- the table from a byte of an owner on: its pieces, the first one cut off there
abbrev pub from : ℕ → ℕ → List Piece → List Piece
from owner end ps = filter_map (part_from owner end) ps

-- the table where the owner's bytes from `start` up to `end` are let go: what was before them, and what comes after
abbrev pub without : List Piece → ℕ → ℕ → ℕ → List Piece
without ps owner start end = before owner start ps ++ from owner end ps

-- the table where the owner's bytes from `start` up to `end` are one piece of this kind, whatever was there
abbrev pub with_piece : List Piece → ℕ → ℕ → ℕ → Kind → List Piece
with_piece ps owner start end kind = before owner start ps ++ (record { owner = owner; start = start; end = end; kind = kind }) ∷ from owner end ps

-- the owner's bytes from `start` up to `end` are held as `now` says, and what is held elsewhere stays
pub record ChangesRange (old new : List Piece) (owner start end : ℕ) (now : Option Kind) : Type 0 where
  pub inside : (byte : ℕ) → start ≤ byte → byte < end → held new owner byte ≡ now
  pub below : (byte : ℕ) → byte < start → held new owner byte ≡ held old owner byte
  pub above : (byte : ℕ) → end ≤ byte → held new owner byte ≡ held old owner byte
  pub others : (other byte : ℕ) → other ≢ owner → held new other byte ≡ held old other byte

-- another owner holds the byte of the range with this kind, and one of the two kinds is for writing
pub record Conflicts (ps : List Piece) (owner start end : ℕ) (want : Kind) (other byte : ℕ) (kind : Kind) : Type 0 where
  pub other_owner : other ≢ owner
  pub from_start : start ≤ byte
  pub before_end : byte < end
  pub holds : held ps other byte ≡ Some kind
  pub writes : kinds_conflict kind want ≡ true

-- the conflict at the least byte of the range that has one, and of the least owner there
pub record IsFirstConflict (ps : List Piece) (owner start end : ℕ) (want : Kind) (other byte : ℕ) (kind : Kind) : Type 0 where
  pub conflict : Conflicts ps owner start end want other byte kind
  pub least : (o b : ℕ) (k : Kind) → Conflicts ps owner start end want o b k → (byte < b) ⊎ ((byte ≡ b) × (other ≤ o))

-- no byte of the range has a conflict
pub record IsFree (ps : List Piece) (owner start end : ℕ) (want : Kind) : Type 0 where
  pub free : (other byte : ℕ) (kind : Kind) → ¬ Conflicts ps owner start end want other byte kind

-- the range lies inside a longer piece of the owner, which goes on before it and after it
pub record IsInsidePiece (ps : List Piece) (owner start end : ℕ) (p : Piece) : Type 0 where
  pub stands : Contains ps p
  pub owned : p.owner ≡ owner
  pub begins_before : p.start < start
  pub ends_after : end < p.end

-- an owner holds a byte exactly where a piece of it covers the byte, and with that piece's kind
pub record HeldByPieces (ps : List Piece) : Type 0 where
  pub holds : (owner byte : ℕ) (kind : Kind) → (held ps owner byte ≡ Some kind) ↔ Any (λ p. (covers p owner byte ≡ true) × (p.kind ≡ kind)) ps

-- the piece is the owner's, and its bytes are those of the range
pub record IsWhole (p : Piece) (owner start end : ℕ) : Type 0 where
  pub owned : p.owner ≡ owner
  pub begins : p.start ≡ start
  pub ends : p.end ≡ end
