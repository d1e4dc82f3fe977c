-- One byte of the lock table that is taken or let go, unless an opener's explicit locks cover it.
use Rattle.std.specs.Prelude.{◌≡◌, ℕ, ◌+◌, ◌%◌, ◌⊎◌, ◌==◌, ◌&&◌, Bool, true, false, List, Option, Some, None, if◌then◌else◌, is_some, nat_le}
use Rattle.tdb_locks.specs.HeldLocks.{HeldLocks}
use Rattle.tdb_locks.specs.LockTable.{IsFirstConflict, IsFree, held}
use Rattle.tdb_locks.specs.declared.kind.Kind.{Kind}
use Rattle.tdb_locks.specs.declared.kind.Kind.TheVariants.{Read, Write}
use Rattle.tdb_locks.specs.declared.piece.Piece.{Piece}

-- what each opener holds at each byte
abbrev pub Holding : Type 0
Holding = ℕ → ℕ → Option Kind

-- what is held once an owner holds one byte as told, where that isn't covered, and all else is held as before
abbrev pub with_byte : Bool → ℕ → ℕ → Option Kind → Holding → Holding
with_byte covered owner byte now h o b = if covered then h o b else (if (o == owner) && (b == byte) then now else h o b)

-- The explicit locks that an opener has let it read each record: it holds all of them.
abbrev pub reads_all : HeldLocks → Bool
reads_all own = is_some own.all

-- it holds all records, and for reading alone: then it may change no chain
abbrev pub is_reading : Option (Kind × ℕ) → Bool
is_reading None = false
is_reading (Some (Read, count)) = true
is_reading (Some (Write, count)) = false

abbrev pub only_reads : HeldLocks → Bool
only_reads own = is_reading own.all

-- An opener holds no byte that is 3 past a multiple of 4, but by its lock of all records, which begins at 168. The
-- bytes of the free list, of chains and of records are multiples of 4, so none of them that it holds is part of a
-- longer piece.
abbrev pub HoldsWords : HeldLocks → ℕ → List Piece → Type 0
HoldsWords own owner ps = (b : ℕ) → b % 4 ≡ 3 → reads_all own && nat_le 168 b ≡ false → held ps owner b ≡ None

-- a byte can be held: the explicit locks cover it, or no other holds it in conflict
abbrev pub CanHold : Bool → List Piece → ℕ → ℕ → Kind → Type 0
CanHold covered ps owner byte kind = (covered ≡ true) ⊎ IsFree ps owner byte (byte + 1) kind

-- a byte can't be held: this other opener holds it in conflict, and is the first that does
pub record IsKeptFrom (covered : Bool) (ps : List Piece) (owner byte : ℕ) (want : Kind) (other at : ℕ) : Type 0 where
  pub uncovered : covered ≡ false
  pub kind : Kind
  pub conflict : IsFirstConflict ps owner byte (byte + 1) want other at kind
