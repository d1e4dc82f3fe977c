-- The locks of a move: which chains it reads on its way, and what of another opener stands in it.
use Rattle.std.specs.Prelude.{◌≡◌, ◌≢◌, ℕ, ◌+◌, ◌*◌, ◌≤◌, ◌<◌, ◌⊎◌, ◌||◌, Bool, true, false, List, None, Some, is_some, nat_lt}
use Rattle.tdb_words.specs.Word.{word}
use Rattle.tdb_space.specs.Form.{Form, chain_head}
use Rattle.tdb_locks.specs.HeldLocks.{HeldLocks, count_of}
use Rattle.tdb_locks.specs.LockTable.{IsFirstConflict, IsFree, held}
use Rattle.tdb_locks.specs.declared.kind.Kind.{Kind}
use Rattle.tdb_locks.specs.declared.kind.Kind.TheVariants.{Read}
use Rattle.tdb_locks.specs.declared.piece.Piece.{Piece}
use Rattle.tdb_law.specs.Layout.{Place, chains_in}
use Rattle.tdb_walk.specs.declared.standing.Standing.{Standing}
use Rattle.tdb_walk.specs.declared.standing.Standing.TheVariants.{Before, On, Past}
use Rattle.tdb_walk.specs.declared.looking.Look.{Look}
use Rattle.tdb_walk.specs.declared.looking.Look.TheVariants.{Seen, Stopped}
use Rattle.tdb_walk.specs.declared.way.Way.{Way}
use Rattle.tdb_walk.specs.declared.way.Way.TheVariants.{Met, Blocked, End}
use Rattle.tdb_walk.specs.NextLive.{NoneLive, IsNext, IsWithin}

-- the byte by which a chain is locked
abbrev pub lock_byte : ℕ → ℕ
lock_byte j = 168 + 4 * j

-- The explicit locks that an opener has let it read a chain: it holds the chain, or all records.
abbrev pub reads_chain : HeldLocks → ℕ → Bool
reads_chain own j = nat_lt 0 (count_of own j) || is_some own.all

-- a chain can be read: by the opener's explicit locks, or since it holds the chain's byte for its command, or since no
-- other holds that byte for writing
abbrev pub CanRead : List Piece → ℕ → HeldLocks → ℕ → Type 0
CanRead ps owner own j = (reads_chain own j ≡ true) ⊎ (held ps owner (lock_byte j) ≢ None) ⊎ IsFree ps owner (lock_byte j) (lock_byte j + 1) Read

-- a chain can't be read: this other opener holds its byte for writing, and is the first that does
pub record IsHeldOff (ps : List Piece) (owner : ℕ) (own : HeldLocks) (j other byte : ℕ) : Type 0 where
  pub uncovered : reads_chain own j ≡ false
  pub kind : Kind
  pub conflict : IsFirstConflict ps owner (lock_byte j) (lock_byte j + 1) Read other byte kind

-- what a look at a chain says of its lock
abbrev pub LooksRightly : List Piece → ℕ → HeldLocks → ℕ → Look → Type 0
LooksRightly ps owner own j (Seen live) = CanRead ps owner own j
LooksRightly ps owner own j (Stopped other byte) = IsHeldOff ps owner own j other byte

-- two tables say the same of every other opener
abbrev pub SameOthers : ℕ → List Piece → List Piece → Type 0
SameOthers owner old new = (other byte : ℕ) → other ≢ owner → held new other byte ≡ held old other byte

-- two tables say the same
abbrev pub SameLocks : List Piece → List Piece → Type 0
SameLocks old new = (owner byte : ℕ) → held new owner byte ≡ held old owner byte

-- a chain of an image has a record
abbrev pub IsFilled : Form → List ℕ → ℕ → Type 0
IsFilled f img j = word f.order img (chain_head j) ≡ 0 → ⊥

-- the chains from one number up to another that have records can be read
abbrev pub CanReadTo : Form → List ℕ → List Piece → ℕ → HeldLocks → ℕ → ℕ → Type 0
CanReadTo f img ps owner own from to = (j : ℕ) → from ≤ j → j < to → IsFilled f img j → CanRead ps owner own j

-- the chain that a move from a place on enters first
abbrev pub next_chain : Form → Standing → ℕ
next_chain f (Before i) = i
next_chain f (On i off) = i + 1
next_chain f Past = f.chains

-- A move is blocked before a chain with records that can't be read: no chain before it has a live record left, and each
-- of them that the move enters can be read.
pub record IsBlocked (f : Form) (img : List ℕ) (ps : List Piece) (owner : ℕ) (own : HeldLocks) (place : Place) (from chain other byte : ℕ) : Type 0 where
  pub above : from ≤ chain
  pub below : chain < f.chains
  pub passed : NoneLive (chains_in f img) place chain
  pub free : CanReadTo f img ps owner own from chain
  pub filled : IsFilled f img chain
  pub off : IsHeldOff ps owner own chain other byte

-- A move from a place on, which enters chains from this number on, comes to the next live record where each chain with
-- records up to that one can be read, and to the end where no live record is left and each can be read. Else it is
-- blocked.
abbrev pub IsWay : Form → List ℕ → List Piece → ℕ → HeldLocks → Place → ℕ → Way → Type 0
IsWay f img ps owner own place from (Met live) = IsNext f img place (Some live) × CanReadTo f img ps owner own from (live.chain + 1)
IsWay f img ps owner own place from End = IsNext f img place None × CanReadTo f img ps owner own from f.chains
IsWay f img ps owner own place from (Blocked chain other byte) = IsBlocked f img ps owner own place from chain other byte

-- a record that is come to lies within the file, and a chain before which a move is blocked is one of the file's
abbrev pub MeetsWithin : Form → ℕ → Way → Type 0
MeetsWithin f size (Met live) = IsWithin f size live
MeetsWithin f size (Blocked chain other byte) = chain < f.chains
MeetsWithin f size End = Unit {0}
