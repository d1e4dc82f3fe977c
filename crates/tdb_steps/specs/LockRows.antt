-- The locks of a command's row: of which lock bytes they are, which of them the opener's explicit locks cover, and what
-- is let go.
use Rattle.std.specs.Prelude.{ℕ, ◌+◌, ◌*◌, ◌≡◌, List, [], ◌∷◌, Bool, true, false, ◌||◌, Option, None, Some, IfSome, nat_lt}
use Rattle.tdb_locks.specs.HeldLocks.{HeldLocks, count_of}
use Rattle.tdb_locks.specs.LockTable.{ChangesRange, held}
use Rattle.tdb_locks.specs.declared.kind.Kind.{Kind}
use Rattle.tdb_locks.specs.declared.kind.Kind.TheVariants.{Read, Write}
use Rattle.tdb_locks.specs.declared.piece.Piece.{Piece}
use Rattle.tdb_law.specs.Rows.{Lock, lock, all_end}
use Rattle.tdb_steps.specs.declared.plain.Plain.{Plain}
use Rattle.tdb_steps.specs.declared.plain.Plain.TheVariants.{Fetch, Has, Store, Append, Delete, Wipe}
use Rattle.tdb_steps.specs.declared.rows.Region.{Region}
use Rattle.tdb_steps.specs.declared.rows.Region.TheVariants.{Chain, FreeList, AllRecords}
use Rattle.tdb_steps.specs.declared.rows.LockRow.{LockRow}
use Rattle.tdb_steps.specs.declared.rows.Rows.{Rows}
use Rattle.tdb_steps.specs.declared.stage.Stage.{Stage}
use Rattle.tdb_steps.specs.declared.stage.WipeStage.TheVariants.{Records}
use Rattle.tdb_steps.specs.declared.stage.Stage.TheVariants.{Begun, Looked, Wiping}

-- the first lock byte of a region, and the byte past its last
abbrev pub start_of : Region → ℕ
start_of (Chain i) = 168 + 4 * i
start_of FreeList = 164
start_of AllRecords = 168

abbrev pub end_of : Region → ℕ
end_of (Chain i) = 168 + 4 * i + 1
end_of FreeList = 165
end_of AllRecords = all_end

-- a kind as a strength: 1 for reading, 2 for writing
abbrev pub strength_of : Kind → ℕ
strength_of Read = 1
strength_of Write = 2

-- a lock of a row, as a lock of a world's rows
abbrev pub lock_of : LockRow → Lock
lock_of r = lock r.turn (start_of r.region) (end_of r.region) (strength_of r.kind)

abbrev pub second_lock : Option LockRow → List Lock
second_lock None = []
second_lock (Some r) = lock_of r ∷ []

abbrev pub locks_in : Rows → List Lock
locks_in rows = lock_of rows.first ∷ second_lock rows.second

-- the locks of a look, those of a change, and those of a wipe
abbrev pub reader_rows : ℕ → Rows
reader_rows chain = record { first = record { turn = 0; region = Chain chain; kind = Read }; second = None }

abbrev pub writer_rows : ℕ → Rows
writer_rows chain = record { first = record { turn = 0; region = Chain chain; kind = Write }; second = Some (record { turn = 2; region = FreeList; kind = Write }) }

abbrev pub wipe_rows : Rows
wipe_rows = record { first = record { turn = 0; region = AllRecords; kind = Write }; second = Some (record { turn = 1; region = FreeList; kind = Write }) }

abbrev pub rows_of : Plain → ℕ → Rows
rows_of (Fetch key) chain = reader_rows chain
rows_of (Has key) chain = reader_rows chain
rows_of (Store key value flag) chain = writer_rows chain
rows_of (Append key value) chain = writer_rows chain
rows_of (Delete key) chain = writer_rows chain
rows_of Wipe chain = wipe_rows

-- the lock that the turn from a stage takes: the first of its row before anything else, and the second after the look,
-- or in a wipe next
abbrev pub row_at : Rows → Stage → Option LockRow
row_at rows Begun = Some rows.first
row_at rows (Looked found) = rows.second
row_at rows (Wiping Records) = rows.second
row_at rows stage = None

-- the explicit lock of all records covers a lock of this kind
abbrev pub covers_all : Option (Kind × ℕ) → Kind → Bool
covers_all None kind = false
covers_all (Some (Write, count)) kind = true
covers_all (Some (Read, count)) Read = true
covers_all (Some (Read, count)) Write = false

-- the opener's explicit locks cover a lock of a row: that of the chain, which is for writing, or that of all records
abbrev pub covers_region : HeldLocks → Region → Kind → Bool
covers_region locks (Chain i) kind = nat_lt 0 (count_of locks i) || covers_all locks.all kind
covers_region locks FreeList kind = false
covers_region locks AllRecords kind = covers_all locks.all kind

abbrev pub is_covered : HeldLocks → LockRow → Bool
is_covered locks r = covers_region locks r.region r.kind

-- Where a lock of a row isn't covered, its opener holds nothing at the byte before its region. So a region that is let
-- go isn't part of a longer one.
abbrev pub StandsAlone : HeldLocks → ℕ → List Piece → LockRow → Type 0
StandsAlone locks owner ps r = is_covered locks r ≡ false → (b : ℕ) → b + 1 ≡ start_of r.region → held ps owner b ≡ None

pub record AllStandAlone (locks : HeldLocks) (owner : ℕ) (ps : List Piece) (rows : Rows) : Type 0 where
  pub first : StandsAlone locks owner ps rows.first
  pub second : IfSome rows.second (StandsAlone locks owner ps)

-- from one table to another a lock of a row is let go where it isn't covered, and else nothing changes
pub record IsLetGo (locks : HeldLocks) (owner : ℕ) (old new : List Piece) (r : LockRow) : Type 0 where
  pub covered : is_covered locks r ≡ true → new ≡ old
  pub bare : is_covered locks r ≡ false → ChangesRange old new owner (start_of r.region) (end_of r.region) None

-- so are the locks of a row, the first and then the second
pub record AreLetGo (locks : HeldLocks) (owner : ℕ) (old new : List Piece) (rows : Rows) : Type 0 where
  pub between : List Piece
  pub first : IsLetGo locks owner old between rows.first
  pub second : IfSome rows.second (IsLetGo locks owner between new)
  pub only : rows.second ≡ None → new ≡ between
