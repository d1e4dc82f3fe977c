-- What an opener has: its options, its transaction, its explicit locks and its cursor.
use Rattle.std.specs.Prelude.{ℕ, ◌+◌, ◌-◌, List, Bool, true, false, Option, Some, None, is_some, is_none, unwrap_or, if◌then◌else◌, nat_le}
use Rattle.std.specs.List.{sum}
use Rattle.std.specs.Ordering.{nat_cmp, eq_by_cmp}
use Rattle.std.specs.declared.cmp.Ordering.{Ordering}
use Rattle.std.specs.Cmp.Lexicographic.{slice_cmp}
use Rattle.tdb_law.specs.Commands.{Command}
use Rattle.std.specs.FinMap.{FinMap, get, insert, remove, empty, values}

-- the order of keys by their bytes
abbrev pub bytes_cmp : List ℕ → List ℕ → Ordering
bytes_cmp = slice_cmp nat_cmp

-- a map from keys to values, both bytes. It answers at each key, and has a number of keys. Maps that answer alike are
-- equal
abbrev pub Map : Type 0
Map = FinMap bytes_cmp (List ℕ)

-- q is the key k, byte for byte
abbrev pub is_key : List ℕ → List ℕ → Bool
is_key k q = eq_by_cmp bytes_cmp q k

-- the map has the key
abbrev pub has : Map → List ℕ → Bool
has m k = is_some (get m k)

-- how often chains are locked explicitly: from the lock byte of a chain to a number that is at least 1
abbrev pub Counts : Type 0
Counts = FinMap nat_cmp ℕ

-- the world's options: transactions may nest; the file is read-only; changes raise the sequence number
pub record Options : Type 0 where
  pub nesting : Bool
  pub read_only : Bool
  pub seqnum : Bool

-- A transaction: the map of its image, its depth, whether an inner one was cancelled, how many steps its Prepare had
-- where it is prepared, whether a changing command was done in it, and whether its changes raise the sequence number.
pub record Txn : Type 0 where
  pub image : Map
  pub depth : ℕ
  pub doomed : Bool
  pub prepared : Option ℕ
  pub changed : Bool
  pub numbered : Bool

-- the explicit lock of all records: 1 for reading or 2 for writing, and how often it was taken
pub record AllLock : Type 0 where
  pub strength : ℕ
  pub count : ℕ

-- What an opener has that a report shows: whether it is live, its transaction, its explicit locks, and of its cursor
-- the key of the last pair.
pub record Own : Type 0 where
  pub options : Options
  pub live : Bool
  pub txn : Option Txn
  pub counts : Counts
  pub all : Option AllLock
  pub cursor : Option (List ℕ)

-- What only the world knows of an opener: the record on which its cursor stands outside a transaction, whether its
-- command is going to purge a dead one, and whether a move that was blocked has let go of everything.
pub record Spot : Type 0 where
  pub stands : Option ℕ
  pub purging : Bool
  pub gone : Bool

-- What the file adds to that at each moment: whether its cursor stands on a dead record that it has to purge when it
-- leaves, and which chain bytes its next move wants.
pub record View : Type 0 where
  pub must : Bool
  pub way : ℕ → Bool

-- Where its walk has come in the map that it sees: whether it stands on a record, how many chains it has entered, and
-- which keys have their record further on.
pub record Mark : Type 0 where
  pub inside : Bool
  pub reached : ℕ
  pub ahead : List ℕ → Bool

-- a command that isn't finished, with the number of steps that it has had
pub record Task : Type 0 where
  pub command : Command
  pub steps : ℕ

-- the opener without transaction, explicit locks and cursor
abbrev pub ended : Own → Own
ended x = record x { txn = None; counts = empty; all = None; cursor = None }

-- it is no longer there; or it is, and has nothing yet
abbrev pub closed : Own → Own
closed x = record (ended x) { live = false }

abbrev pub opened : Own → Own
opened x = record (closed x) { live = true }

-- no record, nothing to purge, nothing let go
abbrev pub nowhere : Spot
nowhere = record { stands = None; purging = false; gone = false }

-- the opener is outside a transaction of its own
abbrev pub outside : Own → Bool
outside x = is_none x.txn

-- the map that it sees: that of its transaction's image, or else this one
abbrev pub image_or : Option Txn → Map → Map
image_or None m = m
image_or (Some t) m = t.image

abbrev pub seen : Own → Map → Map
seen x m = image_or x.txn m

-- how often it has locked the chain of a byte explicitly, one time more, and one less
abbrev pub count_at : Own → ℕ → ℕ
count_at x byte = unwrap_or (get x.counts byte) 0

abbrev pub count_more : Own → ℕ → Own
count_more x byte = record x { counts = insert x.counts byte (count_at x byte + 1) }

abbrev pub count_less : Own → ℕ → Own
count_less x byte = record x { counts = if nat_le (count_at x byte) 1 then remove x.counts byte else insert x.counts byte (count_at x byte - 1) }

-- how often it has locked chains, and how often chains and all records
abbrev pub chain_locks : Own → ℕ
chain_locks x = sum (values x.counts)

abbrev pub all_count : Option AllLock → ℕ
all_count None = 0
all_count (Some a) = a.count

abbrev pub explicit_locks : Own → ℕ
explicit_locks x = chain_locks x + all_count x.all

-- one more lock of all records, with this strength where it is the first; and one less
abbrev pub all_more : Option AllLock → ℕ → AllLock
all_more None strength = record { strength = strength; count = 1 }
all_more (Some a) strength = record a { count = a.count + 1 }

abbrev pub all_less : Option AllLock → Option AllLock
all_less None = None
all_less (Some a) = if nat_le a.count 1 then None else Some (record a { count = a.count - 1 })
