-- The refusals that depend on the opener's own state alone: for each command a table, of which the first that applies
-- is the answer.
use Rattle.std.specs.Prelude.{ℕ, ◌+◌, ◌*◌, List, [], ◌∷◌, Bool, false, ◌&&◌, ◌||◌, not, Option, Some, None, is_some, nat_lt, ◌==◌, if◌then◌else◌}
use Rattle.tdb_space.specs.Form.{Form}
use Rattle.tdb_space.specs.Pairs.{home}
use Rattle.tdb_law.specs.Commands.{MapCommand, LockCommand, GroupCommand, WalkCommand, Command, Reply}
use Rattle.tdb_law.specs.Commands.MapCommand.{Fetch, Has, Wipe, Check}
use Rattle.tdb_law.specs.Commands.LockCommand.{ChainLock, ChainLockNb, ChainUnlock, LockAll, LockAllRead, UnlockAll}
use Rattle.tdb_law.specs.Commands.GroupCommand.{Start, Commit, Prepare, Cancel}
use Rattle.tdb_law.specs.Commands.WalkCommand.{Close}
use Rattle.tdb_law.specs.Commands.Command.{OnMap, OnLocks, Seqnum, OnGroup, OnWalk}
use Rattle.tdb_law.specs.Commands.Reply.{ReadOnly, InTransaction, HeldLocks, NotLocked, Nesting, NoTransaction, Doomed}
use Rattle.tdb_law.specs.Openers.{Own, Txn, AllLock, outside, chain_locks, explicit_locks, all_count, count_at}

-- why an opener's own state forbids a command
pub data Refusal : Type 0 where
  OnlyReads IsPrepared LocksStand NothingLocked NeverNests NoneOpen IsDoomed : Refusal

-- the lock byte of the chain in which a key is filed
abbrev pub chain_byte : Form → List ℕ → ℕ
chain_byte f k = 168 + 4 * home f k

-- what the table asks of an opener: it is prepared; it has a cursor; it holds chains explicitly; its lock of all
-- records has this strength; its transaction is nested, or doomed
abbrev pub is_prepared : Option Txn → Bool
is_prepared None = false
is_prepared (Some t) = is_some t.prepared

abbrev pub has_cursor : Own → Bool
has_cursor x = is_some x.cursor

abbrev pub has_chains : Own → Bool
has_chains x = nat_lt 0 (chain_locks x)

abbrev pub has_all : Option AllLock → ℕ → Bool
has_all None strength = false
has_all (Some a) strength = a.strength == strength

abbrev pub is_nested : Option Txn → Bool
is_nested None = false
is_nested (Some t) = nat_lt 1 t.depth

abbrev pub is_doomed : Option Txn → Bool
is_doomed None = false
is_doomed (Some t) = t.doomed

-- outside a transaction it holds all records for reading
abbrev pub reads_all : Own → Bool
reads_all x = outside x && has_all x.all 1

-- the count that `HeldLocks` tells: its explicit locks, and one more for a cursor
abbrev pub held_count : Own → ℕ
held_count x = explicit_locks x + (if has_cursor x then 1 else 0)

-- a row of the table: where the test holds, the refusal
abbrev pub Refusals : Type 0
Refusals = List (Bool × Refusal)

abbrev pub first_that_applies : Refusals → Option Refusal
first_that_applies [] = None
first_that_applies (r ∷ rs) = if r.0 then Some r.1 else first_that_applies rs

-- of a command that only reads the map, and of one that writes keys
abbrev pub reader_refusals : Own → Refusals
reader_refusals x = (is_prepared x.txn, IsPrepared) ∷ []

abbrev pub writer_refusals : Own → Refusals
writer_refusals x = (x.options.read_only, OnlyReads) ∷ (is_prepared x.txn, IsPrepared) ∷ (reads_all x, LocksStand) ∷ []

abbrev pub map_refusals : MapCommand → Own → Refusals
map_refusals (Fetch k) x = reader_refusals x
map_refusals (Has k) x = reader_refusals x
map_refusals Wipe x = (x.options.read_only, OnlyReads) ∷ (is_prepared x.txn, IsPrepared) ∷ (has_cursor x || (outside x && has_chains x) || reads_all x, LocksStand) ∷ []
map_refusals Check x = (is_prepared x.txn, IsPrepared) ∷ (outside x && (has_chains x || has_cursor x), LocksStand) ∷ []
map_refusals _ x = writer_refusals x

abbrev pub lock_refusals : Form → LockCommand → Own → Refusals
lock_refusals f (ChainLock k) x = (is_prepared x.txn, IsPrepared) ∷ (reads_all x, LocksStand) ∷ []
lock_refusals f (ChainLockNb k) x = (is_prepared x.txn, IsPrepared) ∷ (reads_all x, LocksStand) ∷ []
lock_refusals f (ChainUnlock k) x = (is_prepared x.txn, IsPrepared) ∷ (count_at x (chain_byte f k) == 0, NothingLocked) ∷ []
lock_refusals f LockAll x = (is_prepared x.txn, IsPrepared) ∷ (outside x && not (has_all x.all 2) && (has_chains x || is_some x.all || has_cursor x), LocksStand) ∷ []
lock_refusals f LockAllRead x = (is_prepared x.txn, IsPrepared) ∷ (outside x && not (is_some x.all) && (has_chains x || has_cursor x), LocksStand) ∷ []
lock_refusals f UnlockAll x = (is_prepared x.txn, IsPrepared) ∷ (not (is_some x.all), NothingLocked) ∷ ((all_count x.all == 1) && outside x && (has_chains x || has_cursor x), LocksStand) ∷ []

-- of Commit, and of a Prepare that isn't inner: there is no transaction, it is doomed, or locks that were taken in it
-- are held at its outer end
abbrev pub commit_refusals : Own → Refusals
commit_refusals x = (outside x, NoneOpen) ∷ (is_doomed x.txn, IsDoomed) ∷ (not (is_nested x.txn) && nat_lt 0 (explicit_locks x), LocksStand) ∷ []

abbrev pub group_refusals : GroupCommand → Own → Refusals
group_refusals Start x = (x.options.read_only, OnlyReads) ∷ (is_prepared x.txn, IsPrepared) ∷ (not (outside x) && not x.options.nesting, NeverNests) ∷ (outside x && nat_lt 0 (held_count x), LocksStand) ∷ []
group_refusals Commit x = commit_refusals x
group_refusals Prepare x = (outside x, NoneOpen) ∷ (is_prepared x.txn, IsPrepared) ∷ (if is_nested x.txn then [] else commit_refusals x)
group_refusals Cancel x = (outside x, NoneOpen) ∷ []

abbrev pub walk_refusals : WalkCommand → Own → Refusals
walk_refusals Close x = []
walk_refusals _ x = reader_refusals x

abbrev pub refusals : Form → Command → Own → Refusals
refusals f (OnMap c) x = map_refusals c x
refusals f (OnLocks c) x = lock_refusals f c x
refusals f Seqnum x = reader_refusals x
refusals f (OnGroup c) x = group_refusals c x
refusals f (OnWalk c) x = walk_refusals c x

-- The refusal of a command, where there is one. Both sides ask this one table.
unfoldable pub refusal : Form → Command → Own → Option Refusal
refusal f c x = first_that_applies (refusals f c x)

-- the reply that tells it
abbrev pub says : Own → Refusal → Reply
says x OnlyReads = ReadOnly
says x IsPrepared = InTransaction
says x LocksStand = HeldLocks (held_count x)
says x NothingLocked = NotLocked
says x NeverNests = Nesting
says x NoneOpen = NoTransaction
says x IsDoomed = Doomed
