-- The rows of the commands: the locks that their turns take, when a change is made, and how many steps there are before
-- an end.
use Rattle.std.specs.Prelude.{ℕ, ◌+◌, ◌^◌, List, [], ◌∷◌, Bool, true, false, ◌&&◌, Option, Some, None, is_none, nat_le, if◌then◌else◌}
use Rattle.tdb_space.specs.Form.{Form}
use Rattle.tdb_law.specs.Commands.{MapCommand, LockCommand, GroupCommand, WalkCommand, Command}
use Rattle.tdb_law.specs.Commands.MapCommand.{Fetch, Has, Delete, Store, Insert, Modify, Append, Wipe, Check}
use Rattle.tdb_law.specs.Commands.LockCommand.{ChainLock, ChainLockNb, LockAll, LockAllRead}
use Rattle.tdb_law.specs.Commands.GroupCommand.{Start, Commit, Prepare}
use Rattle.tdb_law.specs.Commands.WalkCommand.{Next}
use Rattle.tdb_law.specs.Commands.Command.{OnMap, OnLocks, Seqnum, OnGroup, OnWalk}
use Rattle.tdb_law.specs.Openers.{Own, Txn, outside}
use Rattle.tdb_law.specs.MapCommands.{map_fills}
use Rattle.tdb_law.specs.Refusals.{Refusal, refusal, chain_byte}

-- A lock of a row: the number of steps before the turn that takes it, the bytes from its start up to its end, and its
-- strength, 1 for reading or 2 for writing.
pub record Lock : Type 0 where
  pub turn : ℕ
  pub start : ℕ
  pub end : ℕ
  pub strength : ℕ

abbrev pub lock : ℕ → ℕ → ℕ → ℕ → Lock
lock turn start end strength = record { turn = turn; start = start; end = end; strength = strength }

-- past the last lock byte that there is
abbrev pub all_end : ℕ
all_end = 2 ^ 63

-- all records, the free list, and the chain of a key
abbrev pub lock_all : ℕ → ℕ → Lock
lock_all turn strength = lock turn 168 all_end strength

abbrev pub lock_free : ℕ → ℕ → Lock
lock_free turn strength = lock turn 164 165 strength

abbrev pub lock_chain : Form → ℕ → List ℕ → ℕ → Lock
lock_chain f turn k strength = lock turn (chain_byte f k) (chain_byte f k + 1) strength

-- of a Start: the transaction lock, then all records for reading
abbrev pub start_locks : List Lock
start_locks = lock 0 8 9 2 ∷ lock_all 1 1 ∷ []

-- of a commit: all records for writing; then the opening lock, and the sequence number where its changes count
abbrev pub commit_locks : Bool → List Lock
commit_locks numbered = lock_all 0 2 ∷ lock 1 0 1 2 ∷ (if numbered then lock 1 48 49 2 ∷ [] else [])

-- Outside a transaction: a look takes its chain for reading; a change takes its chain for writing and the free list;
-- Wipe and Check take all records and the free list.
abbrev pub map_locks : Form → MapCommand → List Lock
map_locks f (Fetch k) = lock_chain f 0 k 1 ∷ []
map_locks f (Has k) = lock_chain f 0 k 1 ∷ []
map_locks f (Delete k) = lock_chain f 0 k 2 ∷ lock_free 2 2 ∷ []
map_locks f (Store k v) = lock_chain f 0 k 2 ∷ lock_free 2 2 ∷ []
map_locks f (Insert k v) = lock_chain f 0 k 2 ∷ lock_free 2 2 ∷ []
map_locks f (Modify k v) = lock_chain f 0 k 2 ∷ lock_free 2 2 ∷ []
map_locks f (Append k v) = lock_chain f 0 k 2 ∷ lock_free 2 2 ∷ []
map_locks f Wipe = lock_all 0 2 ∷ lock_free 1 2 ∷ []
map_locks f Check = lock_all 0 1 ∷ lock_free 1 1 ∷ []

abbrev pub lock_locks : Form → LockCommand → List Lock
lock_locks f (ChainLock k) = lock_chain f 0 k 2 ∷ []
lock_locks f (ChainLockNb k) = lock_chain f 0 k 2 ∷ []
lock_locks f LockAll = lock_all 0 2 ∷ []
lock_locks f LockAllRead = lock_all 0 1 ∷ []
lock_locks f _ = []

-- a command that leaves a dead record which it has to purge takes its chain for writing and the free list; else Next
-- takes its chain for reading
abbrev pub walk_locks : Form → WalkCommand → Option (List ℕ) → Bool → List Lock
walk_locks f w None purging = []
walk_locks f Next (Some k) false = lock_chain f 0 k 1 ∷ []
walk_locks f w (Some k) false = []
walk_locks f w (Some k) true = lock_chain f 0 k 2 ∷ lock_free 1 2 ∷ []

-- a Commit of this transaction changes the file: it is the outer one, something was changed, and its Prepare, if it had
-- one, found that too
abbrev pub was_planned : Option ℕ → Bool
was_planned None = true
was_planned (Some steps) = nat_le 1 steps

abbrev pub commits_in : Txn → Bool
commits_in t = nat_le t.depth 1 && t.changed && was_planned t.prepared

-- a Commit or Prepare of this transaction has the change to plan
abbrev pub plans_in : Txn → Bool
plans_in t = nat_le t.depth 1 && t.changed && is_none t.prepared

-- the locks that a Commit or Prepare takes
abbrev pub plan_locks : Option Txn → List Lock
plan_locks None = []
plan_locks (Some t) = if plans_in t then commit_locks t.numbered else []

abbrev pub group_locks : GroupCommand → Option Txn → List Lock
group_locks Start None = start_locks
group_locks Commit txn = plan_locks txn
group_locks Prepare txn = plan_locks txn
group_locks _ txn = []

-- The locks of a command's row. A command that is refused takes none; nor does one inside the opener's own transaction,
-- but for Commit and Prepare.
abbrev pub locks_by : Form → Option Refusal → Command → Own → Bool → List Lock
locks_by f (Some q) c x purging = []
locks_by f None (OnMap c) x purging = if outside x then map_locks f c else []
locks_by f None (OnLocks c) x purging = if outside x then lock_locks f c else []
locks_by f None Seqnum x purging = if outside x then lock 0 48 49 1 ∷ [] else []
locks_by f None (OnGroup g) x purging = group_locks g x.txn
locks_by f None (OnWalk w) x purging = if outside x then walk_locks f w x.cursor purging else []

abbrev pub locks : Form → Command → Own → Bool → List Lock
locks f c x purging = locks_by f (refusal f c x) c x purging

-- how many steps a command must have had before it looks at the file
abbrev pub plan_look : Option Txn → ℕ
plan_look None = 0
plan_look (Some t) = if plans_in t then 1 else 0

abbrev pub look_by : Option Refusal → Command → Own → ℕ
look_by None (OnMap c) x = if outside x then 1 else 0
look_by None (OnGroup Start) x = if outside x then 2 else 0
look_by None (OnGroup Commit) x = plan_look x.txn
look_by _ c x = 0

abbrev pub look : Form → Command → Own → ℕ
look f c x = look_by (refusal f c x) c x

-- After so many steps a command on the map has made its change, where it makes it in a turn of its own: a store has
-- linked its record, a delete has unlinked it, a wipe has wiped.
abbrev pub map_changed : MapCommand → ℕ → Bool
map_changed c n = if map_fills c then nat_le 5 n else map_unlinked c n
  where
    map_unlinked : MapCommand → ℕ → Bool
    map_unlinked (Delete k) n = nat_le 4 n
    map_unlinked Wipe n = nat_le 3 n
    map_unlinked _ n = false

-- after so many steps a commit has shut its gate, by the eighth turn, or by the third where it was prepared with its
-- gate opened
abbrev pub gate_shut : Option ℕ → ℕ → Bool
gate_shut None n = nat_le 8 n
gate_shut (Some steps) n = nat_le 4 steps && nat_le 3 n

abbrev pub commit_changed : Option Txn → ℕ → Bool
commit_changed None n = false
commit_changed (Some t) n = commits_in t && gate_shut t.prepared n

abbrev pub changed_by : Option Refusal → Command → Own → ℕ → Bool
changed_by None (OnMap c) x n = outside x && map_changed c n
changed_by None (OnGroup Commit) x n = commit_changed x.txn n
changed_by _ c x n = false

-- After so many steps the file has the command's change, which isn't told yet.
unfoldable pub is_changed : Form → Command → Own → ℕ → Bool
is_changed f c x n = changed_by (refusal f c x) c x n
