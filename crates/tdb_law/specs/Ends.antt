-- The rows of the commands: after how many steps each may go on, and may end with which reply.
use Rattle.std.specs.Prelude.{ℕ, ◌≡◌, ◌≤◌, ◌<◌, ◌⊎◌, List, Bool, true, false, ◌&&◌, ◌||◌, Option, Some, None, is_some, nat_le, ◌==◌, if◌then◌else◌}
use Rattle.tdb_space.specs.Form.{Form}
use Rattle.tdb_law.specs.Commands.{MapCommand, LockCommand, WalkCommand, Command, Reply, Turn}
use Rattle.tdb_law.specs.Commands.MapCommand.{Fetch, Has, Delete, Wipe, Check}
use Rattle.tdb_law.specs.Commands.LockCommand.{ChainLockNb, ChainUnlock, UnlockAll}
use Rattle.tdb_law.specs.Commands.GroupCommand.{Start, Commit, Prepare, Cancel}
use Rattle.tdb_law.specs.Commands.WalkCommand.{First, Next}
use Rattle.tdb_law.specs.Commands.Command.{OnMap, OnLocks, Seqnum, OnGroup, OnWalk}
use Rattle.tdb_law.specs.Commands.Reply.{Done, Memory, Full}
use Rattle.tdb_law.specs.Commands.Turn.{Step, Blocked, Ends}
use Rattle.tdb_law.specs.Openers.{Own, Txn, outside}
use Rattle.tdb_law.specs.Refusals.{Refusal, refusal}
use Rattle.tdb_law.specs.Rows.{commits_in, plans_in}

-- the most steps that a command on the map has outside a transaction
abbrev pub map_last : MapCommand → ℕ
map_last (Fetch k) = 1
map_last (Has k) = 1
map_last (Delete k) = 5
map_last Wipe = 3
map_last Check = 3
map_last _ = 6

-- It may end after so many steps with this reply: a look and a refusal end after one; a store in place too, one that
-- finds no space after three, one that links after five, or six where it gives a record back; a delete that marks after
-- one, else after five.
abbrev pub store_ends : ℕ → Reply → Bool
store_ends n Done = (n == 1) || (n == 5) || (n == 6)
store_ends n (Full len need) = n == 3
store_ends n r = n == 1

abbrev pub delete_ends : ℕ → Reply → Bool
delete_ends n Done = (n == 1) || (n == 5)
delete_ends n r = n == 1

abbrev pub map_ends : MapCommand → ℕ → Reply → Bool
map_ends (Fetch k) n r = n == 1
map_ends (Has k) n r = n == 1
map_ends (Delete k) n r = delete_ends n r
map_ends Wipe n r = n == 3
map_ends Check n r = n == 3
map_ends _ n r = store_ends n r

-- A Commit has eight steps, and three where it was prepared with its gate opened. It finds after two that the file
-- doesn't change, or that there is no space. Where there is nothing to plan it ends at once.
abbrev pub is_opened : Option ℕ → Bool
is_opened None = false
is_opened (Some steps) = nat_le 4 steps

abbrev pub commit_last : Option Txn → ℕ
commit_last None = 0
commit_last (Some t) = if plans_in t then 8 else if commits_in t && is_opened t.prepared then 3 else 0

abbrev pub not_full : Reply → Bool
not_full (Full len need) = false
not_full _ = true

abbrev pub commit_ends : Option Txn → ℕ → Reply → Bool
commit_ends None n r = n == 0
commit_ends (Some t) n r = if plans_in t then (n == 2) || (not_full r && (n == 8)) else n == commit_last (Some t)

-- a Prepare has the first five turns of a Commit
abbrev pub prepare_last : Option Txn → ℕ
prepare_last None = 0
prepare_last (Some t) = if plans_in t then 4 else 0

abbrev pub prepare_ends : Option Txn → ℕ → Reply → Bool
prepare_ends None n r = n == 0
prepare_ends (Some t) n r = if plans_in t then (n == 2) || (not_full r && (n == 4)) else n == 0

-- a command that leaves a dead record may have two steps, and a Next one, the lock of its chain
abbrev pub walk_ends : WalkCommand → Option (List ℕ) → ℕ → Bool
walk_ends w None n = n == 0
walk_ends Next (Some k) n = (n == 1) || (n == 2)
walk_ends w (Some k) n = (n == 0) || (n == 2)

abbrev pub last_by : Option Refusal → Command → Own → ℕ
last_by None (OnMap c) x = if outside x then map_last c else 0
last_by None (OnGroup Start) x = if outside x then 2 else 0
last_by None (OnGroup Commit) x = commit_last x.txn
last_by None (OnGroup Prepare) x = prepare_last x.txn
last_by None (OnWalk w) x = if outside x && is_some x.cursor then 2 else 0
last_by _ c x = 0

-- the most steps of a command
abbrev pub last_step : Form → Command → Own → ℕ
last_step f c x = last_by (refusal f c x) c x

abbrev pub ends_by : Option Refusal → Command → Own → ℕ → Reply → Bool
ends_by None (OnMap c) x n r = if outside x then map_ends c n r else n == 0
ends_by None (OnGroup Start) x n r = if outside x then n == 2 else n == 0
ends_by None (OnGroup Commit) x n r = commit_ends x.txn n r
ends_by None (OnGroup Prepare) x n r = prepare_ends x.txn n r
ends_by None (OnWalk w) x n r = if outside x then walk_ends w x.cursor n else n == 0
ends_by _ c x n r = n == 0

-- a command may end after so many steps with this reply
abbrev pub may_end : Form → Command → Own → ℕ → Reply → Bool
may_end f c x n r = ends_by (refusal f c x) c x n r

-- The commands that may find no memory, each at its turns up to the last, and a Start, Commit or Prepare at its first
-- three turns. A refusal, an unlock, a Cancel, an inner Start, Commit or Prepare, a Commit of a prepared transaction,
-- and an EndWalk, Next or Close without a cursor never do.
abbrev pub lock_starves : LockCommand → Bool
lock_starves (ChainUnlock k) = false
lock_starves UnlockAll = false
lock_starves _ = true

abbrev pub plan_starves : Option Txn → Bool
plan_starves None = false
plan_starves (Some t) = plans_in t

abbrev pub starves_by : Option Refusal → Command → Own → Bool
starves_by (Some q) c x = false
starves_by None (OnMap c) x = true
starves_by None (OnLocks c) x = lock_starves c
starves_by None Seqnum x = outside x
starves_by None (OnGroup Start) x = outside x
starves_by None (OnGroup Commit) x = plan_starves x.txn
starves_by None (OnGroup Prepare) x = plan_starves x.txn
starves_by None (OnGroup Cancel) x = false
starves_by None (OnWalk First) x = true
starves_by None (OnWalk w) x = is_some x.cursor

abbrev pub starves : Form → Command → Own → Bool
starves f c x = starves_by (refusal f c x) c x

abbrev pub starve_last : Form → Command → Own → ℕ
starve_last f (OnGroup g) x = 2
starve_last f c x = last_step f c x

-- a command that waits where its lock is held; one alone doesn't, and is told that it is busy
abbrev pub waits : Command → Bool
waits (OnLocks (ChainLockNb k)) = false
waits _ = true

-- A turn that the row of a command allows after so many steps: a step below the last; a block of one that waits; an end
-- by the table, or for want of memory.
abbrev pub IsRow : Form → Command → Own → ℕ → Turn → Type 0
IsRow f c x n Step = n < last_step f c x
IsRow f c x n (Blocked owner byte) = waits c ≡ true
IsRow f c x n (Ends r) = (may_end f c x n r ≡ true) ⊎ ((r ≡ Memory) × (starves f c x ≡ true) × (n ≤ starve_last f c x))
