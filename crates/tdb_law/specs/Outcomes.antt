-- What a command comes to: its reply on a map, the map, the opener and the sequence number afterwards, and the keys
-- that it reads and touches. Each is a table by level, with a column for a command that is refused.
use Rattle.std.specs.Prelude.{ℕ, ◌+◌, ◌-◌, List, Bool, true, false, ◌&&◌, ◌||◌, Option, Some, None, is_some, nat_lt, if◌then◌else◌}
use Rattle.tdb_space.specs.Form.{Form}
use Rattle.tdb_law.specs.Commands.{MapCommand, LockCommand, GroupCommand, WalkCommand, Command, Reply, Turn, is_done}
use Rattle.tdb_law.specs.Commands.LockCommand.{ChainLock, ChainLockNb, ChainUnlock, LockAll, LockAllRead, UnlockAll}
use Rattle.tdb_law.specs.Commands.GroupCommand.{Start, Commit, Prepare, Cancel}
use Rattle.tdb_law.specs.Commands.WalkCommand.{First, Next, EndWalk, Close}
use Rattle.tdb_law.specs.Commands.Command.{OnMap, OnLocks, Seqnum, OnGroup, OnWalk}
use Rattle.tdb_law.specs.Commands.Reply.{Done, End, Pair}
use Rattle.tdb_law.specs.Commands.Turn.{Ends}
use Rattle.tdb_law.specs.Openers.{Own, Txn, Map, outside, seen, ended, closed, count_more, count_less, all_more, all_less}
use Rattle.tdb_law.specs.MapCommands.{reply, after, map_reads, map_touches, map_changes, map_fills}
use Rattle.tdb_law.specs.Refusals.{Refusal, refusal, says, chain_byte}
use Rattle.tdb_law.specs.Rows.{commits_in, plans_in}

abbrev pub commits : Option Txn → Bool
commits None = false
commits (Some t) = commits_in t

abbrev pub plans : Option Txn → Bool
plans None = false
plans (Some t) = plans_in t

-- A command whose reply is a move of the cursor: First, and Next where there is a cursor. The reply of Seqnum is a
-- number.
abbrev pub walk_moves : WalkCommand → Own → Bool
walk_moves First x = true
walk_moves Next x = is_some x.cursor
walk_moves _ x = false

abbrev pub moves_by : Option Refusal → Command → Own → Bool
moves_by None (OnWalk w) x = walk_moves w x
moves_by _ c x = false

abbrev pub moves : Form → Command → Own → Bool
moves f c x = moves_by (refusal f c x) c x

abbrev pub counts_by : Option Refusal → Command → Bool
counts_by None Seqnum = true
counts_by _ c = false

abbrev pub counts : Form → Command → Own → Bool
counts f c x = counts_by (refusal f c x) c

-- the reply of a command that neither moves nor counts, where the file has this map
abbrev pub walk_told : WalkCommand → Reply
walk_told First = End
walk_told Next = End
walk_told _ = Done

abbrev pub told_by : Option Refusal → Command → Own → Map → Reply
told_by (Some q) c x m = says x q
told_by None (OnMap c) x m = reply c (seen x m)
told_by None (OnWalk w) x m = walk_told w
told_by None c x m = Done

abbrev pub told : Form → Command → Own → Map → Reply
told f c x m = told_by (refusal f c x) c x m

-- the map of the file after it: a command outside a transaction changes it, and a commit makes it that of its image
abbrev pub map_by : Option Refusal → Command → Own → Map → Map
map_by None (OnMap c) x m = if outside x then after c m else m
map_by None (OnGroup Commit) x m = if commits x.txn then seen x m else m
map_by _ c x m = m

abbrev pub map_after : Form → Command → Own → Map → Map
map_after f c x m = map_by (refusal f c x) c x m

-- the keys of the file that it reads, and those that it may change
abbrev pub reads_by : Option Refusal → Command → Own → List ℕ → Bool
reads_by None (OnMap c) x k = outside x && map_reads c k
reads_by None (OnGroup Start) x k = outside x
reads_by None (OnGroup Commit) x k = commits x.txn
reads_by _ c x k = false

abbrev pub reads : Form → Command → Own → List ℕ → Bool
reads f c x k = reads_by (refusal f c x) c x k

abbrev pub touches_by : Option Refusal → Command → Own → List ℕ → Bool
touches_by None (OnMap c) x k = outside x && map_touches c k
touches_by None (OnGroup Commit) x k = commits x.txn
touches_by _ c x k = false

abbrev pub touches : Form → Command → Own → List ℕ → Bool
touches f c x k = touches_by (refusal f c x) c x k

-- The opener after a command in its own transaction: the image has the change, and where the command was done there is
-- something to commit.
abbrev pub changed_txn : MapCommand → Option Txn → Option Txn
changed_txn c None = None
changed_txn c (Some t) = Some (record t { image = after c t.image; changed = t.changed || (map_changes c && is_done (reply c t.image)) })

-- after a command on explicit locks
abbrev pub own_locked : Form → LockCommand → Own → Own
own_locked f (ChainLock k) x = count_more x (chain_byte f k)
own_locked f (ChainLockNb k) x = count_more x (chain_byte f k)
own_locked f (ChainUnlock k) x = count_less x (chain_byte f k)
own_locked f LockAll x = record x { all = Some (all_more x.all 2) }
own_locked f LockAllRead x = record x { all = Some (all_more x.all 1) }
own_locked f UnlockAll x = record x { all = all_less x.all }

-- a new transaction on this map, or one level deeper
abbrev pub begun_txn : Own → Map → Txn
begun_txn x m = record { image = m; depth = 1; doomed = false; prepared = None; changed = false; numbered = x.options.seqnum }

abbrev pub own_started : Option Txn → Own → Map → Own
own_started None x m = record x { txn = Some (begun_txn x m) }
own_started (Some t) x m = record x { txn = Some (record t { depth = t.depth + 1 }) }

-- a Commit or a Prepare that wasn't done: without a transaction all stays, an inner one leaves the depth one less, an
-- outer one ends the transaction
abbrev pub own_left : Option Txn → Own → Own
own_left None x = x
own_left (Some t) x = if nat_lt 1 t.depth then record x { txn = Some (record t { depth = t.depth - 1 }) } else ended x

-- an outer Prepare leaves a prepared transaction, with the steps that it had; an inner one does nothing
abbrev pub own_prepared : Option Txn → Own → ℕ → Own
own_prepared None x steps = x
own_prepared (Some t) x steps = if nat_lt 1 t.depth then x else record x { txn = Some (record t { prepared = Some (if plans_in t then steps else 0) }) }

-- an inner Cancel lowers the depth and dooms, an outer one ends the transaction; without one all stays
abbrev pub own_cancelled : Option Txn → Own → Own
own_cancelled None x = x
own_cancelled (Some t) x = if nat_lt 1 t.depth then record x { txn = Some (record t { depth = t.depth - 1; doomed = true }) } else ended x

abbrev pub own_grouped : GroupCommand → Own → ℕ → Map → Own
own_grouped Start x steps m = own_started x.txn x m
own_grouped Commit x steps m = own_left x.txn x
own_grouped Prepare x steps m = own_prepared x.txn x steps
own_grouped Cancel x steps m = own_cancelled x.txn x

-- a pair leaves a cursor at its key, and any other reply none
abbrev pub key_shown : Reply → Option (List ℕ)
key_shown (Pair k v) = Some k
key_shown _ = None

abbrev pub own_walked : WalkCommand → Own → Reply → Own
own_walked First x r = record x { cursor = key_shown r }
own_walked Next x r = record x { cursor = key_shown r }
own_walked EndWalk x r = record x { cursor = None }
own_walked Close x r = closed x

-- a refused Commit or Prepare leaves the transaction that there is
abbrev pub own_refused : Command → Own → Own
own_refused (OnGroup Commit) x = own_left x.txn x
own_refused (OnGroup Prepare) x = own_left x.txn x
own_refused c x = x

abbrev pub own_by : Form → Option Refusal → Command → Own → ℕ → Reply → Map → Own
own_by f (Some q) c x steps r m = own_refused c x
own_by f None (OnMap c) x steps r m = record x { txn = changed_txn c x.txn }
own_by f None (OnLocks c) x steps r m = own_locked f c x
own_by f None Seqnum x steps r m = x
own_by f None (OnGroup g) x steps r m = own_grouped g x steps m
own_by f None (OnWalk w) x steps r m = own_walked w x r

-- The opener after a command that had so many steps and this reply, where the file had this map.
abbrev pub own_after : Form → Command → Own → ℕ → Reply → Map → Own
own_after f c x steps r m = own_by f (refusal f c x) c x steps r m

-- the opener after a command that found no memory, no space or a lock that is held: a Commit or Prepare cancels, a move
-- ends the cursor, and a Close has closed all the same
abbrev pub own_spared : Command → Own → Own
own_spared (OnGroup Commit) x = ended x
own_spared (OnGroup Prepare) x = ended x
own_spared (OnWalk First) x = record x { cursor = None }
own_spared (OnWalk Next) x = record x { cursor = None }
own_spared (OnWalk Close) x = closed x
own_spared c x = x

-- the commands that may find no space, and the one that may meet a held lock
abbrev pub fills_by : Option Refusal → Command → Own → Bool
fills_by None (OnMap c) x = map_fills c
fills_by None (OnGroup Commit) x = plans x.txn
fills_by None (OnGroup Prepare) x = plans x.txn
fills_by _ c x = false

abbrev pub fills : Form → Command → Own → Bool
fills f c x = fills_by (refusal f c x) c x

abbrev pub busies_by : Option Refusal → Command → Bool
busies_by None (OnLocks (ChainLockNb k)) = true
busies_by _ c = false

abbrev pub busies : Form → Command → Own → Bool
busies f c x = busies_by (refusal f c x) c

-- a command that is done touched the key: one on the map, also inside a transaction
abbrev pub is_touch : Command → List ℕ → Bool
is_touch (OnMap c) k = map_touches c k
is_touch _ k = false

abbrev pub touched : Command → Turn → List ℕ → Bool
touched c (Ends r) k = is_done r && is_touch c k
touched c turn k = false
