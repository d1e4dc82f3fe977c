-- What a turn does to the sequence number, to whether the world is settled, and to keys that another's walk may miss.
use Rattle.std.specs.Prelude.{ℕ, ◌+◌, ◌%◌, ◌^◌, List, Bool, true, false, ◌&&◌, not, Option, Some, None, nat_le, ◌==◌, if◌then◌else◌}
use Rattle.tdb_space.specs.Form.{Form}
use Rattle.tdb_law.specs.Commands.{Command, Turn, is_done}
use Rattle.tdb_law.specs.Commands.GroupCommand.{Start, Commit}
use Rattle.tdb_law.specs.Commands.Command.{OnMap, OnGroup, OnWalk}
use Rattle.tdb_law.specs.Commands.Turn.{Step, Blocked, Ends}
use Rattle.tdb_law.specs.Openers.{Own, Txn, outside, has}
use Rattle.tdb_law.specs.MapCommands.{map_changes, map_removes, map_touches}
use Rattle.tdb_law.specs.Refusals.{Refusal, refusal}
use Rattle.tdb_law.specs.Rows.{map_changed}
use Rattle.tdb_law.specs.Outcomes.{commits}

-- the number after a change, where changes count
abbrev pub raised : Bool → ℕ → ℕ
raised counting q = if counting then (q + 1) % 2 ^ 32 else q

-- the transaction's changes count
abbrev pub is_numbered : Option Txn → Bool
is_numbered None = false
is_numbered (Some t) = t.numbered

-- A commit that changes the file and whose changes count brings the number of its image into the file.
abbrev pub brings_by : Option Refusal → Command → Own → Bool
brings_by None (OnGroup Commit) x = commits x.txn && is_numbered x.txn
brings_by _ c x = false

abbrev pub brings : Form → Command → Own → Bool
brings f c x = brings_by (refusal f c x) c x

-- the number that an opener sees: that of its image where its changes count there, and else that of the file
abbrev pub number_or : Option Txn → ℕ → ℕ → ℕ
number_or None q p = q
number_or (Some t) q p = if t.numbered then p else q

abbrev pub number_seen : Own → ℕ → ℕ → ℕ
number_seen x q p = number_or x.txn q p

-- The file's number after a command that is done, q before it and p in the opener's image; and the number of that
-- image.
abbrev pub number_by : Option Refusal → Command → Own → ℕ → ℕ → ℕ
number_by None (OnMap c) x q p = if outside x && map_changes c then raised x.options.seqnum q else q
number_by None (OnGroup Commit) x q p = if commits x.txn && is_numbered x.txn then p else q
number_by _ c x q p = q

abbrev pub image_number_by : Option Refusal → Command → Own → ℕ → ℕ → ℕ
image_number_by None (OnMap c) x q p = if not (outside x) && map_changes c then raised (is_numbered x.txn) p else p
image_number_by None (OnGroup Start) x q p = if outside x then q else p
image_number_by _ c x q p = p

-- both after a turn: only an end with Done counts
abbrev pub number_after : Form → Command → Own → Turn → ℕ → ℕ → ℕ
number_after f c x (Ends r) q p = if is_done r then number_by (refusal f c x) c x q p else q
number_after f c x turn q p = q

abbrev pub image_number_after : Form → Command → Own → Turn → ℕ → ℕ → ℕ
image_number_after f c x (Ends r) q p = if is_done r then image_number_by (refusal f c x) c x q p else p
image_number_after f c x turn q p = p

-- After so many steps the file lacks the key by this unfinished command, which may still be undone or told: by a delete
-- or a wipe, or by a commit that has begun to write its image.
abbrev pub commit_writes : Option ℕ → ℕ → Bool
commit_writes None n = nat_le 6 n
commit_writes (Some steps) n = nat_le 1 n

abbrev pub commit_takes : Option Txn → ℕ → List ℕ → Bool
commit_takes None n k = false
commit_takes (Some t) n k = commit_writes t.prepared n && not (has t.image k)

abbrev pub takes_by : Option Refusal → Command → Own → ℕ → List ℕ → Bool
takes_by None (OnMap c) x n k = outside x && (map_changed c n && (map_removes c && map_touches c k))
takes_by None (OnGroup Commit) x n k = commit_takes x.txn n k
takes_by _ c x n k = false

unfoldable pub takes : Form → Command → Own → ℕ → List ℕ → Bool
takes f c x n k = takes_by (refusal f c x) c x n k

-- A stop is harmless from an outer Start's end on, up to the first step of a change outside a transaction, or to the
-- second step of a command that leaves a dead record and is about to purge it.
abbrev pub unsettles_by : Option Refusal → Command → Own → ℕ → Bool
unsettles_by None (OnMap c) x n = outside x && map_changes c
unsettles_by None (OnWalk w) x n = n == 1
unsettles_by _ c x n = false

abbrev pub settles_by : Option Refusal → Command → Own → Bool
settles_by None (OnGroup Start) x = outside x
settles_by _ c x = false

abbrev pub settled_after : Form → Command → Own → ℕ → Turn → Bool → Bool
settled_after f c x n Step settled = if unsettles_by (refusal f c x) c x n then false else settled
settled_after f c x n (Blocked owner byte) settled = settled
settled_after f c x n (Ends r) settled = if is_done r && settles_by (refusal f c x) c x then true else settled
