-- What an opener holds of the lock bytes, and what its next turn wants: strengths, 0, 1 for reading and 2 for writing.
use Rattle.std.specs.Prelude.{ℕ, max, List, [], ◌∷◌, Bool, true, false, ◌&&◌, Option, Some, None, is_some, nat_lt, nat_le, ◌==◌, if◌then◌else◌}
use Rattle.tdb_space.specs.Form.{Form, data_start}
use Rattle.tdb_law.specs.Commands.{WalkCommand, Command}
use Rattle.tdb_law.specs.Commands.WalkCommand.{First}
use Rattle.tdb_law.specs.Commands.Command.{OnWalk}
use Rattle.tdb_law.specs.Openers.{Own, Txn, AllLock, Spot, View, Task, outside, count_at}
use Rattle.tdb_law.specs.Rows.{Lock, locks, lock_all, start_locks, commit_locks}
use Rattle.tdb_law.specs.Outcomes.{moves}

-- the lock covers the byte
abbrev pub covers : Lock → ℕ → Bool
covers l b = nat_le l.start b && nat_lt b l.end

-- the strongest of these locks at a byte, among those that a test picks
abbrev pub strongest : (Lock → Bool) → List Lock → ℕ → ℕ
strongest picks [] b = 0
strongest picks (l ∷ ls) b = max (if picks l && covers l b then l.strength else 0) (strongest picks ls b)

-- what so many turns have locked of a row, and what the next one locks
abbrev pub locked : List Lock → ℕ → ℕ → ℕ
locked ls n b = strongest (λ l. nat_lt l.turn n) ls b

abbrev pub locked_next : List Lock → ℕ → ℕ → ℕ
locked_next ls n b = strongest (λ l. l.turn == n) ls b

-- Outside a transaction an opener holds the chains that it locked explicitly for writing, and all records as it locked
-- them.
abbrev pub all_held : Option AllLock → ℕ → ℕ
all_held None b = 0
all_held (Some a) b = locked (lock_all 0 a.strength ∷ []) 1 b

abbrev pub explicit_held : Form → Own → ℕ → ℕ
explicit_held f x b = max (if nat_lt b (data_start f) && nat_lt 0 (count_at x b) then 2 else 0) (all_held x.all b)

-- A transaction holds the locks of its Start, and where it is prepared those that its Prepare took.
abbrev pub prepared_held : Txn → Option ℕ → ℕ → ℕ
prepared_held t None b = 0
prepared_held t (Some steps) b = locked (commit_locks t.numbered) steps b

abbrev pub txn_held : Txn → ℕ → ℕ
txn_held t b = max (locked start_locks 2 b) (prepared_held t t.prepared b)

-- a cursor reads the byte of the record on which it stands
abbrev pub stand_held : Option ℕ → ℕ → ℕ
stand_held None b = 0
stand_held (Some place) b = if place == b then 1 else 0

-- what an opener holds between commands. Inside its transaction explicit locks are only counted
abbrev pub kept_by : Form → Option Txn → Own → Spot → ℕ → ℕ
kept_by f None x a b = max (explicit_held f x b) (stand_held a.stands b)
kept_by f (Some t) x a b = txn_held t b

abbrev pub kept : Form → Own → Spot → ℕ → ℕ
kept f x a b = kept_by f x.txn x a b

-- a move that was blocked has let go of what the command locked
abbrev pub is_gone : Command → Spot → Bool
is_gone (OnWalk w) a = a.gone
is_gone c a = false

-- what the turns of a command so far have locked and not let go
unfoldable pub held : Form → Command → Own → Spot → ℕ → ℕ → ℕ
held f c x a n b = if is_gone c a then 0 else locked (locks f c x a.purging) n b

-- all that an opener holds: what its command locked, and what it keeps
abbrev pub task_held : Form → Own → Spot → Option Task → ℕ → ℕ
task_held f x a None b = 0
task_held f x a (Some t) b = held f t.command x a t.steps b

abbrev pub holding : Form → Own → Spot → Option Task → ℕ → ℕ
holding f x a task b = max (task_held f x a task b) (kept f x a b)

-- whether to purge is decided at the first turn, by the dead record that is left
abbrev pub decided : Spot → View → ℕ → Spot
decided a v n = record a { purging = if n == 0 then v.must else a.purging }

-- the steps that a command has before its move: the locks of a purge come first, or the lock of Next's chain
abbrev pub move_turn : WalkCommand → Bool → Option (List ℕ) → ℕ
move_turn First purging cursor = if purging && is_some cursor then 2 else 0
move_turn w purging cursor = if purging then 2 else 1

-- the next turn moves the cursor; after a move was blocked it does so again
abbrev pub moves_at : Form → Command → Own → Spot → ℕ → Bool
moves_at f (OnWalk w) x a n = moves f (OnWalk w) x && (if a.gone then true else n == move_turn w a.purging x.cursor)
moves_at f c x a n = false

-- the byte is that of a chain
abbrev pub is_chain : Form → ℕ → Bool
is_chain f b = nat_le 168 b && nat_lt b (data_start f)

-- What the next turn wants: the locks of its row, and for a move outside a transaction to read the chains on its way.
unfoldable pub wanted : Form → Command → Own → Spot → View → ℕ → ℕ → ℕ
wanted f c x a v n b =
    max (if is_gone c a then 0 else locked_next (locks f c x a.purging) n b)
    (if moves_at f c x a n && (outside x && (is_chain f b && v.way b)) then 1 else 0)

-- What a report shows of both: it has neither purges nor chains on the way, so it takes each that may be.
unfoldable pub may_held : Form → Command → Own → ℕ → ℕ → ℕ
may_held f c x n b = max (locked (locks f c x true) n b) (locked (locks f c x false) n b)

unfoldable pub may_want : Form → Command → Own → ℕ → ℕ → ℕ
may_want f c x n b =
    max (max (locked_next (locks f c x true) n b) (locked_next (locks f c x false) n b))
    (if moves f c x && (outside x && is_chain f b) then 1 else 0)
