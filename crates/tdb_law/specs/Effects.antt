-- What one turn of a command does to the file and to the opener: ten kinds of effect, for all commands.
use Rattle.std.specs.Prelude.{ℕ, ◌+◌, ◌≡◌, ◌≢◌, ◌≤◌, ◌<◌, ◌⊎◌, max, List, true, false, Option, Some, None}
use Rattle.std.specs.FinMap.{get}
use Rattle.tdb_space.specs.Form.{Form, data_start}
use Rattle.tdb_law.specs.Commands.{Command, Reply, Turn}
use Rattle.tdb_law.specs.Commands.Reply.{Done, End, Memory, Pair, Busy, Full, Number}
use Rattle.tdb_law.specs.Commands.Turn.{Step, Blocked, Ends}
use Rattle.tdb_law.specs.Openers.{Own, Map, Spot, View, Task}
use Rattle.tdb_law.specs.Refusals.{chain_byte}
use Rattle.tdb_law.specs.Rows.{look, is_changed}
use Rattle.tdb_law.specs.Outcomes.{moves, counts, told, map_after, own_after, own_spared, reads, fills, busies}
use Rattle.tdb_law.specs.Ends.{starves}
use Rattle.tdb_law.specs.Held.{decided, moves_at}

-- The first conflict of a want: another opener holds the byte so that both can't stand, and no conflict is at a lesser
-- byte, nor at this byte with a lesser opener.
pub record IsFirstConflict (table : ℕ → ℕ → ℕ) (who : ℕ) (want : ℕ → ℕ) (owner byte : ℕ) : Type 0 where
  pub other : owner ≢ who
  pub conflict : 2 < want byte + table owner byte
  pub least : (p b : ℕ) → p ≢ who → 2 < want b + table p b → (byte < b) ⊎ ((byte ≡ b) × (owner ≤ p))

-- no other opener's locks conflict with a want
pub record IsFree (table : ℕ → ℕ → ℕ) (who : ℕ) (want : ℕ → ℕ) : Type 0 where
  pub free : (p b : ℕ) → p ≢ who → want b + table p b ≤ 2

-- the command has had the steps that go before its look, where it reads anything
abbrev pub IsReady : Form → Command → Own → ℕ → Type 0
IsReady f c x n = (k : List ℕ) → reads f c x k ≡ true → look f c x ≤ n

-- A move finds a pair that the map has, whose chain is locked or wanted for reading at least; or it finds the end.
pub data Finds (f : Form) (table want : ℕ → ℕ) (m : Map) (r : Reply) : Type 0 where
  finds_pair : (k v : List ℕ) → r ≡ Pair k v → get m k ≡ Some v → 1 ≤ max (table (chain_byte f k)) (want (chain_byte f k)) → Finds f table want m r
  finds_end : r ≡ End → Finds f table want m r

-- The kinds of effect of a turn on the file's map and on the opener, where `free` says that the want is free,
-- `conflict` which opener and byte stand in its way, `finds` what a move finds, and `number` is the number that the
-- opener sees. waits      blocked; nothing changes goes_on    a step that changes nothing changes    the step in which
-- the file changes, to what the command makes of it, turns before the command is told answers    an end with the reply
-- on the file's map, and the file and the opener as the command leaves them shows      an end of a move starves    an
-- end for want of memory; only the opener is touched is_full    an end for want of space, of a command that would have
-- been done is_busy    an end of a command that doesn't wait, at a conflict numbers    an end with the sequence number
-- finishes   an end with Done of a command whose change the file has
pub data Effect (f : Form) (free : Type 0) (conflict : ℕ → ℕ → Type 0) (finds : Reply → Type 0) (number : ℕ) (c : Command) (n : ℕ) (x : Own) (file : Map) (turn : Turn) (y : Own) (next : Map) : Type 0 where
  effect_waits : (o b : ℕ) → turn ≡ Blocked o b → conflict o b → is_changed f c x n ≡ false → next ≡ file → y ≡ x → Effect f free conflict finds number c n x file turn y next
  effect_goes_on : turn ≡ Step → free → is_changed f c x (n + 1) ≡ is_changed f c x n → next ≡ file → y ≡ x → Effect f free conflict finds number c n x file turn y next
  effect_changes : turn ≡ Step → free → look f c x ≤ n → is_changed f c x n ≡ false → is_changed f c x (n + 1) ≡ true → told f c x file ≡ Done → next ≡ map_after f c x file → y ≡ x → Effect f free conflict finds number c n x file turn y next
  effect_answers : (r : Reply) → turn ≡ Ends r → free → moves f c x ≡ false → counts f c x ≡ false → IsReady f c x n → is_changed f c x n ≡ false → r ≡ told f c x file → next ≡ map_after f c x file → y ≡ own_after f c x n r file → Effect f free conflict finds number c n x file turn y next
  effect_shows : (r : Reply) → turn ≡ Ends r → free → moves f c x ≡ true → finds r → next ≡ file → y ≡ own_after f c x n r file → Effect f free conflict finds number c n x file turn y next
  effect_starves : turn ≡ Ends Memory → starves f c x ≡ true → is_changed f c x n ≡ false → next ≡ file → y ≡ own_spared c x → Effect f free conflict finds number c n x file turn y next
  effect_is_full : (len need : ℕ) → turn ≡ Ends (Full len need) → free → fills f c x ≡ true → IsReady f c x n → is_changed f c x n ≡ false → told f c x file ≡ Done → next ≡ file → y ≡ own_spared c x → Effect f free conflict finds number c n x file turn y next
  effect_is_busy : (o b : ℕ) → turn ≡ Ends (Busy o b) → conflict o b → busies f c x ≡ true → next ≡ file → y ≡ own_spared c x → Effect f free conflict finds number c n x file turn y next
  effect_numbers : (q : ℕ) → turn ≡ Ends (Number q) → free → counts f c x ≡ true → q ≡ number → next ≡ file → y ≡ x → Effect f free conflict finds number c n x file turn y next
  effect_finishes : turn ≡ Ends Done → free → is_changed f c x n ≡ true → next ≡ file → y ≡ own_after f c x n Done file → Effect f free conflict finds number c n x file turn y next

-- the command that is left after a turn: with a step more, the same again, or none
abbrev pub task_left : Command → ℕ → Turn → Option Task
task_left c n Step = Some (record { command = c; steps = n + 1 })
task_left c n (Blocked o b) = Some (record { command = c; steps = n })
task_left c n (Ends r) = None

-- Where the cursor stands after the end of a command: on no record; where it stood, with the same last pair; or after a
-- pair on a record whose chain was locked or wanted for reading at least. Outside a transaction alone does it stand on
-- a record.
pub data Stays (f : Form) (table want : ℕ → ℕ) (x y : Own) (a b : Spot) (r : Reply) : Type 0 where
  stands_nowhere : b.stands ≡ None → Stays f table want x y a b r
  stands_still : x.txn ≡ None → y.txn ≡ None → y.cursor ≡ x.cursor → b.stands ≡ a.stands → Stays f table want x y a b r
  stands_on : (k v : List ℕ) (place : ℕ) → r ≡ Pair k v → x.txn ≡ None → y ≡ record x { cursor = Some k } → b.stands ≡ Some place → data_start f ≤ place
      → 1 ≤ max (table (chain_byte f k)) (want (chain_byte f k)) → Stays f table want x y a b r

-- What only the world knows of the opener after a turn: after a step what was decided; after a block the same, or all
-- of it let go where the turn moves; after the end where the cursor stands.
abbrev pub SpotLeft : Form → (ℕ → ℕ) → (ℕ → ℕ) → Command → ℕ → Own → Own → Spot → View → Spot → Turn → Type 0
SpotLeft f table want c n x y a v b Step = b ≡ decided a v n
SpotLeft f table want c n x y a v b (Blocked o byte) = (b ≡ a) ⊎ ((moves_at f c x (decided a v n) n ≡ true) × (b.gone ≡ true) × (b.stands ≡ None))
SpotLeft f table want c n x y a v b (Ends r) = Stays f table want x y a b r × (b.gone ≡ false)
