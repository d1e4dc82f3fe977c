-- The replay of a report: its state, and what each turn of a report does to it.
use Rattle.std.specs.Prelude.{ℕ, zero, suc, ◌+◌, ◌≡◌, ◌≢◌, ◌<◌, max, List, Bool, true, false, ◌&&◌, ◌||◌, not, Option, Some, None, is_none, nat_le, ◌==◌, if◌then◌else◌}
use Rattle.std.specs.FinMap.{get}
use Rattle.tdb_space.specs.Form.{Form, data_start}
use Rattle.tdb_law.specs.Commands.{Command, Reply, Turn, is_first, is_spare}
use Rattle.tdb_law.specs.Commands.GroupCommand.{Start, Commit}
use Rattle.tdb_law.specs.Commands.Command.{OnGroup}
use Rattle.tdb_law.specs.Commands.Reply.{Done, End, Memory, Pair, Busy, Full, Number}
use Rattle.tdb_law.specs.Commands.Turn.{Step, Blocked, Ends}
use Rattle.tdb_law.specs.Openers.{Own, Txn, Map, Task, seen, has, is_key}
use Rattle.tdb_law.specs.Refusals.{Refusal, refusal, has_cursor}
use Rattle.tdb_law.specs.Ends.{IsRow, starves}
use Rattle.tdb_law.specs.Outcomes.{moves, counts, told, map_after, own_after, own_spared, fills, busies, touched, key_shown}
use Rattle.tdb_law.specs.Counting.{takes, number_seen, number_after, image_number_after, settled_after}
use Rattle.tdb_law.specs.Held.{explicit_held, txn_held, may_held, may_want}
use Rattle.tdb_law.specs.Effects.{task_left}

-- The state of a replay: the committed map; each opener, how many have joined, and the command of each that has had a
-- line; of each walk the keys that were shown and those that it still owes; whether the file is stale, and whether it
-- is settled; the sequence number, and the number of each transaction's image; and whether the last line was a turn's,
-- after which the file may have grown.
pub record Replay : Type 0 where
  pub map : Map
  pub own : ℕ → Own
  pub joined : ℕ
  pub begun : ℕ → Option Task
  pub shown : ℕ → List ℕ → Bool
  pub due : ℕ → List ℕ → Bool
  pub stale : Bool
  pub settled : Bool
  pub number : ℕ
  pub image_number : ℕ → ℕ
  pub grows : Bool

-- how many steps a command has had, where it has had a line
abbrev pub steps_of : Option Task → ℕ
steps_of None = 0
steps_of (Some u) = u.steps

-- a command that has had a line is this one
abbrev pub IsOf : Option Task → Command → Type 0
IsOf None c = Unit {0}
IsOf (Some u) c = u.command ≡ c

-- what an opener may hold, as a report shows it: a cursor outside a transaction may read any one record
abbrev pub begun_held : Form → Own → Option Task → ℕ → ℕ
begun_held f x None b = 0
begun_held f x (Some u) b = may_held f u.command x u.steps b

abbrev pub may_keep : Form → Option Txn → Own → ℕ → ℕ
may_keep f None x b = max (explicit_held f x b) (if has_cursor x && nat_le (data_start f) b then 1 else 0)
may_keep f (Some t) x b = txn_held t b

abbrev pub may_hold : Form → Replay → ℕ → ℕ → ℕ
may_hold f s o b = max (begun_held f (s.own o) (s.begun o) b) (may_keep f (s.own o).txn (s.own o) b)

-- another opener may stand in the way of what a command may want at a byte
pub record IsInTheWay (f : Form) (s : Replay) (who : ℕ) (c : Command) (o b : ℕ) : Type 0 where
  pub other : o ≢ who
  pub conflict : 2 < may_want f c (s.own who) (steps_of (s.begun who)) b + may_hold f s o b

-- one of the numbers below this one passes
abbrev pub any_below : ℕ → (ℕ → Bool) → Bool
any_below zero p = false
any_below (suc n) p = p n || any_below n p

-- a command that has had a line takes the key out of the file
abbrev pub takes_begun : Form → Own → Option Task → List ℕ → Bool
takes_begun f x None k = false
takes_begun f x (Some u) k = takes f u.command x u.steps k

-- another opener's command does
abbrev pub taken : Form → Replay → ℕ → List ℕ → Bool
taken f s who k = any_below s.joined (λ o. not (o == who) && takes_begun f (s.own o) (s.begun o) k)

-- The first line of a First that moves begins a walk: it has shown nothing, and owes each key that its opener sees, but
-- for those that another's command has taken out.
abbrev pub starts : Form → Replay → ℕ → Command → Bool
starts f s who c = is_none (s.begun who) && (is_first c && moves f c (s.own who))

abbrev pub shown_now : Form → Replay → ℕ → Command → List ℕ → Bool
shown_now f s who c k = if starts f s who c then false else s.shown who k

abbrev pub due_now : Form → Replay → ℕ → Command → List ℕ → Bool
due_now f s who c k = if starts f s who c then has (seen (s.own who) s.map) k && not (taken f s who k) else s.due who k

-- The map after a line: a command counts where it ends, unless the reply is want of memory or space, or a lock that is
-- held. An outer Commit that isn't refused sets the map to that of its image.
abbrev pub is_outer : Option Txn → Bool
is_outer None = false
is_outer (Some t) = nat_le t.depth 1

abbrev pub ends_commit_by : Option Refusal → Command → Own → Bool
ends_commit_by None (OnGroup Commit) x = is_outer x.txn
ends_commit_by _ c x = false

abbrev pub ends_commit : Form → Command → Own → Bool
ends_commit f c x = ends_commit_by (refusal f c x) c x

abbrev pub map_told : Form → Command → Own → Map → Map
map_told f c x m = if ends_commit f c x then seen x m else map_after f c x m

abbrev pub line_map : Form → Command → Own → Turn → Map → Map
line_map f c x (Ends r) m = if is_spare r then m else map_told f c x m
line_map f c x turn m = m

-- the opener after it
abbrev pub line_own : Form → Command → Own → ℕ → Turn → Map → Own
line_own f c x n (Ends r) m = if is_spare r then own_spared c x else own_after f c x n r m
line_own f c x n turn m = x

-- what is shown and owed of the opener's own walk: it ends with its cursor, and a pair that a move gives is shown
abbrev pub is_shown : Option (List ℕ) → List ℕ → Bool
is_shown None k = false
is_shown (Some q) k = is_key q k

abbrev pub shown_after : Form → Replay → ℕ → Command → Turn → Own → List ℕ → Bool
shown_after f s who c (Ends r) y k = if has_cursor y then shown_now f s who c k || (moves f c (s.own who) && is_shown (key_shown r) k) else false
shown_after f s who c turn y k = shown_now f s who c k

abbrev pub due_after : Form → Replay → ℕ → Command → Turn → Own → List ℕ → Bool
due_after f s who c (Ends r) y k = if has_cursor y then due_now f s who c k else false
due_after f s who c turn y k = due_now f s who c k

-- a function with another value at one number
abbrev pub put : {A : Type 0} → (ℕ → A) → ℕ → A → ℕ → A
put g who a o = if o == who then a else g o

-- the state after a turn of a command of an opener like this, which had so many steps, but for what walks owe
abbrev pub turned_state : Form → Replay → ℕ → Command → Own → ℕ → Turn → Replay
turned_state f s who c x n turn =
    record {
      map = line_map f c x turn s.map;
      own = put s.own who (line_own f c x n turn s.map);
      joined = s.joined;
      begun = put s.begun who (task_left c n turn);
      shown = put s.shown who (shown_after f s who c turn (line_own f c x n turn s.map));
      due = put s.due who (due_after f s who c turn (line_own f c x n turn s.map));
      stale = s.stale;
      settled = settled_after f c x n turn s.settled;
      number = number_after f c x turn s.number (s.image_number who);
      image_number = put s.image_number who (image_number_after f c x turn s.number (s.image_number who));
      grows = true;
    }

-- A walk owes a key no longer that was touched, that its opener doesn't see, or that another's command has taken out.
abbrev pub still_due : Form → (List ℕ → Bool) → Replay → ℕ → List ℕ → Bool
still_due f touched t o k = t.due o k && (not (touched k) && (has (seen (t.own o) t.map) k && not (taken f t o k)))

abbrev pub less_due : Form → (List ℕ → Bool) → Replay → Replay
less_due f touched t = record t { due = still_due f touched t }

-- the state after a turn
abbrev pub next : Form → Replay → ℕ → Command → Turn → Replay
next f s who c turn = less_due f (touched c turn) (turned_state f s who c (s.own who) (steps_of (s.begun who)) turn)

-- What a report may say at the end of a command. A reply of a plain map; a pair that the opener sees and that its walk
-- hasn't shown; an end where all that is owed was shown; the number; or want of memory, want of space, or a lock that
-- may be held.
pub data Says (f : Form) (s : Replay) (who : ℕ) (c : Command) (r : Reply) : Type 0 where
  says_plain : moves f c (s.own who) ≡ false → counts f c (s.own who) ≡ false → r ≡ told f c (s.own who) s.map → Says f s who c r
  says_pair : (k v : List ℕ) → moves f c (s.own who) ≡ true → r ≡ Pair k v → get (seen (s.own who) s.map) k ≡ Some v → shown_now f s who c k ≡ false → Says f s who c r
  says_end : moves f c (s.own who) ≡ true → r ≡ End → ((k : List ℕ) → due_now f s who c k ≡ true → shown_now f s who c k ≡ true) → Says f s who c r
  says_number : (q : ℕ) → counts f c (s.own who) ≡ true → r ≡ Number q → q ≡ number_seen (s.own who) s.number (s.image_number who) → Says f s who c r
  says_memory : r ≡ Memory → starves f c (s.own who) ≡ true → Says f s who c r
  says_full : (len need : ℕ) → r ≡ Full len need → fills f c (s.own who) ≡ true → told f c (s.own who) s.map ≡ Done → Says f s who c r
  says_busy : (o b : ℕ) → r ≡ Busy o b → busies f c (s.own who) ≡ true → IsInTheWay f s who c o b → Says f s who c r

-- after a Start no other opener has a transaction
abbrev pub IsAlone : Replay → ℕ → Command → Reply → Type 0
IsAlone s who c r = c ≡ OnGroup Start → r ≡ Done → (o : ℕ) → o ≢ who → (s.own o).txn ≡ None

abbrev pub AllowsTurn : Form → Replay → ℕ → Command → Turn → Type 0
AllowsTurn f s who c Step = Unit {0}
AllowsTurn f s who c (Blocked o b) = IsInTheWay f s who c o b
AllowsTurn f s who c (Ends r) = Says f s who c r × IsAlone s who c r

-- A report may go on with this turn: the opener is live, the command is the one that it has begun, the row allows the
-- turn, and what it tells is so.
pub record Allows (f : Form) (s : Replay) (who : ℕ) (c : Command) (turn : Turn) : Type 0 where
  pub live : (s.own who).live ≡ true
  pub begun : IsOf (s.begun who) c
  pub row : IsRow f c (s.own who) (steps_of (s.begun who)) turn
  pub tells : AllowsTurn f s who c turn
