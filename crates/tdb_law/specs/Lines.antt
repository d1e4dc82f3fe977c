-- The lines of a report, what each does to the replay, and which may come.
use Rattle.std.specs.Prelude.{ℕ, suc, ◌≡◌, ◌≤◌, ◌<◌, List, [], ◌∷◌, Bool, true, false, ◌&&◌, ◌||◌, Option, Some, None, nat_lt, nat_le, if◌then◌else◌}
use Rattle.tdb_space.specs.Form.{Form}
use Rattle.tdb_law.specs.Commands.{Command, Turn}
use Rattle.tdb_law.specs.Commands.Command.{OnGroup}
use Rattle.tdb_law.specs.Commands.GroupCommand.{Commit, Prepare}
use Rattle.tdb_law.specs.Openers.{Own, Txn, Map, Task, closed, opened}
use Rattle.tdb_law.specs.Refusals.{Refusal, refusal}
use Rattle.tdb_law.specs.Rows.{commits_in, is_changed}
use Rattle.tdb_law.specs.Outcomes.{map_after}
use Rattle.tdb_law.specs.Counting.{brings}
use Rattle.tdb_law.specs.Replay.{Replay, may_hold, put, less_due, next, Allows}

-- The lines of a report. An opener joined, or could not, since another holds the opening lock, since too many joined,
-- or for want of memory; an opener took a turn of a command; the file grew from a length to another; an opener wasn't
-- there, had no command, or had one already; so many logs are left; an opener's command is unfinished at the end; an
-- opener died; and the gate that one left open was undone, with how many bytes and to what length.
pub data Line : Type 0 where
  Joined JoinBlocked Absent Idle Occupied LogsLeft Unfinished Died : ℕ → Line
  JoinMany JoinMemory : Line
  Took : ℕ → Command → Turn → Line
  Grew Undone : ℕ → ℕ → Line

-- how many openers may join
abbrev pub most_openers : ℕ
most_openers = 1000

-- An opener that dies leaves its gate open: its commit has opened it and not shut it, or its Prepare has and no Commit
-- shut it.
abbrev pub commit_steps_by : Option Refusal → Command → ℕ → ℕ
commit_steps_by None (OnGroup Commit) n = n
commit_steps_by _ c n = 0

abbrev pub commit_steps : Form → Own → Option Task → ℕ
commit_steps f x None = 0
commit_steps f x (Some u) = commit_steps_by (refusal f u.command x) u.command u.steps

abbrev pub is_gate_open : Option ℕ → ℕ → Bool
is_gate_open None n = nat_le 5 n && nat_lt n 8
is_gate_open (Some steps) n = nat_le 4 steps && nat_lt n 3

abbrev pub txn_leaves_open : Option Txn → ℕ → Bool
txn_leaves_open None n = false
txn_leaves_open (Some t) n = commits_in t && is_gate_open t.prepared n

abbrev pub leaves_open : Form → Own → Option Task → Bool
leaves_open f x u = txn_leaves_open x.txn (commit_steps f x u)

-- The map and the number after an opener died: those of its image where its commit has shut its gate, and else as they
-- were.
abbrev pub died_map : Form → Own → Option Task → Map → Map
died_map f x None m = m
died_map f x (Some u) m = if is_changed f u.command x u.steps then map_after f u.command x m else m

abbrev pub died_number : Form → Own → Option Task → ℕ → ℕ → ℕ
died_number f x None q p = q
died_number f x (Some u) q p = if is_changed f u.command x u.steps && brings f u.command x then p else q

-- it dies between commands, or in a Commit or a Prepare
abbrev pub EndsTransaction : Command → Type 0
EndsTransaction (OnGroup Commit) = Unit {0}
EndsTransaction (OnGroup Prepare) = Unit {0}
EndsTransaction c = ⊥

abbrev pub MayDie : Option Task → Type 0
MayDie None = Unit {0}
MayDie (Some u) = EndsTransaction u.command

-- the state after an opener joined, and after one died
abbrev pub joined_state : Form → Replay → ℕ → Replay
joined_state f s who = less_due f (λ k. false) (record s {
  joined = suc s.joined;
  own = put s.own who (opened (s.own who));
  shown = put s.shown who (λ k. false);
  due = put s.due who (λ k. false);
  grows = false;
})

abbrev pub died_state : Form → Replay → ℕ → Replay
died_state f s who = less_due f (λ k. false) (record s {
  map = died_map f (s.own who) (s.begun who) s.map;
  own = put s.own who (closed (s.own who));
  begun = put s.begun who None;
  shown = put s.shown who (λ k. false);
  due = put s.due who (λ k. false);
  stale = s.stale || leaves_open f (s.own who) (s.begun who);
  number = died_number f (s.own who) (s.begun who) s.number (s.image_number who);
  grows = false;
})

-- the state after a line
abbrev pub next_line : Form → Replay → Line → Replay
next_line f s (Joined who) = joined_state f s who
next_line f s (Took who c turn) = next f s who c turn
next_line f s (Died who) = died_state f s who
next_line f s (Undone bytes to) = record s { stale = false; grows = false }
next_line f s line = record s { grows = false }

-- Which lines may come. Openers join one by one. A turn is taken in a world that isn't stale. A file grows in a turn.
-- An opener isn't there where it isn't live; it is idle where its last line was an end.
abbrev pub AllowsLine : Form → Replay → Line → Type 0
AllowsLine f s (Joined who) = (who ≡ s.joined) × (s.joined < most_openers)
AllowsLine f s (JoinBlocked owner) = (s.joined < most_openers) × (1 ≤ may_hold f s owner 0)
AllowsLine f s JoinMany = most_openers ≤ s.joined
AllowsLine f s JoinMemory = Unit {0}
AllowsLine f s (Took who c turn) = (s.stale ≡ false) × Allows f s who c turn
AllowsLine f s (Grew from to) = (s.grows ≡ true) × (from < to)
AllowsLine f s (Absent who) = (s.own who).live ≡ false
AllowsLine f s (Idle who) = ((s.own who).live ≡ true) × (s.begun who ≡ None)
AllowsLine f s (Occupied who) = (s.own who).live ≡ true
AllowsLine f s (LogsLeft count) = Unit {0}
AllowsLine f s (Unfinished who) = (s.own who).live ≡ true
AllowsLine f s (Died who) = ((s.own who).live ≡ true) × MayDie (s.begun who)
AllowsLine f s (Undone bytes to) = s.stale ≡ true

-- an open gate is undone just before the next turn, or at the end of a report
abbrev pub IsFollowed : Line → List Line → Type 0
IsFollowed (Undone bytes to) [] = Unit {0}
IsFollowed (Undone bytes to) (Took who c turn ∷ lines) = Unit {0}
IsFollowed (Undone bytes to) lines = ⊥
IsFollowed line lines = Unit {0}

-- A report is lawful from a replay's state: each line may come in the state that the lines before it lead to.
abbrev pub IsLawful : Form → Replay → List Line → Type 0
IsLawful f s [] = Unit {0}
IsLawful f s (line ∷ lines) = AllowsLine f s line × IsFollowed line lines × IsLawful f (next_line f s line) lines

-- the state after a report
abbrev pub replay : Form → Replay → List Line → Replay
replay f s [] = s
replay f s (line ∷ lines) = replay f (next_line f s line) lines
