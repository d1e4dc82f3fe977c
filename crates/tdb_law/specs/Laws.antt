-- The laws of what several openers of one file may see.
use Rattle.std.specs.Prelude.{ℕ, ◌≡◌, ◌≤◌, ◌<◌, ◌⊎◌, false, true, Some, None, List}
use Rattle.tdb_law.specs.Ends.{last_step}
use Rattle.tdb_law.specs.Plays.{Play, Course}
use Rattle.tdb_law.specs.Commands.Command.{OnGroup}
use Rattle.tdb_law.specs.Commands.GroupCommand.{Commit}
use Rattle.tdb_space.specs.Form.{Form}
use Rattle.tdb_law.specs.Commands.{Command, Turn}
use Rattle.tdb_law.specs.Openers.{Task, Own, Options, seen}
use Rattle.tdb_law.specs.World.{State, IsSound, IsPending}
use Rattle.tdb_law.specs.Turned.{Turned}
use Rattle.tdb_law.specs.Replay.{Replay, Allows, next}
use Rattle.tdb_law.specs.Standing.{Stands, IsBringing}
use Rattle.std.specs.FinMap.{get}
use Rattle.tdb_law.specs.Refusals.{chain_byte}
use Rattle.tdb_law.specs.Walks.{IsPlain}
use Rattle.tdb_law.specs.Beginning.{IsLoaded, beginning}
use Rattle.tdb_law.specs.Lines.{Line, AllowsLine, next_line, most_openers, IsLawful, replay}
use Rattle.tdb_law.specs.Lines.Line.{Joined, JoinBlocked, JoinMany, JoinMemory, Grew, Absent, Idle, Occupied, LogsLeft, Unfinished, Died, Undone}
use Rattle.tdb_law.specs.Events.{Joins, Dies, Given, Undoes}

-- what a turn leads to: the world is sound, the report may tell the turn, and the replay after it stands for the world
pub record LawfulTurn (f : Form) (new : State) (s : Replay) (who : ℕ) (c : Command) (turn : Turn) : Type 0 where
  pub sound : IsSound f new
  pub allowed : Allows f s who c turn
  pub stands : Stands f new (next f s who c turn)

-- Every turn of every command in a sound world is lawful, from each replay that stands for the world.
abbrev pub TurnIsLawful : Type 0
TurnIsLawful = (f : Form) (old new : State) (who : ℕ) (task : Task) (turn : Turn) (s : Replay) → IsSound f old → Stands f old s → Turned f old who task turn new
    → LawfulTurn f new s who task.command turn

-- what an event with a line of its own leads to
pub record LawfulLine (f : Form) (new : State) (s : Replay) (line : Line) : Type 0 where
  pub sound : IsSound f new
  pub allowed : AllowsLine f s line
  pub stands : Stands f new (next_line f s line)

-- So is each opener that joins or dies, and each gate that is undone.
abbrev pub JoinIsLawful : Type 0
JoinIsLawful = (f : Form) (old new : State) (who : ℕ) (s : Replay) → IsSound f old → Stands f old s → Joins f old who new → LawfulLine f new s (Joined who)

abbrev pub DeathIsLawful : Type 0
DeathIsLawful = (f : Form) (old new : State) (who : ℕ) (s : Replay) → IsSound f old → Stands f old s → Dies f old who new → LawfulLine f new s (Died who)

abbrev pub UndoIsLawful : Type 0
UndoIsLawful = (f : Form) (old new : State) (bytes to : ℕ) (s : Replay) → IsSound f old → Stands f old s → Undoes f old new → LawfulLine f new s (Undone bytes to)

-- What leaves the world and tells why: a join while another holds the opening lock, after the most have joined, or for
-- want of memory; a play of an opener that isn't there, has no command, or has one already; the logs that are left; a
-- command that is unfinished at the end; and how the file grew in a turn.
abbrev pub IsTold : Form → State → Replay → Line → Type 0
IsTold f w s (JoinBlocked owner) = (w.joined < most_openers) × (1 ≤ w.table owner 0)
IsTold f w s JoinMany = most_openers ≤ w.joined
IsTold f w s JoinMemory = Unit {0}
IsTold f w s (Absent who) = (w.own who).live ≡ false
IsTold f w s (Idle who) = ((w.own who).live ≡ true) × (w.task who ≡ None)
IsTold f w s (Occupied who) = (w.own who).live ≡ true
IsTold f w s (LogsLeft count) = Unit {0}
IsTold f w s (Unfinished who) = ((w.own who).live ≡ true) × (w.task who ≡ None → ⊥)
IsTold f w s (Grew from to) = (s.grows ≡ true) × (from < to)
IsTold f w s line = ⊥

abbrev pub ToldIsLawful : Type 0
ToldIsLawful = (f : Form) (w : State) (s : Replay) (line : Line) → IsSound f w → Stands f w s → IsTold f w s line → LawfulLine f w s line

-- a command that is given has no line: the world is sound, and the same replay stands for it
abbrev pub GiftIsLawful : Type 0
GiftIsLawful = (f : Form) (old new : State) (who : ℕ) (c : Command) (s : Replay) → IsSound f old → Stands f old s → Given old who c new → IsSound f new × Stands f new s

-- what a report leads to
pub record LawfulRun (f : Form) (new : State) (s : Replay) (lines : List Line) : Type 0 where
  pub sound : IsSound f new
  pub lawful : IsLawful f s lines
  pub stands : Stands f new (replay f s lines)

-- The report of every course of plays is lawful, from each replay that stands for the world before to one that stands
-- for it after.
abbrev pub CourseIsLawful : Type 0
CourseIsLawful = (f : Form) (old new : State) (plays : List Play) (lines : List Line) (s : Replay) → IsSound f old → Stands f old s → Course f old plays lines new → LawfulRun f new s lines

-- A command that isn't blocked is done at the latest at its ninth turn, where it is a Commit, and else at its eighth.
abbrev pub CommandsEnd : Type 0
CommandsEnd = (f : Form) (c : Command) (x : Own) → (last_step f c x ≤ 8) × ((c ≡ OnGroup Commit → ⊥) → last_step f c x ≤ 7)

-- The replay that begins for a world just loaded stands for it, and the world is sound.
abbrev pub BeginningStands : Type 0
BeginningStands = (f : Form) (w : State) (options : Options) → IsLoaded f w options → IsSound f w × Stands f w (beginning options w.file w.number)

-- The file at a key whose chain nobody holds for writing is the committed map's.
abbrev pub FileIsPlain : Type 0
FileIsPlain = (f : Form) (w : State) (s : Replay) → IsSound f w → Stands f w s → (k : List ℕ) → ((o : ℕ) → w.table o (chain_byte f k) ≤ 1) → get w.file k ≡ get s.map k

-- an unfinished Commit has shut its gate: the file has the map of its image
pub record IsCommitted (f : Form) (w : State) (s : Replay) : Type 0 where
  pub owner : ℕ
  pub own : Own
  pub pending : IsPending f w owner (OnGroup Commit) own
  pub file : w.file ≡ seen own s.map

-- Where no command on the map is unfinished the file is the committed map, or that of a commit that has shut its gate.
abbrev pub QuietIsPlain : Type 0
QuietIsPlain = (f : Form) (w : State) (s : Replay) → IsSound f w → Stands f w s → ((o : ℕ) (t : Task) → w.task o ≡ Some t → IsPlain t.command → ⊥) → (w.file ≡ s.map) ⊎ IsCommitted f w s

-- The sequence number of the file is the replay's, but for a pending commit that brings one.
abbrev pub NumberIsPlain : Type 0
NumberIsPlain = (f : Form) (w : State) (s : Replay) → IsSound f w → Stands f w s → (s.number ≡ w.number) ⊎ IsBringing f w
