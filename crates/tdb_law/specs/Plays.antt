-- Plays, and the lines and states that they lead to.
use Rattle.std.specs.Prelude.{ℕ, zero, suc, ◌≡◌, ◌≤◌, ◌<◌, List, [], ◌∷◌, ◌++◌, true, false, None}
use Rattle.tdb_space.specs.Form.{Form}
use Rattle.tdb_law.specs.Commands.{Command, Turn}
use Rattle.tdb_law.specs.Commands.Turn.{Step}
use Rattle.tdb_law.specs.Openers.{Task}
use Rattle.tdb_law.specs.World.{State}
use Rattle.tdb_law.specs.Turned.{Turned}
use Rattle.tdb_law.specs.Lines.{Line, MayDie, most_openers}
use Rattle.tdb_law.specs.Lines.Line.{Joined, JoinBlocked, JoinMany, JoinMemory, Took, Grew, Absent, Idle, Occupied, LogsLeft, Died, Undone}
use Rattle.tdb_law.specs.Events.{Joins, Dies, Given, Undoes}

-- What may be played: an opener joins; an opener is given a command, takes one turn, or takes turns up to the first
-- that isn't a step; it is given a command and does it so; a log is dropped; an opener dies.
pub data Play : Type 0 where
  Join SetLog : Play
  Give Do : ℕ → Command → Play
  TakeTurn Go Die : ℕ → Play

-- before a turn in a stale world the open gate is undone, with a line of its own
pub data Clears (f : Form) (old : State) (lines : List Line) (new : State) : Type 0 where
  clears_nothing : old.stale ≡ false → lines ≡ [] → new ≡ old → Clears f old lines new
  clears_gate : (bytes to : ℕ) → lines ≡ Undone bytes to ∷ [] → Undoes f old new → Clears f old lines new

-- the file may have grown in a turn, which a line tells
pub data Grows (lines : List Line) : Type 0 where
  grows_not : lines ≡ [] → Grows lines
  grows_longer : (from to : ℕ) → lines ≡ Grew from to ∷ [] → from < to → Grows lines

-- One turn of an opener, with all its lines: an open gate is undone, the turn is taken, and the file may have grown.
pub record Advances (f : Form) (old : State) (who : ℕ) (turn : Turn) (lines : List Line) (new : State) : Type 0 where
  pub mid : State
  pub task : Task
  pub front : List Line
  pub tail : List Line
  pub clears : Clears f old front mid
  pub turned : Turned f mid who task turn new
  pub grows : Grows tail
  pub parts : lines ≡ front ++ Took who task.command turn ∷ tail

-- what follows a turn: more turns after a step, and else nothing
abbrev pub GoesOn : Turn → Type 0 → Type 0 → Type 0
GoesOn Step more done = more
GoesOn turn more done = done

-- turns up to the first that isn't a step, at most so many
abbrev pub Goes : Form → ℕ → State → ℕ → List Line → State → Type 0
Goes f zero old who lines new = ⊥
Goes f (suc n) old who lines new =
    (turn : Turn) × (mid : State) × (front : List Line) × (rest : List Line) × (lines ≡ front ++ rest) × Advances f old who turn front mid
    × GoesOn turn (Goes f n mid who rest new) ((rest ≡ []) × (new ≡ mid))

-- no command has more turns that aren't blocked
abbrev pub most_turns : ℕ
most_turns = 9

-- A play that leaves the world and answers by one line: a join that fails; a play of an opener who isn't live; one that
-- is given a command and has one; one that is to go on and has none; one that is to die in the middle of another
-- command; and a log that is dropped.
abbrev pub IsAnswer : State → Play → Line → Type 0
IsAnswer w Join (JoinBlocked owner) = (w.joined < most_openers) × (1 ≤ w.table owner 0)
IsAnswer w Join JoinMany = most_openers ≤ w.joined
IsAnswer w Join JoinMemory = Unit {0}
IsAnswer w (Give who c) (Absent o) = (o ≡ who) × ((w.own o).live ≡ false)
IsAnswer w (Do who c) (Absent o) = (o ≡ who) × ((w.own o).live ≡ false)
IsAnswer w (TakeTurn who) (Absent o) = (o ≡ who) × ((w.own o).live ≡ false)
IsAnswer w (Go who) (Absent o) = (o ≡ who) × ((w.own o).live ≡ false)
IsAnswer w (Die who) (Absent o) = (o ≡ who) × ((w.own o).live ≡ false)
IsAnswer w (Give who c) (Occupied o) = (o ≡ who) × ((w.own o).live ≡ true) × (w.task o ≡ None → ⊥)
IsAnswer w (Do who c) (Occupied o) = (o ≡ who) × ((w.own o).live ≡ true) × (w.task o ≡ None → ⊥)
IsAnswer w (TakeTurn who) (Idle o) = (o ≡ who) × ((w.own o).live ≡ true) × (w.task o ≡ None)
IsAnswer w (Go who) (Idle o) = (o ≡ who) × ((w.own o).live ≡ true) × (w.task o ≡ None)
IsAnswer w (Die who) (Occupied o) = (o ≡ who) × ((w.own o).live ≡ true) × (MayDie (w.task o) → ⊥)
IsAnswer w SetLog (LogsLeft count) = Unit {0}
IsAnswer w play line = ⊥

-- what a play leads to
pub data Gives (f : Form) (old : State) (play : Play) (lines : List Line) (new : State) : Type 0 where
  gives_answer : (line : Line) → lines ≡ line ∷ [] → new ≡ old → IsAnswer old play line → Gives f old play lines new
  gives_opener : (who : ℕ) → play ≡ Join → lines ≡ Joined who ∷ [] → Joins f old who new → Gives f old play lines new
  gives_command : (who : ℕ) (c : Command) → play ≡ Give who c → lines ≡ [] → Given old who c new → Gives f old play lines new
  gives_turn : (who : ℕ) (turn : Turn) → play ≡ TakeTurn who → Advances f old who turn lines new → Gives f old play lines new
  gives_turns : (who : ℕ) → play ≡ Go who → Goes f most_turns old who lines new → Gives f old play lines new
  gives_all : (who : ℕ) (c : Command) (mid : State) → play ≡ Do who c → Given old who c mid → Goes f most_turns mid who lines new → Gives f old play lines new
  gives_death : (who : ℕ) → play ≡ Die who → lines ≡ Died who ∷ [] → Dies f old who new → Gives f old play lines new

-- Plays taken in their order lead from a world to another, and give these lines.
abbrev pub Course : Form → State → List Play → List Line → State → Type 0
Course f old [] lines new = (lines ≡ []) × (new ≡ old)
Course f old (play ∷ plays) lines new =
    (mid : State) × (front : List Line) × (rest : List Line) × (lines ≡ front ++ rest) × Gives f old play front mid × Course f mid plays rest new
