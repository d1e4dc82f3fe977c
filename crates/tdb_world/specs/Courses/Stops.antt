-- What a stop may leave of the file while plays are taken.
use Rattle.std.specs.Prelude.{ℕ, ◌≡◌, ◌⊎◌, List, [], ◌∷◌, ◌++◌, Bool, IsTrue, Result}
use Rattle.tdb_disk.specs.History.{History, Extends, seen}
use Rattle.tdb_disk.specs.Stop.{LeavesOnly}
use Rattle.tdb_law.specs.Commands.{Command}
use Rattle.tdb_law.specs.Lines.{Line as LawLine}
use Rattle.tdb_law.specs.Lines.Line.{Undone}
use Rattle.tdb_law.specs.Plays.{Play, Course}
use Rattle.tdb_law.specs.World.{State}
use Rattle.tdb_space.specs.Form.{Form}
use Rattle.tdb_commands.specs.declared.line.Line.{Line}
use Rattle.tdb_commands.specs.InLaw.{law_lines}
use Rattle.tdb_openers.specs.Played.{TakesOne, UnlessIo}
use Rattle.tdb_openers.specs.declared.fault.RunFault.{RunFault}
use Rattle.tdb_world.specs.Died.{IsReadAs}
use Rattle.tdb_world.specs.Stops.{IsChanging, IsSafe, TurnMayLeave}
use Rattle.tdb_world.specs.Whole.{form_at}
use Rattle.tdb_world.specs.Courses.Led.{Moment, IsStateAt}
use Rattle.tdb_world.specs.Courses.Turns.{IsToldOf}

-- Some plays lead from one state to another with these lines.
abbrev pub Leads : Form → State → List LawLine → State → Type 0
Leads f old lines new = (plays : List Play) × Course f old plays lines new

-- A report passes a state: a front of its lines leads there.
pub record Passes (f : Form) (old : State) (lines : List LawLine) (s : State) : Type 0 where
  pub front : List LawLine
  pub rest : List LawLine
  pub parts : lines ≡ front ++ rest
  pub leads : Leads f old front s

-- In no state that it passes an opener is in the middle of a change outside a transaction.
abbrev pub IsTransacted : Form → State → List LawLine → Type 0
IsTransacted f old lines = (s : State) (o : ℕ) → Passes f old lines s → IsChanging f s o → ⊥

-- An image opens to the map and the number of a state that it passes, or of the transaction whose Commit shuts its gate
-- in the turn from there.
abbrev pub OpensOnTheWay : Form → State → List LawLine → List ℕ → Type 0
OpensOnTheWay f old lines c = (s : State) × (o : ℕ) × Passes f old lines s × TurnMayLeave f s o c

-- Behind a front of its lines a report passes a state: the front leads there, or the front with more of the lines.
pub record PassesBehind (f : Form) (old : State) (front rest : List LawLine) (s : State) : Type 0 where
  pub more : List LawLine
  pub left : List LawLine
  pub parts : rest ≡ more ++ left
  pub leads : Leads f old (front ++ more) s

-- an image opens to the map and the number of such a state, or of the transaction whose Commit shuts its gate from
-- there
abbrev pub OpensBehind : Form → State → List LawLine → List LawLine → List ℕ → Type 0
OpensBehind f old front rest c = (s : State) × (o : ℕ) × PassesBehind f old front rest s × TurnMayLeave f s o c

-- By each line but one an answer is told, or that a turn was taken; a gate is undone as a part of the turn behind it.
abbrev pub TellsDone : LawLine → Type 0
TellsDone (Undone bytes to) = ⊥
TellsDone line = Unit {0}

-- There was a moment at which the file was read as a state to which a front of the lines leads; and each stop since
-- then leaves a file that opens to a state behind this front.
pub record StaysSince (f : Form) (old new : History) (state : State) (front rest : List LawLine) : Type 0 where
  pub since : History
  pub begins : Extends old since
  pub reached : State
  pub leads : Leads f state front reached
  pub reads : IsReadAs f (seen since) reached
  pub stays : LeavesOnly since new (OpensBehind f state front rest)

-- What is told stays: so it is behind each line that tells what is done. By a line that tells that a Commit is done, no
-- stop from some moment on, at which the file had the map of its transaction, brings back a map from before it.
abbrev pub StaysTold : Form → History → History → State → List LawLine → Type 0
StaysTold f old new state lines =
    (front rest : List LawLine) (line : LawLine) → lines ≡ front ++ line ∷ rest → TellsDone line → StaysSince f old new state (front ++ line ∷ []) rest

-- Each stop from one history of a file to another leaves a file that opens on the way that lines tell from a state; and
-- what they tell stays.
pub record OpensAndStays (f : Form) (old new : History) (state : State) (lines : List LawLine) : Type 0 where
  pub opens : LeavesOnly old new (OpensOnTheWay f state lines)
  pub stays : StaysTold f old new state lines

-- Of a turn that failed nothing was told; or it was taken, and its lines told: then the file is read as a state to
-- which they lead, and a stop leaves only what opens to its map.
abbrev pub ToldWhereTaken : Form → State → ℕ → Command → History → List Line → List Line → Type 0
ToldWhereTaken f state o c new before after =
    (after ≡ before)
    ⊎ ((s : State) × (more : Bool) × (added : List Line) × (after ≡ before ++ added) × (IsToldOf state o c → TakesOne f state o more (law_lines added) s) × IsReadAs f (seen new) s × IsSafe f new)

-- Each stop since one moment leaves a file that opens so, and what the lines tell stays; and unless the disk failed the
-- lines lead to a state of the other moment, from which on that goes on.
pub record StopsOn {V : Type 0} (old new : Moment) (answer : Result V RunFault) (state : State) (lines : List LawLine) : Type 0 where
  pub stops : LeavesOnly old.history new.history (OpensOnTheWay (form_at old.world) state lines)
  pub stays : StaysTold (form_at old.world) old.history new.history state lines
  pub left : UnlessIo answer ((after : State) × IsStateAt new after × Leads (form_at old.world) state lines after × IsSafe (form_at old.world) new.history)

-- So it is between two moments, where a stop at the first leaves only what opens to the file's map, and what was added
-- is transacted.
abbrev pub StopsLed : {V : Type 0} → Bool → Moment → Moment → Result V RunFault → Type 0
StopsLed tells old new answer =
    IsTrue tells → (state : State) (added : List Line) → IsStateAt old state → new.lines ≡ old.lines ++ added → IsSafe (form_at old.world) old.history
    → IsTransacted (form_at old.world) state (law_lines added) → StopsOn old new answer state (law_lines added)
