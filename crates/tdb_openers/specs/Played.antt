-- How far plays come, what their report tells, and what they leave.
use Rattle.std.specs.Prelude.{ℕ, zero, suc, ◌≡◌, ◌⊎◌, List, [], ◌∷◌, ◌++◌, Bool, true, false, Result, Ok, Err, nat_lt, if◌then◌else◌}
use Rattle.tdb_space.specs.Form.{Form}
use Rattle.tdb_locks.specs.declared.turn.Turn.{Turn}
use Rattle.tdb_locks.specs.declared.turn.Turn.TheVariants as Turns
use Rattle.tdb_law.specs.Commands.{Command, Turn as LawTurn}
use Rattle.tdb_law.specs.Commands.Turn.{Step, Blocked, Ends}
use Rattle.tdb_law.specs.World.{State}
use Rattle.tdb_law.specs.Events.{Given}
use Rattle.tdb_law.specs.Openers.{Options as LawOptions}
use Rattle.tdb_law.specs.Lines.{Line as LawLine, IsLawful}
use Rattle.tdb_law.specs.Beginning.{IsLoaded, beginning}
use Rattle.tdb_law.specs.Plays.{Play, Clears, Advances, Gives, Course}
use Rattle.tdb_law.specs.Plays.Play.{TakeTurn, Go, Do}
use Rattle.tdb_commands.specs.declared.line.Line.{Line}
use Rattle.tdb_commands.specs.declared.line.Line.TheVariants.{Grew}
use Rattle.tdb_openers.specs.declared.fault.RunFault.{RunFault}
use Rattle.tdb_openers.specs.declared.fault.RunFault.TheVariants.{Io, Memory}

-- so many turns of an opener, one after the other, all of them steps
abbrev pub Steps : Form → ℕ → State → ℕ → List LawLine → State → Type 0
Steps f zero old who lines new = (lines ≡ []) × (new ≡ old)
Steps f (suc n) old who lines new =
    (mid : State) × (front : List LawLine) × (rest : List LawLine) × (lines ≡ front ++ rest) × Steps f n old who front mid × Advances f mid who Step rest new

-- So many turns of an opener were taken, all of them steps; and then nothing was done, or an open gate was undone for
-- the next turn.
abbrev pub StepsThenClears : Form → ℕ → State → ℕ → List LawLine → State → Type 0
StepsThenClears f n old who lines new =
    (mid : State) × (front : List LawLine) × (rest : List LawLine) × (lines ≡ front ++ rest) × Steps f n old who front mid
    × (((rest ≡ []) × (new ≡ mid)) ⊎ Clears f mid rest new)

-- A play that was begun and isn't done: nothing was done of it; or an open gate was undone for its one turn; or turns
-- were taken, all of them steps, and then an open gate may have been undone; or a command was given, and then turns
-- were taken so.
pub data Begun (f : Form) (old : State) (play : Play) (lines : List LawLine) (new : State) : Type 0 where
  begun_not : lines ≡ [] → new ≡ old → Begun f old play lines new
  begun_turn : (who : ℕ) → play ≡ TakeTurn who → Clears f old lines new → Begun f old play lines new
  begun_turns : (who n : ℕ) → play ≡ Go who → StepsThenClears f n old who lines new → Begun f old play lines new
  begun_command : (who n : ℕ) (c : Command) (mid : State) → play ≡ Do who c → Given old who c mid → StepsThenClears f n mid who lines new → Begun f old play lines new

-- of plays that are left the first was begun
abbrev pub FirstBegun : Form → State → List Play → List LawLine → State → Type 0
FirstBegun f old [] lines new = (lines ≡ []) × (new ≡ old)
FirstBegun f old (play ∷ plays) lines new = Begun f old play lines new

-- Plays that broke off, as far as they came: those in front were taken whole, and of the others the first was begun.
pub record ComesTo (f : Form) (old : State) (plays : List Play) (lines : List LawLine) (new : State) : Type 0 where
  pub done : List Play
  pub left : List Play
  pub parts : plays ≡ done ++ left
  pub mid : State
  pub front : List LawLine
  pub rest : List LawLine
  pub told : lines ≡ front ++ rest
  pub course : Course f old done front mid
  pub begun : FirstBegun f mid left rest new

-- the line that tells a growth from one length to another, where it is one
abbrev pub growth : ℕ → ℕ → List Line
growth from to = if nat_lt from to then Grew from to ∷ [] else []

-- what holds unless the disk failed, and what holds where it did
abbrev pub UnlessIo : {V : Type 0} → Result V RunFault → Type 0 → Type 0
UnlessIo (Ok v) p = p
UnlessIo (Err Memory) p = p
UnlessIo (Err Io) p = Unit {0}

abbrev pub OnIo : {V : Type 0} → Result V RunFault → Type 0 → Type 0
OnIo (Ok v) p = Unit {0}
OnIo (Err Memory) p = Unit {0}
OnIo (Err Io) p = p

-- nothing was done
abbrev pub Nothing : State → List LawLine → State → Type 0
Nothing old lines new = (lines ≡ []) × (new ≡ old)

-- a turn that isn't a step, in the words of the law; and whether one of the code is
abbrev pub IsLast : LawTurn → Type 0
IsLast Step = ⊥
IsLast (Blocked owner byte) = Unit {0}
IsLast (Ends reply) = Unit {0}

abbrev pub is_step : Turn → Bool
is_step Turns.Step = true
is_step (Turns.Blocked owner byte) = false
is_step (Turns.Done reply) = false

-- one turn with its lines: a step, or another
abbrev pub TakesOne : Form → State → ℕ → Bool → List LawLine → State → Type 0
TakesOne f old who true lines new = Advances f old who Step lines new
TakesOne f old who false lines new = (turn : LawTurn) × IsLast turn × Advances f old who turn lines new

abbrev pub TakesLast : Form → State → ℕ → List LawLine → State → Type 0
TakesLast f old who lines new = Nothing old lines new ⊎ ((more : Bool) × TakesOne f old who more lines new)

-- turns up to the first that isn't a step: those that were taken, all of them steps; and where the disk failed, all may
-- have been taken
abbrev pub GoesSome : Form → State → ℕ → List LawLine → State → Type 0
GoesSome f old who lines new = (n : ℕ) × Steps f n old who lines new

-- and so a play
abbrev pub PlaysLast : Form → State → Play → List LawLine → State → Type 0
PlaysLast f old play lines new = Begun f old play lines new ⊎ Gives f old play lines new

-- The lines of plays from a state just loaded that broke off are lawful from the replay that begins with the map and
-- the number of its file.
abbrev pub BrokenIsLawful : Type 0
BrokenIsLawful = (f : Form) (options : LawOptions) (old new : State) (plays : List Play) (lines : List LawLine) → IsLoaded f old options → ComesTo f old plays lines new
    → IsLawful f (beginning options old.file old.number) lines
