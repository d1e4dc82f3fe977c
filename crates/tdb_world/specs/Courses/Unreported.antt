-- What comes of a turn, and of a gift, of which no report tells.
use Rattle.std.specs.Prelude.{ℕ, ◌≡◌, ◌⊎◌, List, [], ◌∷◌, ◌++◌, Bool, Option, None, Some, Result, Ok, Err, IfOk}
use Rattle.tdb_law.specs.Plays.Play.{TakeTurn}
use Rattle.tdb_locks.specs.declared.turn.Turn.{Turn}
use Rattle.tdb_log.specs.Logs.{Logged}
use Rattle.tdb_log.specs.declared.log.LogRefusal.{LogRefusal}
use Rattle.tdb_commands.specs.InLaw.{law_opener}
use Rattle.tdb_commands.specs.declared.command.Command.{Command}
use Rattle.tdb_commands.specs.declared.line.Line.{Line}
use Rattle.tdb_commands.specs.declared.line.Line.TheVariants.{Absent, Idle, Occupied, Took, Undone}
use Rattle.tdb_world.specs.declared.undoing.Undone.{Undone as UndoneGate}
use Rattle.tdb_openers.specs.Played.{growth}
use Rattle.tdb_openers.specs.declared.fault.RunFault.{RunFault}
use Rattle.tdb_openers.specs.declared.standings.OpenerStanding.{OpenerStanding}
use Rattle.tdb_openers.specs.declared.standings.OpenerStanding.TheVariants as Stands
use Rattle.tdb_world.specs.Courses.Hearing.{HeardLed}
use Rattle.tdb_world.specs.Courses.Led.{Moment}
use Rattle.tdb_world.specs.Courses.Stops.{StopsLed}
use Rattle.tdb_world.specs.Courses.Told.{PlayLed}
use Rattle.tdb_world.specs.declared.course.unreported.MeasuredTurn.{MeasuredTurn}

-- a moment with these lines
abbrev pub with_lines : Moment → List Line → Moment
with_lines m lines = record m { lines = lines }

-- the lines in front of a turn: none, or that an open gate was undone
abbrev pub AreUndoing : List Line → Type 0
AreUndoing lines = (lines ≡ []) ⊎ ((bytes : ℕ) × (to : ℕ) × (lines ≡ Undone bytes to ∷ []))

-- the lines of a turn: that the opener has nothing to do; or an undo in front of the turn, the turn, and the growth of
-- the file in it
abbrev pub TurnTells : ℕ → Option Turn → List Line → Type 0
TurnTells who None lines = (lines ≡ Idle who ∷ []) ⊎ (lines ≡ Absent who ∷ [])
TurnTells who (Some turn) lines =
    (front : List Line) × (command : Command) × (from : ℕ) × (to : ℕ) × AreUndoing front × (lines ≡ front ++ Took who command turn ∷ growth from to)

-- What came of a turn without a report: these lines would tell it, and all is so as with a report of them.
pub record Unreported (tells : Bool) (old new : Moment) (before after : List Logged) (who : ℕ) (answer : Result (Result (Option Turn) LogRefusal) RunFault) : Type 0 where
  pub lines : List Line
  pub led : PlayLed tells old (with_lines new lines) answer (TakeTurn (law_opener who))
  pub stops : StopsLed tells old (with_lines new lines) answer
  pub heard : HeardLed tells old (with_lines new lines) before after answer
  pub told : IfOk answer (λ heard. IfOk heard (λ turn. TurnTells who turn lines))

-- the lines that would tell what was undone, and a turn; none, where the disk failed
abbrev pub undo_lines : Result (Option UndoneGate) RunFault → List Line
undo_lines (Ok None) = []
undo_lines (Ok (Some undone)) = Undone undone.bytes undone.to ∷ []
undo_lines (Err fault) = []

abbrev pub turn_lines : ℕ → Command → Result MeasuredTurn RunFault → List Line
turn_lines who command (Ok measured) = Took who command measured.turn ∷ growth measured.from measured.to
turn_lines who command (Err fault) = []

-- the lines that would tell a gift, by how the opener stood: none, where it was idle and has the command now
abbrev pub gift_lines : ℕ → Result OpenerStanding RunFault → List Line
gift_lines who (Ok Stands.Idle) = []
gift_lines who (Ok Stands.Absent) = Absent who ∷ []
gift_lines who (Ok Stands.Busy) = Occupied who ∷ []
gift_lines who (Err fault) = []
