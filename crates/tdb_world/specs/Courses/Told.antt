-- What a play gives from each state of a world.
use Rattle.std.specs.Prelude.{ℕ, ◌≡◌, List, [], ◌∷◌, Bool, Result}
use Rattle.tdb_disk.specs.History.{History, seen}
use Rattle.tdb_law.specs.Commands.{Command}
use Rattle.tdb_law.specs.World.{State}
use Rattle.tdb_law.specs.Plays.{Play, Gives, IsAnswer}
use Rattle.tdb_commands.specs.declared.line.Line.{Line}
use Rattle.tdb_commands.specs.InLaw.{law_line}
use Rattle.tdb_openers.specs.Played.{Begun, PlaysLast}
use Rattle.tdb_openers.specs.declared.fault.RunFault.{RunFault}
use Rattle.tdb_world.specs.Whole.{Whole, WorldFits, form_at}
use Rattle.tdb_world.specs.States.{IsStateOf}
use Rattle.tdb_world.specs.Steps.{GiftLeads, HasCommand}
use Rattle.tdb_world.specs.Courses.Led.{Moment, moment, Led}

-- What leads from one moment to another is a play: all that it gives; a part of it, where memory was wanting; and where
-- the disk failed a part of it, or all.
abbrev pub PlayLed : {V : Type 0} → Bool → Moment → Moment → Result V RunFault → Play → Type 0
PlayLed tells old new answer play =
    Led tells old new answer (λ state _. Gives (form_at old.world) state play) (λ state. Begun (form_at old.world) state play) (λ state. PlaysLast (form_at old.world) state play)

-- So it is over each file, where the play makes no call on the disk.
abbrev pub PlayLedInAny : {V : Type 0} → Whole → List Line → Whole → List Line → Result V RunFault → Play → Type 0
PlayLedInAny old before new after answer play =
    (tells : Bool) (h : History) (size faults : ℕ) → WorldFits old (seen h) size → PlayLed tells (moment old h size faults before) (moment new h size faults after) answer play

-- A play leads from each state of a world to one of another with this line.
abbrev pub GivesLine : Whole → Whole → Play → Line → Type 0
GivesLine old new play line =
    (h : History) (state : State) → IsStateOf old h state → (after : State) × IsStateOf new h after × Gives (form_at old) state play (law_line line ∷ []) after

-- In each state of a world a play is answered by this line.
abbrev pub IsAnswered : Whole → Play → Line → Type 0
IsAnswered w play line = (h : History) (state : State) → IsStateOf w h state → IsAnswer state play (law_line line)

-- An opener of a world was given a command: the header and the options stay, and what fits goes on to fit.
pub record Gifted (old : Whole) (who : ℕ) (c : Command) (new : Whole) : Type 0 where
  pub header : new.openers.header ≡ old.openers.header
  pub options : new.openers.options ≡ old.openers.options
  pub fits : (img : List ℕ) (size : ℕ) → WorldFits old img size → WorldFits new img size
  pub given : (h : History) → GiftLeads old new h who c
  pub busy : HasCommand new who
