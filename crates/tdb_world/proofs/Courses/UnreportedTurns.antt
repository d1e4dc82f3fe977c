-- A turn of which no report tells: what it leads to, and what logs heard of it.
use Rattle.std.proofs.Common.{◌≡◌, ℕ, Bool, List, [], ◌∷◌, ◌++◌, Option, Some, None, Result, Ok, Err, IfOk, refl, ◌∙◌, ap, subst, inl, inr, append-nil, sym}
use Rattle.tdb_disk.specs.History.{History, seen}
use Rattle.tdb_law.specs.World.{State}
use Rattle.tdb_law.specs.Plays.{Clears}
use Rattle.tdb_law.specs.Plays.Play.{TakeTurn}
use Rattle.tdb_locks.specs.declared.turn.Turn.{Turn}
use Rattle.tdb_log.specs.Logs.{Logged}
use Rattle.tdb_log.specs.declared.log.LogRefusal.{LogRefusal}
use Rattle.tdb_commands.specs.InLaw.{law_opener, law_command}
use Rattle.tdb_commands.specs.declared.command.Command.{Command}
use Rattle.tdb_commands.specs.declared.line.Line.{Line}
use Rattle.tdb_commands.specs.declared.line.Line.TheVariants.{Took}
use Rattle.tdb_world.specs.Whole.{form_at, Whole, WorldFits}
use Rattle.tdb_world.specs.declared.undoing.Undone.{Undone}
use Rattle.tdb_openers.specs.Played.{growth, is_step, Nothing, TakesOne, TakesLast}
use Rattle.tdb_openers.specs.declared.fault.RunFault.{RunFault}
use Rattle.tdb_world.specs.Courses.Hearing.{Heard, HeardBy, HeardLed, HeardUpTo}
use Rattle.tdb_world.specs.Courses.Led.{Lengths, Moment, moment, IsStateAt, Led}
use Rattle.tdb_world.specs.Courses.Stops.{StopsLed}
use Rattle.tdb_world.specs.Courses.Told.{IsAnswered, PlayLed}
use Rattle.tdb_world.specs.Courses.Turns.{IsToldOf, Never}
use Rattle.tdb_world.specs.Courses.Unreported.{AreUndoing, TurnTells, Unreported, turn_lines, undo_lines, with_lines}
use Rattle.tdb_world.specs.declared.course.unreported.MeasuredTurn.{MeasuredTurn}
use Rattle.tdb_world.proofs.Courses.Answered.{answered}
use Rattle.tdb_world.proofs.Courses.Going.{turn_led, turn_fault}
use Rattle.tdb_world.proofs.Courses.HeardLines.{refused_longer}
use Rattle.tdb_world.proofs.Courses.HeardPlays.{by_fault}
use Rattle.tdb_world.proofs.Courses.Leading.{led_whole, led_fault}
use Rattle.tdb_world.proofs.Courses.OneTurn.{turn_after, undo_failed}
use Rattle.tdb_world.proofs.Courses.Running.{heard_behind}
use Rattle.tdb_world.proofs.Courses.StoppedTurns.{TurnKeeps, TurnStops, UndoKeeps, UndoStops, turn_stops, undo_stops}
use Rattle.tdb_world.proofs.Courses.StoppedPlays.{answered_stops}
use Rattle.tdb_world.proofs.Courses.Stopping.{stops_fault, stops_whole}

-- what logs heard of all lines of a moment, behind one without lines
heard_all : {V : Type 0} (tells : Bool) (old new : Moment) (before after : List Logged) (answer : Result (Result V LogRefusal) RunFault) → old.lines ≡ [] → HeardBy before new.lines after answer
    → HeardLed tells old new before after answer
heard_all tells old new before after answer none heard sees state added is e = subst (λ ls. HeardBy before ls after answer) (e ∙ ap (λ (ls : List Line). ls ++ added) none) heard

-- an opener has nothing to do
pub nothing_to_do : (tells : Bool) (w : Whole) (h : History) (size faults who : ℕ) (line : Line) (logs : List Logged) → WorldFits w (seen h) size → IsAnswered w (TakeTurn (law_opener who)) line → Lengths size (line ∷ []) size
    → Heard logs (line ∷ []) logs → TurnTells who None (line ∷ []) → Unreported tells (moment w h size faults []) (moment w h size faults []) logs logs who (Ok (Ok None))
nothing_to_do tells w h size faults who line logs W said short heard told =
    let old = moment w h size faults [] in
    let new = moment w h size faults (line ∷ []) in
    let L : PlayLed tells old new (Ok (Ok None)) (TakeTurn (law_opener who)) =
    led_whole tells old new _ _ _ _ _ _ tt (Ok None) (answered tells w h size faults (TakeTurn (law_opener who)) line [] (line ∷ []) W said short (Ok tt) refl tt tt) (λ state lines z is G. G) in
    record {
      lines = line ∷ [];
      led = L;
      stops = stops_whole tells old new tt (Ok None) (answered_stops tells w h size faults (TakeTurn (law_opener who)) line [] (line ∷ []) said (Ok tt) refl tt);
      heard = heard_all {V = Option Turn} tells old new logs logs (Ok (Ok None)) refl heard;
      told = told;
    }

-- the disk failed in the undo of a gate
pub undo_unreported : (tells : Bool) (old new : Moment) (who : ℕ) (logs : List Logged) (e : RunFault) → old.lines ≡ []
    → Led {V = Option Undone} tells old (with_lines new []) (Err e) (λ state _. Clears (form_at old.world) state) Never Nothing → UndoStops tells old.world old.history new.history
    → Unreported tells old new logs logs who (Err e)
undo_unreported tells old new who logs e none A cleared = record {
  lines = [];
  led = turn_fault tells old (with_lines new []) (law_opener who) e (undo_failed tells old (with_lines new []) (law_opener who) e A);
  stops = stops_fault {V = Bool} tells old (with_lines new []) e (undo_stops tells old (with_lines new []) (law_opener who) e A cleared);
  heard = heard_all {V = Option Turn} tells old (with_lines new []) logs logs (Err e) none (inl refl);
  told = tt;
}

undoing : (undone : Option Undone) → AreUndoing (undo_lines (Ok undone))
undoing None = inl refl
undoing (Some undone) = inr (undone.bytes, undone.to, refl)

-- A turn behind what was undone.
module _ (tells : Bool) (old mid new : Moment) (who : ℕ) (command : Command) (mine : (state : State) → IsStateAt old state → IsToldOf state (law_opener who) (law_command command)) (none : old.lines ≡ []) (undone : Option Undone)
    (A : Led tells old (with_lines mid (undo_lines (Ok undone))) (Ok undone) (λ state _. Clears (form_at old.world) state) Never Nothing)
    (cleared : UndoStops tells old.world old.history mid.history) (safely : UndoKeeps tells old.world old.history mid.history) (turned : TurnStops tells (form_at mid.world) mid.world (law_opener who) mid.history new.history) where
  abbrev front : List Line
  front = undo_lines (Ok undone)

  abbrev Behind : Result MeasuredTurn RunFault → Moment
  Behind r = with_lines new (front ++ turn_lines who command r)

  abbrev TurnLed : Result MeasuredTurn RunFault → Type 0
  TurnLed r =
      Led tells (with_lines mid front) (Behind r) r
      (λ state measured lines z. IsToldOf state (law_opener who) (law_command command) → TakesOne (form_at mid.world) state (law_opener who) (is_step measured.turn) lines z)
      Never
      (λ state lines z. IsToldOf state (law_opener who) (law_command command) → TakesLast (form_at mid.world) state (law_opener who) lines z)

  abbrev Kept : Type 0
  Kept = TurnKeeps tells (form_at mid.world) mid.world (law_opener who) mid.history new.history

  -- the same as of a reported turn, of which is told alone whether it was a step
  abbrev StepLed : Moment → Result Bool RunFault → Type 0
  StepLed behind r =
      Led tells (with_lines mid front) behind r (λ state more lines z. IsToldOf state (law_opener who) (law_command command) → TakesOne (form_at mid.world) state (law_opener who) more lines z) Never
      (λ state lines z. IsToldOf state (law_opener who) (law_command command) → TakesLast (form_at mid.world) state (law_opener who) lines z)

  step_led : (measured : MeasuredTurn) → TurnLed (Ok measured) → StepLed (Behind (Ok measured)) (Ok (is_step measured.turn))
  step_led measured B = led_whole tells (with_lines mid front) (Behind (Ok measured)) _ _ _ _ Never _ measured (is_step measured.turn) B (λ state lines z is T. T)

  failed_step : (e : RunFault) → TurnLed (Err e) → StepLed (Behind (Err e)) (Err e)
  failed_step e B = led_fault {V = MeasuredTurn} tells (with_lines mid front) (Behind (Err e)) _ _ _ _ _ _ e B (λ state lines z is never. never) (λ state lines z is T. T)

  taken_led : {V : Type 0} (measured : MeasuredTurn) (v : V) → TurnLed (Ok measured) → PlayLed tells old (Behind (Ok measured)) (Ok v) (TakeTurn (law_opener who))
  taken_led measured v B =
      let more = is_step measured.turn in
      turn_led tells old (Behind (Ok measured)) (law_opener who) more v
      (turn_after tells old (with_lines mid front) (Behind (Ok measured)) (law_opener who) (law_command command) mine undone A (Ok more) (step_led measured B))

  fault_led : {V : Type 0} (e : RunFault) → TurnLed (Err e) → PlayLed {V = V} tells old (Behind (Err e)) (Err e) (TakeTurn (law_opener who))
  fault_led e B =
      turn_fault tells old (Behind (Err e)) (law_opener who) e
      (turn_after tells old (with_lines mid front) (Behind (Err e)) (law_opener who) (law_command command) mine undone A (Err e) (failed_step e B))

  taken_stops : {V : Type 0} (measured : MeasuredTurn) (v : V) → TurnLed (Ok measured) → Kept → StopsLed tells old (Behind (Ok measured)) (Ok v)
  taken_stops measured v B kept =
      let more = is_step measured.turn in
      stops_whole tells old (Behind (Ok measured)) more v
      (turn_stops tells old (with_lines mid front) (Behind (Ok measured)) (law_opener who) (law_command command) mine undone A (Ok more) (step_led measured B) cleared safely turned kept tt)

  fault_stops : {V : Type 0} (e : RunFault) → TurnLed (Err e) → StopsLed {V = V} tells old (Behind (Err e)) (Err e)
  fault_stops e B =
      stops_fault {V = Bool} tells old (Behind (Err e)) e
      (turn_stops tells old (with_lines mid front) (Behind (Err e)) (law_opener who) (law_command command) mine undone A (Err e) (failed_step e B) cleared safely turned tt
      (λ told state is safe never. inl (append-nil front)))

  -- it was taken
  taken : (measured : MeasuredTurn) (before after : List Logged) (noted : Result (Option Turn) LogRefusal) → TurnLed (Ok measured) → Kept → HeardBy before (front ++ turn_lines who command (Ok measured)) after (Ok noted)
      → IfOk noted (λ turn. TurnTells who turn (front ++ turn_lines who command (Ok measured))) → Unreported tells old new before after who (Ok noted)
  taken measured before after noted B kept heard told = record {
    lines = front ++ turn_lines who command (Ok measured);
    led = taken_led measured noted B;
    stops = taken_stops measured noted B kept;
    heard = heard_all tells old (Behind (Ok measured)) before after (Ok noted) none heard;
    told = told;
  }

  module _ (before between : List Logged) where
    -- the disk failed in it
    pub turn_failed : (told : Result (Unit {0}) LogRefusal) → HeardBy before front between (Ok told) → (e : RunFault) → TurnLed (Err e) → Unreported tells old new before between who (Err e)
    turn_failed told heard e B = record {
      lines = front ++ [];
      led = fault_led e B;
      stops = fault_stops e B;
      heard = heard_all {V = Option Turn} tells old (Behind (Err e)) before between (Err e) none
          (subst (λ ls. HeardBy {V = Option Turn} before ls between (Err e)) (sym (append-nil front)) (by_fault (Option Turn) before between front told e heard));
      told = tt;
    }

    -- a log refused what was undone
    pub undo_refused : (refusal : LogRefusal) → HeardUpTo refusal before front between → (measured : MeasuredTurn) → TurnLed (Ok measured) → Kept → Unreported tells old new before between who (Ok (Err refusal))
    undo_refused refusal heard measured B kept = taken measured before between (Err refusal) B kept (refused_longer refusal before between front (turn_lines who command (Ok measured)) heard) tt

    -- it heard of that, and was told of the growth
    module _ (heard : Heard before front between) (measured : MeasuredTurn) (B : TurnLed (Ok measured)) (kept : Kept) (after : List Logged) where
      growth_heard : (noted : Result (Option Turn) LogRefusal) → HeardBy between (growth measured.from measured.to) after (Ok noted) → HeardBy before (front ++ turn_lines who command (Ok measured)) after (Ok noted)
      growth_heard noted grown =
          heard_behind before between after front (turn_lines who command (Ok measured)) (Ok noted) heard
          (heard_behind between between after (Took who command measured.turn ∷ []) (growth measured.from measured.to) (Ok noted) (between, refl, refl) grown)

      pub turn_heard : Heard between (growth measured.from measured.to) after → Unreported tells old new before after who (Ok (Ok (Some measured.turn)))
      turn_heard grown =
          taken measured before after (Ok (Some measured.turn)) B kept (growth_heard (Ok (Some measured.turn)) grown) (front, command, measured.from, measured.to, undoing undone, refl)

      pub growth_refused : (refusal : LogRefusal) → HeardUpTo refusal between (growth measured.from measured.to) after → Unreported tells old new before after who (Ok (Err refusal))
      growth_refused refusal grown = taken measured before after (Err refusal) B kept (growth_heard (Err refusal) grown) tt
