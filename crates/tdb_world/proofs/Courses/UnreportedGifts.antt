-- A gift of which no report tells.
use Rattle.std.proofs.Common.{◌≡◌, ◌≤◌, ℕ, List, [], ◌∷◌, false, Ok, Err, refl}
use Rattle.tdb_disk.specs.History.{History}
use Rattle.tdb_law.specs.World.{State}
use Rattle.tdb_law.specs.Plays.Play.{Give}
use Rattle.tdb_commands.specs.InLaw.{law_opener, law_command}
use Rattle.tdb_commands.specs.declared.command.Command.{Command}
use Rattle.tdb_commands.specs.declared.line.Line.{Line}
use Rattle.tdb_commands.specs.declared.line.Line.TheVariants as Lines
use Rattle.tdb_world.specs.States.{IsStateOf}
use Rattle.tdb_world.specs.Steps.{HasCommand}
use Rattle.tdb_world.specs.Whole.{Whole, WorldFits}
use Rattle.tdb_openers.specs.declared.fault.RunFault.{RunFault}
use Rattle.tdb_openers.specs.declared.fault.RunFault.TheVariants.{Memory}
use Rattle.tdb_openers.specs.declared.standings.OpenerStanding.{OpenerStanding}
use Rattle.tdb_openers.specs.declared.standings.OpenerStanding.TheVariants as Stands
use Rattle.tdb_world.specs.Courses.Led.{moment, Lengths}
use Rattle.tdb_world.specs.Courses.Told.{Gifted, IsAnswered, PlayLedInAny}
use Rattle.tdb_world.specs.Courses.Unreported.{gift_lines}
use Rattle.tdb_world.proofs.Courses.Answered.{answered, give_led}
use Rattle.tdb_world.proofs.Courses.Leading.{led_whole}
use Rattle.tdb_world.proofs.Courses.Standings.{busy_live, busy_never_idle}

module _ (w v : Whole) (who : ℕ) (command : Command) where
  -- an idle opener was given the command, or memory was wanting
  pub gift_given : (standing : OpenerStanding) → standing ≡ Stands.Idle → Gifted w who (law_command command) v
      → PlayLedInAny w [] v (gift_lines who (Ok standing)) (Ok standing) (Give (law_opener who) (law_command command))
  gift_given standing idle G =
      let given : PlayLedInAny w [] v [] (Ok Stands.Idle) (Give (law_opener who) (law_command command)) =
      λ tells h size faults W. give_led tells w v h size faults who (law_command command) [] W (Ok Stands.Idle) G tt tt in
      rw idle given

  pub gift_wanting : (e : RunFault) → v ≡ w → e ≡ Memory → PlayLedInAny {V = OpenerStanding} w [] v [] (Err e) (Give (law_opener who) (law_command command))
  gift_wanting e kept memory tells h size faults W = give_led tells w v h size faults who (law_command command) [] W (Err e) tt kept memory

  -- another was not
  said_by : (line : Line) (standing : OpenerStanding) → IsAnswered w (Give (law_opener who) (law_command command)) line → ((size : ℕ) → Lengths size (line ∷ []) size)
      → PlayLedInAny w [] w (line ∷ []) (Ok standing) (Give (law_opener who) (law_command command))
  said_by line standing said short tells h size faults W =
      led_whole tells (moment w h size faults []) (moment w h size faults (line ∷ [])) _ _ _ _ _ _ tt standing
      (answered tells w h size faults (Give (law_opener who) (law_command command)) line [] (line ∷ []) W said (short size) (Ok tt) refl tt tt) (λ state lines z is G. G)

  pub gift_not : (img : List ℕ) (size : ℕ) → WorldFits w img size → 1 ≤ who → (standing : OpenerStanding) → (standing ≡ Stands.Idle → ⊥)
      → (standing ≡ Stands.Absent → (h : History) (state : State) → IsStateOf w h state → (state.own (law_opener who)).live ≡ false) → (standing ≡ Stands.Busy → HasCommand w who)
      → PlayLedInAny w [] w (gift_lines who (Ok standing)) (Ok standing) (Give (law_opener who) (law_command command))
  gift_not img size W named Stands.Idle apart absent busy = absurd (apart refl)
  gift_not img size W named Stands.Absent apart absent busy = said_by (Lines.Absent who) Stands.Absent (λ h state is. (refl, absent refl h state is)) (λ n. refl)
  gift_not img size W named Stands.Busy apart absent busy =
      said_by (Lines.Occupied who) Stands.Busy (λ h state is. (refl, busy_live w img size W who h state is (busy refl) named, busy_never_idle w img size W who h state is (busy refl))) (λ n. refl)
