-- Joins and gifts, which make no call on the disk: what they lead to, one after the other.
use Rattle.std.proofs.Common.{◌≡◌, ℕ, ◌+◌, Bool, false, List, [], ◌∷◌, ◌++◌, Result, Ok, Err, refl, sym, ◌∙◌, ap, subst, arith}
use Rattle.std.specs.Prelude.{IsTrue}
use Rattle.tdb_disk.specs.History.{History}
use Rattle.tdb_law.specs.Plays.{Gives}
use Rattle.tdb_law.specs.Plays.Gives.{gives_opener}
use Rattle.tdb_law.specs.World.{State}
use Rattle.tdb_log.specs.Logs.{Logged}
use Rattle.tdb_commands.specs.InLaw.{law_lines, law_opener, law_play}
use Rattle.tdb_commands.specs.declared.command.Command.{Command}
use Rattle.tdb_commands.specs.declared.line.Line.{Line}
use Rattle.tdb_commands.specs.declared.line.Line.TheVariants as Lines
use Rattle.tdb_commands.specs.declared.play.Play.{Play}
use Rattle.tdb_commands.specs.declared.play.Play.TheVariants as Plays
use Rattle.tdb_openers.proofs.Joining.Courses.{course_then}
use Rattle.tdb_openers.specs.declared.standings.OpenerStanding.{OpenerStanding}
use Rattle.tdb_openers.specs.declared.standings.OpenerStanding.TheVariants as Stands
use Rattle.tdb_world.specs.Steps.{JoinLeads}
use Rattle.tdb_world.specs.States.{IsStateOf}
use Rattle.tdb_world.specs.Whole.{Whole, form_at}
use Rattle.tdb_world.specs.OverFile.{OverFile, HasState, moment_of}
use Rattle.tdb_world.specs.OverFiles.Openers.{HasJoined}
use Rattle.tdb_world.specs.Courses.Hearing.{Heard}
use Rattle.tdb_world.specs.Courses.Told.{PlayLed}
use Rattle.tdb_world.specs.Courses.Unreported.{gift_lines}
use Rattle.tdb_gen.specs.declared.fault.GenFault.{GenFault}
use Rattle.tdb_gen.specs.declared.fault.GenFault.TheVariants.{Memory}
use Rattle.tdb_gen.specs.Counts.{counts_of}
use Rattle.tdb_gen.specs.Taking.{HaveJoined, place, TakenUncounted}
use Rattle.tdb_gen.proofs.Counting.{counts_tally}
use Rattle.tdb_gen.proofs.Takings.{taken_none, taken_join, taken_more, taken_not}

-- no play yet, plays behind others, others that weren't begun, and none for want of memory
module _ (t : Bool) where
  pub any_none : (w : OverFile) → w.spent ≡ false → TakenUncounted t w w [] (Ok tt)
  any_none w unspent counts logs = taken_none t (place w counts logs) unspent

  pub any_join : (w m v : OverFile) (ps qs : List Play) (answer : Result (Unit {0}) GenFault) → TakenUncounted t w m ps (Ok tt) → TakenUncounted t m v qs answer → TakenUncounted t w v (ps ++ qs) answer
  any_join w m v ps qs answer one two counts logs = taken_join t (place w counts logs) (place m counts logs) (place v counts logs) ps (one counts logs) answer qs (two counts logs)

  pub any_more : (w v : OverFile) (ps qs : List Play) (e : GenFault) → TakenUncounted t w v ps (Err e) → TakenUncounted t w v (ps ++ qs) (Err e)
  any_more w v ps qs e one counts logs = taken_more t (place w counts logs) (place v counts logs) ps qs e (one counts logs)

  pub any_not : (w v : OverFile) (plays : List Play) → w.spent ≡ false → v ≡ w → TakenUncounted t w v plays (Err Memory)
  any_not w v plays unspent kept = rw kept (λ counts logs. taken_not t (place w counts logs) plays unspent)

  -- one play with lines of which nothing is counted and no log hears
  one_taken : (w v : OverFile) (play : Play) (lines : List Line) → ((told : List Line) → counts_of (told ++ lines) ≡ counts_of told) → ((logs : List Logged) → Heard logs lines logs)
      → v.world.openers.header ≡ w.world.openers.header → v.spent ≡ false → v.faults ≡ w.faults
      → (IsTrue t → (state : State) → HasState w state → (after : State) × HasState v after × Gives (form_at w.world) state (law_play play) (law_lines lines) after)
      → TakenUncounted t w v (play ∷ []) (Ok tt)
  one_taken w v play lines uncounted unheard header unspent quiet leads counts logs = record {
    header = header;
    unspent = unspent;
    rises = omega (arith, quiet);
    quiet = quiet;
    told = λ told state is.
        (let end = leads told state is in (
          end.0,
          end.1,
          record {
            lines = lines;
            course = course_then (form_at w.world) [] (law_play play) state state end.0 [] (law_lines lines) (refl, refl) end.2;
            counted = λ front e. e ∙ sym (uncounted front);
            heard = unheard logs;
          },
        ));
    rose = λ told state is. tt;
  }

  -- an opener joined
  pub join_taken : (w v : OverFile) (who : ℕ) → w.spent ≡ false → HasJoined w v who → TakenUncounted t w v (Plays.Join ∷ []) (Ok tt)
  join_taken w v who unspent J =
      one_taken w v Plays.Join (Lines.Joined who ∷ []) (λ told. counts_tally told (Lines.Joined who ∷ [])) (λ logs. (logs, refl, refl)) J.memory.form.header
      (ap (λ (x : OverFile). x.spent) J.memory.file ∙ unspent) (ap (λ (x : OverFile). x.faults) J.memory.file)
      (λ told state is.
      (let L = J.leads w.history state is in
      (L.0, subst (λ h. IsStateOf v.world h L.0) (sym (ap (λ (x : OverFile). x.history) J.memory.file)) L.1, gives_opener (law_opener who) refl refl L.2)))

pub one_joined : (w v : Whole) (who : ℕ) → ((h : History) → JoinLeads w v h who) → HaveJoined w v 1
one_joined w v who joins h state is =
    let J = joins h state is in
    let more = J.2.joined in
    (J.0, J.1, let one : J.0.joined ≡ state.joined + 1 = omega (arith, more) in one)

pub more_joined : (w m v : Whole) (a b : ℕ) → HaveJoined w m a → HaveJoined m v b → HaveJoined w v (a + b)
more_joined w m v a b one two h state is =
    let A = one h state is in
    let B = two h A.0 A.1 in
    let first = A.2 in
    let then = B.2 in
    (B.0, B.1, let sum : B.0.joined ≡ state.joined + (a + b) = omega (arith, first, then) in sum)

-- a command was given, or its opener was absent or had another
gift_uncounted : (who : ℕ) (standing : OpenerStanding) (told : List Line) → counts_of (told ++ gift_lines who (Ok standing)) ≡ counts_of told
gift_uncounted who Stands.Idle told = counts_tally told []
gift_uncounted who Stands.Absent told = counts_tally told (Lines.Absent who ∷ [])
gift_uncounted who Stands.Busy told = counts_tally told (Lines.Occupied who ∷ [])

gift_unheard : (who : ℕ) (standing : OpenerStanding) (logs : List Logged) → Heard logs (gift_lines who (Ok standing)) logs
gift_unheard who Stands.Idle logs = refl
gift_unheard who Stands.Absent logs = (logs, refl, refl)
gift_unheard who Stands.Busy logs = (logs, refl, refl)

pub gift_taken : (t : Bool) (w v : OverFile) (who : ℕ) (command : Command) (standing : OpenerStanding) → v.spent ≡ false
    → PlayLed t (moment_of w []) (moment_of v (gift_lines who (Ok standing))) (Ok standing) (law_play (Plays.Give who command)) → TakenUncounted t w v (Plays.Give who command ∷ []) (Ok tt)
gift_taken t w v who command standing unspent led =
    one_taken t w v (Plays.Give who command) (gift_lines who (Ok standing)) (gift_uncounted who standing) (gift_unheard who standing) led.header unspent led.quiet
    (λ told state is.
    (let end = led.told told state is in (end.0, end.1, subst (λ ls. Gives (form_at w.world) state (law_play (Plays.Give who command)) (law_lines ls) end.0) (sym led.lines) end.2)))
