-- What a stop leaves while plays are taken that make no call on the disk.
use Rattle.std.proofs.Common.{◌≡◌, ◌⊎◌, ℕ, Bool, List, [], ◌∷◌, ◌++◌, Result, Ok, Err, OnOk, OnErr, refl, sym, ◌∙◌, ap, subst, inl, inr, append-nil}
use Rattle.tdb_disk.specs.History.{History, seen}
use Rattle.tdb_disk.proofs.Runs.{extends_itself}
use Rattle.tdb_space.specs.Form.{Form}
use Rattle.tdb_law.specs.Commands.{Command}
use Rattle.tdb_law.specs.Lines.{Line as LawLine}
use Rattle.tdb_law.specs.Lines.Line.{Died, Joined}
use Rattle.tdb_law.specs.Plays.{Play, Gives}
use Rattle.tdb_law.specs.Plays.Play.{Join, SetLog, Give, Do, TakeTurn, Go, Die}
use Rattle.tdb_law.specs.Plays.Gives.{gives_answer, gives_opener, gives_command, gives_turn, gives_turns, gives_all, gives_death}
use Rattle.tdb_law.specs.World.{State}
use Rattle.tdb_commands.specs.declared.line.Line.{Line}
use Rattle.tdb_commands.specs.InLaw.{law_opener, law_line, law_lines}
use Rattle.tdb_openers.specs.Played.{Begun, PlaysLast}
use Rattle.tdb_openers.specs.Played.Begun.{begun_not, begun_turn, begun_turns, begun_command}
use Rattle.tdb_openers.specs.declared.fault.RunFault.{RunFault}
use Rattle.tdb_openers.specs.declared.fault.RunFault.TheVariants.{Io, Memory}
use Rattle.tdb_world.specs.Died.{IsReadAs}
use Rattle.tdb_world.specs.Stops.{IsSafe}
use Rattle.tdb_world.specs.Whole.{Whole, form_at}
use Rattle.tdb_world.proofs.Reopening.{state_reopens}
use Rattle.tdb_world.specs.Courses.Led.{Moment, moment}
use Rattle.tdb_world.specs.Courses.Stops.{StaysTold, StopsLed}
use Rattle.tdb_world.specs.Courses.Told.{Gifted, IsAnswered, PlayLed}
use Rattle.tdb_world.proofs.Courses.Stopping.{leads_one, line_stays, nothing_stays, stops_none, stops_still}

-- a play in which no turn is taken
abbrev IsTurnless : Play → Type 0
IsTurnless Join = Unit {0}
IsTurnless SetLog = Unit {0}
IsTurnless (Give who c) = Unit {0}
IsTurnless (Do who c) = ⊥
IsTurnless (TakeTurn who) = ⊥
IsTurnless (Go who) = ⊥
IsTurnless (Die who) = Unit {0}

-- nothing was done of it where it was only begun
begun_nothing : (f : Form) (old new : State) (play : Play) (lines : List LawLine) → IsTurnless play → Begun f old play lines new → (lines ≡ []) × (new ≡ old)
begun_nothing f old new play lines none (begun_not e same) = (e, same)
begun_nothing f old new play lines none (begun_turn who is C) = absurd (subst IsTurnless is none)
begun_nothing f old new play lines none (begun_turns who n is S) = absurd (subst IsTurnless is none)
begun_nothing f old new play lines none (begun_command who n c mid is G S) = absurd (subst IsTurnless is none)

-- Done whole, it is told by one line at most, and leaves the file's map and number as they were.
module _ (f : Form) (old new : State) (play : Play) (lines : List LawLine) (none : IsTurnless play) where
  told_shortly : Gives f old play lines new → (lines ≡ []) ⊎ ((only : LawLine) × (lines ≡ only ∷ []))
  told_shortly (gives_answer line is same A) = inr (line, is)
  told_shortly (gives_opener who p is J) = inr (Joined who, is)
  told_shortly (gives_command who c p is G) = inl is
  told_shortly (gives_turn who turn p A) = absurd (subst IsTurnless p none)
  told_shortly (gives_turns who p G) = absurd (subst IsTurnless p none)
  told_shortly (gives_all who c mid p G S) = absurd (subst IsTurnless p none)
  told_shortly (gives_death who p is D) = inr (Died who, is)

  read_still : (img : List ℕ) → Gives f old play lines new → IsReadAs f img old → IsReadAs f img new
  read_still img (gives_answer line is same A) R = subst (IsReadAs f img) (sym same) R
  read_still img (gives_opener who p is J) R = record { file = J.stay.file ∙ R.file; number = J.stay.number ∙ R.number }
  read_still img (gives_command who c p is G) R = record { file = ap (λ (z : State). z.file) G.rest ∙ R.file; number = ap (λ (z : State). z.number) G.rest ∙ R.number }
  read_still img (gives_turn who turn p A) R = absurd (subst IsTurnless p none)
  read_still img (gives_turns who p G) R = absurd (subst IsTurnless p none)
  read_still img (gives_all who c mid p G S) R = absurd (subst IsTurnless p none)
  read_still img (gives_death who p is D) R = record { file = D.stay.file ∙ R.file; number = D.stay.number ∙ R.number }

  -- so what it tells stays, where the file is safe
  turnless_stays : (h : History) → IsReadAs f (seen h) old → IsSafe f h → Gives f old play lines new → StaysTold f h h old lines
  turnless_stays h R safe G = line_stays f h h old new (extends_itself h) (read_still (seen h) G R) safe lines (told_shortly G) (leads_one f old new play lines G)

-- nothing is told of one that was only begun
begun_stays : (f : Form) (h : History) (old new : State) (play : Play) (lines : List LawLine) → IsTurnless play → Begun f old play lines new → StaysTold f h h old lines
begun_stays f h old new play lines none B = subst (StaysTold f h h old) (sym (begun_nothing f old new play lines none B).0) (nothing_stays f h h old)

last_stays : (f : Form) (h : History) (old new : State) (play : Play) (lines : List LawLine) → IsTurnless play → IsReadAs f (seen h) old → IsSafe f h → PlaysLast f old play lines new → StaysTold f h h old lines
last_stays f h old new play lines none R safe (inl begun) = begun_stays f h old new play lines none begun
last_stays f h old new play lines none R safe (inr gives) = turnless_stays f old new play lines none h R safe gives

-- such a play
pub turnless_stops : (tells : Bool) (old new : Moment) (play : Play) → IsTurnless play → new.history ≡ old.history
    → (r : Result (Unit {0}) RunFault) → PlayLed tells old new r play → StopsLed tells old new r
turnless_stops tells old new play none same (Ok v) A =
    stops_still tells old new (Ok v) A.added same A.lines
    (λ told state is. (let J = A.told told state is in (J.0, J.1, leads_one (form_at old.world) state J.0 play (law_lines A.added) J.2)))
    (λ told state is safe.
    (let J = A.told told state is in
    turnless_stays (form_at old.world) state J.0 play (law_lines A.added) none old.history (state_reopens old.world old.history state is) safe J.2))
turnless_stops tells old new play none same (Err Memory) A =
    stops_still tells old new (Err Memory) A.added same A.lines
    (λ told state is. (let J = A.told told state is in (J.0, J.1, ([], begun_nothing (form_at old.world) state J.0 play (law_lines A.added) none J.2))))
    (λ told state is safe. (let J = A.told told state is in begun_stays (form_at old.world) old.history state J.0 play (law_lines A.added) none J.2))
turnless_stops tells old new play none same (Err Io) A =
    stops_still tells old new (Err Io) A.added same A.lines (λ told state is. tt)
    (λ told state is safe.
    (let J = A.told told state is in last_stays (form_at old.world) old.history state J.0 play (law_lines A.added) none (state_reopens old.world old.history state is) safe J.1))

-- a play that is answered by a line, where there was memory for it
pub answered_stops : (tells : Bool) (w : Whole) (h : History) (size faults : ℕ) (play : Play) (line : Line) (old new : List Line) → IsAnswered w play line
    → (r : Result (Unit {0}) RunFault) → OnOk r (new ≡ old ++ line ∷ []) → OnErr r (new ≡ old) → StopsLed tells (moment w h size faults old) (moment w h size faults new) r
answered_stops tells w h size faults play line old new A (Ok v) told kept =
    stops_still tells (moment w h size faults old) (moment w h size faults new) (Ok v) (line ∷ []) refl told
    (λ tell state is. (state, is, leads_one (form_at w) state state play (law_line line ∷ []) (gives_answer (law_line line) refl refl (A h state is))))
    (λ tell state is safe.
    line_stays (form_at w) h h state state (extends_itself h) (state_reopens w h state is) safe (law_line line ∷ []) (inr (law_line line, refl))
    (leads_one (form_at w) state state play (law_line line ∷ []) (gives_answer (law_line line) refl refl (A h state is))))
answered_stops tells w h size faults play line old new A (Err e) told kept =
    stops_none tells (moment w h size faults old) (moment w h size faults new) (Err e) refl refl kept

-- a command that is given
pub gift_stops : (tells : Bool) (w v : Whole) (h : History) (size faults who : ℕ) (c : Command) (lines : List Line) → Gifted w who c v
    → StopsLed {V = Unit {0}} tells (moment w h size faults lines) (moment v h size faults lines) (Ok tt)
gift_stops tells w v h size faults who c lines G =
    stops_still tells (moment w h size faults lines) (moment v h size faults lines) (Ok tt) [] refl (sym (append-nil lines))
    (λ told state is.
    (let J = G.given h state is in (J.0, J.1, leads_one (form_at w) state J.0 (Give (law_opener who) c) [] (gives_command (law_opener who) c refl refl J.2))))
    (λ told state is safe. nothing_stays (form_at w) h h state)
