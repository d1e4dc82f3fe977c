-- What a play that makes no call on the disk does in a world, in the words of the law.
use Rattle.std.proofs.Common.{◌≡◌, ℕ, Bool, List, [], ◌∷◌, ◌++◌, Result, Ok, Err, IfErr, OnOk, OnErr, refl, sym, ◌∙◌, ap, subst, inl, append-nil, le_refl}
use Rattle.tdb_disk.specs.History.{History, seen}
use Rattle.tdb_law.specs.Commands.{Command}
use Rattle.tdb_law.specs.World.{State}
use Rattle.tdb_law.specs.Events.{Given}
use Rattle.tdb_law.specs.Lines.{Line as LawLine}
use Rattle.tdb_law.specs.Plays.{Play as LawPlay}
use Rattle.tdb_law.specs.Plays.Gives.{gives_answer, gives_command}
use Rattle.tdb_commands.specs.declared.line.Line.{Line}
use Rattle.tdb_commands.specs.InLaw.{law_opener, law_line}
use Rattle.tdb_openers.specs.Played.{Nothing}
use Rattle.tdb_openers.specs.Played.Begun.{begun_not}
use Rattle.tdb_openers.specs.declared.fault.RunFault.{RunFault}
use Rattle.tdb_openers.specs.declared.fault.RunFault.TheVariants.{Io, Memory}
use Rattle.tdb_world.specs.Whole.{Whole, WorldFits}
use Rattle.tdb_world.specs.States.{IsStateOf}
use Rattle.tdb_world.specs.Courses.Led.{Lengths, moment, Led}
use Rattle.tdb_world.specs.Courses.Told.{PlayLed, GivesLine, IsAnswered, Gifted}
use Rattle.tdb_world.specs.Courses.Calls.{TellsNoCall}
use Rattle.tdb_world.specs.Courses.Calls.Calls.{calls_nothing}
use Rattle.tdb_world.specs.Courses.Stopped.StoppedCall.{stopped_still}
use Rattle.tdb_world.proofs.Courses.Calling.{answer_quiet, told_none, told_one}
use Rattle.tdb_world.proofs.Courses.Leading.{led_whole, led_fault}

-- a play that is answered by a line, where there was memory for it
pub answered : (tells : Bool) (w : Whole) (h : History) (size faults : ℕ) (play : LawPlay) (line : Line) (old new : List Line) → WorldFits w (seen h) size → IsAnswered w play line → Lengths size (line ∷ []) size
    → (r : Result (Unit {0}) RunFault) → OnOk r (new ≡ old ++ line ∷ []) → OnErr r (new ≡ old) → IfErr r (λ e. e ≡ Memory) → PlayLed tells (moment w h size faults old) (moment w h size faults new) r play
answered tells w h size faults play line old new W A short (Ok v) told kept memory = record {
  header = refl;
  options = refl;
  rises = le_refl faults;
  added = line ∷ [];
  lines = told;
  grown = short;
  fits = W;
  quiet = refl;
  told = λ tell state is. (state, is, gives_answer (law_line line) refl refl (A h state is));
  calls = λ tell state is. told_one _ _ _ _ w h size (record { header = refl; options = refl }) short (calls_nothing play (answer_quiet state play line (A h state is), tt) refl (λ s S. (s, S, gives_answer (law_line line) refl refl (A h s S)))) (refl, refl, refl) (stopped_still refl);
  rose = λ tell state is. tt;
}
answered tells w h size faults play line old new W A short (Err Memory) told kept memory = record {
  header = refl;
  options = refl;
  rises = le_refl faults;
  added = [];
  lines = kept ∙ sym (append-nil old);
  grown = refl;
  fits = W;
  quiet = refl;
  told = λ tell state is. (state, is, begun_not refl refl);
  calls = λ tell state is. told_none _ _ _ refl refl refl;
  rose = λ tell state is. tt;
}
answered tells w h size faults play line old new W A short (Err Io) told kept memory = absurd (cc memory)

-- nothing was done, for want of memory
pub memory_led : {V : Type 0} (tells : Bool) (w : Whole) (h : History) (size faults : ℕ) (old new : List Line) (e : RunFault) (All : State → V → List LawLine → State → Type 0) (Part Last : State → List LawLine → State → Type 0)
    → e ≡ Memory → WorldFits w (seen h) size → new ≡ old → ((state : State) → Part state [] state) → Led {V = V} tells (moment w h size faults old) (moment w h size faults new) (Err e) All Part Last
memory_led tells w h size faults old new Memory All Part Last memory W lines part = record {
  header = refl;
  options = refl;
  rises = le_refl faults;
  added = [];
  lines = lines ∙ sym (append-nil old);
  grown = refl;
  fits = W;
  quiet = refl;
  told = λ told state is. (state, is, part state);
  calls = λ told state is. told_none _ _ _ refl refl refl;
  rose = λ told state is. tt;
}
memory_led tells w h size faults old new Io All Part Last memory W lines part = absurd (cc memory)

-- a play that is taken, and gives one line
pub line_led : (tells : Bool) (w v : Whole) (h : History) (size faults : ℕ) (play : LawPlay) (line : Line) (old new : List Line) → v.openers.header ≡ w.openers.header → v.openers.options ≡ w.openers.options
    → WorldFits v (seen h) size → GivesLine w v play line → ((k : History) (state : State) → IsStateOf w k state → TellsNoCall line) → Lengths size (line ∷ []) size → new ≡ old ++ line ∷ [] → PlayLed {V = Unit {0}} tells (moment w h size faults old) (moment v h size faults new) (Ok tt) play
line_led tells w v h size faults play line old new header options W gives quiet short lines = record {
  header = header;
  options = options;
  rises = le_refl faults;
  added = line ∷ [];
  lines = lines;
  grown = short;
  fits = W;
  quiet = refl;
  told = λ told state is. gives h state is;
  calls = λ told state is. told_one _ _ _ _ v h size (record { header = header; options = options }) short (calls_nothing play (quiet h state is, tt) refl (gives h)) (refl, refl, refl) (stopped_still refl);
  rose = λ told state is. tt;
}

-- a command that is given, or isn't for want of memory
abbrev pub GivesTo : ℕ → Command → State → List LawLine → State → Type 0
GivesTo who c state lines new = (lines ≡ []) × Given state (law_opener who) c new

pub gift_led : {V : Type 0} (tells : Bool) (w v : Whole) (h : History) (size faults who : ℕ) (c : Command) (lines : List Line) → WorldFits w (seen h) size
    → (r : Result V RunFault) → OnOk r (Gifted w who c v) → OnErr r (v ≡ w) → IfErr r (λ e. e ≡ Memory)
    → Led tells (moment w h size faults lines) (moment v h size faults lines) r (λ state _. GivesTo who c state) Nothing Nothing
gift_led tells w v h size faults who c lines W (Ok u) G kept memory = record {
  header = G.header;
  options = G.options;
  rises = le_refl faults;
  added = [];
  lines = sym (append-nil lines);
  grown = refl;
  fits = G.fits (seen h) size W;
  quiet = refl;
  told = λ told state is. (let J = G.given h state is in (J.0, J.1, (refl, J.2)));
  calls = λ told state is. told_one _ _ _ _ v h size (record { header = G.header; options = G.options }) refl (calls_nothing (LawPlay.Give (law_opener who) c) tt refl (λ s S. (let J = G.given h s S in (J.0, J.1, gives_command (law_opener who) c refl refl J.2)))) (refl, refl, refl) (stopped_still refl);
  rose = λ told state is. tt;
}
gift_led tells w v h size faults who c lines W (Err Memory) G kept memory = record {
  header = ap (λ (z : Whole). z.openers.header) kept;
  options = ap (λ (z : Whole). z.openers.options) kept;
  rises = le_refl faults;
  added = [];
  lines = sym (append-nil lines);
  grown = refl;
  fits = subst (λ z. WorldFits z (seen h) size) (sym kept) W;
  quiet = refl;
  told = λ told state is. (state, subst (λ z. IsStateOf z h state) (sym kept) is, (refl, refl));
  calls = λ told state is. told_none _ _ _ kept refl refl;
  rose = λ told state is. tt;
}
gift_led tells w v h size faults who c lines W (Err Io) G kept memory = absurd (cc memory)

-- a command that is given, as a play
pub give_led : {V : Type 0} (tells : Bool) (w v : Whole) (h : History) (size faults who : ℕ) (c : Command) (lines : List Line) → WorldFits w (seen h) size
    → (r : Result V RunFault) → OnOk r (Gifted w who c v) → OnErr r (v ≡ w) → IfErr r (λ e. e ≡ Memory)
    → PlayLed tells (moment w h size faults lines) (moment v h size faults lines) r (LawPlay.Give (law_opener who) c)
give_led tells w v h size faults who c lines W (Ok u) G kept memory =
    led_whole tells (moment w h size faults lines) (moment v h size faults lines) _ _ _ _ _ _ u u (gift_led tells w v h size faults who c lines W (Ok u) G kept memory)
    (λ state told z is given. gives_command (law_opener who) c refl given.0 given.1)
give_led tells w v h size faults who c lines W (Err e) G kept memory =
    led_fault {V = Unit {0}} tells (moment w h size faults lines) (moment v h size faults lines) _ _ _ _ _ _ e (gift_led tells w v h size faults who c lines W (Err e) G kept memory)
    (λ state told z is none. begun_not none.0 none.1) (λ state told z is none. inl (begun_not none.0 none.1))

-- a command that isn't given for want of memory, and so takes no turn
pub do_not : (tells : Bool) (w v : Whole) (h : History) (size faults who : ℕ) (c : Command) (lines : List Line) → WorldFits w (seen h) size → (e : RunFault) → v ≡ w → e ≡ Memory
    → PlayLed {V = Unit {0}} tells (moment w h size faults lines) (moment v h size faults lines) (Err e) (LawPlay.Do (law_opener who) c)
do_not tells w v h size faults who c lines W e kept memory =
    led_fault {V = Unit {0}} tells (moment w h size faults lines) (moment v h size faults lines) _ _ _ _ _ _ e (gift_led {V = Unit {0}} tells w v h size faults who c lines W (Err e) tt kept memory)
    (λ state told z is none. begun_not none.0 none.1) (λ state told z is none. inl (begun_not none.0 none.1))
