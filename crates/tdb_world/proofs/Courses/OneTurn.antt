-- A turn of an opener and its lines, as they lead from one moment to the next.
use Rattle.std.proofs.Common.{◌≡◌, ℕ, ◌≤◌, Bool, false, IsTrue, List, [], ◌∷◌, ◌++◌, length, Option, Some, None, Result, Ok, Err, refl, sym, ◌∙◌, ap, subst, inl, inr, arith, append_assoc, append-nil}
use Rattle.tdb_disk.specs.Count.{Rose, HasCauseOf}
use Rattle.tdb_disk.specs.History.{History, seen}
use Rattle.tdb_space.specs.Form.{Form, form_in}
use Rattle.tdb_locks.specs.declared.turn.Turn.{Turn}
use Rattle.tdb_locks.specs.declared.turn.Turn.TheVariants as Turns
use Rattle.tdb_law.specs.Commands.{Command as LawCommand}
use Rattle.tdb_law.specs.Openers.{Task}
use Rattle.tdb_law.specs.World.{State}
use Rattle.tdb_law.specs.Turned.{Turned}
use Rattle.tdb_law.specs.Lines.{Line as LawLine}
use Rattle.tdb_law.specs.Plays.{Advances, Clears, Grows}
use Rattle.tdb_law.specs.Plays.Clears.{clears_nothing, clears_gate}
use Rattle.tdb_law.specs.Plays.Grows.{grows_not}
use Rattle.tdb_commands.specs.declared.command.Command.{Command}
use Rattle.tdb_commands.specs.declared.line.Line.{Line}
use Rattle.tdb_commands.specs.declared.line.Line.TheVariants as Lines
use Rattle.tdb_commands.specs.InLaw.{law_opener, law_command, law_turn, law_lines}
use Rattle.tdb_law.specs.OneAside.Sides.{Past, Side, whole}
use Rattle.tdb_openers.specs.declared.fault.RunFault.{RunFault}
use Rattle.tdb_openers.specs.declared.fault.RunFault.TheVariants.{Io, Memory}
use Rattle.tdb_openers.specs.Played.{growth, Nothing, TakesOne, TakesLast, is_step}
use Rattle.tdb_openers.specs.Worlds.{state_in}
use Rattle.tdb_world.specs.Whole.{Whole, WorldFits, form_at}
use Rattle.tdb_world.specs.States.{IsStateOf}
use Rattle.tdb_world.specs.States.IsStateOf.{of_whole, of_stale}
use Rattle.tdb_world.specs.Steps.{HasCommand, HasThis, IsAmong}
use Rattle.tdb_world.specs.Steps.HasCommand.{by_aside, by_start, by_job}
use Rattle.tdb_world.specs.Steps.IsAmong.{among_all, among_others}
use Rattle.tdb_world.specs.Died.{IsReadAs}
use Rattle.tdb_world.specs.Stops.{IsSafe}
use Rattle.tdb_world.proofs.Reopening.{state_reopens}
use Rattle.tdb_world.specs.Courses.Led.{Moment, moment, IsStateAt, Led}
use Rattle.tdb_world.specs.Courses.Stops.{ToldWhereTaken}
use Rattle.tdb_world.specs.Courses.Turns.{IsToldOf, Never, TakesOrClears}
use Rattle.tdb_world.specs.Courses.Calls.{StaysFormed, TurnMade, UndoMade}
use Rattle.tdb_world.specs.Courses.Stopped.{StoppedCall}
use Rattle.tdb_world.specs.Courses.Calls.Calls.{calls_turn, calls_undo, calls_unmeasured}
use Rattle.tdb_world.specs.Courses.Stopped.StoppedCall.{stopped_still}
use Rattle.tdb_world.proofs.Courses.Calling.{told_failed, told_none, told_one}
use Rattle.tdb_world.proofs.Courses.Leading.{growth_grows, led_join, led_fault}
use Rattle.tdb_world.proofs.Courses.Courses.{clear_takes, clear_last}

-- a state is stale where its world is
stale_so : (w : Whole) (img : List ℕ) (past : Past) (side : Option Side) → (whole (state_in w.openers img) past side).stale ≡ false
stale_so w img past None = refl
stale_so w img past (Some s) = refl

pub stale_in : (w : Whole) (h : History) (state : State) → IsStateOf w h state → state.stale ≡ w.stale
stale_in w h state (of_whole S) = ap (λ (z : State). z.stale) S.is ∙ (stale_so w S.image S.past S.side ∙ sym S.fresh)
stale_in w h state (of_stale S) = ap (λ (z : State). z.stale) S.is ∙ sym S.stale

-- the world without its open gate has the same commands
still_among : (w : Whole) (who : ℕ) → IsAmong w who → IsAmong (record w { stale = false }) who
still_among w who (among_all none) = among_all none
still_among w who (among_others hd e other) = among_others hd e other

pub cleared_busy : (w : Whole) (who : ℕ) → HasCommand w who → HasCommand (record w { stale = false }) who
cleared_busy w who (by_aside hd t e owner busy) = by_aside hd t e owner busy
cleared_busy w who (by_start begun among) = by_start begun (still_among w who among)
cleared_busy w who (by_job x t B none among) = by_job x t B none (still_among w who among)

pub cleared_this : (w : Whole) (who : ℕ) (c : LawCommand) → HasThis w who c → HasThis (record w { stale = false }) who c
cleared_this w who c (by_aside hd t e owner busy, same) = (by_aside hd t e owner busy, same)
cleared_this w who c (by_start begun among, same) = (by_start begun (still_among w who among), same)
cleared_this w who c (by_job x t B none among, same) = (by_job x t B none (still_among w who among), same)

-- Where nothing was told, and nothing done: for want of memory, or where a call of the disk failed.
pub nothing_led : {U V : Type 0} (tells : Bool) (w : Whole) (h g : History) (size longer before now : ℕ) (old new : List Line) (e : RunFault) (All : State → V → List LawLine → State → Type 0) (Last : State → List LawLine → State → Type 0)
    → g ≡ h → longer ≡ size → new ≡ old → WorldFits w (seen h) size → HasCauseOf {V = U} Io before now (Err e) → ((state : State) → Last state [] state)
    → Led {V = V} tells (moment w h size before old) (moment w g longer now new) (Err e) All Nothing Last
nothing_led tells w h g size longer before now old new Memory All Last same equal lines W cause last = record {
  header = refl;
  options = refl;
  rises = cause.never_falls;
  added = [];
  lines = lines ∙ sym (append-nil old);
  grown = equal;
  fits = subst (λ z. WorldFits w (seen z) longer) (sym same) (subst (WorldFits w (seen h)) (sym equal) W);
  quiet = cause.refused (λ e. cc);
  told = λ told state is. (state, subst (λ z. IsStateOf w z state) (sym same) is, (refl, refl));
  calls = λ told state is. told_none _ _ _ refl same equal;
  rose = λ told state is. tt;
}
nothing_led tells w h g size longer before now old new Io All Last same equal lines W cause last = record {
  header = tt;
  options = tt;
  rises = cause.never_falls;
  added = [];
  lines = lines ∙ sym (append-nil old);
  grown = tt;
  fits = tt;
  quiet = tt;
  told = λ told state is. (state, last state);
  calls = λ told state is. told_failed _ _ (stopped_still same);
  rose = λ told state is. cause.failed refl;
}

-- where a call of the disk failed in an undo or in a turn
pub failed_led : {V : Type 0} (tells : Bool) (w v : Whole) (h g : History) (size longer before now : ℕ) (old new : List Line) (All : State → V → List LawLine → State → Type 0) (Part Last : State → List LawLine → State → Type 0)
    → before ≤ now → new ≡ old → (IsTrue tells → (state : State) → IsStateOf w h state → StoppedCall w h size g) → (IsTrue tells → (state : State) → IsStateOf w h state → Rose before now) → ((state : State) → Last state [] state)
    → Led {V = V} tells (moment w h size before old) (moment v g longer now new) (Err Io) All Part Last
failed_led tells w v h g size longer before now old new All Part Last rises lines stopped rose last = record {
  header = tt;
  options = tt;
  rises = rises;
  added = [];
  lines = lines ∙ sym (append-nil old);
  grown = tt;
  fits = tt;
  quiet = tt;
  told = λ told state is. (state, last state);
  calls = λ told state is. told_failed _ _ (stopped told state is);
  rose = rose;
}

-- a gate that was undone
pub undone_led : {U : Type 0} (answer : U) (tells : Bool) (w v : Whole) (h g : History) (size shorter before now bytes to : ℕ) (old new : List Line) → v ≡ record w { stale = false } → shorter ≤ size → to ≡ shorter → now ≡ before
    → WorldFits v (seen g) shorter → (IsTrue tells → (state : State) → IsStateOf w h state → UndoMade w h size bytes to v g) → new ≡ old ++ Lines.Undone bytes to ∷ []
    → Led tells (moment w h size before old) (moment v g shorter now new) (Ok answer) (λ state _. Clears (form_at w) state) Never Nothing
undone_led answer tells w v h g size shorter before now bytes to old new world low length quiet W made lines = record {
  header = ap (λ (z : Whole). z.openers.header) world;
  options = ap (λ (z : Whole). z.openers.options) world;
  rises = (let e = quiet in omega (arith, e));
  added = Lines.Undone bytes to ∷ [];
  lines = lines;
  grown = (let e = length in (omega (arith, low, e), sym length));
  fits = W;
  quiet = quiet;
  told = λ told state is. (let J = (made told state is).leads state is in (J.0, J.1, clears_gate bytes to refl J.2));
  calls = λ told state is.
      told_one _ _ _ _ v g shorter (record { header = ap (λ (z : Whole). z.openers.header) world; options = ap (λ (z : Whole). z.openers.options) world })
      (let e = length in (omega (arith, low, e), sym length)) (calls_undo bytes to refl (made told state is)) (refl, refl, refl) (stopped_still refl);
  rose = λ told state is. tt;
}

-- a turn with its lines, in a world that isn't stale
advance : (f : Form) (old new : State) (who : ℕ) (t : Task) (command : Command) (turn : Turn) (grown : List Line) → law_command command ≡ t.command → Grows (law_lines grown)
    → Turned f old (law_opener who) t (law_turn turn) new → Advances f old (law_opener who) (law_turn turn) (law_lines (Lines.Took who command turn ∷ grown)) new
advance f old new who t command turn grown same G T = record {
  mid = old;
  task = t;
  front = [];
  tail = law_lines grown;
  clears = clears_nothing T.ready refl refl;
  turned = T;
  grows = G;
  parts = ap (λ c. LawLine.Took (law_opener who) c (law_turn turn) ∷ law_lines grown) same;
}

-- a turn is a step or another
takes_one : (f : Form) (old new : State) (who : ℕ) (turn : Turn) (lines : List LawLine) → Advances f old who (law_turn turn) lines new → TakesOne f old who (is_step turn) lines new
takes_one f old new who Turns.Step lines A = A
takes_one f old new who (Turns.Blocked o b) lines A = (law_turn (Turns.Blocked o b), tt, A)
takes_one f old new who (Turns.Done r) lines A = (law_turn (Turns.Done r), tt, A)

module _ (tells : Bool) (w v : Whole) (h g : History) (from before who : ℕ) (command : Command) (turn : Turn) (old new : List Line) (made : IsTrue tells → TurnMade w h from who command turn v g)
    (header : v.openers.header ≡ w.openers.header) (options : v.openers.options ≡ w.openers.options) where
  takes : (grown : List Line) → Grows (law_lines grown) → IsTrue tells → (state : State) → IsStateOf w h state → (after : State) × IsStateOf v g after
      × (IsToldOf state (law_opener who) (law_command command) → TakesOne (form_at w) state (law_opener who) (is_step turn) (law_lines (Lines.Took who command turn ∷ grown)) after)
  takes grown G told state is =
      let J = (made told).leads state is in
      (J.0, J.2, λ mine. takes_one (form_at w) state J.0 (law_opener who) turn _ (advance (form_at w) state J.0 who J.1 command turn grown (mine J.1 J.3.mine) G J.3))

  formed : StaysFormed w v
  formed = record { header = header; options = options }

  pub took_led : (to now : ℕ) (Part Last : State → List LawLine → State → Type 0) → from ≤ to → now ≡ before → WorldFits v (seen g) to → (IsTrue tells → length (seen g) ≡ to)
      → new ≡ (old ++ Lines.Took who command turn ∷ []) ++ growth from to
      → Led tells (moment w h from before old) (moment v g to now new) (Ok (is_step turn))
      (λ state more lines z. IsToldOf state (law_opener who) (law_command command) → TakesOne (form_at w) state (law_opener who) more lines z) Part Last
  took_led to now Part Last longer quiet W after lines = record {
    header = header;
    options = options;
    rises = (let e = quiet in omega (arith, e));
    added = Lines.Took who command turn ∷ growth from to;
    lines = lines ∙ append_assoc old (Lines.Took who command turn ∷ []) (growth from to);
    grown = (growth_grows from to longer).1;
    fits = W;
    quiet = quiet;
    told = takes (growth from to) (growth_grows from to longer).0;
    calls = λ told state is. told_one _ _ _ _ v g to formed (growth_grows from to longer).1 (calls_turn who command turn refl (made told) (after told)) (refl, refl, refl) (stopped_still refl);
    rose = λ told state is. tt;
  }

  -- and where the length can't be had after it
  pub took_io : (now longer : ℕ) (z : History) → z ≡ g → (Part : State → List LawLine → State → Type 0) → before ≤ now → new ≡ old ++ Lines.Took who command turn ∷ [] → (IsTrue tells → (state : State) → IsStateOf w h state → Rose before now)
      → Led {V = Bool} tells (moment w h from before old) (moment v z longer now new) (Err Io)
      (λ state more lines after. IsToldOf state (law_opener who) (law_command command) → TakesOne (form_at w) state (law_opener who) more lines after) Part
      (λ state lines after. IsToldOf state (law_opener who) (law_command command) → TakesLast (form_at w) state (law_opener who) lines after)
  took_io now longer z same Part rises lines rose = record {
    header = tt;
    options = tt;
    rises = rises;
    added = Lines.Took who command turn ∷ [];
    lines = lines;
    grown = tt;
    fits = tt;
    quiet = tt;
    told = λ told state is. (let T = takes [] (grows_not refl) told state is in (T.0, λ mine. inr (is_step turn, T.2 mine)));
    calls = λ told state is. told_one _ _ _ _ v g from formed refl (calls_unmeasured who command turn refl (made told)) tt (stopped_still same);
    rose = rose;
  }

  -- so it is told, though it isn't answered
  pub took_told : (z : History) → z ≡ g → new ≡ old ++ Lines.Took who command turn ∷ [] → IsTrue tells → (state : State) → IsStateOf w h state → IsSafe (form_at w) g
      → ToldWhereTaken (form_at w) state (law_opener who) (law_command command) z old new
  took_told z same lines told state is safe =
      let T = takes [] (grows_not refl) told state is in
      let reads : IsReadAs (form_at w) (seen g) T.0 = subst (λ k. IsReadAs (form_in k) (seen g) T.0) header (state_reopens v g T.0 T.1) in
      inr (T.0, is_step turn, Lines.Took who command turn ∷ [], lines, T.2, subst (λ u. IsReadAs (form_at w) (seen u) T.0) (sym same) reads, subst (IsSafe (form_at w)) (sym same) safe)

-- An undo that failed, and one that a turn follows.
pub undo_failed : {U : Type 0} (tells : Bool) (old new : Moment) (who : ℕ) (e : RunFault) → Led {V = U} tells old new (Err e) (λ state _. Clears (form_at old.world) state) Never Nothing
    → Led {V = Bool} tells old new (Err e) (λ state. TakesOne (form_at old.world) state who) Nothing (λ state. TakesOrClears (form_at old.world) state who)
undo_failed tells old new who e A = led_fault tells old new _ _ _ _ _ _ e A (λ state lines z is never. absurd never) (λ state lines z is none. inl (inl none))

module _ (tells : Bool) (old mid new : Moment) (who : ℕ) (c : LawCommand) (mine : (state : State) → IsStateAt old state → IsToldOf state who c) where
  pub turn_after : {U : Type 0} (undone : U) → Led tells old mid (Ok undone) (λ state _. Clears (form_at old.world) state) Never Nothing
      → (r : Result Bool RunFault) → Led tells mid new r (λ state more lines z. IsToldOf state who c → TakesOne (form_at mid.world) state who more lines z) Never (λ state lines z. IsToldOf state who c → TakesLast (form_at mid.world) state who lines z)
      → Led tells old new r (λ state. TakesOne (form_at old.world) state who) Nothing (λ state. TakesOrClears (form_at old.world) state who)
  turn_after undone A r B =
      led_join tells old mid new undone _ _ _ _ _ _ _ _ _ A r
      (subst (λ z. Led tells mid new r (λ state more lines z2. IsToldOf state who c → TakesOne (form_in z) state who more lines z2) Never (λ state lines z2. IsToldOf state who c → TakesLast (form_in z) state who lines z2)) A.header B)
      (λ state m more front rest z is C T. clear_takes (form_at old.world) state m who c front C (mine state is) more rest z T)
      (λ state m front rest z is C never. absurd never)
      (λ state m front rest z is C T. clear_last (form_at old.world) state m who c front C (mine state is) rest z T)
