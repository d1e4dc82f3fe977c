-- What a stop leaves while an opener takes a turn, where a gate may have been undone before it.
use Rattle.std.proofs.Common.{◌≡◌, ℕ, ◌+◌, Bool, true, false, IsTrue, List, [], ◌∷◌, ◌++◌, Option, Result, Ok, Err, OnOk, OnErr, refl, sym, ◌∙◌, ap, subst, inl, inr, append_assoc}
use Rattle.std.proofs.lemmas.List.{map-append}
use Rattle.std.proofs.lemmas.Result.{on_err_weaker, on_ok_weaker}
use Rattle.tdb_disk.specs.History.{History, Extends, seen}
use Rattle.tdb_disk.specs.Stop.{LeavesOnly}
use Rattle.tdb_disk.proofs.Runs.{leaves_join, leaves_weaker}
use Rattle.tdb_space.specs.Form.{Form, form_in}
use Rattle.tdb_law.specs.Commands.{Command as LawCommand, Turn as LawTurn}
use Rattle.tdb_law.specs.Commands.Turn.{Step}
use Rattle.tdb_law.specs.Lines.{Line as LawLine}
use Rattle.tdb_law.specs.Lines.Line.{Grew, Took, Undone}
use Rattle.tdb_law.specs.Openers.{Own, Task}
use Rattle.tdb_law.specs.Plays.{Advances, Clears, Grows}
use Rattle.tdb_law.specs.Plays.Grows.{grows_not, grows_longer}
use Rattle.tdb_law.specs.Plays.Clears.{clears_nothing, clears_gate}
use Rattle.tdb_law.specs.Plays.Play.{TakeTurn}
use Rattle.tdb_law.specs.Rows.{is_changed}
use Rattle.tdb_law.specs.World.{State}
use Rattle.tdb_commands.specs.declared.line.Line.{Line}
use Rattle.tdb_commands.specs.InLaw.{law_line, law_lines}
use Rattle.tdb_openers.specs.Calm.{IsMidway}
use Rattle.tdb_openers.specs.Played.{Nothing, TakesOne, TakesLast, UnlessIo}
use Rattle.tdb_openers.specs.declared.fault.RunFault.{RunFault}
use Rattle.tdb_openers.specs.declared.fault.RunFault.TheVariants.{Io, Memory}
use Rattle.tdb_openers.proofs.Joining.Courses.{turn_gives}
use Rattle.tdb_world.specs.Died.{IsReadAs}
use Rattle.tdb_world.specs.States.{IsStateOf}
use Rattle.tdb_world.specs.Stops.{IsChanging, IsSafe, OpensToState, TurnMayLeave}
use Rattle.tdb_world.specs.Whole.{form_at, Whole}
use Rattle.tdb_world.proofs.Reopening.{state_reopens}
use Rattle.tdb_world.specs.Courses.Led.{Moment, IsStateAt, Led}
use Rattle.tdb_world.specs.Courses.Stops.{Leads, OpensOnTheWay, StaysTold, StopsLed, TellsDone, ToldWhereTaken}
use Rattle.tdb_world.specs.Courses.Turns.{IsToldOf, Never}
use Rattle.tdb_world.proofs.Courses.Courses.{clear_takes}
use Rattle.tdb_world.proofs.Courses.Leading.{lines_join}
use Rattle.tdb_world.proofs.Courses.OneTurn.{turn_after}
use Rattle.tdb_world.proofs.Courses.Stopping.{cut_in, leads_one, lines_stay, none_cut, nothing_stays, opens_first, passes_here, safe_opens, same_added}

-- What a stop may leave while a gate is undone, and that the file is safe afterwards.
abbrev pub UndoStops : Bool → Whole → History → History → Type 0
UndoStops tells w h g = IsTrue tells → (state : State) → IsStateOf w h state → IsSafe (form_at w) h → LeavesOnly h g (OpensToState (form_at w) state)

abbrev pub UndoKeeps : Bool → Whole → History → History → Type 0
UndoKeeps tells w h g = IsTrue tells → (state : State) → IsStateOf w h state → IsSafe (form_at w) h → IsSafe (form_at w) g

-- the same of a turn of an opener that isn't in the middle of a change
abbrev pub TurnStops : Bool → Form → Whole → ℕ → History → History → Type 0
TurnStops tells f w o h g = IsTrue tells → (state : State) → IsStateOf w h state → IsSafe f h → (IsChanging f state o → ⊥) → LeavesOnly h g (TurnMayLeave f state o)

abbrev pub TurnKeeps : Bool → Form → Whole → ℕ → History → History → Type 0
TurnKeeps tells f w o h g = IsTrue tells → (state : State) → IsStateOf w h state → IsSafe f h → (IsChanging f state o → ⊥) → IsSafe f g

-- and what is told of one that failed
abbrev pub TurnTold : Bool → Form → Whole → ℕ → LawCommand → History → History → List Line → List Line → Type 0
TurnTold tells f w o c h g before after =
    IsTrue tells → (state : State) → IsStateOf w h state → IsSafe f h → (IsChanging f state o → ⊥) → ToldWhereTaken f state o c g before after

-- as many calls as change nothing before a turn and behind it
pub same_stops : (tells : Bool) (f : Form) (w : Whole) (o : ℕ) (h k g z : History) → k ≡ h → z ≡ g → TurnStops tells f w o k g → TurnStops tells f w o h z
same_stops tells f w o h k g z front behind S = subst (λ u. TurnStops tells f w o u z) front (subst (TurnStops tells f w o k) (sym behind) S)

pub same_keeps : (tells : Bool) (f : Form) (w : Whole) (o : ℕ) (h k g z : History) → k ≡ h → z ≡ g → TurnKeeps tells f w o k g → TurnKeeps tells f w o h z
same_keeps tells f w o h k g z front behind S = subst (λ u. TurnKeeps tells f w o u z) front (subst (TurnKeeps tells f w o k) (sym behind) S)

-- where no turn was taken
pub no_turn_stops : (tells : Bool) (w : Whole) (o : ℕ) (h z : History) → z ≡ h → TurnStops tells (form_at w) w o h z
no_turn_stops tells w o h z same told state is safe never =
    let f = form_at w in
    subst (λ u. LeavesOnly h u (TurnMayLeave f state o)) (sym same) (leaves_weaker h h (OpensToState f state) (TurnMayLeave f state o) (λ c O. inl O) (safe_opens w h state is safe))

-- Two states have the same file with its number, and of each opener the same command and the same own.
record Alike (m s : State) : Type 0 where
  file : s.file ≡ m.file
  number : s.number ≡ m.number
  task : s.task ≡ m.task
  own : s.own ≡ m.own
  image_number : s.image_number ≡ m.image_number

-- so are the states before and after an undo
alike_cleared : (f : Form) (s m : State) (lines : List LawLine) → Clears f s lines m → Alike m s
alike_cleared f s m lines (clears_nothing ready none same) = record {
  file = ap (λ (z : State). z.file) (sym same);
  number = ap (λ (z : State). z.number) (sym same);
  task = ap (λ (z : State). z.task) (sym same);
  own = ap (λ (z : State). z.own) (sym same);
  image_number = ap (λ (z : State). z.image_number) (sym same);
}
alike_cleared f s m lines (clears_gate bytes to e U) = record {
  file = ap (λ (z : State). z.file) (sym U.rest);
  number = ap (λ (z : State). z.number) (sym U.rest);
  task = ap (λ (z : State). z.task) (sym U.rest);
  own = ap (λ (z : State). z.own) (sym U.rest);
  image_number = ap (λ (z : State). z.image_number) (sym U.rest);
}

-- So a stop of a turn may leave the same of both, and an opener is in the middle of a change in both.
module _ (f : Form) (m s : State) (L : Alike m s) (o : ℕ) where
  may_leave : (c : List ℕ) → TurnMayLeave f m o c → TurnMayLeave f s o c
  may_leave c (inl O) = inl (record { image = O.image; reopens = O.reopens; file = L.file ∙ O.file; number = L.number ∙ O.number })
  may_leave c (inr (S, T)) =
      let own : s.own o ≡ m.own o = ap (λ (g : ℕ → Own). g o) L.own in
      inr (
        record {
          task = S.task;
          has = ap (λ (g : ℕ → Option Task). g o) L.task ∙ S.has;
          commits = S.commits;
          not_yet = ap (λ x. is_changed f S.task.command x S.task.steps) own ∙ S.not_yet;
          shut = ap (λ x. is_changed f S.task.command x (S.task.steps + 1)) own ∙ S.shut;
        },
        record {
          txn = T.txn;
          has = ap (λ (x : Own). x.txn) own ∙ T.has;
          image = T.image;
          reopens = T.reopens;
          map = T.map;
          number = ap (λ (g : ℕ → ℕ). g o) L.image_number ∙ T.number;
        },
      )

  changing : IsChanging f m o → IsChanging f s o
  changing C = record {
    task = C.task;
    has = ap (λ (g : ℕ → Option Task). g o) L.task ∙ C.has;
    midway = subst (λ x. IsMidway f x C.task) (sym (ap (λ (g : ℕ → Own). g o) L.own)) C.midway;
  }

-- A turn whose lines are cut behind one that tells what is done: that isn't one of the undo in front of the turn, and
-- up to it the lines tell of the turn.
no_undo : (f : Form) (old mid : State) (ls : List LawLine) → Clears f old ls mid → (front behind : List LawLine) (line : LawLine) → ls ≡ front ++ line ∷ behind → TellsDone line → ⊥
no_undo f old mid ls (clears_nothing fresh none same) front behind line cut done = none_cut front behind line (sym none ∙ cut)
no_undo f old mid ls (clears_gate bytes to is U) [] behind line cut done =
    let both : Undone bytes to ∷ [] ≡ line ∷ behind = sym is ∙ cut in
    let same : line ≡ Undone bytes to = cc in
    subst TellsDone same done
no_undo f old mid ls (clears_gate bytes to is U) (x ∷ front) behind line cut done =
    let both : Undone bytes to ∷ [] ≡ x ∷ (front ++ line ∷ behind) = sym is ∙ cut in
    let others : [] ≡ front ++ line ∷ behind = cc in
    none_cut front behind line others

grown_cut : (took : LawLine) (tail : List LawLine) → Grows tail → (front rest : List LawLine) (line : LawLine) → took ∷ tail ≡ front ++ line ∷ rest → (more : List LawLine) × Grows more × (front ++ line ∷ [] ≡ took ∷ more)
grown_cut took tail G [] rest line cut =
    let same : line ≡ took = cc in
    ([], grows_not refl, ap (λ l. l ∷ []) same)
grown_cut took tail (grows_not none) (x ∷ front) rest line cut =
    let others : tail ≡ front ++ line ∷ rest = cc in
    absurd (none_cut front rest line (sym none ∙ others))
grown_cut took tail (grows_longer from to is longer) (x ∷ []) rest line cut =
    let first : x ≡ took = cc in
    let others : tail ≡ line ∷ rest = cc in
    let both : Grew from to ∷ [] ≡ line ∷ rest = sym is ∙ others in
    let second : line ≡ Grew from to = cc in
    (Grew from to ∷ [], grows_longer from to refl longer, ap (λ l. l ∷ line ∷ []) first ∙ ap (λ l. took ∷ l ∷ []) second)
grown_cut took tail (grows_longer from to is longer) (x ∷ y ∷ front) rest line cut =
    let others : tail ≡ y ∷ (front ++ line ∷ rest) = cc in
    let both : Grew from to ∷ [] ≡ y ∷ (front ++ line ∷ rest) = sym is ∙ others in
    let none : [] ≡ front ++ line ∷ rest = cc in
    absurd (none_cut front rest line none)

module _ (f : Form) (old new : State) (o : ℕ) where
  turn_cut : (turn : LawTurn) (lines : List LawLine) → Advances f old o turn lines new → (front rest : List LawLine) (line : LawLine) → lines ≡ front ++ line ∷ rest → TellsDone line → Advances f old o turn (front ++ line ∷ []) new
  turn_cut turn lines A front rest line cut done =
      elim (cut_in A.front (Took o A.task.command turn ∷ A.tail) front rest line (sym A.parts ∙ cut)) [
        | inl h ↦ absurd (no_undo f old A.mid A.front A.clears front h.0 line h.1 done)
        | inr h ↦ behind h.0 h.1 (grown_cut (Took o A.task.command turn) A.tail A.grows h.0 rest line h.2)
      ]
    where
      behind : (before : List LawLine) → front ≡ A.front ++ before → (more : List LawLine) × Grows more × (before ++ line ∷ [] ≡ Took o A.task.command turn ∷ more) → Advances f old o turn (front ++ line ∷ []) new
      behind before e t = record {
        mid = A.mid;
        task = A.task;
        front = A.front;
        tail = t.0;
        clears = A.clears;
        turned = A.turned;
        grows = t.1;
        parts = ap (λ ls. ls ++ line ∷ []) e ∙ (append_assoc A.front before (line ∷ []) ∙ ap (λ ls. A.front ++ ls) t.2);
      }

  takes_cut : (more : Bool) (lines : List LawLine) → TakesOne f old o more lines new → (front rest : List LawLine) (line : LawLine) → lines ≡ front ++ line ∷ rest → TellsDone line → TakesOne f old o more (front ++ line ∷ []) new
  takes_cut true lines T front rest line cut done = turn_cut Step lines T front rest line cut done
  takes_cut false lines T front rest line cut done = (T.0, T.1, turn_cut T.0 lines T.2 front rest line cut done)

  -- so what it tells stays, where the file is safe behind it
  turn_stays : (h g : History) → Extends h g → IsReadAs f (seen g) new → IsSafe f g → (more : Bool) (lines : List LawLine) → TakesOne f old o more lines new → StaysTold f h g old lines
  turn_stays h g further reads safe more lines T =
      lines_stay f h g old new further reads safe lines
      (λ front rest line cut done.
      leads_one f old new (TakeTurn o) (front ++ line ∷ []) (turn_gives f old o more (front ++ line ∷ []) new (takes_cut more lines T front rest line cut done)))

-- where the undo failed
pub undo_stops : {U : Type 0} (tells : Bool) (old new : Moment) (o : ℕ) (e : RunFault) → Led {V = U} tells old new (Err e) (λ state _. Clears (form_at old.world) state) Never Nothing
    → UndoStops tells old.world old.history new.history → StopsLed {V = Bool} tells old new (Err e)
undo_stops tells old new o Memory A stops told state added is eq safe calm = absurd (A.told told state is).2
undo_stops tells old new o Io A stops told state added is eq safe calm =
    let f = form_at old.world in
    let none : law_lines added ≡ [] = ap law_lines (same_added old.lines new.lines added A.added eq A.lines) ∙ (A.told told state is).1.0 in
    record {
      stops = opens_first f old.history new.history state o (law_lines added) (stops told state is safe);
      stays = subst (StaysTold f old.history new.history state) (sym none) (nothing_stays f old.history new.history state);
      left = tt;
    }

-- where it didn't, or there was none
module _ {U : Type 0} (tells : Bool) (old mid new : Moment) (o : ℕ) (c : LawCommand) (mine : (state : State) → IsStateAt old state → IsToldOf state o c) (from : U)
    (A : Led tells old mid (Ok from) (λ state _. Clears (form_at old.world) state) Never Nothing) where
  turn_left : (r : Result Bool RunFault)
      → Led tells mid new r (λ state more lines z. IsToldOf state o c → TakesOne (form_at mid.world) state o more lines z) Never
      (λ state lines z. IsToldOf state o c → TakesLast (form_at mid.world) state o lines z)
      → OnOk r (IsSafe (form_at old.world) new.history) → IsTrue tells → (state : State) (added : List Line) → IsStateAt old state → new.lines ≡ old.lines ++ added
      → UnlessIo r ((after : State) × IsStateAt new after × Leads (form_at old.world) state (law_lines added) after × IsSafe (form_at old.world) new.history)
  turn_left (Ok more) B safe told state added is eq =
      let f = form_at old.world in
      let L = turn_after tells old mid new o c mine from A (Ok more) B in
      let J = L.told told state is in (
        J.0,
        J.1,
        subst (λ ls. Leads f state (law_lines ls) J.0) (same_added old.lines new.lines L.added added L.lines eq)
            (leads_one f state J.0 (TakeTurn o) (law_lines L.added) (turn_gives f state o more (law_lines L.added) J.0 J.2)),
        safe,
      )
  turn_left (Err Memory) B safe told state added is eq = let J = A.told told state is in absurd (B.told told J.0 J.1).2
  turn_left (Err Io) B safe told state added is eq = tt

  -- what its lines tell stays
  told_stays : (r : Result Bool RunFault)
      → Led tells mid new r (λ state more lines z. IsToldOf state o c → TakesOne (form_at mid.world) state o more lines z) Never
      (λ state lines z. IsToldOf state o c → TakesLast (form_at mid.world) state o lines z)
      → OnOk r (IsSafe (form_at old.world) new.history) → (told : IsTrue tells) (state : State) (is : IsStateAt old state)
      → OnErr r (ToldWhereTaken (form_at old.world) (A.told told state is).0 o c new.history mid.lines new.lines) → Extends old.history new.history → (added : List Line) → new.lines ≡ old.lines ++ added
      → StaysTold (form_at old.world) old.history new.history state (law_lines added)
  told_stays (Ok more) B safe told state is failed further added eq =
      let f = form_at old.world in
      let L = turn_after tells old mid new o c mine from A (Ok more) B in
      let J = L.told told state is in
      let reads : IsReadAs f (seen new.history) J.0 = subst (λ header. IsReadAs (form_in header) (seen new.history) J.0) L.header (state_reopens new.world new.history J.0 J.1) in
      subst (λ ls. StaysTold f old.history new.history state (law_lines ls)) (same_added old.lines new.lines L.added added L.lines eq)
      (turn_stays f state J.0 o old.history new.history further reads safe more (law_lines L.added) J.2)
  told_stays (Err e) B safe told state is (inl none) further added eq =
      let f = form_at old.world in
      let J = A.told told state is in
      subst (λ ls. StaysTold f old.history new.history state (law_lines ls)) (same_added old.lines new.lines A.added added (none ∙ A.lines) eq)
      (λ front rest line cut done. absurd (no_undo f state J.0 (law_lines A.added) J.2 front rest line cut done))
  told_stays (Err e) B safe told state is (inr (s, more, turn, lines, takes, reads, kept)) further added eq =
      let f = form_at old.world in
      let J = A.told told state is in
      let all : A.added ++ turn ≡ added = same_added old.lines new.lines (A.added ++ turn) added (lines_join old.lines mid.lines new.lines A.added turn A.lines lines) eq in
      subst (StaysTold f old.history new.history state) (sym (map-append law_line A.added turn) ∙ ap law_lines all)
      (turn_stays f state s o old.history new.history further reads kept more (law_lines A.added ++ law_lines turn) (clear_takes f state J.0 o c (law_lines A.added) J.2 (mine state is) more (law_lines turn) s takes))

  pub turn_stops : (r : Result Bool RunFault)
      → Led tells mid new r (λ state more lines z. IsToldOf state o c → TakesOne (form_at mid.world) state o more lines z) Never
      (λ state lines z. IsToldOf state o c → TakesLast (form_at mid.world) state o lines z)
      → UndoStops tells old.world old.history mid.history → UndoKeeps tells old.world old.history mid.history
      → TurnStops tells (form_at mid.world) mid.world o mid.history new.history → OnOk r (TurnKeeps tells (form_at mid.world) mid.world o mid.history new.history)
      → OnErr r (TurnTold tells (form_at mid.world) mid.world o c mid.history new.history mid.lines new.lines) → StopsLed tells old new r
  turn_stops r B cleared safely turned safe failed told state added is eq was calm =
      let f = form_at old.world in
      let lines = law_lines added in
      let J = A.told told state is in
      let L = alike_cleared f state J.0 (law_lines A.added) J.2 in
      let safe_mid = safely told state is was in
      let never : IsChanging f J.0 o → ⊥ = λ C. calm state o (passes_here f state lines) (changing f J.0 state L o C) in
      let still = subst (λ header. TurnStops tells (form_in header) mid.world o mid.history new.history) A.header turned in
      let safer = subst (λ header. OnOk r (TurnKeeps tells (form_in header) mid.world o mid.history new.history)) A.header safe in
      let kept = on_ok_weaker r (λ (S : TurnKeeps tells f mid.world o mid.history new.history). S told J.0 J.1 safe_mid never) safer in
      let lost = subst (λ header. OnErr r (TurnTold tells (form_in header) mid.world o c mid.history new.history mid.lines new.lines)) A.header failed in
      let way = leaves_join old.history mid.history new.history (OpensOnTheWay f state lines) (opens_first f old.history mid.history state o lines (cleared told state is was))
      (leaves_weaker mid.history new.history (TurnMayLeave f J.0 o) (OpensOnTheWay f state lines) (λ c T. (state, o, passes_here f state lines, may_leave f J.0 state L o c T))
      (still told J.0 J.1 safe_mid never)) in
      record {
        stops = way;
        stays = told_stays r B kept told state is
            (on_err_weaker r (λ (S : TurnTold tells f mid.world o c mid.history new.history mid.lines new.lines). S told J.0 J.1 safe_mid never) lost)
            way.extends added eq;
        left = turn_left r B kept told state added is eq;
      }
