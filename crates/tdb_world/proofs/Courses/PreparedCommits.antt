-- A report from a world just loaded on tells of the Commit of a prepared transaction its steps, and then that it is
-- done.
use Rattle.std.proofs.Common.{◌≡◌, ◌≢◌, ℕ, zero, suc, ◌+◌, List, [], ◌∷◌, ◌++◌, Option, Some, None, refl, sym, ◌∙◌, ap, subst, inl, inr, arith, append_assoc, append-nil}
use Rattle.std.proofs.lemmas.Bool.{cases_eq, eq-eqb, false≢true, le-ltb, lt-ltb, ne_eqb}
use Rattle.tdb_space.specs.Form.{Form}
use Rattle.tdb_law.specs.Beginning.{beginning}
use Rattle.tdb_law.specs.Commands.{Command, Reply, Turn}
use Rattle.tdb_law.specs.Commands.GroupCommand.{Commit}
use Rattle.tdb_law.specs.Commands.Command.{OnGroup}
use Rattle.tdb_law.specs.Commands.Reply.{Done}
use Rattle.tdb_law.specs.Commands.Turn.{Step, Blocked, Ends}
use Rattle.tdb_law.specs.Effects.{task_left}
use Rattle.tdb_law.specs.Ends.{commit_last}
use Rattle.tdb_law.specs.Events.{Dies, Given, Joins, Undoes}
use Rattle.tdb_law.specs.Lines.{Line}
use Rattle.tdb_law.specs.Lines.Line.{Joined, JoinBlocked, JoinMany, JoinMemory, Took, Grew, Absent, Idle, Occupied, LogsLeft, Died, Undone}
use Rattle.tdb_law.specs.Openers.{Own, Task, Txn}
use Rattle.tdb_law.specs.Plays.{Play, Advances, Clears, Course, Gives, Goes, GoesOn, Grows, IsAnswer, most_turns}
use Rattle.tdb_law.specs.Plays.Play.{Join, SetLog, Give, Do, TakeTurn, Go, Die}
use Rattle.tdb_law.specs.Plays.Clears.{clears_nothing, clears_gate}
use Rattle.tdb_law.specs.Plays.Gives.{gives_answer, gives_opener, gives_command, gives_turn, gives_turns, gives_all, gives_death}
use Rattle.tdb_law.specs.Plays.Grows.{grows_not, grows_longer}
use Rattle.tdb_law.specs.Refusals.{is_prepared}
use Rattle.tdb_law.specs.Replay.{Replay}
use Rattle.tdb_law.specs.Standing.{Stands}
use Rattle.tdb_law.specs.Turned.{Turned}
use Rattle.tdb_law.specs.World.{State, IsSound}
use Rattle.tdb_law.proofs.Deaths.{death_lawful}
use Rattle.tdb_law.proofs.Happening.{gift_lawful, join_lawful}
use Rattle.tdb_law.proofs.OneTurn.{turn_lawful}
use Rattle.tdb_law.proofs.Plainly.{beginning_lawful}
use Rattle.tdb_law.proofs.Sound.{own_kept}
use Rattle.tdb_law.proofs.Undoing.{undo_lawful}
use Rattle.tdb_world.specs.Prepared.{prepared_turn, CommitsPrepared}
use Rattle.tdb_world.proofs.PreparedTurns.{commit_short, turned_so}
use Rattle.tdb_world.specs.Courses.Prepared.{steps_and_done, turns_of, AreAlike, PreparedCommitsEnd}
use Rattle.tdb_world.proofs.Courses.MayCommit.{commit_granted, turn_so, IfPrepared}

module _ (f : Form) (o : ℕ) (txn : Txn) where
  -- The opener is in its Commit, with so many steps left; or nothing is known of it.
  abbrev Phase : Type 0
  Phase = Option ℕ

  abbrev IsIn : State → Phase → Type 0
  IsIn w None = Unit {0}
  IsIn w (Some left) = (steps : ℕ) × CommitsPrepared w o txn steps × (steps + left ≡ commit_last (Some txn))

  abbrev due : Phase → List Turn
  due None = []
  due (Some left) = steps_and_done left

  -- a sound world, in which each opener may commit what it has prepared
  record At (w : State) (p : Phase) : Type 0 where
    replay : Replay
    sound : IsSound f w
    stands : Stands f w replay
    ready : (q : ℕ) → IfPrepared (w.own q)
    phase : IsIn w p

  -- Lines lead there: what is due then comes behind them, as it was due before.
  record Comes (p : Phase) (lines : List Line) (new : State) : Type 0 where
    now : Phase
    at : At new now
    alike : (rest : List Line) → AreAlike (due now) (turns_of o rest) → AreAlike (due p) (turns_of o (lines ++ rest))

  comes_not : (p : Phase) (w : State) → At w p → Comes p [] w
  comes_not p w A = record { now = p; at = A; alike = λ rest G. G }

  comes_join : (p : Phase) (front rest : List Line) (mid new : State) → (C : Comes p front mid) → Comes C.now rest new → Comes p (front ++ rest) new
  comes_join p front rest mid new C D = record {
    now = D.now;
    at = D.at;
    alike = λ more G. subst (λ ls. AreAlike (due p) (turns_of o ls)) (sym (append_assoc front rest more)) (C.alike (rest ++ more) (D.alike more G));
  }

  comes_as : (p : Phase) (lines other : List Line) (new : State) → lines ≡ other → Comes p other new → Comes p lines new
  comes_as p lines other new e C = subst (λ ls. Comes p ls new) (sym e) C

  -- a line that tells no turn and no death
  comes_line : (p : Phase) (line : Line) (new : State) → ((rest : List Line) → turns_of o (line ∷ rest) ≡ turns_of o rest) → At new p → Comes p (line ∷ []) new
  comes_line p line new same A = record { now = p; at = A; alike = λ rest G. subst (AreAlike (due p)) (sym (same rest)) G }

  -- what is known of the opener where it keeps its task and what it has
  still_in : (old new : State) (p : Phase) → new.task o ≡ old.task o → new.own o ≡ old.own o → IsIn old p → IsIn new p
  still_in old new None task own I = tt
  still_in old new (Some left) task own (steps, C, e) =
      (steps, record { task = task ∙ C.task; has = ap (λ (x : Own). x.txn) own ∙ C.has; prepared = C.prepared }, e)

  -- nothing is due in the end
  none_due : (p : Phase) → AreAlike (due p) []
  none_due None = tt
  none_due (Some zero) = tt
  none_due (Some (suc n)) = tt

  -- one opener changes, and may commit still what it has prepared
  ready_one : (old new : State) (who : ℕ) → ((q : ℕ) → IfPrepared (old.own q)) → ((q : ℕ) → q ≢ who → new.own q ≡ old.own q) → IfPrepared (new.own who) → (q : ℕ) → IfPrepared (new.own q)
  ready_one old new who R others mine q = elim (cases_eq q who) [
    | inl e ↦ subst (λ r. IfPrepared (new.own r)) (sym e) mine
    | inr ne ↦ subst IfPrepared (sym (others q ne)) (R q)
  ]

  -- an open gate is undone
  undone_at : (old new : State) (bytes to : ℕ) (p : Phase) → At old p → Undoes f old new → At new p
  undone_at old new bytes to p A U =
      let L = undo_lawful f old new bytes to A.replay A.sound A.stands U in
      record {
        replay = _;
        sound = L.sound;
        stands = L.stands;
        ready = λ q. subst IfPrepared (sym (ap (λ (w : State). w.own q) U.rest)) (A.ready q);
        phase = still_in old new p (ap (λ (w : State). w.task o) U.rest) (ap (λ (w : State). w.own o) U.rest) A.phase;
      }

  comes_clear : (p : Phase) (old new : State) (lines : List Line) → At old p → Clears f old lines new → Comes p lines new
  comes_clear p old new lines A (clears_nothing ready none same) =
      let B = subst (λ w. At w p) (sym same) A in
      comes_as p lines [] new none (comes_not p new B)
  comes_clear p old new lines A (clears_gate bytes to e U) =
      comes_as p lines (Undone bytes to ∷ []) new e (comes_line p (Undone bytes to) new (λ rest. refl) (undone_at old new bytes to p A U))

  -- a turn
  module _ (old new : State) (who : ℕ) (task : Task) (turn : Turn) (T : Turned f old who task turn new) where
    turned_ready : ((q : ℕ) → IfPrepared (old.own q)) → (q : ℕ) → IfPrepared (new.own q)
    turned_ready R = ready_one old new who R T.others_own (turn_so f (old.own who) old.file (R who) task.command task.steps turn (new.own who) T.effect)

    at_next : (p q : Phase) → At old p → IsIn new q → At new q
    at_next p q A phase =
        let L = turn_lawful f old new who task turn A.replay A.sound A.stands T in
        record { replay = _; sound = L.sound; stands = L.stands; ready = turned_ready A.ready; phase = phase }

    -- of another
    other_told : who ≢ o → (rest : List Line) → turns_of o (Took who task.command turn ∷ rest) ≡ turns_of o rest
    other_told ne rest = rw (ne_eqb who o ne) refl

    other_turn : who ≢ o → (p : Phase) → At old p → Comes p (Took who task.command turn ∷ []) new
    other_turn ne p A =
        let back : o ≢ who = λ e. ne (sym e) in
        comes_line p (Took who task.command turn) new (other_told ne) (at_next p p A (still_in old new p (T.others o back) (T.others_own o back) A.phase))

    -- of the opener
    mine_told : who ≡ o → (rest : List Line) → turns_of o (Took who task.command turn ∷ rest) ≡ turn ∷ turns_of o rest
    mine_told e rest = rw (eq-eqb who o e) refl

    module _ (mine : who ≡ o) (steps left : ℕ) (A : At old (Some left)) (C : CommitsPrepared old who txn steps) (sum : steps + left ≡ commit_last (Some txn)) where
      its_turn : turn ≡ prepared_turn txn steps
      its_turn =
          turned_so f old new who task turn txn steps C T (λ p b ne. let apart = A.sound.apart p who b ne in omega (arith, apart))
          (commit_granted f (old.own who) (A.ready who) (ap is_prepared C.has ∙ C.prepared))

      its_task : task ≡ record { command = OnGroup Commit; steps = steps }
      its_task = let both = sym T.mine ∙ C.task in cc both

      ends : left ≡ 0 → turn ≡ Ends Done
      ends e = its_turn ∙ rw (le-ltb steps (commit_last (Some txn)) (omega (arith, e, sum))) refl

      goes : (n : ℕ) → left ≡ suc n → turn ≡ Step
      goes n e = its_turn ∙ rw (lt-ltb steps (commit_last (Some txn)) (omega (arith, e, sum))) refl

      no_end : turn ≡ Step → (r : Reply) → turn ≡ Ends r → ⊥
      no_end e r is = let both : Step ≡ Ends r = sym e ∙ is in cc both

      after_step : turn ≡ Step → CommitsPrepared new who txn (steps + 1)
      after_step e = record {
        task = T.leaves ∙ (ap (λ (u : Task). task_left u.command u.steps turn) its_task ∙ ap (task_left (OnGroup Commit) steps) e);
        has = ap (λ (x : Own). x.txn) (own_kept f old new who task turn A.sound T (no_end e)) ∙ C.has;
        prepared = C.prepared;
      }

    mine_turn : who ≡ o → (p : Phase) → At old p → Comes p (Took who task.command turn ∷ []) new
    mine_turn e None A = record { now = None; at = at_next None None A tt; alike = λ rest G. tt }
    mine_turn e (Some zero) A =
        let I = A.phase in
        let C = subst (λ q. CommitsPrepared old q txn I.0) (sym e) I.1 in
        record {
          now = None;
          at = at_next (Some zero) None A tt;
          alike = λ rest G. subst (AreAlike (due (Some zero))) (sym (mine_told e rest)) (sym (ends e I.0 zero A C I.2 refl), tt);
        }
    mine_turn e (Some (suc n)) A =
        let I = A.phase in
        let C = subst (λ q. CommitsPrepared old q txn I.0) (sym e) I.1 in
        let is = goes e I.0 (suc n) A C I.2 n refl in
        record {
          now = Some n;
          at = at_next (Some (suc n)) (Some n) A (I.0 + 1, subst (λ q. CommitsPrepared new q txn (I.0 + 1)) e (after_step e I.0 (suc n) A C I.2 is), let sum = I.2 in omega (arith, sum));
          alike = λ rest G. subst (AreAlike (due (Some (suc n)))) (sym (mine_told e rest)) (sym is, G);
        }

    comes_turn : (p : Phase) → At old p → Comes p (Took who task.command turn ∷ []) new
    comes_turn p A = elim (cases_eq who o) [
      | inl e ↦ mine_turn e p A
      | inr ne ↦ other_turn ne p A
    ]

  -- with the growth of the file
  comes_grown : (p : Phase) (new : State) (lines : List Line) → At new p → Grows lines → Comes p lines new
  comes_grown p new lines A (grows_not e) = comes_as p lines [] new e (comes_not p new A)
  comes_grown p new lines A (grows_longer from to e longer) = comes_as p lines (Grew from to ∷ []) new e (comes_line p (Grew from to) new (λ rest. refl) A)

  comes_advance : (p : Phase) (old new : State) (who : ℕ) (turn : Turn) (lines : List Line) → At old p → Advances f old who turn lines new → Comes p lines new
  comes_advance p old new who turn lines A V =
      let cleared = comes_clear p old V.mid V.front A V.clears in
      let took = comes_turn V.mid new who V.task turn V.turned cleared.now cleared.at in
      let grown = comes_grown took.now new V.tail took.at V.grows in
      comes_as p lines (V.front ++ Took who V.task.command turn ∷ V.tail) new V.parts
      (comes_join p V.front (Took who V.task.command turn ∷ V.tail) V.mid new cleared
      (comes_join cleared.now (Took who V.task.command turn ∷ []) V.tail new new took grown))

  -- turns that go on or don't
  comes_more : (p : Phase) (front rest : List Line) (mid new : State) (turn : Turn) (More : Type 0) (C : Comes p front mid) → (More → Comes C.now rest new)
      → GoesOn turn More ((rest ≡ []) × (new ≡ mid)) → Comes p (front ++ rest) new
  comes_more p front rest mid new Step More C more on = comes_join p front rest mid new C (more on)
  comes_more p front rest mid new (Blocked q b) More C more on =
      comes_as p (front ++ rest) front new (ap (λ ls. front ++ ls) on.0 ∙ append-nil front) (subst (Comes p front) (sym on.1) C)
  comes_more p front rest mid new (Ends r) More C more on =
      comes_as p (front ++ rest) front new (ap (λ ls. front ++ ls) on.0 ∙ append-nil front) (subst (Comes p front) (sym on.1) C)

  comes_goes : (n : ℕ) (p : Phase) (old new : State) (who : ℕ) (lines : List Line) → At old p → Goes f n old who lines new → Comes p lines new
  comes_goes zero p old new who lines A G = absurd G
  comes_goes (suc n) p old new who lines A (turn, mid, front, rest, parts, V, on) =
      let C = comes_advance p old mid who turn front A V in
      comes_as p lines (front ++ rest) new parts
      (comes_more p front rest mid new turn (Goes f n mid who rest new) C (comes_goes n C.now mid new who rest C.at) on)

  -- a line that only answers
  answer_told : (w : State) (play : Play) (line : Line) → IsAnswer w play line → (rest : List Line) → turns_of o (line ∷ rest) ≡ turns_of o rest
  answer_told w Join (JoinBlocked owner) e rest = refl
  answer_told w Join JoinMany e rest = refl
  answer_told w Join JoinMemory e rest = refl
  answer_told w (Give who c) (Absent q) e rest = refl
  answer_told w (Do who c) (Absent q) e rest = refl
  answer_told w (TakeTurn who) (Absent q) e rest = refl
  answer_told w (Go who) (Absent q) e rest = refl
  answer_told w (Die who) (Absent q) e rest = refl
  answer_told w (Give who c) (Occupied q) e rest = refl
  answer_told w (Do who c) (Occupied q) e rest = refl
  answer_told w (TakeTurn who) (Idle q) e rest = refl
  answer_told w (Go who) (Idle q) e rest = refl
  answer_told w (Die who) (Occupied q) e rest = refl
  answer_told w SetLog (LogsLeft count) e rest = refl
  answer_told w play line e rest = absurd e

  -- a command that is given
  given_at : (old new : State) (who : ℕ) (c : Command) (p : Phase) → At old p → Given old who c new → At new p
  given_at old new who c p A G =
      let L = gift_lawful f old new who c A.replay A.sound A.stands G in
      let own : (q : ℕ) → new.own q ≡ old.own q = λ q. ap (λ (w : State). w.own q) G.rest in
      record { replay = A.replay; sound = L.0; stands = L.1; ready = λ q. subst IfPrepared (sym (own q)) (A.ready q); phase = by_phase p A.phase }
    where
      by_phase : (q : Phase) → IsIn old q → IsIn new q
      by_phase None I = tt
      by_phase (Some left) I = elim (cases_eq o who) [
        | inl e ↦ absurd (let has : Some (record { command = OnGroup Commit; steps = I.0 }) ≡ None = sym I.1.task ∙ (ap old.task e ∙ G.idle) in cc has)
        | inr ne ↦ still_in old new (Some left) (G.others o ne) (ap (λ (w : State). w.own o) G.rest) I
      ]

  -- an opener that joins
  joined_at : (old new : State) (who : ℕ) (p : Phase) → At old p → Joins f old who new → At new p
  joined_at old new who p A J =
      let L = join_lawful f old new who A.replay A.sound A.stands J in
      record {
        replay = _;
        sound = L.sound;
        stands = L.stands;
        ready = ready_one old new who A.ready J.stay.own (subst IfPrepared (sym J.own) (λ e. absurd (false≢true e)));
        phase = by_phase p A.phase;
      }
    where
      by_phase : (q : Phase) → IsIn old q → IsIn new q
      by_phase None I = tt
      by_phase (Some left) I = elim (cases_eq o who) [
        | inl e ↦ absurd (let there = A.sound.live_joined o (A.sound.busy_there o _ I.1.task) in omega (arith, there, e, J.first))
        | inr ne ↦ still_in old new (Some left) (J.stay.task o ne) (J.stay.own o ne) I
      ]

  -- one that dies
  module _ (p : Phase) (old new : State) (who : ℕ) (A : At old p) (D : Dies f old who new) where
    dead_told : who ≡ o → (rest : List Line) → turns_of o (Died who ∷ rest) ≡ []
    dead_told e rest = rw (eq-eqb who o e) refl

    live_told : who ≢ o → (rest : List Line) → turns_of o (Died who ∷ rest) ≡ turns_of o rest
    live_told ne rest = rw (ne_eqb who o ne) refl

    died_at : (q : Phase) → IsIn new q → At new q
    died_at q phase =
        let L = death_lawful f old new who A.replay A.sound A.stands D in
        record {
          replay = _;
          sound = L.sound;
          stands = L.stands;
          ready = ready_one old new who A.ready D.stay.own (subst IfPrepared (sym D.own) (λ e. absurd (false≢true e)));
          phase = phase;
        }

    comes_death : Comes p (Died who ∷ []) new
    comes_death = elim (cases_eq who o) [
      | inl e ↦ record { now = None; at = died_at None tt; alike = λ rest G. subst (AreAlike (due p)) (sym (dead_told e rest)) (none_due p) }
      | inr ne ↦
          let back : o ≢ who = λ e. ne (sym e) in
          comes_line p (Died who) new (live_told ne) (died_at p (still_in old new p (D.stay.task o back) (D.stay.own o back) A.phase))
    ]

  comes_play : (p : Phase) (old new : State) (play : Play) (lines : List Line) → At old p → Gives f old play lines new → Comes p lines new
  comes_play p old new play lines A (gives_answer line is same answer) =
      comes_as p lines (line ∷ []) new is (comes_line p line new (answer_told old play line answer) (subst (λ w. At w p) (sym same) A))
  comes_play p old new play lines A (gives_opener who is e J) = comes_as p lines (Joined who ∷ []) new e (comes_line p (Joined who) new (λ rest. refl) (joined_at old new who p A J))
  comes_play p old new play lines A (gives_command who c is e G) = comes_as p lines [] new e (comes_not p new (given_at old new who c p A G))
  comes_play p old new play lines A (gives_turn who turn is V) = comes_advance p old new who turn lines A V
  comes_play p old new play lines A (gives_turns who is G) = comes_goes most_turns p old new who lines A G
  comes_play p old new play lines A (gives_all who c mid is G goes) = comes_goes most_turns p mid new who lines (given_at old mid who c p A G) goes
  comes_play p old new play lines A (gives_death who is e D) = comes_as p lines (Died who ∷ []) new e (comes_death p old new who A D)

  comes_course : (plays : List Play) (p : Phase) (old new : State) (lines : List Line) → At old p → Course f old plays lines new → Comes p lines new
  comes_course [] p old new lines A C = comes_as p lines [] new C.0 (subst (Comes p []) (sym C.1) (comes_not p old A))
  comes_course (play ∷ plays) p old new lines A (mid, front, rest, parts, G, C) =
      let first = comes_play p old mid play front A G in
      comes_as p lines (front ++ rest) new parts (comes_join p front rest mid new first (comes_course plays first.now mid new rest first.at C))

pub commits_end : PreparedCommitsEnd
commits_end f options old mid new front rest o txn steps left loaded first second C sum =
    let begins = beginning_lawful f old options loaded in
    let begun : At f o txn old None = record {
      replay = beginning options old.file old.number;
      sound = begins.0;
      stands = begins.1;
      ready = λ q. subst IfPrepared (sym (loaded.own q)) (λ e. absurd (false≢true e));
      phase = tt;
    } in
    let came = (comes_course f o txn first.0 None old mid front begun first.1).at in
    let there : At f o txn mid (Some left) = record { replay = came.replay; sound = came.sound; stands = came.stands; ready = came.ready; phase = (steps, C, sum) } in
    let short = commit_short txn C.prepared in (
      omega (arith, short, sum),
      subst (λ ls. AreAlike (steps_and_done left) (turns_of o ls)) (append-nil rest)
          ((comes_course f o txn second.0 (Some left) mid new rest there second.1).alike [] (nothing_left _)),
    )
  where
    nothing_left : (p : Option ℕ) → AreAlike (due f o txn p) []
    nothing_left p = none_due f o txn p
