-- A change outside a transaction has told a step before it is in its middle.
use Rattle.std.proofs.Common.{◌≡◌, ◌≢◌, ℕ, zero, suc, ◌+◌, ◌<◌, Bool, true, false, List, [], ◌∷◌, ◌++◌, Option, Some, None, refl, sym, ◌∙◌, ap, subst, inl, inr, arith}
use Rattle.std.proofs.lemmas.Bool.{cases_eq, false≢true}
use Rattle.std.specs.Prelude.{◌&&◌}
use Rattle.tdb_space.specs.Form.{Form}
use Rattle.tdb_law.specs.Commands.{Command, Turn}
use Rattle.tdb_law.specs.Commands.{Command as On}
use Rattle.tdb_law.specs.Commands.Turn.{Step, Blocked, Ends}
use Rattle.tdb_law.specs.Counting.{unsettles_by}
use Rattle.tdb_law.specs.Effects.{task_left}
use Rattle.tdb_law.specs.Events.{Given}
use Rattle.tdb_law.specs.Lines.{Line}
use Rattle.tdb_law.specs.Lines.Line.{Took}
use Rattle.tdb_law.specs.MapCommands.{map_changes}
use Rattle.tdb_law.specs.Openers.{Own, Task, outside}
use Rattle.tdb_law.specs.Plays.{Play, Advances, GoesOn, Goes, Gives, Course, most_turns}
use Rattle.tdb_law.specs.Plays.Gives.{gives_answer, gives_opener, gives_command, gives_turn, gives_turns, gives_all, gives_death}
use Rattle.tdb_law.specs.Refusals.{Refusal, refusal}
use Rattle.tdb_law.specs.Turned.{Turned}
use Rattle.tdb_law.specs.World.{State}
use Rattle.tdb_openers.specs.Calm.{IsMidway}
use Rattle.tdb_world.specs.Courses.Changes.{IsStepless, AreStepless, StepsTellChanges}
use Rattle.tdb_world.proofs.Courses.Courses.{clears_task}

-- no step was taken of a command that changes the file, or of one on a cursor
abbrev IsFirst : Command → ℕ → Type 0
IsFirst (On.OnMap c) n = map_changes c ≡ true → n ≡ 0
IsFirst (On.OnWalk w) n = n ≡ 0
IsFirst c n = Unit {0}

-- so it is of all openers of a state
abbrev AllFirst : State → Type 0
AllFirst s = (o : ℕ) (t : Task) → s.task o ≡ Some t → IsFirst t.command t.steps

and_right : (a b : Bool) → (a && b) ≡ true → b ≡ true
and_right true b e = e
and_right false b e = absurd (false≢true e)

-- then no command is in the middle of a change
not_by : (r : Option Refusal) (c : Command) (x : Own) (step n : ℕ) → IsFirst c n → step < n → unsettles_by r c x step ≡ true → ⊥
not_by (Some r) c x step n I few e = false≢true e
not_by None (On.OnMap c) x step n I few e = omega (arith, few, I (and_right (outside x) (map_changes c) e))
not_by None (On.OnWalk w) x step n I few e = omega (arith, few, I)
not_by None (On.OnLocks l) x step n I few e = false≢true e
not_by None On.Seqnum x step n I few e = false≢true e
not_by None (On.OnGroup g) x step n I few e = false≢true e

not_midway : (f : Form) (x : Own) (t : Task) → IsFirst t.command t.steps → IsMidway f x t → ⊥
not_midway f x t I M = not_by (refusal f t.command x) t.command x M.step t.steps I M.taken M.unsettles

-- a command that has had no turn
first_turn : (c : Command) → IsFirst c 0
first_turn (On.OnMap c) = λ e. refl
first_turn (On.OnWalk w) = refl
first_turn (On.OnLocks l) = tt
first_turn On.Seqnum = tt
first_turn (On.OnGroup g) = tt

-- a step that its line may tell
step_first : (who : ℕ) (c : Command) (n : ℕ) → IsStepless (Took who c Step) → IsFirst c n
step_first who (On.OnMap c) n I = λ e. absurd (false≢true (sym I ∙ e))
step_first who (On.OnWalk w) n I = absurd I
step_first who (On.OnLocks l) n I = tt
step_first who On.Seqnum n I = tt
step_first who (On.OnGroup g) n I = tt

no_task : (t : Task) → ◌≡◌ {A = Option Task} None (Some t) → ⊥
no_task t e = cc e

-- the task that a turn leaves
turn_first : (who : ℕ) (c : Command) (n : ℕ) (turn : Turn) (t : Task) (next : Option Task) → IsStepless (Took who c turn) → IsFirst c n
    → next ≡ task_left c n turn → next ≡ Some t → IsFirst t.command t.steps
turn_first who c n Step t next I F left is =
    let e : record { command = c; steps = n + 1 } ≡ t = let both = sym left ∙ is in cc both in
    subst (λ (u : Task). IsFirst u.command u.steps) e (step_first who c (n + 1) I)
turn_first who c n (Blocked o b) t next I F left is =
    let e : record { command = c; steps = n } ≡ t = let both = sym left ∙ is in cc both in
    subst (λ (u : Task). IsFirst u.command u.steps) e F
turn_first who c n (Ends r) t next I F left is = absurd (no_task t (sym left ∙ is))

-- the lines in front, and those behind
stepless_front : (xs ys : List Line) → AreStepless (xs ++ ys) → AreStepless xs
stepless_front [] ys A = tt
stepless_front (x ∷ xs) ys A = (A.0, stepless_front xs ys A.1)

stepless_rest : (xs ys : List Line) → AreStepless (xs ++ ys) → AreStepless ys
stepless_rest [] ys A = A
stepless_rest (x ∷ xs) ys A = stepless_rest xs ys A.1

module _ (f : Form) where
  -- what changes at one opener alone
  others_first : (old new : State) (who : ℕ) → AllFirst old → ((o : ℕ) → o ≢ who → new.task o ≡ old.task o) → ((t : Task) → new.task who ≡ Some t → IsFirst t.command t.steps) → AllFirst new
  others_first old new who A same mine o t is = elim (cases_eq o who) [
    | inl e ↦ mine t (ap new.task (sym e) ∙ is)
    | inr ne ↦ A o t (sym (same o ne) ∙ is)
  ]

  given_first : (old new : State) (who : ℕ) (c : Command) → AllFirst old → Given old who c new → AllFirst new
  given_first old new who c A G = others_first old new who A G.others mine
    where
      mine : (t : Task) → new.task who ≡ Some t → IsFirst t.command t.steps
      mine t is =
          let e : record { command = c; steps = 0 } ≡ t = let both = sym G.task ∙ is in cc both in
          subst (λ (u : Task). IsFirst u.command u.steps) e (first_turn c)

  advances_first : (old new : State) (who : ℕ) (turn : Turn) (lines : List Line) → AreStepless lines → AllFirst old → Advances f old who turn lines new → AllFirst new
  advances_first old new who turn lines L A V = others_first V.mid new who mid T.others mine
    where
      T : Turned f V.mid who V.task turn new
      T = V.turned

      mid : AllFirst V.mid
      mid o t is = A o t (ap (λ g. g o) (sym (clears_task f old V.mid V.front V.clears)) ∙ is)

      told : IsStepless (Took who V.task.command turn)
      told = (stepless_rest V.front (Took who V.task.command turn ∷ V.tail) (subst AreStepless V.parts L)).0

      mine : (t : Task) → new.task who ≡ Some t → IsFirst t.command t.steps
      mine t is = turn_first who V.task.command V.task.steps turn t (new.task who) told (mid who V.task T.mine) T.leaves is

  -- turns that go on or don't
  goes_on : (turn : Turn) (More : Type 0) (mid new : State) (rest : List Line) → AllFirst mid → (More → AllFirst new) → GoesOn turn More ((rest ≡ []) × (new ≡ mid)) → AllFirst new
  goes_on Step More mid new rest M more on = more on
  goes_on (Blocked o b) More mid new rest M more on = subst AllFirst (sym on.1) M
  goes_on (Ends r) More mid new rest M more on = subst AllFirst (sym on.1) M

  goes_first : (n : ℕ) (old new : State) (who : ℕ) (lines : List Line) → AreStepless lines → AllFirst old → Goes f n old who lines new → AllFirst new
  goes_first zero old new who lines L A G = absurd G
  goes_first (suc n) old new who lines L A (turn, mid, front, rest, parts, V, on) =
      let both = subst AreStepless parts L in
      let M = advances_first old mid who turn front (stepless_front front rest both) A V in
      goes_on turn (Goes f n mid who rest new) mid new rest M (goes_first n mid new who rest (stepless_rest front rest both) M) on

  gives_first : (old new : State) (play : Play) (lines : List Line) → AreStepless lines → AllFirst old → Gives f old play lines new → AllFirst new
  gives_first old new play lines L A (gives_answer line is same answer) = subst AllFirst (sym same) A
  gives_first old new play lines L A (gives_opener who p is J) = others_first old new who A J.stay.task (λ t e. absurd (no_task t (sym J.nothing.task ∙ e)))
  gives_first old new play lines L A (gives_command who c p is G) = given_first old new who c A G
  gives_first old new play lines L A (gives_turn who turn p V) = advances_first old new who turn lines L A V
  gives_first old new play lines L A (gives_turns who p G) = goes_first most_turns old new who lines L A G
  gives_first old new play lines L A (gives_all who c mid p G T) = goes_first most_turns mid new who lines L (given_first old mid who c A G) T
  gives_first old new play lines L A (gives_death who p is D) = others_first old new who A D.stay.task (λ t e. absurd (no_task t (sym D.nothing.task ∙ e)))

  course_first : (plays : List Play) (old new : State) (lines : List Line) → AreStepless lines → AllFirst old → Course f old plays lines new → AllFirst new
  course_first [] old new lines L A C = subst AllFirst (sym C.1) A
  course_first (play ∷ plays) old new lines L A (mid, front, rest, parts, G, C) =
      let both = subst AreStepless parts L in
      course_first plays mid new rest (stepless_rest front rest both) (gives_first old mid play front (stepless_front front rest both) A G) C

pub steps_tell : StepsTellChanges
steps_tell f options old lines loaded L s o P M =
    let fronts = stepless_front P.front P.rest (subst AreStepless P.parts L) in
    let all = course_first f P.leads.0 old s P.front fronts (λ p t is. absurd (no_task t (sym (loaded.task p) ∙ is))) P.leads.1 in
    not_midway f (s.own o) M.task (all o M.task M.has) M.midway
