-- Which lines a command gives that one opener does: a line for each turn, of which all but the last are steps.
use Rattle.std.proofs.Common.{◌≡◌, ℕ, zero, suc, ◌+◌, List, [], ◌∷◌, ◌++◌, Some, refl, sym, ◌∙◌, ap, subst, append_assoc, append-nil}
use Rattle.tdb_space.specs.Form.{Form}
use Rattle.tdb_law.specs.Commands.{Command, Turn}
use Rattle.tdb_law.specs.Commands.Turn.{Step, Blocked, Ends}
use Rattle.tdb_law.specs.Events.{Given}
use Rattle.tdb_law.specs.Lines.{Line}
use Rattle.tdb_law.specs.Lines.Line.{Absent, Grew, Occupied, Took, Undone}
use Rattle.tdb_law.specs.Openers.{Task}
use Rattle.tdb_law.specs.Plays.{Play, Advances, Clears, Course, Gives, Goes, GoesOn, Grows, IsAnswer, most_turns}
use Rattle.tdb_law.specs.Plays.Clears.{clears_gate, clears_nothing}
use Rattle.tdb_law.specs.Plays.Gives.{gives_all, gives_answer, gives_command, gives_death, gives_opener, gives_turn, gives_turns}
use Rattle.tdb_law.specs.Plays.Grows.{grows_longer, grows_not}
use Rattle.tdb_law.specs.Plays.Play.{Do, Give, TakeTurn}
use Rattle.tdb_law.specs.World.{State}
use Rattle.tdb_openers.specs.Played.{IsLast, Steps}
use Rattle.tdb_openers.proofs.Joining.Courses.{course_then}
use Rattle.tdb_world.proofs.Courses.Courses.{clears_task}

-- lines that tell that the file grew, and nothing else
abbrev pub AreGrowths : List Line → Type 0
AreGrowths [] = Unit {0}
AreGrowths (Grew from to ∷ lines) = AreGrowths lines
AreGrowths (line ∷ lines) = ⊥

-- Lines of a command that an opener does: of its turns, up to the first that isn't a step, with growths of the file
-- behind each and maybe an undo in front; or one that answers in place of them.
abbrev pub Runs : ℕ → Command → List Line → Type 0
Runs who c [] = Unit {0}
Runs who c (Took o d turn ∷ lines) = (o ≡ who) × (d ≡ c) × GoesOn turn (Runs who c lines) (AreGrowths lines)
Runs who c (Grew from to ∷ lines) = Runs who c lines
Runs who c (Undone bytes to ∷ lines) = Runs who c lines
Runs who c (Absent o ∷ lines) = lines ≡ []
Runs who c (Occupied o ∷ lines) = lines ≡ []
Runs who c (line ∷ lines) = ⊥

module _ (f : Form) (who : ℕ) (c : Command) where
  -- in a state the opener has no other command
  abbrev Only : State → Type 0
  Only s = (t : Task) → s.task who ≡ Some t → t.command ≡ c

  grows_alone : (tail : List Line) → Grows tail → AreGrowths tail
  grows_alone tail (grows_not none) = subst AreGrowths (sym none) tt
  grows_alone tail (grows_longer from to is longer) = subst AreGrowths (sym is) tt

  grows_then : (tail rest : List Line) → Grows tail → Runs who c rest → Runs who c (tail ++ rest)
  grows_then tail rest (grows_not none) R = subst (λ ls. Runs who c (ls ++ rest)) (sym none) R
  grows_then tail rest (grows_longer from to is longer) R = subst (λ ls. Runs who c (ls ++ rest)) (sym is) R

  clears_then : (old mid : State) (front rest : List Line) → Clears f old front mid → Runs who c rest → Runs who c (front ++ rest)
  clears_then old mid front rest (clears_nothing fresh none same) R = subst (λ ls. Runs who c (ls ++ rest)) (sym none) R
  clears_then old mid front rest (clears_gate bytes to is U) R = subst (λ ls. Runs who c (ls ++ rest)) (sym is) R

  -- the command of a turn is the one that the opener has
  its_command : (old new : State) (turn : Turn) (lines : List Line) → Only old → (A : Advances f old who turn lines new) → A.task.command ≡ c
  its_command old new turn lines only A = only A.task (sym (ap (λ g. g who) (clears_task f old A.mid A.front A.clears)) ∙ A.turned.mine)

  -- a step leaves it that command
  step_only : (old new : State) (lines : List Line) → Only old → Advances f old who Step lines new → Only new
  step_only old new lines only A t e =
      let left : record { command = A.task.command; steps = A.task.steps + 1 } ≡ t = (let both = sym A.turned.leaves ∙ e in cc both) in
      ap (λ (u : Task). u.command) (sym left) ∙ its_command old new Step lines only A

  -- a step, and lines behind it; and a turn that isn't one
  step_then : (old new : State) (lines rest : List Line) → Only old → Advances f old who Step lines new → Runs who c rest → Runs who c (lines ++ rest)
  step_then old new lines rest only A R =
      let told : Runs who c (Took who A.task.command Step ∷ (A.tail ++ rest)) = (refl, its_command old new Step lines only A, grows_then A.tail rest A.grows R) in
      let parts : lines ++ rest ≡ A.front ++ (Took who A.task.command Step ∷ (A.tail ++ rest)) = ap (λ ls. ls ++ rest) A.parts ∙ append_assoc A.front (Took who A.task.command Step ∷ A.tail) rest in
      subst (Runs who c) (sym parts) (clears_then old A.mid A.front (Took who A.task.command Step ∷ (A.tail ++ rest)) A.clears told)

  last_goes : (turn : Turn) (More Done : Type 0) → IsLast turn → Done → GoesOn turn More Done
  last_goes Step More Done last done = absurd last
  last_goes (Blocked o b) More Done last done = done
  last_goes (Ends r) More Done last done = done

  last_turn : (old new : State) (turn : Turn) (lines : List Line) → IsLast turn → Only old → Advances f old who turn lines new → Runs who c lines
  last_turn old new turn lines last only A =
      let told : Runs who c (Took who A.task.command turn ∷ A.tail) = (refl, its_command old new turn lines only A, last_goes turn (Runs who c A.tail) (AreGrowths A.tail) last (grows_alone A.tail A.grows)) in
      subst (Runs who c) (sym A.parts) (clears_then old A.mid A.front (Took who A.task.command turn ∷ A.tail) A.clears told)

  -- turns up to the first that isn't a step
  goes_by : (turn : Turn) (k : ℕ) (old mid new : State) (lines front rest : List Line) → lines ≡ front ++ rest → Only old → Advances f old who turn front mid
      → (Only mid → Goes f k mid who rest new → Runs who c rest) → GoesOn turn (Goes f k mid who rest new) ((rest ≡ []) × (new ≡ mid)) → Runs who c lines
  goes_by Step k old mid new lines front rest parts only A more on =
      subst (Runs who c) (sym parts) (step_then old mid front rest only A (more (step_only old mid front only A) on))
  goes_by (Blocked o b) k old mid new lines front rest parts only A more on =
      subst (Runs who c) (sym (parts ∙ ap (λ ls. front ++ ls) on.0 ∙ append-nil front)) (last_turn old mid (Blocked o b) front tt only A)
  goes_by (Ends r) k old mid new lines front rest parts only A more on =
      subst (Runs who c) (sym (parts ∙ ap (λ ls. front ++ ls) on.0 ∙ append-nil front)) (last_turn old mid (Ends r) front tt only A)

  goes_runs : (k : ℕ) (old new : State) (lines : List Line) → Only old → Goes f k old who lines new → Runs who c lines
  goes_runs zero old new lines only goes = absurd goes
  goes_runs (suc k) old new lines only (turn, mid, front, rest, parts, A, on) =
      goes_by turn k old mid new lines front rest parts only A (λ next goes. goes_runs k mid new rest next goes) on

  -- steps alone
  steps_runs : (k : ℕ) (old new : State) (lines : List Line) → Only old → Steps f k old who lines new → Only new × ((rest : List Line) → Runs who c rest → Runs who c (lines ++ rest))
  steps_runs zero old new lines only S = (subst Only (sym S.1) only, λ rest R. subst (λ ls. Runs who c (ls ++ rest)) (sym S.0) R)
  steps_runs (suc k) old new lines only (mid, front, last, parts, S, A) =
      let before = steps_runs k old mid front only S in (
        step_only mid new last before.0 A,
        λ rest R.
            subst (λ ls. Runs who c (ls ++ rest)) (sym parts)
            (subst (Runs who c) (sym (append_assoc front last rest)) (before.1 (last ++ rest) (step_then mid new last rest before.0 A R))),
      )

  given_only : (old new : State) → Given old who c new → Only new
  given_only old new G t e =
      let same : record { command = c; steps = 0 } ≡ t = (let both = sym G.task ∙ e in cc both) in
      ap (λ (u : Task). u.command) (sym same)

  -- one line that answers
  answer_runs : (old : State) (line : Line) → IsAnswer old (Do who c) line → Runs who c (line ∷ [])
  answer_runs old (Absent o) e = refl
  answer_runs old (Occupied o) e = refl
  answer_runs old line e = absurd e

  do_named : (o : ℕ) (d : Command) → Do who c ≡ Do o d → (who ≡ o) × (c ≡ d)
  do_named o d e = (cc e, cc e)

  -- What a command that is done gives, and what one that was begun gives, in front of the undo of a gate.
  pub done_runs : (old new : State) (lines : List Line) → Gives f old (Do who c) lines new → Runs who c lines
  done_runs old new lines (gives_answer line is same answer) = subst (Runs who c) (sym is) (answer_runs old line answer)
  done_runs old new lines (gives_opener o p is J) = absurd (cc p)
  done_runs old new lines (gives_command o d p is G) = absurd (cc p)
  done_runs old new lines (gives_turn o turn p A) = absurd (cc p)
  done_runs old new lines (gives_turns o p goes) = absurd (cc p)
  done_runs old new lines (gives_all o d mid p G goes) =
      let named = do_named o d p in
      goes_runs most_turns mid new lines (given_only old mid (subst (λ (z : ℕ × Command). Given old z.0 z.1 mid) (λ j. (sym named.0 j, sym named.1 j)) G)) (subst (λ z. Goes f most_turns mid z lines new) (sym named.0) goes)
  done_runs old new lines (gives_death o p is D) = absurd (cc p)

  pub begun_runs : (k : ℕ) (old mid new : State) (lines : List Line) → Given old who c mid → Steps f k mid who lines new → Runs who c lines
  begun_runs k old mid new lines G S = subst (Runs who c) (append-nil lines) ((steps_runs k mid new lines (given_only old mid G) S).1 [] tt)

  -- Steps as a course: the command is given, and each turn is a play.
  abbrev turns : ℕ → List Play
  turns zero = []
  turns (suc k) = turns k ++ TakeTurn who ∷ []

  steps_course : (k : ℕ) (old new : State) (lines : List Line) → Steps f k old who lines new → Course f old (turns k) lines new
  steps_course zero old new lines S = S
  steps_course (suc k) old new lines S =
      subst (λ ls. Course f old (turns (suc k)) ls new) (sym S.3)
      (course_then f (turns k) (TakeTurn who) old S.0 new S.1 S.2 (steps_course k old S.0 S.1 S.4) (gives_turn who Step refl S.5))

  pub begun_course : (k : ℕ) (old mid new : State) (lines : List Line) → Given old who c mid → Steps f k mid who lines new → (plays : List Play) × Course f old plays lines new
  begun_course k old mid new lines G S = (Give who c ∷ turns k, (mid, [], lines, refl, gives_command who c refl refl G, steps_course k mid new lines S))
