-- Reports at their end: the lines of what isn't done, and that they are lawful behind those of a course.
use Rattle.std.proofs.Common.{◌≡◌, ℕ, zero, suc, ◌+◌, ◌-◌, ◌≤◌, true, List, [], ◌∷◌, ◌++◌, length, Option, Some, None, refl, sym, ◌∙◌, ap, subst, arith, append_assoc, inl, inr, ◌⊎◌}
use Rattle.tdb_disk.specs.History.{History}
use Rattle.tdb_space.specs.Form.{Form}
use Rattle.tdb_law.specs.Openers.{Task}
use Rattle.tdb_law.specs.World.{State, IsSound}
use Rattle.tdb_law.specs.Replay.{Replay}
use Rattle.tdb_law.specs.Standing.{Stands}
use Rattle.tdb_law.specs.Lines.{Line as LawLine, IsFollowed, IsLawful, next_line, replay}
use Rattle.tdb_law.specs.Plays.Play.{SetLog}
use Rattle.tdb_law.specs.Plays.Gives.{gives_answer}
use Rattle.tdb_law.proofs.Joining.{course_lawful}
use Rattle.tdb_law.proofs.Happening.{told_lawful}
use Rattle.tdb_law.proofs.Plainly.{beginning_lawful}
use Rattle.tdb_commands.specs.declared.line.Line.{Line}
use Rattle.tdb_commands.specs.declared.line.Line.TheVariants.{Unfinished}
use Rattle.tdb_commands.specs.InLaw.{law_lines}
use Rattle.tdb_openers.proofs.Joining.Courses.{course_then}
use Rattle.tdb_world.specs.Whole.{Whole, WorldFits}
use Rattle.tdb_world.specs.States.{IsStateOf}
use Rattle.tdb_world.specs.Steps.{HasCommand}
use Rattle.tdb_world.specs.Courses.Unfinished.{AreUnfinished, TellsUnfinished}
use Rattle.tdb_world.specs.Courses.Laws.{ReportIsLawful, EndsAlike}
use Rattle.tdb_world.proofs.Courses.Standings.{joined_in, has_or_not, busy_never_idle, never_busy_idle}

-- the line of one opener of a world
abbrev pub LineOf : Whole → ℕ → List Line → Type 0
LineOf w o line = (HasCommand w (suc o) × (line ≡ Unfinished (suc o) ∷ [])) ⊎ ((HasCommand w (suc o) → ⊥) × (line ≡ []))

-- and those of one opener more
pub unfinished_more : (w : Whole) (n o m : ℕ) (front line : List Line) → m ≡ o + n → AreUnfinished w o n front → LineOf w m line → AreUnfinished w o (suc n) (front ++ line)
unfinished_more w zero o m front line e none (inl has) =
    let here : m ≡ o = omega (arith, e) in
    inl (subst (λ k. HasCommand w (suc k)) here has.0, [], ap (λ ls. ls ++ line) none ∙ has.1 ∙ ap (λ k. Unfinished (suc k) ∷ []) here, refl)
unfinished_more w zero o m front line e none (inr not) =
    let here : m ≡ o = omega (arith, e) in
    inr (subst (λ k. HasCommand w (suc k) → ⊥) here not.0, ap (λ ls. ls ++ line) none ∙ not.1)
unfinished_more w (suc n) o m front line e (inl has) last =
    inl (has.0, has.1 ++ line, ap (λ ls. ls ++ line) has.2, unfinished_more w n (suc o) m has.1 line (omega (arith, e)) has.3 last)
unfinished_more w (suc n) o m front line e (inr not) last = inr (not.0, unfinished_more w n (suc o) m front line (omega (arith, e)) not.1 last)

-- one opener more was told
abbrev pub Told : Whole → List Line → List Line → ℕ → Type 0
Told w old new n = (told : List Line) × (new ≡ old ++ told) × AreUnfinished w 0 n told

pub one_more : (w : Whole) (old lines new line : List Line) (i : ℕ) → Told w old lines i → new ≡ lines ++ line
    → (HasCommand w (i + 1) × (line ≡ Unfinished (i + 1) ∷ [])) ⊎ ((HasCommand w (i + 1) → ⊥) × (line ≡ [])) → Told w old new (i + 1)
one_more w old lines new line i so_far now last =
    let next : i + 1 ≡ suc i = omega arith in
    let U = unfinished_more w i 0 i so_far.0 line (omega arith) so_far.2 (subst (λ k. (HasCommand w k × (line ≡ Unfinished k ∷ [])) ⊎ ((HasCommand w k → ⊥) × (line ≡ []))) next last) in
    (so_far.0 ++ line, now ∙ (ap (λ ls. ls ++ line) so_far.1 ∙ append_assoc old so_far.0 line), subst (λ k. AreUnfinished w 0 k (so_far.0 ++ line)) (sym next) U)

-- those of all openers from a place on
pub unfinished_rest : (w : Whole) (n o : ℕ) → (lines : List Line) × AreUnfinished w o n lines
unfinished_rest w zero o = ([], refl)
unfinished_rest w (suc n) o =
    let rest = unfinished_rest w n (suc o) in
    elim (has_or_not w (suc o) (omega arith)) [
      | inl has ↦ (Unfinished (suc o) ∷ rest.0, inl (has, rest.0, refl, rest.1))
      | inr not ↦ (rest.0, inr (not, rest.1))
    ]

-- those of the openers in front, and of the others
pub unfinished_join : (w : Whole) (n m o : ℕ) (front rest : List Line) → AreUnfinished w o n front → AreUnfinished w (o + n) m rest → AreUnfinished w o (n + m) (front ++ rest)
unfinished_join w zero m o front rest none U =
    subst (λ ls. AreUnfinished w o (zero + m) (ls ++ rest)) (sym none)
    (subst (λ k. AreUnfinished w o k rest) (let e : m ≡ zero + m = omega arith in e) (subst (λ k. AreUnfinished w k m rest) (let e : o + zero ≡ o = omega arith in e) U))
unfinished_join w (suc n) m o front rest (inl has) U =
    subst (λ k. AreUnfinished w o k (front ++ rest)) (let e : suc (n + m) ≡ suc n + m = omega arith in e)
    (inl (has.0, has.1 ++ rest, ap (λ ls. ls ++ rest) has.2, unfinished_join w n m (suc o) has.1 rest has.3 (subst (λ k. AreUnfinished w k m rest) (let e : o + suc n ≡ suc o + n = omega arith in e) U)))
unfinished_join w (suc n) m o front rest (inr not) U =
    subst (λ k. AreUnfinished w o k (front ++ rest)) (let e : suc (n + m) ≡ suc n + m = omega arith in e)
    (inr (not.0, unfinished_join w n m (suc o) front rest not.1 (subst (λ k. AreUnfinished w k m rest) (let e : o + suc n ≡ suc o + n = omega arith in e) U)))

-- so of all openers, where some were told
pub told_some : (w : Whole) (i all : ℕ) (front : List Line) → i ≤ all → AreUnfinished w 0 i front → (left : List Line) × AreUnfinished w 0 all (front ++ left)
told_some w i all front low U =
    let rest = unfinished_rest w (all - i) (0 + i) in
    (rest.0, subst (λ k. AreUnfinished w 0 k (front ++ rest.0)) (let e : i + (all - i) ≡ all = omega (arith, low) in e) (unfinished_join w i (all - i) 0 front rest.0 U rest.1))

-- What isn't done in a world isn't done in its states.
module _ (w : Whole) (img : List ℕ) (size : ℕ) (F : WorldFits w img size) (h : History) (state : State) (is : IsStateOf w h state) where
  tells_alike : (n o : ℕ) (lines : List Line) → AreUnfinished w o n lines → TellsUnfinished state o n lines
  tells_alike zero o lines U = U
  tells_alike (suc n) o lines (inl has) =
      let place : suc o - 1 ≡ o = omega arith in
      inl (λ none. busy_never_idle w img size F (suc o) h state is has.0 (ap state.task place ∙ none), has.1, has.2, tells_alike n (suc o) has.1 has.3)
  tells_alike (suc n) o lines (inr not) =
      let place : suc o - 1 ≡ o = omega arith in
      inr (sym (ap state.task place) ∙ never_busy_idle w img size F (suc o) (omega arith) not.0 h state is, tells_alike n (suc o) lines not.1)

pub ends_alike : EndsAlike
ends_alike w img size h state lines F is U =
    subst (λ n. TellsUnfinished state 0 n lines) (sym (joined_in w h state is)) (tells_alike w img size F h state is (length w.openers.openers) 0 lines U)

-- a line that may be followed by one may be followed by others
followed_by : (line : LawLine) (rest tail : List LawLine) → IsFollowed line (rest ++ LawLine.LogsLeft 0 ∷ []) → IsFollowed line (rest ++ tail)
followed_by (LawLine.Undone bytes to) [] tail h = absurd h
followed_by (LawLine.Undone bytes to) (LawLine.Took who c turn ∷ rest) tail h = tt
followed_by (LawLine.Undone bytes to) (line ∷ rest) tail h = absurd h
followed_by line rest tail h = tt

lawful_with : (f : Form) (s : Replay) (lines tail : List LawLine) → IsLawful f s (lines ++ LawLine.LogsLeft 0 ∷ []) → IsLawful f (replay f s lines) tail → IsLawful f s (lines ++ tail)
lawful_with f s [] tail L T = T
lawful_with f s (line ∷ lines) tail L T = (L.0, followed_by line lines tail L.1, lawful_with f (next_line f s line) lines tail L.2 T)

-- the lines of what isn't done are lawful in a state
module _ (f : Form) (w : State) (S : IsSound f w) where
  task_live : (o : ℕ) (t : Option Task) → w.task o ≡ t → (w.task o ≡ None → ⊥) → (w.own o).live ≡ true
  task_live o None e busy = absurd (busy e)
  task_live o (Some t) e busy = S.busy_there o t e

  rest_lawful : (n o : ℕ) (lines : List Line) → TellsUnfinished w o n lines → (s : Replay) → Stands f w s → IsLawful f s (law_lines lines)
  rest_lawful zero o lines none s P = subst (λ ls. IsLawful f s (law_lines ls)) (sym none) tt
  rest_lawful (suc n) o lines (inl busy) s P =
      let L = told_lawful f w s (LawLine.Unfinished (suc o - 1)) S P (subst (λ k. ((w.own k).live ≡ true) × (w.task k ≡ None → ⊥)) (let e : o ≡ suc o - 1 = omega arith in e) (task_live o (w.task o) refl busy.0, busy.0)) in
      subst (λ ls. IsLawful f s (law_lines ls)) (sym busy.2) (L.allowed, tt, rest_lawful n (suc o) busy.1 busy.3 (next_line f s (LawLine.Unfinished (suc o - 1))) L.stands)
  rest_lawful (suc n) o lines (inr idle) s P = rest_lawful n (suc o) lines idle.1 s P

pub report_lawful : ReportIsLawful
report_lawful f options old new plays lines more B C E =
    let begun = beginning_lawful f old options B in
    let end = course_lawful f old new plays lines _ begun.0 begun.1 C in
    let set = course_lawful f old new (plays ++ SetLog ∷ []) (lines ++ LawLine.LogsLeft 0 ∷ []) _ begun.0 begun.1
    (course_then f plays SetLog old new new lines (LawLine.LogsLeft 0 ∷ []) C (gives_answer (LawLine.LogsLeft 0) refl refl tt)) in
    lawful_with f _ lines (law_lines more) set.lawful (rest_lawful f new end.sound new.joined 0 more E _ end.stands)
