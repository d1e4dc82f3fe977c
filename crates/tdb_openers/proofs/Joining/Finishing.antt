-- The lines of plays that broke off are lawful.
use Rattle.std.proofs.Common.{◌≡◌, ℕ, zero, suc, List, [], ◌∷◌, ◌++◌, refl, sym, ◌∙◌, ap, subst, append_assoc, append-nil, inl, inr}
use Rattle.std.specs.Prelude.{◌⊎◌}
use Rattle.tdb_space.specs.Form.{Form}
use Rattle.tdb_law.specs.Commands.Turn.{Step}
use Rattle.tdb_law.specs.World.{State, IsSound}
use Rattle.tdb_law.specs.Replay.{Replay}
use Rattle.tdb_law.specs.Standing.{Stands}
use Rattle.tdb_law.specs.Lines.{Line as LawLine, IsFollowed, IsLawful, next_line, replay}
use Rattle.tdb_law.specs.Plays.{Play, Clears, Course}
use Rattle.tdb_law.specs.Plays.Clears.{clears_nothing, clears_gate}
use Rattle.tdb_law.specs.Plays.Play.{SetLog, TakeTurn, Give}
use Rattle.tdb_law.specs.Plays.Gives.{gives_answer, gives_command, gives_turn}
use Rattle.tdb_law.proofs.Joining.{course_lawful}
use Rattle.tdb_law.proofs.Undoing.{undo_lawful}
use Rattle.tdb_law.proofs.Plainly.{beginning_lawful}
use Rattle.tdb_openers.specs.Played.{Steps, Begun, FirstBegun, BrokenIsLawful}
use Rattle.tdb_openers.specs.Played.Begun.{begun_not, begun_turn, begun_turns, begun_command}
use Rattle.tdb_openers.proofs.Joining.Courses.{course_join, course_then}

-- a line that may be followed by one may be followed by others
followed_by : (line : LawLine) (rest tail : List LawLine) → IsFollowed line (rest ++ LawLine.LogsLeft 0 ∷ []) → IsFollowed line (rest ++ tail)
followed_by (LawLine.Undone bytes to) [] tail h = absurd h
followed_by (LawLine.Undone bytes to) (LawLine.Took who c turn ∷ rest) tail h = tt
followed_by (LawLine.Undone bytes to) (line ∷ rest) tail h = absurd h
followed_by line rest tail h = tt

lawful_with : (f : Form) (s : Replay) (lines tail : List LawLine) → IsLawful f s (lines ++ LawLine.LogsLeft 0 ∷ []) → IsLawful f (replay f s lines) tail → IsLawful f s (lines ++ tail)
lawful_with f s [] tail L T = T
lawful_with f s (line ∷ lines) tail L T = (L.0, followed_by line lines tail L.1, lawful_with f (next_line f s line) lines tail L.2 T)

-- the lines of a course may be followed by one that asks for nothing in front of it
followed_lawful : (f : Form) (old new : State) (plays : List Play) (lines : List LawLine) (s : Replay) → IsSound f old → Stands f old s → Course f old plays lines new
    → IsLawful f s (lines ++ LawLine.LogsLeft 0 ∷ [])
followed_lawful f old new plays lines s S P C =
    (course_lawful f old new (plays ++ SetLog ∷ []) (lines ++ LawLine.LogsLeft 0 ∷ []) s S P
    (course_then f plays SetLog old new new lines (LawLine.LogsLeft 0 ∷ []) C (gives_answer (LawLine.LogsLeft 0) refl refl tt))).lawful

-- turns as plays of their own
abbrev turns : ℕ → ℕ → List Play
turns zero who = []
turns (suc n) who = turns n who ++ TakeTurn who ∷ []

steps_course : (f : Form) (n : ℕ) (old new : State) (who : ℕ) (lines : List LawLine) → Steps f n old who lines new → Course f old (turns n who) lines new
steps_course f zero old new who lines S = S
steps_course f (suc n) old new who lines S =
    subst (λ ls. Course f old (turns (suc n) who) ls new) (sym S.3)
    (course_then f (turns n who) (TakeTurn who) old S.0 new S.1 S.2 (steps_course f n old S.0 who S.1 S.4) (gives_turn who Step refl S.5))

-- Plays that were taken whole, and behind them an open gate may have been undone, with a line of its own.
record Cleared (f : Form) (old : State) (lines : List LawLine) (new : State) : Type 0 where
  plays : List Play
  mid : State
  front : List LawLine
  rest : List LawLine
  told : lines ≡ front ++ rest
  course : Course f old plays front mid
  last : ((rest ≡ []) × (new ≡ mid)) ⊎ Clears f mid rest new

-- what was begun of a play, as such plays
begun_cleared : (f : Form) (old new : State) (play : Play) (lines : List LawLine) → Begun f old play lines new → Cleared f old lines new
begun_cleared f old new play lines (begun_not none same) =
    record { plays = []; mid = old; front = []; rest = lines; told = refl; course = (refl, refl); last = inl (none, same) }
begun_cleared f old new play lines (begun_turn who is C) =
    record { plays = []; mid = old; front = []; rest = lines; told = refl; course = (refl, refl); last = inr C }
begun_cleared f old new play lines (begun_turns who n is S) =
    record { plays = turns n who; mid = S.0; front = S.1; rest = S.2; told = S.3; course = steps_course f n old S.0 who S.1 S.4; last = S.5 }
begun_cleared f old new play lines (begun_command who n c mid is G S) = record {
  plays = Give who c ∷ turns n who;
  mid = S.0;
  front = S.1;
  rest = S.2;
  told = S.3;
  course = (mid, [], S.1, refl, gives_command who c refl refl G, steps_course f n mid S.0 who S.1 S.4);
  last = S.5;
}

first_cleared : (f : Form) (left : List Play) (old new : State) (lines : List LawLine) → FirstBegun f old left lines new → Cleared f old lines new
first_cleared f [] old new lines B = record { plays = []; mid = old; front = []; rest = lines; told = refl; course = (refl, refl); last = inl B }
first_cleared f (play ∷ left) old new lines B = begun_cleared f old new play lines B

-- The lines of a course, behind which a gate may have been undone, are lawful: that line ends them.
module _ (f : Form) (old mid new : State) (plays : List Play) (front : List LawLine) (s : Replay) (S : IsSound f old) (P : Stands f old s) (C : Course f old plays front mid) where
  alone_lawful : (rest : List LawLine) → rest ≡ [] → IsLawful f s (front ++ rest)
  alone_lawful rest none = subst (IsLawful f s) (sym (ap (λ ls. front ++ ls) none ∙ append-nil front)) (course_lawful f old mid plays front s S P C).lawful

  cleared_lawful : (rest : List LawLine) → Clears f mid rest new → IsLawful f s (front ++ rest)
  cleared_lawful rest (clears_nothing fresh none same) = alone_lawful rest none
  cleared_lawful rest (clears_gate bytes to is U) =
      let end = course_lawful f old mid plays front s S P C in
      let gate = undo_lawful f mid new bytes to (replay f s front) end.sound end.stands U in
      subst (λ ls. IsLawful f s (front ++ ls)) (sym is)
      (lawful_with f s front (LawLine.Undone bytes to ∷ []) (followed_lawful f old mid plays front s S P C) (gate.allowed, tt, tt))

  last_lawful : (rest : List LawLine) → ((rest ≡ []) × (new ≡ mid)) ⊎ Clears f mid rest new → IsLawful f s (front ++ rest)
  last_lawful rest (inl none) = alone_lawful rest none.0
  last_lawful rest (inr clears) = cleared_lawful rest clears

pub broken_lawful : BrokenIsLawful
broken_lawful f options old new plays lines B T =
    let begun = beginning_lawful f old options B in
    let more = first_cleared f T.left T.mid new T.rest T.begun in
    let parts : lines ≡ (T.front ++ more.front) ++ more.rest = T.told ∙ (ap (λ ls. T.front ++ ls) more.told ∙ sym (append_assoc T.front more.front more.rest)) in
    subst (IsLawful f _) (sym parts)
    (last_lawful f old more.mid new (T.done ++ more.plays) (T.front ++ more.front) _ begun.0 begun.1 (course_join f T.done more.plays old T.mid more.mid T.front more.front T.course more.course) more.rest more.last)
