-- Turns and plays one after the other.
use Rattle.std.proofs.Common.{◌≡◌, ℕ, zero, suc, ◌+◌, ◌-◌, ◌<◌, ◌≤◌, List, [], ◌∷◌, ◌++◌, Bool, true, false, Some, Option, refl, sym, ◌∙◌, ap, subst, inl, inr, arith, append_assoc, append-nil, unwrap_or}
use Rattle.tdb_space.specs.Form.{Form}
use Rattle.tdb_law.specs.Commands.{Turn}
use Rattle.tdb_law.specs.Commands.Turn.{Step, Blocked, Ends}
use Rattle.tdb_law.specs.Openers.{Task}
use Rattle.tdb_law.specs.World.{State}
use Rattle.tdb_law.specs.Lines.{Line}
use Rattle.tdb_law.specs.Plays.{Play, Clears, Advances, Goes, Gives, Course, most_turns}
use Rattle.tdb_law.specs.Plays.Play.{TakeTurn}
use Rattle.tdb_law.specs.Plays.Clears.{clears_nothing, clears_gate}
use Rattle.tdb_law.specs.Plays.Gives.{gives_turn}
use Rattle.tdb_law.proofs.Joining.{commands_end}
use Rattle.tdb_openers.specs.Played.{Steps, StepsThenClears, FirstBegun, ComesTo, Nothing, IsLast, TakesOne, TakesLast, GoesSome, PlaysLast}
use Rattle.tdb_openers.specs.Played.Begun.{begun_not}

-- a turn that isn't a step ends turns that may be this many
last_goes : (f : Form) (k : ℕ) (old new : State) (who : ℕ) (turn : Turn) (lines : List Line) → IsLast turn → Advances f old who turn lines new → Goes f (suc k) old who lines new
last_goes f k old new who Step lines last A = absurd last
last_goes f k old new who (Blocked o b) lines last A = (Blocked o b, new, lines, [], sym (append-nil lines), A, (refl, refl))
last_goes f k old new who (Ends r) lines last A = (Ends r, new, lines, [], sym (append-nil lines), A, (refl, refl))

-- steps, and then turns
steps_goes : (f : Form) (n m : ℕ) (old mid new : State) (who : ℕ) (front rest : List Line) → Steps f n old who front mid → Goes f m mid who rest new → Goes f (n + m) old who (front ++ rest) new
steps_goes f zero m old mid new who front rest S G =
    subst (λ k. Goes f k old who (front ++ rest) new) (let e : m ≡ zero + m = omega arith in e)
    (subst (λ ls. Goes f m old who (ls ++ rest) new) (sym S.0) (subst (λ z. Goes f m z who rest new) S.1 G))
steps_goes f (suc n) m old mid new who front rest S G =
    let more : Goes f (suc m) S.0 who (S.2 ++ rest) new = (Step, mid, S.2, rest, refl, S.5, G) in
    subst (λ k. Goes f k old who (front ++ rest) new) (let e : n + suc m ≡ suc n + m = omega arith in e)
    (subst (λ ls. Goes f (n + suc m) old who ls new) (sym (ap (λ ls. ls ++ rest) S.3 ∙ append_assoc S.1 S.2 rest))
    (steps_goes f n (suc m) old S.0 new who S.1 (S.2 ++ rest) S.4 more))

-- steps, and then a turn that isn't one
pub steps_last : (f : Form) (n : ℕ) (old mid new : State) (who : ℕ) (front rest : List Line) → n < 9 → Steps f n old who front mid → TakesOne f mid who false rest new → Goes f most_turns old who (front ++ rest) new
steps_last f n old mid new who front rest low S T =
    subst (λ k. Goes f k old who (front ++ rest) new) (let e : n + suc (8 - n) ≡ 9 = omega (arith, low) in e)
    (steps_goes f n (suc (8 - n)) old mid new who front rest S (last_goes f (8 - n) mid new who T.0 rest T.1 T.2))

-- steps, and then another
pub steps_step : (f : Form) (n : ℕ) (old mid new : State) (who : ℕ) (front rest : List Line) → Steps f n old who front mid → TakesOne f mid who true rest new → Steps f (n + 1) old who (front ++ rest) new
steps_step f n old mid new who front rest S T =
    let more : Steps f (suc n) old who (front ++ rest) new = (mid, front, rest, refl, S, T) in
    subst (λ k. Steps f k old who (front ++ rest) new) (let e : suc n ≡ n + 1 = omega arith in e) more

-- steps, behind which no gate was undone
pub steps_only : (f : Form) (n : ℕ) (old new : State) (who : ℕ) (lines : List Line) → Steps f n old who lines new → StepsThenClears f n old who lines new
steps_only f n old new who lines S = (new, lines, [], sym (append-nil lines), S, inl (refl, refl))

-- how many steps a command has had that has had a step
record Had (w : State) (who n : ℕ) : Type 0 where
  task : Task
  mine : w.task who ≡ Some task
  least : n ≤ task.steps
  most : task.steps ≤ 8

same_task : (f : Form) (old mid : State) (front : List Line) → Clears f old front mid → mid.task ≡ old.task
same_task f old mid front (clears_nothing ready e same) = ap (λ w. w.task) same
same_task f old mid front (clears_gate bytes to e U) = ap (λ w. w.task) U.rest

abbrev task_of : Task → Option Task → Task
task_of t o = unwrap_or o t

one_more : (f : Form) (old new : State) (who n : ℕ) (lines : List Line) → ((t : Task) → old.task who ≡ Some t → n ≤ t.steps) → Advances f old who Step lines new → Had new who (n + 1)
one_more f old new who n lines had A =
    let T = A.turned in
    let few = (commands_end f A.task.command (A.mid.own who)).0 in
    let row = T.row in
    let least = had A.task (sym (ap (λ g. g who) (same_task f old A.mid A.front A.clears)) ∙ T.mine) in
    record { task = record { command = A.task.command; steps = A.task.steps + 1 }; mine = T.leaves; least = omega (arith, least); most = omega (arith, few, row) }

had_steps : (f : Form) (n : ℕ) (old new : State) (who : ℕ) (lines : List Line) → Steps f (suc n) old who lines new → Had new who (suc n)
had_steps f zero old new who lines S =
    let H = one_more f S.0 new who 0 S.2 (λ t e. omega arith) S.5 in
    let least = H.least in
    record { task = H.task; mine = H.mine; least = omega (arith, least); most = H.most }
had_steps f (suc n) old new who lines S =
    let B = had_steps f n old S.0 who S.1 S.4 in
    let H = one_more f S.0 new who (suc n) S.2 (λ t e. subst (λ u. suc n ≤ u.steps) (ap (task_of t) (sym B.mine ∙ e)) B.least) S.5 in
    let least = H.least in
    record { task = H.task; mine = H.mine; least = omega (arith, least); most = H.most }

-- no command has nine steps
pub steps_few : (f : Form) (old new : State) (who : ℕ) (lines : List Line) → Steps f 9 old who lines new → ⊥
steps_few f old new who lines S =
    let H = had_steps f 8 old new who lines S in
    let least = H.least in
    let most = H.most in
    omega (arith, least, most)

module _ (f : Form) (old : State) where
  -- what is told of a turn, of turns, and of a command that is given and its turns, as of a play
  pub turn_gives : (who : ℕ) (more : Bool) (lines : List Line) (new : State) → TakesOne f old who more lines new → Gives f old (TakeTurn who) lines new
  turn_gives who true lines new T = gives_turn who Step refl T
  turn_gives who false lines new T = gives_turn who T.0 refl T.2

  pub turn_last : (who : ℕ) (lines : List Line) (new : State) → TakesLast f old who lines new → PlaysLast f old (TakeTurn who) lines new
  turn_last who lines new (inl none) = inl (begun_not none.0 none.1)
  turn_last who lines new (inr one) = inr (turn_gives who one.0 lines new one.1)

pub steps_nothing : (f : Form) (n : ℕ) (old mid new : State) (who : ℕ) (front rest : List Line) → Steps f n old who front mid → Nothing mid rest new → GoesSome f old who (front ++ rest) new
steps_nothing f n old mid new who front rest S none =
    (n, subst (λ ls. Steps f n old who ls new) (sym (ap (λ ls. front ++ ls) none.0 ∙ append-nil front)) (subst (Steps f n old who front) (sym none.1) S))

-- plays one after the other
pub course_then : (f : Form) (plays : List Play) (play : Play) (old mid new : State) (front rest : List Line) → Course f old plays front mid → Gives f mid play rest new
    → Course f old (plays ++ play ∷ []) (front ++ rest) new
course_then f [] play old mid new front rest C G =
    (new, rest, [], ap (λ ls. ls ++ rest) C.0 ∙ sym (append-nil rest), subst (λ z. Gives f z play rest new) C.1 G, (refl, refl))
course_then f (p ∷ plays) play old mid new front rest C G =
    (C.0, C.1, C.2 ++ rest, ap (λ ls. ls ++ rest) C.3 ∙ append_assoc C.1 C.2 rest, C.4, course_then f plays play C.0 mid new C.2 rest C.5 G)

-- and other plays behind those
pub course_join : (f : Form) (plays more : List Play) (old mid new : State) (front rest : List Line) → Course f old plays front mid → Course f mid more rest new → Course f old (plays ++ more) (front ++ rest) new
course_join f [] more old mid new front rest C D = subst (λ ls. Course f old more (ls ++ rest) new) (sym C.0) (subst (λ z. Course f z more rest new) C.1 D)
course_join f (play ∷ plays) more old mid new front rest C D =
    (C.0, C.1, C.2 ++ rest, ap (λ ls. ls ++ rest) C.3 ∙ append_assoc C.1 C.2 rest, C.4, course_join f plays more C.0 mid new C.2 rest C.5 D)

-- plays that broke off behind others
pub course_begun : (f : Form) (done left : List Play) (old mid new : State) (front rest : List Line) → Course f old done front mid → FirstBegun f mid left rest new → ComesTo f old (done ++ left) (front ++ rest) new
course_begun f done left old mid new front rest C B = record { done = done; left = left; parts = refl; mid = mid; front = front; rest = rest; told = refl; course = C; begun = B }

nothing_begun : (f : Form) (left : List Play) (w : State) → FirstBegun f w left [] w
nothing_begun f [] w = (refl, refl)
nothing_begun f (play ∷ left) w = begun_not refl refl

pub course_whole : (f : Form) (done left : List Play) (old new : State) (lines : List Line) → Course f old done lines new → ComesTo f old (done ++ left) lines new
course_whole f done left old new lines C =
    subst (λ ls. ComesTo f old (done ++ left) ls new) (append-nil lines) (course_begun f done left old new new lines [] C (nothing_begun f left new))

pub course_last : (f : Form) (done left : List Play) (play : Play) (old mid new : State) (front rest : List Line) → Course f old done front mid → PlaysLast f mid play rest new
    → ComesTo f old (done ++ play ∷ left) (front ++ rest) new
course_last f done left play old mid new front rest C (inl B) = course_begun f done (play ∷ left) old mid new front rest C B
course_last f done left play old mid new front rest C (inr G) =
    subst (λ ps. ComesTo f old ps (front ++ rest) new) (append_assoc done (play ∷ []) left) (course_whole f (done ++ play ∷ []) left old new (front ++ rest) (course_then f done play old mid new front rest C G))
