-- In each round of turns a command goes on, and so a group of commands ends.
use Rattle.std.proofs.Common.{◌≡◌, ℕ, zero, suc, ◌+◌, ◌-◌, ◌*◌, ◌%◌, ◌<◌, ◌≤◌, Bool, true, false, map, List, [], ◌∷◌, ◌++◌, length, Option, Some, None, refl, sym, ◌∙◌, ap, subst, inl, inr, arith}
use Rattle.std.specs.Prelude.{if◌then◌else◌, nat_lt, ◌==◌, min}
use Rattle.std.specs.List.{flat_map, range_with_len}
use Rattle.std.proofs.lemmas.Bool.{cases_eq}
use Rattle.std.proofs.lemmas.List.{append_assoc, map-append}
use Rattle.std.proofs.lemmas.List.Concat.{flat_map-cons}
use Rattle.std.proofs.lemmas.List.FromFn.{length-range_with_len}
use Rattle.tdb_space.specs.Form.{Form}
use Rattle.tdb_law.specs.Beginning.{IsLoaded}
use Rattle.tdb_law.specs.Commands.{Command as LawCommand, Turn}
use Rattle.tdb_law.specs.Events.{Joins, Given}
use Rattle.tdb_law.specs.Held.{holding}
use Rattle.tdb_law.specs.Lines.{Line}
use Rattle.tdb_law.specs.Openers.{Options, Task}
use Rattle.tdb_law.specs.Plays.{Play, Clears, Advances, Gives, Course, IsAnswer}
use Rattle.tdb_law.specs.Plays.Play.{Join, Give, TakeTurn}
use Rattle.tdb_law.specs.World.{State}
use Rattle.tdb_law.proofs.Covered.{none_held}
use Rattle.tdb_law.proofs.Plainly.{beginning_lawful}
use Rattle.tdb_law.proofs.Tests.{never_true}
use Rattle.tdb_commands.specs.InLaw.{law_opener, law_command, law_play, law_plays}
use Rattle.tdb_commands.specs.declared.command.Command.{Command}
use Rattle.tdb_gen.specs.Commands.{kind_of, command_of}
use Rattle.tdb_gen.specs.Numbers.{number_at}
use Rattle.tdb_gen.specs.Plays.{joins, gift, gifts, round, rounds, group_plays}
use Rattle.tdb_gen.specs.Rounds.{IsOnKey, IsBare, IsUnderWay, OnKeys, turns_left, left_of_three, OnlyThree, IsIdle, IsReady, JoinsAreDone, GroupsAreDone}
use Rattle.tdb_gen.proofs.Turns.{IsBelow, Moves, moves_on, stays, Took, no_task, same_task, turn_took}
use Rattle.tdb_gen.proofs.Waiting.{bare_kept}

-- a course in two parts
pub record Parted (f : Form) (ps qs : List Play) (old : State) (lines : List Line) (new : State) : Type 0 where
  pub mid : State
  pub front : List Line
  pub rest : List Line
  pub told : lines ≡ front ++ rest
  pub first : Course f old ps front mid
  pub second : Course f mid qs rest new

pub parted : (f : Form) (ps qs : List Play) (old new : State) (lines : List Line) → Course f old (ps ++ qs) lines new → Parted f ps qs old lines new
parted f [] qs old new lines C = record { mid = old; front = []; rest = lines; told = refl; first = (refl, refl); second = C }
parted f (p ∷ ps) qs old new lines C =
    let q = parted f ps qs C.0 new C.2 C.5 in
    record {
      mid = q.mid;
      front = C.1 ++ q.front;
      rest = q.rest;
      told = C.3 ∙ (ap (λ ls. C.1 ++ ls) q.told ∙ sym (append_assoc C.1 q.front q.rest));
      first = (C.0, C.1, q.front, refl, C.4, q.first);
      second = q.second;
    }

module _ (f : Form) where
  -- a turn that isn't taken changes nothing, and then its opener has no command
  no_turn : (old : State) (who : ℕ) (line : Line) → OnKeys f old → IsAnswer old (TakeTurn who) line → (t : Task) → old.task who ≡ Some t → ⊥
  no_turn old who (Line.Absent o) K answer t is = never_true (sym answer.1 ∙ (ap (λ p. (old.own p).live) answer.0 ∙ (K.busy who t is).live))
  no_turn old who (Line.Idle o) K answer t is = no_task t (sym answer.2 ∙ (ap old.task answer.0 ∙ is))
  no_turn old who (Line.Joined o) K answer t is = answer
  no_turn old who (Line.JoinBlocked o) K answer t is = answer
  no_turn old who (Line.Occupied o) K answer t is = answer
  no_turn old who (Line.LogsLeft n) K answer t is = answer
  no_turn old who (Line.Unfinished o) K answer t is = answer
  no_turn old who (Line.Died o) K answer t is = answer
  no_turn old who Line.JoinMany K answer t is = answer
  no_turn old who Line.JoinMemory K answer t is = answer
  no_turn old who (Line.Took o c turn) K answer t is = answer
  no_turn old who (Line.Grew from to) K answer t is = answer
  no_turn old who (Line.Undone bytes to) K answer t is = answer

  not_taken : (old new : State) (who : ℕ) (line : Line) → OnKeys f old → new ≡ old → IsAnswer old (TakeTurn who) line → Took f old new who
  not_taken old new who line K same answer =
      subst (λ w. Took f old w who) (sym same) (record { keys = K; others = λ o ne. refl; moves = stays (λ o. refl) (λ t is. absurd (no_turn old who line K answer t is)) })

  -- no gate stands open, so none is undone
  pub undone_none : (old mid : State) (lines : List Line) → OnKeys f old → Clears f old lines mid → mid ≡ old
  undone_none old mid lines K (Clears.clears_nothing was none same) = same
  undone_none old mid lines K (Clears.clears_gate bytes to is U) = absurd (never_true (sym K.fresh ∙ U.was))

  advanced : (old new : State) (who : ℕ) (turn : Turn) (lines : List Line) → OnKeys f old → Advances f old who turn lines new → Took f old new who
  advanced old new who turn lines K A =
      let same = undone_none old A.mid A.front K A.clears in
      subst (λ w. Took f w new who) same (turn_took f A.mid new who A.task (subst (OnKeys f) (sym same) K) turn A.turned)

  same_turn : (a b : ℕ) → ◌≡◌ {A = Play} (TakeTurn a) (TakeTurn b) → a ≡ b
  same_turn a b e = cc

  pub turn_given : (old new : State) (who : ℕ) (lines : List Line) → OnKeys f old → Gives f old (TakeTurn who) lines new → Took f old new who
  turn_given old new who lines K (Gives.gives_answer line is same answer) = not_taken old new who line K same answer
  turn_given old new who lines K (Gives.gives_opener o is told J) = absurd (cc is)
  turn_given old new who lines K (Gives.gives_command o c is told G) = absurd (cc is)
  turn_given old new who lines K (Gives.gives_turn o turn is A) = subst (λ p. Took f old new p) (sym (same_turn who o is)) (advanced old new o turn lines K A)
  turn_given old new who lines K (Gives.gives_turns o is A) = absurd (cc is)
  turn_given old new who lines K (Gives.gives_all o c mid is G A) = absurd (cc is)
  turn_given old new who lines K (Gives.gives_death o is told D) = absurd (cc is)

  -- where each command waits for one that has had more steps there is none
  module _ (w : State) (K : OnKeys f w) (below : (o : ℕ) (t : Task) → w.task o ≡ Some t → IsBelow w t) where
    nobody_from : (k o : ℕ) (t : Task) → w.task o ≡ Some t → 7 ≤ t.steps + k → ⊥
    nobody_from zero o t is low = let few = (K.busy o t is).few in absurd (omega (arith, few, low))
    nobody_from (suc k) o t is low = let q = below o t is in let more = q.3 in nobody_from k q.0 q.1 q.2 (omega (arith, low, more))

    nobody : (o : ℕ) → turns_left (w.task o) ≡ 0
    nobody o = none (w.task o) (λ t is. nobody_from 7 o t is (omega arith))
      where
        none : (x : Option Task) → ((t : Task) → x ≡ Some t → ⊥) → turns_left x ≡ 0
        none None never = refl
        none (Some t) never = absurd (never t refl)

  -- a turn never leaves more turns
  fewer : (old new : State) (who : ℕ) → Moves old new who → turns_left (new.task who) ≤ turns_left (old.task who)
  fewer old new who (moves_on less) = omega (arith, less)
  fewer old new who (stays same below) = let e = ap turns_left (same who) in omega (arith, e)

  three_stay : (old new : State) (who : ℕ) → who < 3 → Took f old new who → OnlyThree old → OnlyThree new
  three_stay old new who low T three o high = T.others o (λ e. absurd (omega (arith, low, high, e))) ∙ three o high

  -- three turns, each of another of the three openers
  module _ (old one two new : State) (K : OnKeys f old) (three : OnlyThree old) (A : Took f old one 0) (B : Took f one two 1) (C : Took f two new 2) where
    counts : (left_of_three old ≡ turns_left (old.task 0) + turns_left (old.task 1) + turns_left (old.task 2))
        × (turns_left (one.task 1) ≡ turns_left (old.task 1)) × (turns_left (two.task 2) ≡ turns_left (old.task 2)) × (turns_left (new.task 0) ≡ turns_left (one.task 0)) × (turns_left (new.task 1) ≡ turns_left (two.task 1))
    counts = (
      refl,
      ap turns_left (A.others 1 (λ e. absurd (omega (arith, e)))),
      ap turns_left (B.others 2 (λ e. absurd (omega (arith, e))) ∙ A.others 2 (λ e. absurd (omega (arith, e)))),
      ap turns_left (C.others 0 (λ e. absurd (omega (arith, e))) ∙ B.others 0 (λ e. absurd (omega (arith, e)))),
      ap turns_left (C.others 1 (λ e. absurd (omega (arith, e)))),
    )

    -- nobody went on, so nobody has a command
    all_stay : ((o : ℕ) → one.task o ≡ old.task o) → ((t : Task) → old.task 0 ≡ Some t → IsBelow old t) → ((o : ℕ) → two.task o ≡ one.task o) → ((t : Task) → one.task 1 ≡ Some t → IsBelow one t)
        → ((t : Task) → two.task 2 ≡ Some t → IsBelow two t) → (o : ℕ) → turns_left (old.task o) ≡ 0
    all_stay a first b second third = nobody old K below
      where
        below : (o : ℕ) (t : Task) → old.task o ≡ Some t → IsBelow old t
        below zero t is = first t is
        below (suc zero) t is = let q = second t (a 1 ∙ is) in (q.0, q.1, sym (a q.0) ∙ q.2, q.3)
        below (suc (suc zero)) t is = let q = third t (b 2 ∙ (a 2 ∙ is)) in (q.0, q.1, sym (b q.0 ∙ a q.0) ∙ q.2, q.3)
        below (suc (suc (suc o))) t is = absurd (no_task t (sym (three (suc (suc (suc o))) (omega arith)) ∙ is))

    pub less_left : left_of_three new ≤ left_of_three old - 1
    less_left =
        let e = counts in
        let a = fewer old one 0 A.moves in
        let b = fewer one two 1 B.moves in
        let c = fewer two new 2 C.moves in
        elim A.moves [
          | moves_on less ↦ omega (arith, e, a, b, c, less)
          | stays same first ↦ elim B.moves [
            | moves_on less ↦ omega (arith, e, a, b, c, less)
            | stays again second ↦ elim C.moves [
              | moves_on less ↦ omega (arith, e, a, b, c, less)
              | stays still third ↦ (let none = all_stay same first again second third in omega (arith, e, a, b, c, none 0, none 1, none 2))
            ]
          ]
        ]

  pub round_goes_on : (old new : State) (lines : List Line) → OnKeys f old → OnlyThree old → Course f old (law_plays round) lines new → OnKeys f new × OnlyThree new × (left_of_three new ≤ left_of_three old - 1)
  round_goes_on old new lines K three C =
      let D = C.5 in
      let E = D.5 in
      let one = turn_given old C.0 0 C.1 K C.4 in
      let two = turn_given C.0 D.0 1 D.1 one.keys D.4 in
      let last = turn_given D.0 E.0 2 E.1 two.keys E.4 in
      let stay = three_stay D.0 E.0 2 (omega arith) last (three_stay C.0 D.0 1 (omega arith) two (three_stay old C.0 0 (omega arith) one three)) in
      subst (λ w. OnKeys f w × OnlyThree w × (left_of_three w ≤ left_of_three old - 1)) (sym E.5.1) (last.keys, stay, less_left old C.0 D.0 E.0 K three one two last)

  -- so many rounds
  all_rounds : (ks : List ℕ) (old new : State) (lines : List Line) → OnKeys f old → OnlyThree old → Course f old (law_plays (flat_map (λ i. round) ks)) lines new
      → OnKeys f new × OnlyThree new × (left_of_three new ≤ left_of_three old - length ks)
  all_rounds [] old new lines K three C = subst (λ w. OnKeys f w × OnlyThree w × (left_of_three w ≤ left_of_three old - 0)) (sym C.1) (K, three, omega arith)
  all_rounds (k ∷ ks) old new lines K three C =
      let split = ap law_plays (flat_map-cons (λ (i : ℕ). round) k ks) ∙ map-append law_play round (flat_map (λ i. round) ks) in
      let P = parted f (law_plays round) (law_plays (flat_map (λ i. round) ks)) old new lines (subst (λ ps. Course f old ps lines new) split C) in
      let one = round_goes_on old P.mid P.front K three P.first in
      let rest = all_rounds ks P.mid new P.rest one.0 one.1 P.second in
      (rest.0, rest.1, omega (arith, one.2, rest.2))

  -- a command that is given to one of the three
  module _ (old new : State) (who : ℕ) (c : LawCommand) (K : OnKeys f old) (key : IsOnKey c) (G : Given old who c new) where
    own_same : (o : ℕ) → new.own o ≡ old.own o
    own_same o = ap (λ w. w.own o) G.rest

    spot_same : (o : ℕ) → new.spot o ≡ old.spot o
    spot_same o = ap (λ w. w.spot o) G.rest

    table_same : (o b : ℕ) → new.table o b ≡ old.table o b
    table_same o b = ap (λ w. w.table o b) G.rest

    holds_same : (o b : ℕ) → holding f (old.own o) (old.spot o) (new.task o) b ≡ holding f (old.own o) (old.spot o) (old.task o) b
    holds_same o b =
        elim (cases_eq o who) [
          | inl e ↦ (let before : holding f (old.own o) (old.spot o) (old.task o) b ≡ holding f (old.own o) (old.spot o) None b = ap (λ t. holding f (old.own o) (old.spot o) t b) (ap old.task e ∙ G.idle) in
              let now : holding f (old.own o) (old.spot o) (new.task o) b ≡ holding f (old.own o) (old.spot o) (Some (record { command = c; steps = 0 })) b =
              ap (λ t. holding f (old.own o) (old.spot o) t b) (ap new.task e ∙ G.task) in
              let none = none_held f c (old.own o) (old.spot o) b in
              omega (arith, before, now, none))
          | inr ne ↦ ap (λ t. holding f (old.own o) (old.spot o) t b) (G.others o ne)
        ]

    agrees : (o b : ℕ) → new.table o b ≡ holding f (new.own o) (new.spot o) (new.task o) b
    agrees o b =
        table_same o b ∙ (K.agrees o b ∙ sym (ap (λ y. holding f y (new.spot o) (new.task o) b) (own_same o) ∙ (ap (λ a. holding f (old.own o) a (new.task o) b) (spot_same o) ∙ holds_same o b)))

    busy : (o : ℕ) (t : Task) → new.task o ≡ Some t → IsUnderWay (new.own o) t
    busy o t is =
        subst (λ y. IsUnderWay y t) (sym (own_same o))
        (elim (cases_eq o who) [
          | inl e ↦ (let start = same_task (record { command = c; steps = 0 }) t (sym (ap new.task e ∙ G.task) ∙ is) in
              subst (IsUnderWay (old.own o)) start (record { keyed = key; few = omega arith; live = ap (λ p. (old.own p).live) e ∙ G.live }))
          | inr ne ↦ K.busy o t (sym (G.others o ne) ∙ is)
        ])

    pub given_keys : OnKeys f new
    given_keys = record {
      agrees = agrees;
      bare = λ o. subst IsBare (sym (own_same o)) (K.bare o);
      nowhere = λ o. ap (λ a. a.stands) (spot_same o) ∙ K.nowhere o;
      busy = busy;
      fresh = ap (λ w. w.stale) G.rest ∙ K.fresh;
    }

    pub given_three : who < 3 → OnlyThree old → OnlyThree new
    given_three low three o high = G.others o (λ e. absurd (omega (arith, low, high, e))) ∙ three o high

  pub same_gift : (a b : ℕ) (c d : LawCommand) → ◌≡◌ {A = Play} (Give a c) (Give b d) → (a ≡ b) × (c ≡ d)
  same_gift a b c d e = (let one : a ≡ b = cc in one, let two : c ≡ d = cc in two)

  gift_given : (old new : State) (who : ℕ) (c : LawCommand) (lines : List Line) → who < 3 → IsOnKey c → OnKeys f old → OnlyThree old → Gives f old (Give who c) lines new → OnKeys f new × OnlyThree new
  gift_given old new who c lines low key K three (Gives.gives_answer line is same answer) = subst (λ w. OnKeys f w × OnlyThree w) (sym same) (K, three)
  gift_given old new who c lines low key K three (Gives.gives_opener o is told J) = absurd (cc is)
  gift_given old new who c lines low key K three (Gives.gives_command o d is told G) =
      let q = same_gift who o c d is in
      let now = subst IsOnKey q.1 key in
      (given_keys old new o d K now G, given_three old new o d K now G (subst (λ p. p < 3) q.0 low) three)
  gift_given old new who c lines low key K three (Gives.gives_turn o turn is A) = absurd (cc is)
  gift_given old new who c lines low key K three (Gives.gives_turns o is A) = absurd (cc is)
  gift_given old new who c lines low key K three (Gives.gives_all o d mid is G A) = absurd (cc is)
  gift_given old new who c lines low key K three (Gives.gives_death o is told D) = absurd (cc is)

  -- each command that is made of a number is on one key
  keyed_if : (z : Bool) (a b : Command) → IsOnKey (law_command a) → IsOnKey (law_command b) → IsOnKey (law_command (if z then a else b))
  keyed_if true a b p q = p
  keyed_if false a b p q = q

  pub command_keyed : (x : ℕ) → IsOnKey (law_command (command_of x))
  command_keyed x = keyed_if (nat_lt (kind_of x) 4) _ _ tt (keyed_if (kind_of x == 4) _ _ tt (keyed_if (kind_of x == 5) _ _ tt (keyed_if (kind_of x == 6) _ _ tt tt)))

  all_gifts : (seed : ℕ) (ks : List ℕ) (old new : State) (lines : List Line) → OnKeys f old → OnlyThree old → Course f old (law_plays (map (gift seed) ks)) lines new → OnKeys f new × OnlyThree new
  all_gifts seed [] old new lines K three C = subst (λ w. OnKeys f w × OnlyThree w) (sym C.1) (K, three)
  all_gifts seed (k ∷ ks) old new lines K three C =
      let one = gift_given old C.0 (law_opener (1 + k % 3)) (law_command (command_of (number_at seed k))) C.1 (omega arith) (command_keyed (number_at seed k)) K three C.4 in
      all_gifts seed ks C.0 new C.2 one.0 one.1 C.5

  -- the turns that are left
  most_left : (x : Option Task) → turns_left x ≤ 7
  most_left None = omega arith
  most_left (Some t) = omega arith

  done_where : (w : State) → OnKeys f w → (o : ℕ) (x : Option Task) → w.task o ≡ x → turns_left x ≡ 0 → w.task o ≡ None
  done_where w K o None is none = is
  done_where w K o (Some t) is none = let few = (K.busy o t is).few in absurd (omega (arith, few, none))

  all_done : (w : State) → OnKeys f w → OnlyThree w → left_of_three w ≤ 0 → IsIdle w
  all_done w K three none zero = done_where w K 0 (w.task 0) refl (omega (arith, none))
  all_done w K three none (suc zero) = done_where w K 1 (w.task 1) refl (omega (arith, none))
  all_done w K three none (suc (suc zero)) = done_where w K 2 (w.task 2) refl (omega (arith, none))
  all_done w K three none (suc (suc (suc o))) = three (suc (suc (suc o))) (omega arith)

  pub group_ends : (old new : State) (n seed group : ℕ) (lines : List Line) → IsReady f old → Course f old (law_plays (group_plays n seed group)) lines new → IsReady f new
  group_ends old new n seed group lines R C =
      let given = gifts seed (3 * group) (min 3 (n - 3 * group)) in
      let P = parted f (law_plays given) (law_plays (rounds 24)) old new lines (subst (λ ps. Course f old ps lines new) (map-append law_play given (rounds 24)) C) in
      let begun = all_gifts seed (range_with_len (3 * group) (min 3 (n - 3 * group))) old P.mid P.front R.keys (λ o high. R.idle o) P.first in
      let ended = all_rounds (range_with_len 0 24) P.mid new P.rest begun.0 begun.1 P.second in
      let count = length-range_with_len 0 24 in
      let left = ended.2 in
      let one = most_left (P.mid.task 0) in
      let two = most_left (P.mid.task 1) in
      let three = most_left (P.mid.task 2) in
      record { keys = ended.0; idle = all_done new ended.0 ended.1 (omega (arith, count, left, one, two, three)) }

  -- an opener that joins has nothing
  module _ (old new : State) (who : ℕ) (K : OnKeys f old) (J : Joins f old who new) where
    task_none : (o : ℕ) → o ≡ who → new.task o ≡ None
    task_none o e = ap new.task e ∙ J.nothing.task

    bare_joined : (o : ℕ) → IsBare (new.own o)
    bare_joined o =
        elim (cases_eq o who) [
          | inl e ↦ subst (λ p. IsBare (new.own p)) (sym e) (subst IsBare (sym J.own) (record { txn = refl; counts = refl; all = refl; cursor = refl }))
          | inr ne ↦ subst IsBare (sym (J.stay.own o ne)) (K.bare o)
        ]

    nowhere_joined : (o : ℕ) → (new.spot o).stands ≡ None
    nowhere_joined o =
        elim (cases_eq o who) [ inl e ↦ ap (λ p. (new.spot p).stands) e ∙ ap (λ a. a.stands) J.nothing.spot | inr ne ↦ ap (λ a. a.stands) (J.stay.spot o ne) ∙ K.nowhere o ]

    -- without a command nothing is held
    holds_none : (o b : ℕ) → new.task o ≡ None → holding f (new.own o) (new.spot o) (new.task o) b ≡ 0
    holds_none o b idle =
        let e : holding f (new.own o) (new.spot o) (new.task o) b ≡ holding f (new.own o) (new.spot o) None b = ap (λ t. holding f (new.own o) (new.spot o) t b) idle in
        let none = bare_kept f (new.own o) (new.spot o) b (bare_joined o) (nowhere_joined o) in
        omega (arith, e, none)

    agrees_joined : (o b : ℕ) → new.table o b ≡ holding f (new.own o) (new.spot o) (new.task o) b
    agrees_joined o b =
        elim (cases_eq o who) [
          | inl e ↦ ap (λ p. new.table p b) e ∙ (J.nothing.table b ∙ sym (holds_none o b (task_none o e)))
          | inr ne ↦ J.stay.table o b ne ∙ (K.agrees o b
              ∙ sym (ap (λ y. holding f y (new.spot o) (new.task o) b) (J.stay.own o ne) ∙ (ap (λ a. holding f (old.own o) a (new.task o) b) (J.stay.spot o ne) ∙ ap (λ t. holding f (old.own o) (old.spot o) t b) (J.stay.task o ne))))
        ]

    busy_joined : (o : ℕ) (t : Task) → new.task o ≡ Some t → IsUnderWay (new.own o) t
    busy_joined o t is =
        elim (cases_eq o who) [
          | inl e ↦ absurd (no_task t (sym (task_none o e) ∙ is))
          | inr ne ↦ subst (λ y. IsUnderWay y t) (sym (J.stay.own o ne)) (K.busy o t (sym (J.stay.task o ne) ∙ is))
        ]

    joined_keys : OnKeys f new
    joined_keys = record { agrees = agrees_joined; bare = bare_joined; nowhere = nowhere_joined; busy = busy_joined; fresh = J.stale ∙ K.fresh }

    joined_idle : IsIdle old → IsIdle new
    joined_idle idle o = elim (cases_eq o who) [ inl e ↦ task_none o e | inr ne ↦ J.stay.task o ne ∙ idle o ]

  pub join_given : (old new : State) (lines : List Line) → OnKeys f old → Gives f old Join lines new → OnKeys f new × (IsIdle old → IsIdle new)
  join_given old new lines K (Gives.gives_answer line is same answer) = subst (λ w. OnKeys f w × (IsIdle old → IsIdle w)) (sym same) (K, λ idle. idle)
  join_given old new lines K (Gives.gives_opener o is told J) = (joined_keys old new o K J, joined_idle old new o K J)
  join_given old new lines K (Gives.gives_command o d is told G) = absurd (cc is)
  join_given old new lines K (Gives.gives_turn o turn is A) = absurd (cc is)
  join_given old new lines K (Gives.gives_turns o is A) = absurd (cc is)
  join_given old new lines K (Gives.gives_all o d mid is G A) = absurd (cc is)
  join_given old new lines K (Gives.gives_death o is told D) = absurd (cc is)

  pub joins_ready : (old new : State) (lines : List Line) → IsReady f old → Course f old (law_plays joins) lines new → IsReady f new
  joins_ready old new lines R C =
      let D = C.5 in
      let E = D.5 in
      let one = join_given old C.0 C.1 R.keys C.4 in
      let two = join_given C.0 D.0 D.1 one.0 D.4 in
      let three = join_given D.0 E.0 E.1 two.0 E.4 in
      subst (IsReady f) (sym E.5.1) (record { keys = three.0; idle = three.1 (two.1 (one.1 R.idle)) })

-- so each ends its commands
pub joins_done : JoinsAreDone
joins_done f old new lines R C = joins_ready f old new lines R C

pub groups_done : GroupsAreDone
groups_done n seed group f old new lines R C = group_ends f old new n seed group lines R C

-- a world just loaded is ready
pub loaded_ready : (f : Form) (w : State) (options : Options) → IsLoaded f w options → IsReady f w
loaded_ready f w options L = record {
  keys = record {
    agrees = (beginning_lawful f w options L).0.agrees;
    bare = λ o. subst IsBare (sym (L.own o)) (record { txn = refl; counts = refl; all = refl; cursor = refl });
    nowhere = λ o. ap (λ a. a.stands) (L.spot o);
    busy = λ o t is. absurd (no_task t (sym (L.task o) ∙ is));
    fresh = L.stale;
  };
  idle = L.task;
}
