-- Wherever plays of generated commands come, each unfinished command is on one key.
use Rattle.std.proofs.Common.{ℕ, ◌-◌, ◌*◌, min, map, List, [], ◌∷◌, ◌++◌, sym, subst}
use Rattle.std.specs.List.{AllByRecursion, flat_map, range_with_len}
use Rattle.std.proofs.lemmas.List.{map-append}
use Rattle.std.proofs.lemmas.List.Concat.{flat_map-cons}
use Rattle.tdb_space.specs.Form.{Form}
use Rattle.tdb_law.specs.Commands.{Command}
use Rattle.tdb_law.specs.Lines.{Line}
use Rattle.tdb_law.specs.Plays.{Play, Gives, Course}
use Rattle.tdb_law.specs.Plays.Play.{Join, SetLog, Give, TakeTurn, Go, Do, Die}
use Rattle.tdb_law.specs.World.{State}
use Rattle.tdb_commands.specs.InLaw.{law_play, law_plays}
use Rattle.tdb_commands.specs.declared.play.Play.{Play as CodePlay}
use Rattle.tdb_openers.specs.Played.{Begun, FirstBegun, ComesTo}
use Rattle.tdb_gen.specs.Numbers.{number_at}
use Rattle.tdb_gen.specs.Plays.{joins, gift, gifts, round, rounds, groups, group_plays, group_list, together, gen_plays}
use Rattle.tdb_gen.specs.Rounds.{IsOnKey, OnKeys}
use Rattle.tdb_gen.proofs.GoingOn.{turn_given, undone_none, command_keyed, same_gift, given_keys, join_given}

-- plays of which each keeps what holds of a state, and so what is begun of it
module _ (f : Form) (Holds : State → Type 0) (May : Play → Type 0) (gives : (old new : State) (play : Play) (lines : List Line) → May play → Holds old → Gives f old play lines new → Holds new)
    (begins : (old new : State) (play : Play) (lines : List Line) → May play → Holds old → Begun f old play lines new → Holds new) where
  course_keeps : (plays : List Play) → AllByRecursion May plays → (old new : State) (lines : List Line) → Holds old → Course f old plays lines new → Holds new
  course_keeps [] all old new lines holds C = subst Holds (sym C.1) holds
  course_keeps (play ∷ plays) all old new lines holds C = course_keeps plays all.1 C.0 new C.2 (gives old C.0 play C.1 all.0 holds C.4) C.5

  first_keeps : (plays : List Play) → AllByRecursion May plays → (old new : State) (lines : List Line) → Holds old → FirstBegun f old plays lines new → Holds new
  first_keeps [] all old new lines holds B = subst Holds (sym B.1) holds
  first_keeps (play ∷ plays) all old new lines holds B = begins old new play lines all.0 holds B

  two_parts : (a b : List Play) → AllByRecursion May (a ++ b) → AllByRecursion May a × AllByRecursion May b
  two_parts [] b all = (tt, all)
  two_parts (play ∷ a) b all = let rest = two_parts a b all.1 in ((all.0, rest.0), rest.1)

  comes_keep : (plays : List Play) → AllByRecursion May plays → (old new : State) (lines : List Line) → Holds old → ComesTo f old plays lines new → Holds new
  comes_keep plays all old new lines holds C =
      let both = two_parts C.done C.left (subst (AllByRecursion May) C.parts all) in
      first_keeps C.left both.1 C.mid new C.rest (course_keeps C.done both.0 old C.mid C.front holds C.course) C.begun

all_append : (May : Play → Type 0) (a b : List Play) → AllByRecursion May a → AllByRecursion May b → AllByRecursion May (a ++ b)
all_append May [] b one two = two
all_append May (play ∷ a) b one two = (one.0, all_append May a b one.1 two)

-- a join, a turn, or a gift of a command on one key
abbrev IsKeyed : Play → Type 0
IsKeyed Join = Unit {0}
IsKeyed (TakeTurn who) = Unit {0}
IsKeyed (Give who c) = IsOnKey c
IsKeyed play = ⊥

gift_keys : (f : Form) (old new : State) (who : ℕ) (c : Command) (lines : List Line) → IsOnKey c → OnKeys f old → Gives f old (Give who c) lines new → OnKeys f new
gift_keys f old new who c lines key K (Gives.gives_answer line is same answer) = subst (OnKeys f) (sym same) K
gift_keys f old new who c lines key K (Gives.gives_opener o is told J) = absurd (cc is)
gift_keys f old new who c lines key K (Gives.gives_command o d is told G) = given_keys f old new o d K (subst IsOnKey (same_gift f who o c d is).1 key) G
gift_keys f old new who c lines key K (Gives.gives_turn o turn is A) = absurd (cc is)
gift_keys f old new who c lines key K (Gives.gives_turns o is A) = absurd (cc is)
gift_keys f old new who c lines key K (Gives.gives_all o d mid is G A) = absurd (cc is)
gift_keys f old new who c lines key K (Gives.gives_death o is told D) = absurd (cc is)

keyed_gives : (f : Form) (old new : State) (play : Play) (lines : List Line) → IsKeyed play → OnKeys f old → Gives f old play lines new → OnKeys f new
keyed_gives f old new (TakeTurn who) lines key K G = (turn_given f old new who lines K G).keys
keyed_gives f old new (Give who c) lines key K G = gift_keys f old new who c lines key K G
keyed_gives f old new Join lines key K G = (join_given f old new lines K G).0
keyed_gives f old new SetLog lines key K G = absurd key
keyed_gives f old new (Do who c) lines key K G = absurd key
keyed_gives f old new (Go who) lines key K G = absurd key
keyed_gives f old new (Die who) lines key K G = absurd key

keyed_begun : (f : Form) (old new : State) (play : Play) (lines : List Line) → IsKeyed play → OnKeys f old → Begun f old play lines new → OnKeys f new
keyed_begun f old new play lines key K (Begun.begun_not none same) = subst (OnKeys f) (sym same) K
keyed_begun f old new play lines key K (Begun.begun_turn who is C) = subst (OnKeys f) (sym (undone_none f old new lines K C)) K
keyed_begun f old new play lines key K (Begun.begun_turns who n is S) = absurd (subst IsKeyed is key)
keyed_begun f old new play lines key K (Begun.begun_command who n c mid is G S) = absurd (subst IsKeyed is key)

-- so are all plays of a group, and all plays of generated commands
gifts_keyed : (f : Form) (seed : ℕ) (ks : List ℕ) → AllByRecursion IsKeyed (law_plays (map (gift seed) ks))
gifts_keyed f seed [] = tt
gifts_keyed f seed (k ∷ ks) = (command_keyed f (number_at seed k), gifts_keyed f seed ks)

rounds_keyed : (ks : List ℕ) → AllByRecursion IsKeyed (law_plays (flat_map (λ (i : ℕ). round) ks))
rounds_keyed [] = tt
rounds_keyed (k ∷ ks) = subst (λ ps. AllByRecursion IsKeyed (law_plays ps)) (sym (flat_map-cons (λ (i : ℕ). round) k ks)) (tt, (tt, (tt, rounds_keyed ks)))

keyed_append : (a b : List CodePlay) → AllByRecursion IsKeyed (law_plays a) → AllByRecursion IsKeyed (law_plays b) → AllByRecursion IsKeyed (law_plays (a ++ b))
keyed_append a b one two = subst (AllByRecursion IsKeyed) (sym (map-append law_play a b)) (all_append IsKeyed (law_plays a) (law_plays b) one two)

group_keyed : (f : Form) (n seed group : ℕ) → AllByRecursion IsKeyed (law_plays (group_plays n seed group))
group_keyed f n seed group =
    keyed_append (gifts seed (3 * group) (min 3 (n - 3 * group))) (rounds 24) (gifts_keyed f seed (range_with_len (3 * group) (min 3 (n - 3 * group)))) (rounds_keyed (range_with_len 0 24))

groups_keyed : (f : Form) (n seed : ℕ) (ks : List ℕ) → AllByRecursion IsKeyed (law_plays (together (map (group_plays n seed) ks)))
groups_keyed f n seed [] = tt
groups_keyed f n seed (k ∷ ks) =
    subst (λ ps. AllByRecursion IsKeyed (law_plays ps)) (sym (flat_map-cons (λ (plays : List CodePlay). plays) (group_plays n seed k) (map (group_plays n seed) ks)))
    (keyed_append (group_plays n seed k) (together (map (group_plays n seed) ks)) (group_keyed f n seed k) (groups_keyed f n seed ks))

gen_keyed : (f : Form) (n seed : ℕ) → AllByRecursion IsKeyed (law_plays (gen_plays n seed))
gen_keyed f n seed = keyed_append joins (together (group_list n seed (groups n))) (tt, (tt, (tt, tt))) (groups_keyed f n seed (range_with_len 0 (groups n)))

pub gen_stay : (f : Form) (n seed : ℕ) (old new : State) (lines : List Line) → OnKeys f old → ComesTo f old (law_plays (gen_plays n seed)) lines new → OnKeys f new
gen_stay f n seed old new lines K C = comes_keep f (OnKeys f) IsKeyed (keyed_gives f) (keyed_begun f) (law_plays (gen_plays n seed)) (gen_keyed f n seed) old new lines K C
