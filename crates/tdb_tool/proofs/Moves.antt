-- Moves of a cursor that give pairs: each comes to a key to which the walk hasn't come before.
use Rattle.std.proofs.Common.{◌≡◌, ℕ, zero, suc, ◌+◌, ◌<◌, Bool, true, false, List, [], ◌∷◌, ◌++◌, Option, None, Some, unwrap_or, refl, sym, ◌∙◌, ap, subst, inl, inr, arith}
use Rattle.std.specs.Prelude.{◌||◌}
use Rattle.std.specs.FinMap.{get}
use Rattle.std.specs.List.{list_any}
use Rattle.std.proofs.lemmas.Bool.{false≢true}
use Rattle.std.proofs.lemmas.List.Folds.{list_any-append}
use Rattle.tdb_space.specs.Form.{Form}
use Rattle.tdb_space.specs.Pairs.{home}
use Rattle.tdb_law.specs.Commands.{WalkCommand, Command, Reply, Turn}
use Rattle.tdb_law.specs.Commands.Command.{OnWalk}
use Rattle.tdb_law.specs.Commands.Reply.{Done, Pair}
use Rattle.tdb_law.specs.Commands.Turn.{Step, Blocked, Ends}
use Rattle.tdb_law.specs.Commands.WalkCommand.{First, Next, EndWalk, Close}
use Rattle.tdb_law.specs.Effects.{Effect, Finds, finds_pair, finds_end}
use Rattle.tdb_law.specs.Effects.Effect.{effect_waits, effect_goes_on, effect_changes, effect_answers, effect_shows, effect_starves, effect_is_full, effect_is_busy, effect_numbers, effect_finishes}
use Rattle.tdb_law.specs.Events.{Given}
use Rattle.tdb_law.specs.Lines.{Line}
use Rattle.tdb_law.specs.Lines.Line.{Took}
use Rattle.tdb_law.specs.Openers.{Own, Txn, Map, Mark, Task, image_or, seen}
use Rattle.tdb_law.specs.Outcomes.{moves, told_by, map_by, own_by, own_spared}
use Rattle.tdb_law.specs.Plays.{Clears, Grows, GoesOn, Goes, most_turns, IsAnswer, Gives}
use Rattle.tdb_law.specs.Plays.Clears.{clears_nothing, clears_gate}
use Rattle.tdb_law.specs.Plays.Grows.{grows_not, grows_longer}
use Rattle.tdb_law.specs.Plays.Gives.{gives_answer, gives_opener, gives_command, gives_turn, gives_turns, gives_all, gives_death}
use Rattle.tdb_law.specs.Plays.Play.{Do}
use Rattle.tdb_law.specs.Refusals.{Refusal, refusal}
use Rattle.tdb_law.specs.Refusals.Refusal.{OnlyReads, IsPrepared, LocksStand, NothingLocked, NeverNests, NoneOpen, IsDoomed}
use Rattle.tdb_law.specs.Turned.{Turned}
use Rattle.tdb_law.specs.Walks.{Shift, Arrives, Walked, begins}
use Rattle.tdb_law.specs.Walks.Walked.{walk_steps, walk_rests, walk_ends, walk_arrives, walk_finishes, walk_halts, walk_fails}
use Rattle.tdb_law.specs.World.{State}

-- a turn ends with a pair, and a line tells one
abbrev pub ends_pair : Turn → Bool
ends_pair (Ends (Pair k v)) = true
ends_pair turn = false

abbrev pub shows : Line → Bool
shows (Took who c turn) = ends_pair turn
shows line = false

-- a command that moves a cursor
abbrev pub IsMove : WalkCommand → Type 0
IsMove First = Unit {0}
IsMove Next = Unit {0}
IsMove w = ⊥

module _ (f : Form) (who : ℕ) where
  -- the walk has come past a key
  abbrev pub Passed : State → List ℕ → Type 0
  Passed w k = ((w.mark who).ahead k ≡ false) × (home f k < (w.mark who).reached)

  -- the map that the opener sees
  abbrev pub sight : State → Map
  sight w = seen (w.own who) w.file

  -- something happened in which the opener and its sight stay, and nothing comes ahead again
  record Stays (old new : State) : Type 0 where
    own : new.own who ≡ old.own who
    sees : sight new ≡ sight old
    passed : (k : List ℕ) → Passed old k → Passed new k

  same_sight : (old new : State) → (new.own who).txn ≡ (old.own who).txn → new.file ≡ old.file → sight new ≡ sight old
  same_sight old new txn file = ap (λ (q : Option Txn × Map). image_or q.0 q.1) (λ j. (txn j, file j))

  shift_passed : (lost : List ℕ → Type 0) (old new : State) → Shift f lost (old.mark who) (new.mark who) → (k : List ℕ) → Passed old k → Passed new k
  shift_passed lost old new s k p = (off ((new.mark who).ahead k) refl, (let r = s.reached in omega (arith, r, p.1)))
    where
      off : (b : Bool) → (new.mark who).ahead k ≡ b → (new.mark who).ahead k ≡ false
      off false e = e
      off true e = elim (s.fewer k e) [ inl was ↦ absurd (false≢true (sym p.0 ∙ was)) | inr far ↦ absurd (let r = p.1 in omega (arith, r, far)) ]

  clears_stay : (old new : State) (lines : List Line) → Clears f old lines new → Stays old new × (new.task who ≡ old.task who) × (list_any shows lines ≡ false)
  clears_stay old new lines (clears_nothing live none same) = (
    record { own = ap (λ w. w.own who) same; sees = ap sight same; passed = λ k p. subst (λ w. Passed w k) (sym same) p },
    ap (λ w. w.task who) same,
    ap (list_any shows) none,
  )
  clears_stay old new lines (clears_gate bytes to is undoes) = (
    record {
      own = ap (λ w. w.own who) undoes.rest;
      sees = same_sight old new (ap (λ w. (w.own who).txn) undoes.rest) (ap (λ w. w.file) undoes.rest);
      passed = shift_passed _ old new (undoes.walk who);
    },
    ap (λ w. w.task who) undoes.rest,
    ap (list_any shows) is,
  )

  grows_silent : (lines : List Line) → Grows lines → list_any shows lines ≡ false
  grows_silent lines (grows_not none) = ap (list_any shows) none
  grows_silent lines (grows_longer from to is more) = ap (list_any shows) is

  -- a move doesn't change the map of the file, nor the opener's transaction
  map_stays : (q : Option Refusal) (w : WalkCommand) (x : Own) (m : Map) → map_by q (OnWalk w) x m ≡ m
  map_stays None w x m = refl
  map_stays (Some q) w x m = refl

  txn_stays : (q : Option Refusal) (w : WalkCommand) → IsMove w → (x : Own) (n : ℕ) (r : Reply) (m : Map) → (own_by f q (OnWalk w) x n r m).txn ≡ x.txn
  txn_stays None First move x n r m = refl
  txn_stays None Next move x n r m = refl
  txn_stays None EndWalk move x n r m = absurd move
  txn_stays None Close move x n r m = absurd move
  txn_stays (Some q) w move x n r m = refl

  txn_spared : (w : WalkCommand) → IsMove w → (x : Own) → (own_spared (OnWalk w) x).txn ≡ x.txn
  txn_spared First move x = refl
  txn_spared Next move x = refl
  txn_spared EndWalk move x = absurd move
  txn_spared Close move x = absurd move

  module _ (w : WalkCommand) (move : IsMove w) where
    module _ (free : Type 0) (conflict : ℕ → ℕ → Type 0) (finds : Reply → Type 0) (number n : ℕ) (x y : Own) (file next : Map) (turn : Turn) where
      abbrev Does : Type 0
      Does = Effect f free conflict finds number (OnWalk w) n x file turn y next

      effect_file : Does → next ≡ file
      effect_file (effect_waits o b is c u same own) = same
      effect_file (effect_goes_on is c u same own) = same
      effect_file (effect_changes is c l u v d same own) = same ∙ map_stays (refusal f (OnWalk w) x) w x file
      effect_file (effect_answers r is c m t l u d same own) = same ∙ map_stays (refusal f (OnWalk w) x) w x file
      effect_file (effect_shows r is c m t same own) = same
      effect_file (effect_starves is s u same own) = same
      effect_file (effect_is_full len need is c l t u d same own) = same
      effect_file (effect_is_busy o b is c s same own) = same
      effect_file (effect_numbers q is c t u same own) = same
      effect_file (effect_finishes is c u same own) = same

      effect_txn : Does → y.txn ≡ x.txn
      effect_txn (effect_waits o b is c u same own) = ap (λ z. z.txn) own
      effect_txn (effect_goes_on is c u same own) = ap (λ z. z.txn) own
      effect_txn (effect_changes is c l u v d same own) = ap (λ z. z.txn) own
      effect_txn (effect_answers r is c m t l u d same own) = ap (λ z. z.txn) own ∙ txn_stays (refusal f (OnWalk w) x) w move x n r file
      effect_txn (effect_shows r is c m t same own) = ap (λ z. z.txn) own ∙ txn_stays (refusal f (OnWalk w) x) w move x n r file
      effect_txn (effect_starves is s u same own) = ap (λ z. z.txn) own ∙ txn_spared w move x
      effect_txn (effect_is_full len need is c l t u d same own) = ap (λ z. z.txn) own ∙ txn_spared w move x
      effect_txn (effect_is_busy o b is c s same own) = ap (λ z. z.txn) own ∙ txn_spared w move x
      effect_txn (effect_numbers q is c t u same own) = ap (λ z. z.txn) own
      effect_txn (effect_finishes is c u same own) = ap (λ z. z.txn) own ∙ txn_stays (refusal f (OnWalk w) x) w move x n Done file

      step_own : turn ≡ Step → Does → y ≡ x
      step_own step (effect_waits o b is c u same own) = absurd (cc)
      step_own step (effect_goes_on is c u same own) = own
      step_own step (effect_changes is c l u v d same own) = own
      step_own step (effect_answers r is c m t l u d same own) = absurd (cc)
      step_own step (effect_shows r is c m t same own) = absurd (cc)
      step_own step (effect_starves is s u same own) = absurd (cc)
      step_own step (effect_is_full len need is c l t u d same own) = absurd (cc)
      step_own step (effect_is_busy o b is c s same own) = absurd (cc)
      step_own step (effect_numbers q is c t u same own) = absurd (cc)
      step_own step (effect_finishes is c u same own) = absurd (cc)

      -- a pair is told by a move that has found it
      no_pair : (q : Option Refusal) (k v : List ℕ) → Pair k v ≡ told_by q (OnWalk w) x file → ⊥
      no_pair None k v is = of w is
        where
          of : (z : WalkCommand) → Pair k v ≡ told_by None (OnWalk z) x file → ⊥
          of First e = cc
          of Next e = cc
          of EndWalk e = cc
          of Close e = cc
      no_pair (Some OnlyReads) k v is = cc
      no_pair (Some IsPrepared) k v is = cc
      no_pair (Some LocksStand) k v is = cc
      no_pair (Some NothingLocked) k v is = cc
      no_pair (Some NeverNests) k v is = cc
      no_pair (Some NoneOpen) k v is = cc
      no_pair (Some IsDoomed) k v is = cc

      effect_pair : (k v : List ℕ) → turn ≡ Ends (Pair k v) → Does → finds (Pair k v) × (moves f (OnWalk w) x ≡ true)
      effect_pair k v ends (effect_waits o b is c u same own) = absurd (cc)
      effect_pair k v ends (effect_goes_on is c u same own) = absurd (cc)
      effect_pair k v ends (effect_changes is c l u t d same own) = absurd (cc)
      effect_pair k v ends (effect_answers r is c m t l u d same own) = absurd (no_pair (refusal f (OnWalk w) x) k v (let e : Pair k v ≡ r = cc in e ∙ d))
      effect_pair k v ends (effect_shows r is c m t same own) = (subst finds (let e : r ≡ Pair k v = cc in e) t, m)
      effect_pair k v ends (effect_starves is s u same own) = absurd (cc)
      effect_pair k v ends (effect_is_full len need is c l t u d same own) = absurd (cc)
      effect_pair k v ends (effect_is_busy o b is c s same own) = absurd (cc)
      effect_pair k v ends (effect_numbers q is c t u same own) = absurd (cc)
      effect_pair k v ends (effect_finishes is c u same own) = absurd (cc)

    -- the same of a turn whose command is known by an equation
    module _ (free : Type 0) (conflict : ℕ → ℕ → Type 0) (finds : Reply → Type 0) (number n : ℕ) (x y : Own) (file next : Map) (turn : Turn) (c : Command) (is : c ≡ OnWalk w) (e : Effect f free conflict finds number c n x file turn y next) where
      effect_here : Effect f free conflict finds number (OnWalk w) n x file turn y next
      effect_here = subst (λ d. Effect f free conflict finds number d n x file turn y next) is e

      sight_here : image_or y.txn next ≡ image_or x.txn file
      sight_here =
          let txn = effect_txn free conflict finds number n x y file next turn effect_here in
          let same = effect_file free conflict finds number n x y file next turn effect_here in
          ap (λ (q : Option Txn × Map). image_or q.0 q.1) (λ j. (txn j, same j))

      own_here : turn ≡ Step → y ≡ x
      own_here step = step_own free conflict finds number n x y file next turn step effect_here

      pair_here : (k v : List ℕ) → turn ≡ Ends (Pair k v) → finds (Pair k v) × (moves f (OnWalk w) x ≡ true)
      pair_here k v ends = effect_pair free conflict finds number n x y file next turn k v ends effect_here

    found : (table want : ℕ → ℕ) (m : Map) (k v : List ℕ) → Finds f table want m (Pair k v) → get m k ≡ Some v
    found table want m k v (finds_pair q u is there held) = (let a : k ≡ q = cc in let b : v ≡ u = cc in ap (get m) a ∙ there ∙ ap Some (sym b))
    found table want m k v (finds_end is) = absurd (cc)

    arrives : (old new : State) (n : ℕ) (k v : List ℕ) → moves f (OnWalk w) (old.own who) ≡ true → Walked f old new who (OnWalk w) n (Ends (Pair k v)) → Arrives f old new who (begins f (OnWalk w) (old.own who) (old.spot who)) k
    arrives old new n k v moving (walk_steps is s) = absurd (cc)
    arrives old new n k v moving (walk_rests o b is g s) = absurd (cc)
    arrives old new n k v moving (walk_ends r is still s) = absurd (false≢true (sym still ∙ moving))
    arrives old new n k v moving (walk_arrives q u is m A) = subst (Arrives f old new who (begins f (OnWalk w) (old.own who) (old.spot who))) (let e : q ≡ k = cc in e) A
    arrives old new n k v moving (walk_finishes is m F) = absurd (cc)
    arrives old new n k v moving (walk_halts o b is m g i M) = absurd (cc)
    arrives old new n k v moving (walk_fails is m) = absurd (cc)

    -- A move that wasn't refused came to a key of the opener's sight; a Next to one that the walk hadn't passed, and
    -- what it had passed it has passed still.
    pub record Comes (old new : State) : Type 0 where
      pub moving : moves f (OnWalk w) (old.own who) ≡ true
      pub key : List ℕ
      pub value : List ℕ
      pub there : get (sight old) key ≡ Some value
      pub sees : sight new ≡ sight old
      pub passed : Passed new key
      pub fresh : w ≡ Next → Passed old key → ⊥
      pub kept : w ≡ Next → (k : List ℕ) → Passed old k → Passed new k

    comes_behind : (old mid new : State) → Stays old mid → Comes mid new → Comes old new
    comes_behind old mid new s c = record {
      moving = subst (λ x. moves f (OnWalk w) x ≡ true) s.own c.moving;
      key = c.key;
      value = c.value;
      there = ap (λ m. get m c.key) (sym s.sees) ∙ c.there;
      sees = c.sees ∙ s.sees;
      passed = c.passed;
      fresh = λ is p. c.fresh is (s.passed c.key p);
      kept = λ is k p. c.kept is k (s.passed k p);
    }

    -- one turn
    module _ (old new : State) (task : Task) (is : task.command ≡ OnWalk w) where
      step_stays : Turned f old who task Step new → Stays old new
      step_stays t = record { own = own_here _ _ _ _ _ _ _ _ _ _ _ is t.effect refl; sees = sight_here _ _ _ _ _ _ _ _ _ _ _ is t.effect; passed = of t.walks }
        where
          of : Walked f old new who task.command task.steps Step → (k : List ℕ) → Passed old k → Passed new k
          of (walk_steps e s) = shift_passed _ old new s
          of (walk_rests o b e g s) = absurd (cc)
          of (walk_ends r e still s) = absurd (cc)
          of (walk_arrives q u e m A) = absurd (cc)
          of (walk_finishes e m F) = absurd (cc)
          of (walk_halts o b e m g i M) = absurd (cc)
          of (walk_fails e m) = absurd (cc)

      pair_comes : (k v : List ℕ) → Turned f old who task (Ends (Pair k v)) new → Comes old new
      pair_comes k v t =
          let p = pair_here _ _ _ _ _ _ _ _ _ _ _ is t.effect k v refl in
          let A = arrives old new task.steps k v p.1 (subst (λ c. Walked f old new who c task.steps (Ends (Pair k v))) is t.walks) in
          record {
            moving = p.1;
            key = k;
            value = v;
            there = found _ _ (sight old) k v p.0;
            sees = sight_here _ _ _ _ _ _ _ _ _ _ _ is t.effect;
            passed = (A.behind, A.reached);
            fresh = λ e q. false≢true (sym q.0 ∙ A.was (moves_on w e));
            kept = λ e q r. (off A e q r, (let further = A.moved.further (moves_on w e) in omega (arith, further, r.1)));
          }
        where
          moves_on : (z : WalkCommand) → z ≡ Next → begins f (OnWalk z) (old.own who) (old.spot who) ≡ false
          moves_on First e = absurd (cc)
          moves_on Next e = refl
          moves_on EndWalk e = refl
          moves_on Close e = refl

          off : Arrives f old new who (begins f (OnWalk w) (old.own who) (old.spot who)) k → w ≡ Next → (q : List ℕ) → Passed old q → (new.mark who).ahead q ≡ false
          off A e q r = of ((new.mark who).ahead q) refl
            where
              of : (b : Bool) → (new.mark who).ahead q ≡ b → (new.mark who).ahead q ≡ false
              of false s = s
              of true s = absurd (false≢true (sym r.0 ∙ A.moved.fewer (moves_on w e) q s))

    -- turns up to the last
    shown_in : (front rest : List Line) → list_any shows (front ++ rest) ≡ (list_any shows front || list_any shows rest)
    shown_in front rest = list_any-append shows front rest

    silent_front : (before : List Line) (c : Command) (turn : Turn) (tail : List Line) → list_any shows before ≡ false → list_any shows tail ≡ false → list_any shows (before ++ Took who c turn ∷ tail) ≡ ends_pair turn
    silent_front before c turn tail one two = shown_in before (Took who c turn ∷ tail) ∙ ap (λ b. b || (ends_pair turn || list_any shows tail)) one ∙ ap (λ b. ends_pair turn || b) two ∙ or_false (ends_pair turn)
      where
        or_false : (b : Bool) → (b || false) ≡ b
        or_false true = refl
        or_false false = refl

    goes_comes : (n : ℕ) (old new : State) (lines : List Line) (task : Task) → old.task who ≡ Some task → task.command ≡ OnWalk w → Goes f n old who lines new → list_any shows lines ≡ true → Comes old new
    goes_comes zero old new lines task mine is goes shown = absurd goes
    goes_comes (suc n) old new lines task mine is (turn, mid, front, rest, parts, adv, on) shown = comes_behind old adv.mid new clear.0 (of (goes_comes n mid new rest) turn adv.turned on refl)
      where
        clear : Stays old adv.mid × (adv.mid.task who ≡ old.task who) × (list_any shows adv.front ≡ false)
        clear = clears_stay old adv.mid adv.front adv.clears

        same_task : adv.task ≡ task
        same_task = ap (λ o. unwrap_or o task) (sym adv.turned.mine ∙ clear.1 ∙ mine)

        command : adv.task.command ≡ OnWalk w
        command = ap (λ t. t.command) same_task ∙ is

        front_shows : list_any shows front ≡ ends_pair turn
        front_shows = ap (list_any shows) adv.parts ∙ silent_front adv.front adv.task.command turn adv.tail clear.2 (grows_silent adv.tail adv.grows)

        both_show : (list_any shows front || list_any shows rest) ≡ true
        both_show = sym (shown_in front rest) ∙ ap (list_any shows) (sym parts) ∙ shown

        later_shows : ends_pair turn ≡ false → list_any shows rest ≡ true
        later_shows no_pair_now = ap (λ b. b || list_any shows rest) (sym no_pair_now) ∙ ap (λ b. b || list_any shows rest) (sym front_shows) ∙ both_show

        not_done : ends_pair turn ≡ false → rest ≡ [] → ⊥
        not_done none over = false≢true (ap (list_any shows) (sym over) ∙ later_shows none)

        of : ((task : Task) → mid.task who ≡ Some task → task.command ≡ OnWalk w → Goes f n mid who rest new → list_any shows rest ≡ true → Comes mid new)
            → (t : Turn) → Turned f adv.mid who adv.task t mid → GoesOn t (Goes f n mid who rest new) ((rest ≡ []) × (new ≡ mid)) → ends_pair turn ≡ ends_pair t → Comes adv.mid new
        of again Step t more same = comes_behind adv.mid mid new (step_stays adv.mid mid adv.task command t) (again (record { command = adv.task.command; steps = adv.task.steps + 1 }) t.leaves command more (later_shows same))
        of again (Blocked o b) t done same = absurd (not_done same done.0)
        of again (Ends r) t done same = ended r t same
          where
            ended : (r : Reply) → Turned f adv.mid who adv.task (Ends r) mid → ends_pair turn ≡ ends_pair (Ends r) → Comes adv.mid new
            ended (Pair k v) t same = subst (Comes adv.mid) (sym done.1) (pair_comes adv.mid mid adv.task command k v t)
            ended r t same = absurd (not_done same done.0)

    -- a play of a move that gave a pair
    given_stays : (old new : State) (c : Command) → Given old who c new → Stays old new
    given_stays old new c g = record {
      own = ap (λ s. s.own who) g.rest;
      sees = same_sight old new (ap (λ s. (s.own who).txn) g.rest) (ap (λ s. s.file) g.rest);
      passed = λ k p. subst (λ (m : Mark). (m.ahead k ≡ false) × (home f k < m.reached)) (sym (ap (λ s. s.mark who) g.rest)) p;
    }

    one_line : (line : Line) → list_any shows (line ∷ []) ≡ true → shows line ≡ true
    one_line line e = of (shows line) e
      where
        of : (b : Bool) → (b || false) ≡ true → b ≡ true
        of true e = refl
        of false e = e

    no_answer : (old : State) (line : Line) → IsAnswer old (Do who (OnWalk w)) line → shows line ≡ true → ⊥
    no_answer old (Took o c turn) is shown = is
    no_answer old line is shown = false≢true shown

    pub play_comes : (old new : State) (lines : List Line) → Gives f old (Do who (OnWalk w)) lines new → list_any shows lines ≡ true → Comes old new
    play_comes old new lines (gives_answer line e same is) shown = absurd (no_answer old line is (one_line line (ap (list_any shows) (sym e) ∙ shown)))
    play_comes old new lines (gives_opener o e l joins) shown = absurd (cc)
    play_comes old new lines (gives_command o c e l g) shown = absurd (cc)
    play_comes old new lines (gives_turn o turn e a) shown = absurd (cc)
    play_comes old new lines (gives_turns o e g) shown = absurd (cc)
    play_comes old new lines (gives_all o c mid e given goes) shown =
        let mine : o ≡ who = cc in
        let this : c ≡ OnWalk w = cc in
        let g = subst (λ p. Given old p c mid) mine given in
        comes_behind old mid new (given_stays old mid c g) (goes_comes most_turns mid new lines (record { command = c; steps = 0 }) g.task this (subst (λ p. Goes f most_turns mid p lines new) mine goes) shown)
    play_comes old new lines (gives_death o e l d) shown = absurd (cc)

    -- its opener had no command before
    pub play_idle : (old new : State) (lines : List Line) → Gives f old (Do who (OnWalk w)) lines new → list_any shows lines ≡ true → old.task who ≡ None
    play_idle old new lines (gives_answer line e same is) shown = absurd (no_answer old line is (one_line line (ap (list_any shows) (sym e) ∙ shown)))
    play_idle old new lines (gives_opener o e l joins) shown = absurd (cc)
    play_idle old new lines (gives_command o c e l g) shown = absurd (cc)
    play_idle old new lines (gives_turn o turn e a) shown = absurd (cc)
    play_idle old new lines (gives_turns o e g) shown = absurd (cc)
    play_idle old new lines (gives_all o c mid e given goes) shown = (let mine : o ≡ who = cc in subst (λ p. old.task p ≡ None) mine given.idle)
    play_idle old new lines (gives_death o e l d) shown = absurd (cc)
