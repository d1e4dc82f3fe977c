-- Moves of openers that are shut out are turns of the whole world.
use Rattle.std.proofs.Common.{◌≡◌, ◌≢◌, ℕ, ◌+◌, ◌*◌, ◌<◌, ◌≤◌, max, List, [], ◌∷◌, Bool, true, false, nat_le, nat_lt, not, ◌==◌, Option, Some, None, is_none, refl, sym, ◌∙◌, ap, subst, inl, inr, ◌⊎◌, arith}
use Rattle.std.specs.Prelude.{◌&&◌, if◌then◌else◌}
use Rattle.std.proofs.lemmas.Bool.{cases_Bool, cases_lt, le-leb, leb-true, lt-ltb}
use Rattle.tdb_space.specs.Form.{Form, data_start}
use Rattle.tdb_space.specs.Pairs.{home}
use Rattle.tdb_law.specs.Commands.{WalkCommand, Command, is_first}
use Rattle.tdb_law.specs.Commands.WalkCommand.{First, Next, EndWalk, Close}
use Rattle.tdb_law.specs.Commands.Command.{OnWalk}
use Rattle.tdb_law.specs.Commands.Reply.{End}
use Rattle.tdb_law.specs.Commands.Turn.{Blocked, Ends}
use Rattle.tdb_law.specs.Openers.{Own, Mark, Spot, Task, View, nowhere, seen, image_or, has}
use Rattle.tdb_law.specs.Refusals.{refusal, chain_byte, is_prepared, first_that_applies}
use Rattle.tdb_law.specs.Refusals.Refusal.{IsPrepared}
use Rattle.tdb_law.specs.Rows.{walk_locks, locks_by, locks, changed_by, is_changed}
use Rattle.tdb_law.specs.Ends.{walk_ends, may_end, ends_by}
use Rattle.tdb_law.specs.Outcomes.{walk_moves, moves_by, moves, own_walked, own_by, own_after}
use Rattle.tdb_law.specs.Counting.{takes}
use Rattle.tdb_law.specs.Held.{explicit_held, kept, held, holding, decided, locked, locked_next, move_turn, moves_at, is_chain, wanted}
use Rattle.tdb_law.specs.World.{State, IsSound}
use Rattle.tdb_law.specs.Effects.{IsFirstConflict}
use Rattle.tdb_law.specs.Effects.Effect.{effect_waits, effect_shows}
use Rattle.tdb_law.specs.Effects.Finds.{finds_end}
use Rattle.tdb_law.specs.Effects.Stays.{stands_nowhere}
use Rattle.tdb_law.specs.Turned.{Turned, want}
use Rattle.tdb_law.specs.Walks.{IsMissed, Shift, Taken, Due, Moves, Finishes, begins, Walked}
use Rattle.tdb_law.proofs.Covered.{none_held}
use Rattle.tdb_law.proofs.Walking.{put_here, put_else}
use Rattle.tdb_law.proofs.Tests.{never_true}
use Rattle.tdb_law.specs.OneAside.Sides.{Past, Side, but_at, heads_ahead, beside, IsPlain, StandsAside}
use Rattle.tdb_law.specs.OneAside.Passing.{IsOut, HeadsTell, IsBeforeChain, IsReadyToMove, IsFirstHead, with_halt, without_walk}
use Rattle.tdb_law.specs.OneAside.Passing.IsReadyToMove.{goes_on, begins_walk}
use Rattle.tdb_law.specs.OneAside.Laws.{ShutOutEnds, ShutOutHalts}
use Rattle.tdb_law.proofs.OneAside.Idle.{still_shift, nothing_free}
use Rattle.tdb_law.proofs.OneAside.Leaving.{kept_off}
use Rattle.tdb_law.proofs.OneAside.Parted.{two_put}
use Rattle.tdb_law.proofs.OneAside.Shut.{shut_out_meets}

-- a move isn't refused outside a transaction
move_granted : (f : Form) (w : WalkCommand) (x : Own) → x.txn ≡ None → refusal f (OnWalk w) x ≡ None
unfolding refusal
move_granted f First x out = ap (λ o. first_that_applies ((is_prepared o, IsPrepared) ∷ [])) out
move_granted f Next x out = ap (λ o. first_that_applies ((is_prepared o, IsPrepared) ∷ [])) out
move_granted f EndWalk x out = ap (λ o. first_that_applies ((is_prepared o, IsPrepared) ∷ [])) out
move_granted f Close x out = refl

-- at its end there is no cursor
moved_own : (w : WalkCommand) (x : Own) → walk_moves w x ≡ true → own_walked w x End ≡ record x { cursor = None }
moved_own First x moving = refl
moved_own Next x moving = refl
moved_own EndWalk x moving = absurd (never_true moving)
moved_own Close x moving = absurd (never_true moving)

never_begins : (p q : Bool) → p && (q && false) ≡ false
never_begins true true = refl
never_begins true false = refl
never_begins false q = refl

-- what a walk misses that goes on or begins, where a commit took it out
missed_by : (start : Bool) (c : Command) → IsMissed false c → IsMissed start c
missed_by true c e = tt
missed_by false c e = e

abbrev bit : Bool → ℕ
bit z = if z then 1 else 0

no_bit : (y z : Bool) → y ≡ false → bit (z && y) ≡ 0
no_bit y true e = ap bit e
no_bit y false e = refl

zero_max : (n : ℕ) → max 0 n ≡ n
zero_max n = omega arith

module _ (f : Form) (p : State) (past : Past) (s : Side) (who n : ℕ) (w : WalkCommand) (S : IsSound f (beside p past s)) (P : IsPlain p) (shut : s.shuts ≡ true) (ne : who ≢ s.here)
    (mine : p.task who ≡ Some (record { command = OnWalk w; steps = n })) (out : (p.own who).txn ≡ None) (moving : walk_moves w (p.own who) ≡ true) (off : (p.spot who).stands ≡ None)
    (ready : IsReadyToMove f p.file (p.own who) (p.spot who) (p.mark who) w n) (H : HeadsTell f p.file s) where
  abbrev q : State
  q = beside p past s

  abbrev c : Command
  c = OnWalk w

  abbrev u : Task
  u = record { command = OnWalk w; steps = n }

  abbrev x : Own
  x = p.own who

  abbrev a : Spot
  a = p.spot who

  abbrev m : Mark
  m = p.mark who

  abbrev v : View
  v = heads_ahead s.heads m

  -- what it has in the whole world
  its_own : q.own who ≡ x
  its_own = put_else p.own s.here s.own who ne

  its_spot : q.spot who ≡ a
  its_spot = put_else p.spot s.here nowhere who ne

  its_mark : q.mark who ≡ m
  its_mark = put_else p.mark s.here s.mark who ne

  its_task : q.task who ≡ Some u
  its_task = put_else p.task s.here s.task who ne ∙ mine

  its_view : q.view who ≡ v
  its_view = put_else (if s.shuts then (λ o. heads_ahead s.heads (p.mark o)) else p.view) s.here s.view who ne ∙ ap (λ z. (if z then (λ (o : ℕ). heads_ahead s.heads (p.mark o)) else p.view) who) shut

  granted : refusal f c x ≡ None
  granted = move_granted f w x out

  moves_is : moves f c x ≡ true
  moves_is = ap (λ z. moves_by z c x) granted ∙ moving

  moves_there : moves f c (q.own who) ≡ true
  moves_there = ap (moves f c) its_own ∙ moves_is

  -- the turn moves, and its row has no lock for it
  abbrev purging : ℕ → Bool
  purging j = if j == 0 then false else a.purging

  moves_now : moves_at f c x (decided a v n) n ≡ true
  moves_now = ap (λ z. z && (if a.gone then true else n == move_turn w (purging n) x.cursor)) moves_is ∙ by_ready ready
    where
      by_ready : IsReadyToMove f p.file x a m w n → (if a.gone then true else n == move_turn w (purging n) x.cursor) ≡ true
      by_ready (goes_on gone ends before) = ap (λ z. if z then true else n == move_turn w (purging n) x.cursor) gone
      by_ready (begins_walk near new is none inside reached) =
          ap (λ z. if z then true else n == move_turn w (purging n) x.cursor) near
          ∙ ap (λ j. j == move_turn w (purging j) x.cursor) new
          ∙ ap (λ d. 0 == move_turn d false x.cursor) is

  row_none : (b : ℕ) → (if a.gone then 0 else locked_next (locks f c x (purging n)) n b) ≡ 0
  row_none b = by_ready ready
    where
      by_ready : IsReadyToMove f p.file x a m w n → (if a.gone then 0 else locked_next (locks f c x (purging n)) n b) ≡ 0
      by_ready (goes_on gone ends before) = ap (λ z. if z then 0 else locked_next (locks f c x (purging n)) n b) gone
      by_ready (begins_walk near new is none inside reached) =
          ap (λ z. if z then 0 else locked_next (locks f c x (purging n)) n b) near
          ∙ ap (λ z. locked_next (locks_by f z c x (purging n)) n b) granted
          ∙ ap (λ o. locked_next (if is_none o then walk_locks f w x.cursor (purging n) else []) n b) out
          ∙ ap (λ k. locked_next (walk_locks f w k (purging n)) n b) none

  -- so it wants the chains on its way alone
  abbrev reads : ℕ → Bool
  reads b = is_chain f b && (nat_le (168 + 4 * m.reached) b && s.heads b)

  wants : (b : ℕ) → wanted f c x (decided a v n) v n b ≡ bit (reads b)
  unfolding wanted
  wants b =
      ap (λ z. max z (bit (moves_at f c x (decided a v n) n && (is_none x.txn && reads b)))) (row_none b)
      ∙ ap (λ z. max 0 (bit (z && (is_none x.txn && reads b)))) moves_now
      ∙ ap (λ o. max 0 (bit (is_none o && reads b))) out
      ∙ zero_max (bit (reads b))

  want_is : (b : ℕ) → want f q who u b ≡ bit (reads b)
  want_is b = (λ i. wanted f c (its_own i) (decided (its_spot i) (its_view i) n) (its_view i) n b) ∙ wants b

  -- before a chain's byte that its walk hasn't come to, it wants nothing
  want_none : (b : ℕ) → (168 + 4 * m.reached ≤ b → s.heads b ≡ false) → want f q who u b ≡ 0
  want_none b none = want_is b ∙ no_bit (nat_le (168 + 4 * m.reached) b && s.heads b) (is_chain f b) (elim (cases_Bool (nat_le (168 + 4 * m.reached) b)) [
    | inl late ↦ ap (λ z. z && s.heads b) late ∙ none (leb-true (168 + 4 * m.reached) b late)
    | inr early ↦ ap (λ z. z && s.heads b) early
  ])

  -- the walk
  abbrev start : Bool
  start = begins f c (q.own who) (q.spot who)

  start_is : start ≡ is_first c && (moves f c x && not a.gone)
  start_is = λ i. is_first c && (moves f c (its_own i) && not ((its_spot i).gone))

  outside_chain : m.inside ≡ false
  outside_chain = by_ready ready
    where
      by_ready : IsReadyToMove f p.file x a m w n → m.inside ≡ false
      by_ready (goes_on gone ends before) = before.inside
      by_ready (begins_walk near new is none inside reached) = inside

  -- one that goes on stands before a chain
  before_chain : start ≡ false → IsBeforeChain f p.file m.reached m
  before_chain later = by_ready ready
    where
      by_ready : IsReadyToMove f p.file x a m w n → IsBeforeChain f p.file m.reached m
      by_ready (goes_on gone ends before) = before
      by_ready (begins_walk near new is none inside reached) =
          absurd (never_true (sym later ∙ start_is ∙ ap (λ d. is_first (OnWalk d) && (moves f c x && not a.gone)) is ∙ ap (λ z. z && not a.gone) moves_is ∙ ap not near))

  due_in : (k : List ℕ) → Due q who start k → (has p.file k ≡ true) × (m.reached ≤ home f k)
  due_in k due = by_ready ready
    where
      by_ready : IsReadyToMove f p.file x a m w n → (has p.file k ≡ true) × (m.reached ≤ home f k)
      by_ready (goes_on gone ends before) =
          let later : start ≡ false = start_is ∙ ap (λ z. is_first c && (moves f c x && not z)) gone ∙ never_begins (is_first c) (moves f c x) in
          let ahead : (q.mark who).ahead k ≡ true = subst (λ z. (if z then has (seen (q.own who) q.file) k else (q.mark who).ahead k) ≡ true) later due in
          (before.ahead k).0 (subst (λ y. y.ahead k ≡ true) its_mark ahead)
      by_ready (begins_walk near new is none inside reached) =
          let first : start ≡ true = start_is ∙ ap (λ d. is_first (OnWalk d) && (moves f c x && not a.gone)) is ∙ ap (λ z. z && not a.gone) moves_is ∙ ap not near in
          let there : has (seen (q.own who) q.file) k ≡ true = subst (λ z. (if z then has (seen (q.own who) q.file) k else (q.mark who).ahead k) ≡ true) first due in
          let mapped : seen (q.own who) q.file ≡ p.file = ap (λ y. seen y q.file) its_own ∙ ap (λ o. image_or o p.file) out in
          (subst (λ z. has z k ≡ true) mapped there, omega (arith, reached))

  -- a key that the commit has out of the file is missed
  out_taken : (k : List ℕ) → IsOut f s k → Taken f q who start k
  out_taken k O = (
    s.here,
    (λ e. ne (sym e)),
    record {
      task = O.task;
      has_task = put_here p.task s.here s.task s.here refl ∙ O.has_task;
      taken_out = subst (λ y. takes f O.task.command y O.task.steps k ≡ true) (sym (put_here p.own s.here s.own s.here refl)) O.taken_out;
      missed = missed_by start O.task.command O.commits;
    },
  )

  -- before its turn it holds what it keeps
  held_none : (b : ℕ) → held f c x a n b ≡ 0
  unfolding held
  held_none b = by_ready ready
    where
      by_ready : IsReadyToMove f p.file x a m w n → held f c x a n b ≡ 0
      by_ready (goes_on gone ends before) = ap (λ z. if z then 0 else locked (locks f c x a.purging) n b) gone
      by_ready (begins_walk near new is none inside reached) = ap (λ j. held f c x a j b) new ∙ none_held f c x a b

  keeps : (b : ℕ) → q.table who b ≡ max (explicit_held f x b) 0
  keeps b =
      let whole : q.table who b ≡ max (held f c x a n b) (kept f x a b) = S.agrees who b ∙ (λ i. holding f (its_own i) (its_spot i) (its_task i) b) in
      let none = held_none b in
      let kept_is = kept_off f x a b out off in
      omega (arith, whole, none, kept_is)

  ends_row : may_end f c (q.own who) n End ≡ true
  ends_row = ap (λ y. may_end f c y n End) its_own ∙ ap (λ z. ends_by z c x n End) granted ∙ ap (λ o. if is_none o then walk_ends w x.cursor n else n == 0) out ∙ by_ready ready
    where
      by_ready : IsReadyToMove f p.file x a m w n → walk_ends w x.cursor n ≡ true
      by_ready (goes_on gone ends before) = ends
      by_ready (begins_walk near new is none inside reached) = (λ i. walk_ends (is i) (none i) (new i))

  module _ (later : Mark) where
    -- other walks stay
    other_marks : (o : ℕ) → o ≢ who → (lost : List ℕ → Type 0) → Shift f lost (q.mark o) (but_at s.here s.mark (but_at who later p.mark) o)
    other_marks o other lost = subst (Shift f lost (q.mark o)) (sym (ap (λ g. g o) (two_put s.here who s.mark later p.mark ne) ∙ put_else q.mark who later o other)) (still_shift f lost (q.mark o))

    -- it ends where nothing is on its way
    abbrev ended : State
    ended = beside (without_walk p who later) past s

    module _ (none : (b : ℕ) → 168 + 4 * m.reached ≤ b → s.heads b ≡ false) where
      nothing : (k : List ℕ) → Due q who start k → Taken f q who start k
      nothing k due = let there = due_in k due in elim (H k there.0) [
        | inl head ↦ absurd (never_true (sym (none (chain_byte f k) (omega (arith, there.1))) ∙ head))
        | inr gone ↦ out_taken k gone
      ]

      finishes : Finishes f q who start
      finishes = record {
        holds = λ e inside. absurd (never_true (sym outside_chain ∙ (ap (λ y. y.inside) (sym its_mark) ∙ inside)));
        nothing = nothing;
      }

      own_ended : ended.own who ≡ record x { cursor = None }
      own_ended = put_else (without_walk p who later).own s.here s.own who ne ∙ put_here p.own who (record x { cursor = None }) who refl

      spot_ended : ended.spot who ≡ nowhere
      spot_ended = put_else (without_walk p who later).spot s.here nowhere who ne ∙ put_here p.spot who nowhere who refl

      task_ended : ended.task who ≡ None
      task_ended = put_else (without_walk p who later).task s.here s.task who ne ∙ put_here p.task who None who refl

      own_after_end : ended.own who ≡ own_after f c (q.own who) n End q.file
      own_after_end =
          own_ended ∙ sym (moved_own w x moving) ∙ sym (ap (λ z. own_by f z c x n End q.file) granted) ∙ ap (λ y. own_after f c y n End q.file) (sym its_own)

      holds_ended : (b : ℕ) → ended.table who b ≡ holding f (ended.own who) (ended.spot who) (ended.task who) b
      holds_ended b = keeps b ∙ sym (kept_off f (record x { cursor = None }) nowhere b out refl) ∙ omega arith ∙ (λ i. holding f (sym own_ended i) (sym spot_ended i) (sym task_ended i) b)

      pub turn_ends : Turned f q who u (Ends End) ended
      turn_ends = record {
        mine = its_task;
        joined = refl;
        others = λ o other. ap (λ g. g o) (two_put s.here who s.task None p.task ne) ∙ put_else q.task who None o other;
        others_own = λ o other. ap (λ g. g o) (two_put s.here who s.own (record x { cursor = None }) p.own ne) ∙ put_else q.own who (record x { cursor = None }) o other;
        others_spot = λ o other. ap (λ g. g o) (two_put s.here who nowhere nowhere p.spot ne) ∙ put_else q.spot who nowhere o other;
        others_hold = λ o b other. refl;
        others_number = λ o other. refl;
        others_walk = λ o other. other_marks o other _;
        row = inl ends_row;
        leaves = task_ended;
        leaves_spot = (stands_nowhere (ap (λ z. z.stands) spot_ended), ap (λ z. z.gone) spot_ended);
        effect = effect_shows End refl (nothing_free f q who u S (λ b. want_none b (none b))) moves_there (finds_end refl) refl own_after_end;
        holds = holds_ended;
        walks = Walked.walk_finishes refl moves_there finishes;
        ready = P.ready;
        stale = P.ready;
        settled = refl;
        number = refl;
        image_number = refl;
      }

    -- it is blocked before the first chain on its way
    abbrev halted : State
    halted = beside (with_halt p who later) past s

    module _ (A : StandsAside p s) (chain : ℕ) (F : IsFirstHead f s m.reached chain) (B : IsBeforeChain f p.file chain later) where
      abbrev byte : ℕ
      byte = 168 + 4 * chain

      in_chains : is_chain f byte ≡ true
      in_chains = ap (λ z. z && nat_lt byte (data_start f)) (le-leb 168 byte (omega arith)) ∙ lt-ltb byte (data_start f) (let low = F.below in omega (arith, low))

      wants_it : 1 ≤ want f q who u byte
      wants_it =
          let is : want f q who u byte ≡ 1 = want_is byte ∙ ap (λ z. bit (z && (nat_le (168 + 4 * m.reached) byte && s.heads byte))) in_chains
          ∙ ap (λ z. bit (z && s.heads byte)) (le-leb (168 + 4 * m.reached) byte (let least = F.least in omega (arith, least))) ∙ ap bit F.head in
          omega (arith, is)

      wants_first : (b : ℕ) → b < byte → want f q who u b ≡ 0
      wants_first b low = want_none b (λ from. F.empty b from low)

      conflict : IsFirstConflict q.table who (want f q who u) s.here byte
      conflict = shut_out_meets f p past s who u byte S A shut ne tt (omega arith) (let low = F.below in let few = S.chains.few in omega (arith, low, few)) wants_it wants_first

      mark_halted : halted.mark who ≡ later
      mark_halted = put_else (with_halt p who later).mark s.here s.mark who ne ∙ put_here p.mark who later who refl

      spot_halted : halted.spot who ≡ record nowhere { gone = true }
      spot_halted = put_else (with_halt p who later).spot s.here nowhere who ne ∙ put_here p.spot who (record nowhere { gone = true }) who refl

      kept_on : (k : List ℕ) → Due q who start k → (◌≡◌ {A = Option (List ℕ)} None (Some k)) ⊎ ((halted.mark who).ahead k ≡ true) ⊎ Taken f q who start k
      kept_on k due = let there = due_in k due in elim (cases_lt (home f k) chain) [
        | inl passed ↦ elim (H k there.0) [
          | inl head ↦ absurd (never_true (sym (F.empty (chain_byte f k) (omega (arith, there.1)) (omega (arith, passed))) ∙ head))
          | inr gone ↦ inr (inr (out_taken k gone))
        ]
        | inr before ↦ inr (inl (ap (λ z. z.ahead k) mark_halted ∙ (B.ahead k).1 (there.0, before)))
      ]

      moves_on : Moves f q halted who start None
      moves_on = record {
        holds = λ e inside. absurd (never_true (sym outside_chain ∙ (ap (λ y. y.inside) (sym its_mark) ∙ inside)));
        further = λ e. (let was = ap (λ y. y.reached) its_mark in let now = ap (λ y. y.reached) mark_halted in let at = B.reached in let least = F.least in omega (arith, was, now, at, least));
        fewer = λ e k ahead. ap (λ y. y.ahead k) its_mark ∙ ((before_chain e).ahead k).1 (let there = (B.ahead k).0 (ap (λ y. y.ahead k) (sym mark_halted) ∙ ahead) in let least = F.least in (there.0, omega (arith, there.1, least)));
        kept = kept_on;
      }

      holds_halted : (b : ℕ) → halted.table who b ≡ holding f (halted.own who) (halted.spot who) (halted.task who) b
      unfolding held
      holds_halted b = keeps b ∙ sym (kept_off f x (record nowhere { gone = true }) b out refl) ∙ omega arith ∙ (λ i. holding f (sym its_own i) (sym spot_halted i) (sym its_task i) b)

      unchanged : is_changed f c (q.own who) n ≡ false
      unfolding is_changed
      unchanged = ap (λ y. changed_by (refusal f c y) c y n) its_own ∙ ap (λ z. changed_by z c x n) granted

      moving_there : moves_at f c (q.own who) (decided (q.spot who) (q.view who) n) n ≡ true
      moving_there = (λ i. moves_at f c (its_own i) (decided (its_spot i) (its_view i) n) n) ∙ moves_now

      pub turn_halts : Turned f q who u (Blocked s.here byte) halted
      turn_halts = record {
        mine = its_task;
        joined = refl;
        others = λ o other. refl;
        others_own = λ o other. refl;
        others_spot = λ o other. ap (λ g. g o) (two_put s.here who nowhere (record nowhere { gone = true }) p.spot ne) ∙ put_else q.spot who (record nowhere { gone = true }) o other;
        others_hold = λ o b other. refl;
        others_number = λ o other. refl;
        others_walk = λ o other. other_marks o other _;
        row = refl;
        leaves = its_task;
        leaves_spot = inr (moving_there, ap (λ z. z.gone) spot_halted, ap (λ z. z.stands) spot_halted);
        effect = effect_waits s.here byte refl conflict unchanged refl refl;
        holds = holds_halted;
        walks = Walked.walk_halts s.here byte refl moves_there (ap (λ z. z.gone) spot_halted) (ap (λ z. z.inside) mark_halted ∙ B.inside) moves_on;
        ready = P.ready;
        stale = P.ready;
        settled = refl;
        number = refl;
        image_number = refl;
      }

-- the task of such a move
move_task : (t : Task) (w : WalkCommand) → t.command ≡ OnWalk w → record { command = OnWalk w; steps = t.steps } ≡ t
move_task t w asks = λ i. record { command = sym asks i; steps = t.steps }

pub shut_out_ends : ShutOutEnds
shut_out_ends f p past s who t m S P shut ne mine M H none =
    let same = move_task t M.walk M.asks in
    subst (λ u. Turned f (beside p past s) who u (Ends End) (beside (without_walk p who m) past s)) same
    (turn_ends f p past s who t.steps M.walk S P shut ne (mine ∙ sym (ap Some same)) M.outside M.moving M.stands M.ready H m none)

pub shut_out_halts : ShutOutHalts
shut_out_halts f p past s who t m chain S P A shut ne mine M H F B =
    let same = move_task t M.walk M.asks in
    subst (λ u. Turned f (beside p past s) who u (Blocked s.here (168 + 4 * chain)) (beside (with_halt p who m) past s)) same
    (turn_halts f p past s who t.steps M.walk S P shut ne (mine ∙ sym (ap Some same)) M.outside M.moving M.stands M.ready H m A chain F B)
