-- A world stays sound through a turn: what its opener holds then it held before or has found free.
use Rattle.std.proofs.Common.{◌≡◌, ℕ, ◌+◌, ◌<◌, ◌≤◌, max, List, true, false, Option, Some, None, is_some, refl, sym, ◌∙◌, ap, subst, inl, inr, arith, le_refl, ◌≢◌}
use Rattle.std.proofs.lemmas.Bool.{cases_eq, cases_lt}
use Rattle.tdb_space.specs.Form.{Form, data_start}
use Rattle.tdb_law.specs.Commands.{Command, Reply, Turn}
use Rattle.tdb_law.specs.Commands.Command.{OnMap, OnLocks, Seqnum, OnGroup, OnWalk}
use Rattle.tdb_law.specs.Commands.Reply.{Done, Memory, Pair, Busy, Full, Number}
use Rattle.tdb_law.specs.Commands.Turn.{Step, Blocked, Ends}
use Rattle.tdb_law.specs.Openers.{Own, Txn, Map, Spot, View, Task, seen}
use Rattle.tdb_law.specs.Refusals.{Refusal, refusal, chain_byte}
use Rattle.tdb_law.specs.Outcomes.{moves_by, moves, reads_by, reads, own_after}
use Rattle.tdb_law.specs.Held.{stand_held, kept_by, kept, held, holding, decided, moves_at}
use Rattle.tdb_law.specs.World.{State, IsSound}
use Rattle.tdb_law.specs.Effects.{IsFree, IsFirstConflict, IsReady, Effect, Finds, Stays, SpotLeft, task_left}
use Rattle.tdb_law.specs.Effects.Effect.{effect_waits, effect_goes_on, effect_changes, effect_answers, effect_shows, effect_starves, effect_is_full, effect_is_busy, effect_numbers, effect_finishes}
use Rattle.tdb_law.specs.Effects.Stays.{stands_nowhere, stands_still, stands_on}
use Rattle.tdb_law.specs.Counting.{number_seen}
use Rattle.tdb_law.specs.Turned.{Turned, want}
use Rattle.tdb_law.proofs.Covered.{changed_late, holding_wide}
use Rattle.tdb_law.proofs.Kept.{base, base_kept, own_base, spared_base, stays_most, stays_plain}
use Rattle.tdb_law.proofs.May.{held_more, row_wanted, decided_held}

-- a command that moves reads nothing by its row
moves_reads_by : (q : Option Refusal) (c : Command) (x : Own) (k : List ℕ) → moves_by q c x ≡ true → reads_by q c x k ≡ true → ⊥
moves_reads_by (Some q) c x k m e = cc
moves_reads_by None (OnMap c) x k m e = cc
moves_reads_by None (OnLocks c) x k m e = cc
moves_reads_by None Seqnum x k m e = cc
moves_reads_by None (OnGroup c) x k m e = cc
moves_reads_by None (OnWalk c) x k m e = cc

pub moves_reads : (f : Form) (c : Command) (x : Own) (k : List ℕ) → moves f c x ≡ true → reads f c x k ≡ true → ⊥
moves_reads f c x k m e = moves_reads_by (refusal f c x) c x k m e

kept_decided_in : (f : Form) (o : Option Txn) (x : Own) (a : Spot) (v : View) (n b : ℕ) → kept_by f o x (decided a v n) b ≡ kept_by f o x a b
kept_decided_in f None x a v n b = refl
kept_decided_in f (Some t) x a v n b = refl

pub kept_decided : (f : Form) (x : Own) (a : Spot) (v : View) (n b : ℕ) → kept f x (decided a v n) b ≡ kept f x a b
kept_decided f x a v n b = kept_decided_in f x.txn x a v n b

-- off every record nothing more is kept
kept_off : (f : Form) (o : Option Txn) (x : Own) (a z : Spot) (b : ℕ) → z.stands ≡ None → kept_by f o x z b ≤ kept_by f o x a b
kept_off f None x a z b off = let none : stand_held z.stands b ≡ 0 = ap (λ p. stand_held p b) off in omega (arith, none)
kept_off f (Some t) x a z b off = le_refl _

gone_held : (f : Form) (c : Command) (x : Own) (a z : Spot) (n b : ℕ) → moves_at f c x a n ≡ true → z.gone ≡ true → held f c x z n b ≡ 0
unfolding held
gone_held f (OnMap c) x a z n b e gone = cc
gone_held f (OnLocks c) x a z n b e gone = cc
gone_held f Seqnum x a z n b e gone = cc
gone_held f (OnGroup c) x a z n b e gone = cc
gone_held f (OnWalk c) x a z n b e gone = rw gone refl

-- How the locks of the opener have grown at a byte by its turn: not at all; by what it has found free; or besides by a
-- new pair's record, whose chain it had or has found free.
data Grown (f : Form) (free : Type 0) (table want : ℕ → ℕ) (now byte : ℕ) : Type 0 where
  grown_not : now ≤ table byte → Grown f free table want now byte
  grown_free : free → now ≤ max (table byte) (want byte) → Grown f free table want now byte
  grown_record : free → (k : List ℕ) → data_start f ≤ byte → now ≤ max (max (table byte) (want byte)) 1 → 1 ≤ max (table (chain_byte f k)) (want (chain_byte f k)) → Grown f free table want now byte

module _ (f : Form) (old new : State) (who : ℕ) (task : Task) (turn : Turn) (S : IsSound f old) (T : Turned f old who task turn new) where
  abbrev c : Command
  c = task.command

  abbrev n : ℕ
  n = task.steps

  abbrev x : Own
  x = old.own who

  abbrev a : Spot
  a = old.spot who

  abbrev W : ℕ → ℕ
  W = want f old who task

  -- what the opener holds before and after
  pub before : (b : ℕ) → old.table who b ≡ max (held f c x a n b) (kept f x a b)
  before b = S.agrees who b ∙ ap (λ t. holding f x a t b) T.mine

  after_turn : (b : ℕ) → new.table who b ≡ holding f (new.own who) (new.spot who) (task_left c n turn) b
  after_turn b = T.holds b ∙ ap (λ t. holding f (new.own who) (new.spot who) t b) T.leaves

  -- a step
  step_grown : (b : ℕ) → turn ≡ Step → new.own who ≡ x → new.table who b ≤ max (old.table who b) (W b)
  step_grown b e same =
      let spot : new.spot who ≡ decided a (old.view who) n = subst (SpotLeft f (old.table who) W c n x (new.own who) a (old.view who) (new.spot who)) e T.leaves_spot in
      let now : new.table who b ≡ max (held f c x (decided a (old.view who) n) (n + 1) b) (kept f x (decided a (old.view who) n) b) =
      after_turn b ∙ (ap (λ t. holding f (new.own who) (new.spot who) (task_left c n t) b) e ∙ (ap (λ y. holding f y (new.spot who) (task_left c n Step) b) same ∙ ap (λ z. holding f x z (task_left c n Step) b) spot)) in
      omega (arith, now, before b, held_more f c x (decided a (old.view who) n) (old.view who) n b, decided_held f c x a (old.view who) n b, kept_decided f x a (old.view who) n b)

  -- a turn that is blocked
  wait_grown : (o byte b : ℕ) → turn ≡ Blocked o byte → new.own who ≡ x → new.table who b ≤ old.table who b
  wait_grown o byte b e same =
      let spot = subst (SpotLeft f (old.table who) W c n x (new.own who) a (old.view who) (new.spot who)) e T.leaves_spot in
      let now : new.table who b ≡ max (held f c x (new.spot who) n b) (kept f x (new.spot who) b) =
      after_turn b ∙ (ap (λ t. holding f (new.own who) (new.spot who) (task_left c n t) b) e ∙ ap (λ y. holding f y (new.spot who) (task_left c n (Blocked o byte)) b) same) in
      elim spot [
        | inl still ↦ (let there : new.table who b ≡ max (held f c x a n b) (kept f x a b) = now ∙ ap (λ z. max (held f c x z n b) (kept f x z b)) still in omega (arith, there, before b))
        | inr gone ↦ omega (arith, now, before b, gone_held f c x (decided a (old.view who) n) (new.spot who) n b gone.0 gone.1, kept_off f x.txn x a (new.spot who) b gone.2)
      ]

  -- the end of a command
  module _ (r : Reply) (e : turn ≡ Ends r) where
    stays : Stays f (old.table who) W x (new.own who) a (new.spot who) r
    stays = (subst (SpotLeft f (old.table who) W c n x (new.own who) a (old.view who) (new.spot who)) e T.leaves_spot).0

    end_now : (b : ℕ) → new.table who b ≡ max 0 (kept f (new.own who) (new.spot who) b)
    end_now b = after_turn b ∙ ap (λ t. holding f (new.own who) (new.spot who) (task_left c n t) b) e

    -- one whose opener keeps no more
    spared_grown : (b : ℕ) → ((k v : List ℕ) → r ≡ Pair k v → ⊥) → base f (new.own who) b ≤ base f x b → new.table who b ≤ old.table who b
    spared_grown b plain fewer = omega (arith, end_now b, before b, fewer, base_kept f 0 b x.txn x a, stays_plain f (old.table who) W x (new.own who) a (new.spot who) r b plain stays)

    -- one that leaves what the turn has found free
    ends_grown : (b : ℕ) → IsFree old.table who W → base f (new.own who) b ≤ max (old.table who b) (W b) → Grown f (IsFree old.table who W) (old.table who) W (new.table who b) b
    ends_grown b free most =
        elim (stays_most f (old.table who) W x (new.own who) a (new.spot who) r b stays) [
          | inl le ↦ grown_free free (omega (arith, end_now b, before b, most, le))
          | inr on ↦ grown_record free on.key on.high (omega (arith, end_now b, before b, most, on.most)) on.chain
        ]

    after_grown : (b : ℕ) (m : Map) → IsFree old.table who W → IsReady f c x n → new.own who ≡ own_after f c x n r m → Grown f (IsFree old.table who W) (old.table who) W (new.table who b) b
    after_grown b m free ready own =
        let D = decided a (old.view who) n in
        let most = own_base f n b c x D r m ready in
        let same : base f (new.own who) b ≡ base f (own_after f c x n r m) b = ap (λ y. base f y b) own in
        ends_grown b free (omega (arith, same, most, before b, decided_held f c x a (old.view who) n b, base_kept f 0 b x.txn x a, row_wanted f c x D (old.view who) n b))

  grown_by : (b : ℕ) → Effect f (IsFree old.table who W) (IsFirstConflict old.table who W) (Finds f (old.table who) W (seen x old.file)) (number_seen x old.number (old.image_number who)) c n x old.file turn (new.own who) new.file
      → Grown f (IsFree old.table who W) (old.table who) W (new.table who b) b
  grown_by b (effect_waits o byte e conflict same_c file own) = grown_not (wait_grown o byte b e own)
  grown_by b (effect_goes_on e free same_c file own) = grown_free free (step_grown b e own)
  grown_by b (effect_changes e free late not_yet made done file own) = grown_free free (step_grown b e own)
  grown_by b (effect_answers r e free still uncounted ready not_yet says file own) = after_grown r e b old.file free ready own
  grown_by b (effect_shows r e free moving found file own) = after_grown r e b old.file free (λ k reading. absurd (moves_reads f c x k moving reading)) own
  grown_by b (effect_starves e want_of not_yet file own) = grown_not (spared_grown Memory e b (λ k v p. cc) (subst (λ y. base f y b ≤ base f x b) (sym own) (spared_base f 0 b c x)))
  grown_by b (effect_is_full len need e free filling ready not_yet done file own) = grown_not (spared_grown (Full len need) e b (λ k v p. cc) (subst (λ y. base f y b ≤ base f x b) (sym own) (spared_base f 0 b c x)))
  grown_by b (effect_is_busy o byte e conflict busy file own) = grown_not (spared_grown (Busy o byte) e b (λ k v p. cc) (subst (λ y. base f y b ≤ base f x b) (sym own) (spared_base f 0 b c x)))
  grown_by b (effect_numbers q e free counting same file own) = grown_not (spared_grown (Number q) e b (λ k v p. cc) (subst (λ y. base f y b ≤ base f x b) (sym own) (le_refl _)))
  grown_by b (effect_finishes e free made file own) = after_grown Done e b old.file free (λ k reading. changed_late f c x n made) own

  -- so no other opener's locks conflict with those that it has now
  bounded_by : (p b : ℕ) → p ≢ who → Grown f (IsFree old.table who W) (old.table who) W (new.table who b) b → new.table who b + old.table p b ≤ 2
  bounded_by p b ne (grown_not le) = omega (arith, le, S.apart p who b ne)
  bounded_by p b ne (grown_free free le) = omega (arith, le, S.apart p who b ne, free.free p b ne)
  bounded_by p b ne (grown_record free k high le chain) =
      let at_chain = chain_byte f k in
      elim (cases_lt (old.table p b) 2) [
        | inl one ↦ omega (arith, one, le, S.apart p who b ne, free.free p b ne)
        | inr two ↦ (let wide = holding_wide f S.chains (old.own p) (old.spot p) (old.task p) b k high (subst (λ u. 2 ≤ u) (S.agrees p b) two) in
            let there : 2 ≤ old.table p at_chain = subst (λ u. 2 ≤ u) (sym (S.agrees p at_chain)) wide in
            absurd (omega (arith, chain, there, S.apart p who at_chain ne, free.free p at_chain ne)))
      ]

  bounded : (p b : ℕ) → p ≢ who → new.table who b + old.table p b ≤ 2
  bounded p b ne = bounded_by p b ne (grown_by b T.effect)

  -- a turn that isn't an end leaves the opener
  own_kept_by : ((r : Reply) → turn ≡ Ends r → ⊥)
      → Effect f (IsFree old.table who W) (IsFirstConflict old.table who W) (Finds f (old.table who) W (seen x old.file)) (number_seen x old.number (old.image_number who)) c n x old.file turn (new.own who) new.file
      → new.own who ≡ x
  own_kept_by on (effect_waits o byte e conflict same_c file own) = own
  own_kept_by on (effect_goes_on e free same_c file own) = own
  own_kept_by on (effect_changes e free late not_yet made done file own) = own
  own_kept_by on (effect_answers r e free still uncounted ready not_yet says file own) = absurd (on r e)
  own_kept_by on (effect_shows r e free moving found file own) = absurd (on r e)
  own_kept_by on (effect_starves e want_of not_yet file own) = absurd (on Memory e)
  own_kept_by on (effect_is_full len need e free filling ready not_yet done file own) = absurd (on (Full len need) e)
  own_kept_by on (effect_is_busy o byte e conflict busy file own) = absurd (on (Busy o byte) e)
  own_kept_by on (effect_numbers q e free counting same file own) = own
  own_kept_by on (effect_finishes e free made file own) = absurd (on Done e)

  pub own_kept : ((r : Reply) → turn ≡ Ends r → ⊥) → new.own who ≡ x
  own_kept on = own_kept_by on T.effect

  -- who stands on a record after the turn
  none_some : (place : ℕ) → ◌≡◌ {A = Option ℕ} None (Some place) → ⊥
  none_some place e = cc

  some_same : (there place : ℕ) → ◌≡◌ {A = Option ℕ} (Some there) (Some place) → there ≡ place
  some_same there place e = cc

  abbrev IsStanding : ℕ → Own → Type 0
  IsStanding place y = (y.txn ≡ None) × (data_start f ≤ place) × (is_some y.cursor ≡ true)

  stands_end : (place : ℕ) (r : Reply) → (new.spot who).stands ≡ Some place → Stays f (old.table who) W x (new.own who) a (new.spot who) r → IsStanding place (new.own who)
  stands_end place r on (stands_nowhere off) = absurd (none_some place (sym off ∙ on))
  stands_end place r on (stands_still out y_out cursor stood) = let was = S.stands who place (sym stood ∙ on) in (y_out, was.1, ap is_some cursor ∙ was.2)
  stands_end place r on (stands_on k v there pair out own stood high chain) =
      let same : there ≡ place = some_same there place (sym stood ∙ on) in
      (ap (λ y. y.txn) own ∙ out, subst (λ p. data_start f ≤ p) same high, ap (λ y. is_some y.cursor) own)

  stands_by : (place : ℕ) (u : Turn) → turn ≡ u → (new.spot who).stands ≡ Some place → IsStanding place (new.own who)
  stands_by place Step e on =
      let spot : new.spot who ≡ decided a (old.view who) n = subst (SpotLeft f (old.table who) W c n x (new.own who) a (old.view who) (new.spot who)) e T.leaves_spot in
      let stood : a.stands ≡ Some place = ap (λ z. z.stands) (sym spot) ∙ on in
      subst (IsStanding place) (sym (own_kept (λ r end. absurd (step_end (sym e ∙ end))))) (S.stands who place stood)
    where
      step_end : {r : Reply} → Step ≡ Ends r → ⊥
      step_end end = cc
  stands_by place (Blocked o byte) e on =
      let spot = subst (SpotLeft f (old.table who) W c n x (new.own who) a (old.view who) (new.spot who)) e T.leaves_spot in
      elim spot [
        | inl still ↦ (let stood : a.stands ≡ Some place = ap (λ z. z.stands) (sym still) ∙ on in
            subst (IsStanding place) (sym (own_kept (λ r end. absurd (block_end (sym e ∙ end))))) (S.stands who place stood))
        | inr gone ↦ absurd (none_some place (sym gone.2 ∙ on))
      ]
    where
      block_end : {r : Reply} → Blocked o byte ≡ Ends r → ⊥
      block_end end = cc
  stands_by place (Ends r) e on = stands_end place r on (stays r e)

  -- an opener with a command is there
  who_live : x.live ≡ true
  who_live = S.busy_there who task T.mine

  pub who_joined : who < old.joined
  who_joined = S.live_joined who who_live

  task_live_by : (u : Turn) → turn ≡ u → (t : Task) → new.task who ≡ Some t → (new.own who).live ≡ true
  task_live_by Step e t has = ap (λ y. y.live) (own_kept (λ r end. absurd (step_end (sym e ∙ end)))) ∙ who_live
    where
      step_end : {r : Reply} → Step ≡ Ends r → ⊥
      step_end end = cc
  task_live_by (Blocked o byte) e t has = ap (λ y. y.live) (own_kept (λ r end. absurd (block_end (sym e ∙ end)))) ∙ who_live
    where
      block_end : {r : Reply} → Blocked o byte ≡ Ends r → ⊥
      block_end end = cc
  task_live_by (Ends r) e t has = absurd (no_task (sym has ∙ (T.leaves ∙ ap (task_left c n) e)))
    where
      no_task : ◌≡◌ {A = Option Task} (Some t) None → ⊥
      no_task e2 = cc

  agrees_now : (o b : ℕ) → new.table o b ≡ holding f (new.own o) (new.spot o) (new.task o) b
  agrees_now o b =
      elim (cases_eq o who) [
        | inl e ↦ subst (λ p. new.table p b ≡ holding f (new.own p) (new.spot p) (new.task p) b) (sym e) (T.holds b)
        | inr ne ↦ T.others_hold o b ne ∙ (S.agrees o b ∙ (ap (λ t. holding f (old.own o) (old.spot o) t b) (sym (T.others o ne))
            ∙ (ap (λ z. holding f (old.own o) z (new.task o) b) (sym (T.others_spot o ne)) ∙ ap (λ y. holding f y (new.spot o) (new.task o) b) (sym (T.others_own o ne)))))
      ]

  apart_now : (o p b : ℕ) → o ≢ p → new.table o b + new.table p b ≤ 2
  apart_now o p b ne =
      elim (cases_eq o who) [
        | inl e ↦ (let p_other : p ≢ who = λ same. ne (e ∙ sym same) in
            let mine : new.table o b ≡ new.table who b = ap (λ q. new.table q b) e in
            omega (arith, mine, T.others_hold p b p_other, bounded p b p_other))
        | inr o_other ↦ elim (cases_eq p who) [
          | inl e ↦ (let mine : new.table p b ≡ new.table who b = ap (λ q. new.table q b) e in
              omega (arith, mine, T.others_hold o b o_other, bounded o b o_other))
          | inr p_other ↦ omega (arith, T.others_hold o b o_other, T.others_hold p b p_other, S.apart o p b ne)
        ]
      ]

  pub sound_after : IsSound f new
  sound_after = record {
    chains = S.chains;
    agrees = agrees_now;
    apart = apart_now;
    stands = λ o place on.
        (elim (cases_eq o who) [
          | inl e ↦ subst (λ p. IsStanding place (new.own p)) (sym e) (stands_by place turn refl (subst (λ p. (new.spot p).stands ≡ Some place) e on))
          | inr ne ↦ subst (IsStanding place) (sym (T.others_own o ne)) (S.stands o place (ap (λ z. z.stands) (sym (T.others_spot o ne)) ∙ on))
        ]);
    busy_there = λ o t has.
        (elim (cases_eq o who) [
          | inl e ↦ subst (λ p. (new.own p).live ≡ true) (sym e) (task_live_by turn refl t (subst (λ p. new.task p ≡ Some t) e has))
          | inr ne ↦ ap (λ y. y.live) (T.others_own o ne) ∙ S.busy_there o t (sym (T.others o ne) ∙ has)
        ]);
    live_joined = λ o live.
        (elim (cases_eq o who) [
          | inl e ↦ omega (arith, who_joined, T.joined, e)
          | inr ne ↦ omega (arith, S.live_joined o (ap (λ y. y.live) (sym (T.others_own o ne)) ∙ live), T.joined)
        ]);
    stale = λ stale. absurd (not_stale (sym T.stale ∙ stale));
  }
    where
      not_stale : false ≡ true → ⊥
      not_stale e = cc
