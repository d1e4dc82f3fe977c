-- A turn of an opener outside a transaction is one in every world that is alike where its command reads and writes.
use Rattle.std.proofs.Common.{◌≡◌, ◌≢◌, ℕ, ◌+◌, ◌<◌, ◌≤◌, List, Bool, true, false, ◌==◌, Option, Some, None, is_some, sym, ◌∙◌, ap, subst, subst₂, inl, inr, ◌⊎◌}
use Rattle.std.specs.Prelude.{if◌then◌else◌}
use Rattle.tdb_space.specs.Form.{Form}
use Rattle.tdb_space.specs.Pairs.{home}
use Rattle.tdb_law.specs.Commands.{Command, Reply, Turn}
use Rattle.tdb_law.specs.Commands.Turn.{Step, Blocked, Ends}
use Rattle.tdb_law.specs.Openers.{Own, Map, Spot, Mark, Task, seen, has}
use Rattle.tdb_law.specs.Refusals.{chain_byte, refusal}
use Rattle.tdb_law.specs.Ends.{IsRow}
use Rattle.tdb_law.specs.Outcomes.{moves}
use Rattle.tdb_law.specs.Counting.{number_seen, number_or, settled_after}
use Rattle.tdb_law.specs.Held.{holding, decided, moves_at}
use Rattle.tdb_law.specs.World.{State}
use Rattle.tdb_law.specs.Effects.{Effect, IsFree, IsFirstConflict, Finds, SpotLeft}
use Rattle.tdb_law.specs.Effects.Effect.{effect_waits, effect_goes_on, effect_changes, effect_answers, effect_shows, effect_starves, effect_is_full, effect_is_busy, effect_numbers, effect_finishes}
use Rattle.tdb_law.specs.Turned.{Turned, want, number_next}
use Rattle.tdb_law.specs.Walks.{Lost, Shift, TakenBy, Taken, Moves, Arrives, Finishes, Walked, begins}
use Rattle.tdb_law.specs.Walks.Walked.{walk_steps, walk_rests, walk_ends, walk_arrives, walk_finishes, walk_halts, walk_fails}
use Rattle.tdb_law.specs.OneAside.Turns.{IsApart}
use Rattle.tdb_law.proofs.OneAside.Ungrouped.{next_apart, image_stays}

-- An effect is one where its opener finds the same free, in its way and further on, and sees the same number.
effect_alike : (f : Form) (free free2 : Type 0) (conflict conflict2 : ℕ → ℕ → Type 0) (finds finds2 : Reply → Type 0) (number number2 : ℕ) (c : Command) (n : ℕ) (x : Own) (file : Map) (turn : Turn) (y : Own) (next : Map)
    → (free → free2) → ((o b : ℕ) → conflict o b → conflict2 o b) → ((r : Reply) → finds r → finds2 r) → number ≡ number2 → Effect f free conflict finds number c n x file turn y next → Effect f free2 conflict2 finds2 number2 c n x file turn y next
effect_alike f free free2 conflict conflict2 finds finds2 number number2 c n x file turn y next to_free to_conflict to_finds same = by_kind
  where
    by_kind : Effect f free conflict finds number c n x file turn y next → Effect f free2 conflict2 finds2 number2 c n x file turn y next
    by_kind (effect_waits o b e met unchanged kept own) = effect_waits o b e (to_conflict o b met) unchanged kept own
    by_kind (effect_goes_on e found unchanged kept own) = effect_goes_on e (to_free found) unchanged kept own
    by_kind (effect_changes e found late unchanged made done changed own) = effect_changes e (to_free found) late unchanged made done changed own
    by_kind (effect_answers r e found still uncounted ready unchanged says changed own) = effect_answers r e (to_free found) still uncounted ready unchanged says changed own
    by_kind (effect_shows r e found moving shown kept own) = effect_shows r e (to_free found) moving (to_finds r shown) kept own
    by_kind (effect_starves e starving unchanged kept own) = effect_starves e starving unchanged kept own
    by_kind (effect_is_full len need e found filling ready unchanged done kept own) = effect_is_full len need e (to_free found) filling ready unchanged done kept own
    by_kind (effect_is_busy o b e met busy kept own) = effect_is_busy o b e (to_conflict o b met) busy kept own
    by_kind (effect_numbers q e found counting says kept own) = effect_numbers q e (to_free found) counting (says ∙ same) kept own
    by_kind (effect_finishes e found made kept own) = effect_finishes e (to_free found) made kept own

-- what a turn reads of a world at its opener
pub record Here : Type 0 where
  pub task : Option Task
  pub own : Own
  pub spot : Spot
  pub mark : Mark
  pub table : ℕ → ℕ
  pub file : Map
  pub number : ℕ

abbrev pub here_of : State → ℕ → Here
here_of w o = record { task = w.task o; own = w.own o; spot = w.spot o; mark = w.mark o; table = w.table o; file = w.file; number = w.number }

-- What a turn leaves of all others, of the images and of the gate.
pub record Leaves (f : Form) (old : State) (who : ℕ) (t : Task) (turn : Turn) (new : State) : Type 0 where
  pub joined : new.joined ≡ old.joined
  pub task : (o : ℕ) → o ≢ who → new.task o ≡ old.task o
  pub own : (o : ℕ) → o ≢ who → new.own o ≡ old.own o
  pub spot : (o : ℕ) → o ≢ who → new.spot o ≡ old.spot o
  pub table : (o b : ℕ) → o ≢ who → new.table o b ≡ old.table o b
  pub walk : (o : ℕ) → o ≢ who → Shift f (Lost f t.command t.steps (old.own who) turn false (old.mark o)) (old.mark o) (new.mark o)
  pub image_number : (o : ℕ) → new.image_number o ≡ old.image_number o
  pub ready : old.stale ≡ false
  pub stale : new.stale ≡ false
  pub settled : new.settled ≡ settled_after f t.command (old.own who) t.steps turn old.settled

module _ (f : Form) (p later q after : State) (who : ℕ) (t : Task) (turn : Turn) (T : Turned f p who t turn later) (A : here_of q who ≡ here_of p who) (B : here_of after who ≡ here_of later who)
    (out : (p.own who).txn ≡ None) (apart : IsApart (refusal f t.command (p.own who)) t.command) (wants : want f q who t ≡ want f p who t) (must : (q.view who).must ≡ (p.view who).must)
    (to_free : IsFree p.table who (want f p who t) → IsFree q.table who (want f p who t)) (to_conflict : (o b : ℕ) → IsFirstConflict p.table who (want f p who t) o b → IsFirstConflict q.table who (want f p who t) o b)
    (taken_by : (start : Bool) (o : ℕ) (k : List ℕ) → TakenBy f p start o k → TakenBy f q start o k) where
  abbrev c : Command
  c = t.command

  abbrev n : ℕ
  n = t.steps

  -- the effect, where what is wanted is the same, and so what is free and in the way of it
  abbrev EffectFrom : (ℕ → ℕ) → Here → Here → Type 0
  EffectFrom W h l = Effect f (IsFree q.table who W) (IsFirstConflict q.table who W) (Finds f h.table W (seen h.own h.file)) (number_seen h.own h.number (q.image_number who)) c n h.own h.file turn l.own l.file

  effect : EffectFrom (want f q who t) (here_of q who) (here_of after who)
  effect =
      subst (λ W. EffectFrom W (here_of q who) (here_of after who)) (sym wants)
      (subst₂ (EffectFrom (want f p who t)) (sym A) (sym B)
      (effect_alike f _ _ _ _ _ _ _ _ c n (p.own who) p.file turn (later.own who) later.file to_free to_conflict (λ r found. found) (ap (λ o. number_or o p.number (p.image_number who)) out ∙ sym (ap (λ o. number_or o p.number (q.image_number who)) out)) T.effect))

  -- the cursor, where what the file adds to it is the same
  same_decided : decided (p.spot who) (p.view who) n ≡ decided (p.spot who) (q.view who) n
  same_decided = ap (λ m. record (p.spot who) { purging = if n == 0 then m else (p.spot who).purging }) (sym must)

  spot_by : (u : Turn) → SpotLeft f (p.table who) (want f p who t) c n (p.own who) (later.own who) (p.spot who) (p.view who) (later.spot who) u → SpotLeft f (p.table who) (want f p who t) c n (p.own who) (later.own who) (p.spot who) (q.view who) (later.spot who) u
  spot_by Step e = e ∙ same_decided
  spot_by (Blocked o b) left = subst (λ d. (later.spot who ≡ p.spot who) ⊎ ((moves_at f c (p.own who) d n ≡ true) × ((later.spot who).gone ≡ true) × ((later.spot who).stands ≡ None))) same_decided left
  spot_by (Ends r) left = left

  leaves_spot : SpotLeft f (q.table who) (want f q who t) c n (q.own who) (after.own who) (q.spot who) (q.view who) (after.spot who) turn
  leaves_spot =
      subst (λ W. SpotLeft f (q.table who) W c n (q.own who) (after.own who) (q.spot who) (q.view who) (after.spot who) turn) (sym wants)
      (subst₂ (λ h l. SpotLeft f h.table (want f p who t) c n h.own l.own h.spot (q.view who) l.spot turn) (sym A) (sym B) (spot_by turn T.leaves_spot))

  -- the walk, where the same keys are taken out by others
  to_taken : (start : Bool) (k : List ℕ) → Taken f p who start k → Taken f q who start k
  to_taken start k taken = (taken.0, taken.1, taken_by start taken.0 k taken.2)

  moves_alike : (start : Bool) (key : Option (List ℕ)) → Moves f p later who start key → Moves f q after who start key
  moves_alike start key M = record {
    holds = subst (λ h. start ≡ false → h.mark.inside ≡ true → (k : List ℕ) → home f k + 1 ≡ h.mark.reached → 1 ≤ h.table (chain_byte f k)) (sym A) M.holds;
    further = subst₂ (λ h l. start ≡ false → h.mark.reached ≤ l.mark.reached) (sym A) (sym B) M.further;
    fewer = subst₂ (λ h l. start ≡ false → (k : List ℕ) → l.mark.ahead k ≡ true → h.mark.ahead k ≡ true) (sym A) (sym B) M.fewer;
    kept = subst₂ (λ h l. (k : List ℕ) → (if start then has (seen h.own h.file) k else h.mark.ahead k) ≡ true → (key ≡ Some k) ⊎ (l.mark.ahead k ≡ true) ⊎ Taken f q who start k) (sym A) (sym B)
        (λ k due. elim (M.kept k due) [
          | inl shown ↦ inl shown
          | inr rest ↦ elim rest [ inl ahead ↦ inr (inl ahead) | inr taken ↦ inr (inr (to_taken start k taken)) ]
        ]);
  }

  arrives_alike : (start : Bool) (k : List ℕ) → Arrives f p later who start k → Arrives f q after who start k
  arrives_alike start k R = record {
    moved = moves_alike start (Some k) R.moved;
    was = subst (λ h. start ≡ false → h.mark.ahead k ≡ true) (sym A) R.was;
    behind = subst (λ l. l.mark.ahead k ≡ false) (sym B) R.behind;
    reached = subst (λ l. home f k < l.mark.reached) (sym B) R.reached;
  }

  finishes_alike : (start : Bool) → Finishes f p who start → Finishes f q who start
  finishes_alike start F = record {
    holds = subst (λ h. start ≡ false → h.mark.inside ≡ true → (k : List ℕ) → home f k + 1 ≡ h.mark.reached → 1 ≤ h.table (chain_byte f k)) (sym A) F.holds;
    nothing = subst (λ h. (k : List ℕ) → (if start then has (seen h.own h.file) k else h.mark.ahead k) ≡ true → Taken f q who start k) (sym A) (λ k due. to_taken start k (F.nothing k due));
  }

  abbrev shifts : Here → Here → Type 0
  shifts h l = Shift f (Lost f c n h.own turn true h.mark) h.mark l.mark

  same_moves : moves f c (q.own who) ≡ moves f c (p.own who)
  same_moves = ap (λ h. moves f c h.own) A

  same_start : begins f c (p.own who) (p.spot who) ≡ begins f c (q.own who) (q.spot who)
  same_start = ap (λ h. begins f c h.own h.spot) (sym A)

  walk_by : Walked f p later who c n turn → Walked f q after who c n turn
  walk_by (walk_steps e shift) = walk_steps e (subst₂ shifts (sym A) (sym B) shift)
  walk_by (walk_rests o b e gone shift) = walk_rests o b e (subst₂ (λ h l. l.spot.gone ≡ h.spot.gone) (sym A) (sym B) gone) (subst₂ shifts (sym A) (sym B) shift)
  walk_by (walk_ends r e still shift) = walk_ends r e (same_moves ∙ still) (subst₂ (λ h l. is_some l.own.cursor ≡ true → shifts h l) (sym A) (sym B) shift)
  walk_by (walk_arrives k v e moving R) = walk_arrives k v e (same_moves ∙ moving) (subst (λ start. Arrives f q after who start k) same_start (arrives_alike _ k R))
  walk_by (walk_finishes e moving F) = walk_finishes e (same_moves ∙ moving) (subst (Finishes f q who) same_start (finishes_alike _ F))
  walk_by (walk_halts o b e moving gone outside M) = walk_halts o b e (same_moves ∙ moving) (ap (λ h. h.spot.gone) B ∙ gone) (ap (λ h. h.mark.inside) B ∙ outside) (subst (λ start. Moves f q after who start None) same_start (moves_alike _ None M))
  walk_by (walk_fails e moving) = walk_fails e (same_moves ∙ moving)

  -- so the turn is one there
  pub turned_alike : Leaves f q who t turn after → Turned f q who t turn after
  turned_alike L = record {
    mine = ap (λ h. h.task) A ∙ T.mine;
    joined = L.joined;
    others = L.task;
    others_own = L.own;
    others_spot = L.spot;
    others_hold = L.table;
    others_number = λ o ne. L.image_number o;
    others_walk = L.walk;
    row = subst (λ h. IsRow f c h.own n turn) (sym A) T.row;
    leaves = ap (λ h. h.task) B ∙ T.leaves;
    leaves_spot = leaves_spot;
    effect = effect;
    holds = subst (λ h. (b : ℕ) → h.table b ≡ holding f h.own h.spot h.task b) (sym B) T.holds;
    walks = walk_by T.walks;
    ready = L.ready;
    stale = L.stale;
    settled = L.settled;
    number = subst₂ (λ h l. l.number ≡ number_next f c n h.own turn h.number (q.image_number who)) (sym A) (sym B) (T.number ∙ next_apart f c n (p.own who) turn p.number (p.image_number who) (q.image_number who) apart);
    image_number = L.image_number who ∙ image_stays f c (q.own who) turn q.number (q.image_number who) (subst (λ h. IsApart (refusal f c h.own) c) (sym A) apart) (ap (λ h. h.own.txn) A ∙ out);
  }
