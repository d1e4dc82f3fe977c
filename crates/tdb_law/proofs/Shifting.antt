-- The walks of other openers through a turn, and the owed keys of all: a shift keeps a walk on its way.
use Rattle.std.proofs.Common.{◌≡◌, ℕ, ◌+◌, ◌<◌, List, Bool, true, false, Some, refl, sym, ◌∙◌, ap, subst, subst₂, inl, inr, ◌⊎◌, arith, ◌≢◌}
use Rattle.std.proofs.lemmas.Bool.{cases_Bool, cases_eq}
use Rattle.tdb_space.specs.Form.{Form}
use Rattle.tdb_space.specs.Pairs.{home}
use Rattle.tdb_law.specs.Commands.{Command, Reply, Turn}
use Rattle.tdb_law.specs.Commands.Reply.{Done}
use Rattle.tdb_law.specs.Commands.Turn.{Step, Blocked, Ends}
use Rattle.tdb_law.specs.Openers.{Own, Task, seen}
use Rattle.tdb_law.specs.Rows.{is_changed}
use Rattle.tdb_law.specs.Outcomes.{touches, touched}
use Rattle.tdb_law.specs.Counting.{takes, number_seen}
use Rattle.tdb_law.specs.World.{State, IsPending, IsSound}
use Rattle.tdb_law.specs.Effects.{IsFree, IsFirstConflict, Effect, Finds, task_left}
use Rattle.tdb_law.specs.Effects.Effect.{effect_waits, effect_goes_on, effect_changes, effect_answers, effect_shows, effect_starves, effect_is_full, effect_is_busy, effect_numbers, effect_finishes}
use Rattle.tdb_law.specs.Walks.{IsPlain, Lost, Shift}
use Rattle.tdb_law.specs.Walks.Lost.{lost_by_done, lost_by_taking, lost_by_passing}
use Rattle.tdb_law.specs.Turned.{Turned, want}
use Rattle.tdb_law.specs.Replay.{Replay, takes_begun, taken, line_own, shown_after, due_after, turned_state, less_due}
use Rattle.tdb_law.specs.Standing.{IsBehind, IsOnWay, is_fresh, WalkStandsBy, WalkStands, Stands}
use Rattle.tdb_law.proofs.Local.{changing}
use Rattle.tdb_law.proofs.Sound.{own_kept, who_joined}
use Rattle.tdb_law.proofs.Pending.{pending_after, pending_own, make_pending}
use Rattle.tdb_law.proofs.Mapped.{own_line}
use Rattle.tdb_law.proofs.Walking.{put_here, put_else, found_taken, plain_touch, way_alike, owed_parts}
use Rattle.tdb_law.proofs.Tests.{never_true}

module _ (f : Form) (old new : State) (who : ℕ) (task : Task) (turn : Turn) (S : IsSound f old) (T : Turned f old who task turn new) (s : Replay) (P : Stands f old s) where
  abbrev c : Command
  c = task.command

  abbrev n : ℕ
  n = task.steps

  abbrev x : Own
  x = old.own who

  -- the replay after the turn, but for what is owed no longer; and whole
  abbrev pub t : Replay
  t = turned_state f s who c x n turn

  abbrev pub after_line : Replay
  after_line = less_due f (touched c turn) t

  abbrev TheEffect : Type 0
  TheEffect = Effect f (IsFree old.table who (want f old who task)) (IsFirstConflict old.table who (want f old who task)) (Finds f (old.table who) (want f old who task) (seen x old.file))
      (number_seen x old.number (old.image_number who)) c n x old.file turn (new.own who) new.file

  pub owns_after : (o : ℕ) → after_line.own o ≡ new.own o
  owns_after o =
      elim (cases_eq o who) [
        | inl e ↦ put_here s.own who (line_own f c x n turn s.map) o e ∙ (sym (own_line f old new who task turn S T s P) ∙ ap new.own (sym e))
        | inr ne ↦ put_else s.own who (line_own f c x n turn s.map) o ne ∙ (P.owns o ∙ sym (T.others_own o ne))
      ]

  pub begun_here : after_line.begun who ≡ task_left c n turn
  begun_here = put_here s.begun who (task_left c n turn) who refl

  -- a step takes the keys that it takes in the replay too
  step_taken : (o : ℕ) (k : List ℕ) → o ≢ who → turn ≡ Step → takes f c x (n + 1) k ≡ true → taken f t o k ≡ true
  step_taken o k ne e takes_it =
      let begun : t.begun who ≡ Some (record { command = c; steps = n + 1 }) = put_here s.begun who (task_left c n turn) who refl ∙ ap (task_left c n) e in
      let own : t.own who ≡ x = put_here s.own who (line_own f c x n turn s.map) who refl ∙ ap (λ u. line_own f c x n u s.map) e in
      let there : takes_begun f (t.own who) (t.begun who) k ≡ true = subst₂ (λ y b. takes_begun f y b k ≡ true) (sym own) (sym begun) takes_it in
      found_taken f t o who k (subst (λ m. who < m) (sym P.joined) (who_joined f old new who task turn S T)) (λ same. ne (sym same)) there

  -- a change that was made stays made through a step, and is told at the end
  made_by : is_changed f c x n ≡ true → turn ≡ Step → TheEffect → is_changed f c x (n + 1) ≡ true
  made_by made e (effect_waits o b e2 conflict not_yet file own) = absurd (never_true (sym not_yet ∙ made))
  made_by made e (effect_goes_on e2 free same file own) = same ∙ made
  made_by made e (effect_changes e2 free late not_yet made2 done file own) = made2
  made_by made e (effect_answers r e2 free moving counting ready not_yet says file own) = absurd (never_true (sym not_yet ∙ made))
  made_by made e (effect_shows r e2 free moving found file own) = cc
  made_by made e (effect_starves e2 want_of not_yet file own) = cc
  made_by made e (effect_is_full len need e2 free filling ready not_yet done file own) = cc
  made_by made e (effect_is_busy o b e2 conflict busy file own) = cc
  made_by made e (effect_numbers q e2 free counting same file own) = cc
  made_by made e (effect_finishes e2 free made2 file own) = cc

  done_by : (r : Reply) → is_changed f c x n ≡ true → turn ≡ Ends r → TheEffect → turn ≡ Ends Done
  done_by r made e (effect_waits o b e2 conflict not_yet file own) = absurd (never_true (sym not_yet ∙ made))
  done_by r made e (effect_goes_on e2 free same file own) = cc
  done_by r made e (effect_changes e2 free late not_yet made2 done file own) = cc
  done_by r made e (effect_answers r2 e2 free moving counting ready not_yet says file own) = absurd (never_true (sym not_yet ∙ made))
  done_by r made e (effect_shows r2 e2 free moving found file own) = absurd (never_true (sym ((changing f c x n made).moves) ∙ moving))
  done_by r made e (effect_starves e2 want_of not_yet file own) = absurd (never_true (sym not_yet ∙ made))
  done_by r made e (effect_is_full len need e2 free filling ready not_yet done file own) = absurd (never_true (sym not_yet ∙ made))
  done_by r made e (effect_is_busy o b e2 conflict busy file own) = absurd (never_true (sym ((changing f c x n made).busies) ∙ busy))
  done_by r made e (effect_numbers q e2 free counting same file own) = absurd (never_true (sym ((changing f c x n made).counts) ∙ counting))
  done_by r made e (effect_finishes e2 free made2 file own) = e2

  -- a pending command of the opener stays pending, or has touched its keys with this line
  pub still_pending : is_changed f c x n ≡ true → IsPending f new who c x ⊎ (turn ≡ Ends Done)
  still_pending made = by_turn turn refl
    where
      step_end : (r : Reply) → Step ≡ Ends r → ⊥
      step_end r e = cc

      block_end : (o b : ℕ) (r : Reply) → Blocked o b ≡ Ends r → ⊥
      block_end o b r e = cc

      by_turn : (u : Turn) → turn ≡ u → IsPending f new who c x ⊎ (turn ≡ Ends Done)
      by_turn Step e =
          inl (make_pending f old new who task turn T (n + 1) (T.leaves ∙ ap (task_left c n) e) (own_kept f old new who task turn S T (λ r end. step_end r (sym e ∙ end))) (made_by made e T.effect))
      by_turn (Blocked o b) e =
          inl (make_pending f old new who task turn T n (T.leaves ∙ ap (task_left c n) e) (own_kept f old new who task turn S T (λ r end. block_end o b r (sym e ∙ end))) made)
      by_turn (Ends r) e = inr (done_by r made e T.effect)

  done_touches : (k : List ℕ) → IsPlain c → touches f c x k ≡ true → turn ≡ Ends Done → touched c turn k ≡ true
  done_touches k plain touching e = ap (λ u. touched c u k) e ∙ plain_touch f c x k plain touching

  -- Through a shift a walk stays on its way, with what it still owes.
  module _ (o : ℕ) (mine : Bool) (shown due owed : List ℕ → Bool) (shift : Shift f (Lost f c n x turn mine (old.mark o)) (old.mark o) (new.mark o))
      (whose : (mine ≡ true → who ≡ o) × (mine ≡ false → o ≢ who)) (was_due : (k : List ℕ) → owed k ≡ true → (due k ≡ true) × (touched c turn k ≡ false) × (taken f t o k ≡ false))
      (way : IsOnWay f old o shown due) where
    abbrev Near : ℕ → List ℕ → Type 0
    Near p k = (p ≡ o) ⊎ (((old.mark o).inside ≡ true) × (home f k + 1 ≡ (old.mark o).reached))

    near_now : (p : ℕ) (k : List ℕ) → Near p k → (p ≡ o) ⊎ (((new.mark o).inside ≡ true) × (home f k + 1 ≡ (new.mark o).reached))
    near_now p k near =
        elim near [
          | inl e ↦ inl e
          | inr both ↦ inr (shift.inside ∙ both.0, both.1 ∙ sym shift.reached)
        ]

    lost_due : (k : List ℕ) → owed k ≡ true → Lost f c n x turn mine (old.mark o) k → IsBehind f new o k
    lost_due k e (lost_by_done done) = absurd (never_true (sym (was_due k e).1 ∙ done))
    lost_due k e (lost_by_taking other step takes_it) = absurd (never_true (sym (was_due k e).2 ∙ step_taken o k (whose.1 other) step takes_it))
    lost_due k e (lost_by_passing step made touching plain near) = record {
      owner = who;
      command = c;
      own = x;
      pending = make_pending f old new who task turn T (n + 1) (T.leaves ∙ ap (task_left c n) step) (own_kept f old new who task turn S T (λ r end. step_end r (sym step ∙ end))) made;
      plain = plain;
      touched = touching;
      near = near_now who k (elim near [ inl is_mine ↦ inl (whose.0 is_mine) | inr both ↦ inr both ]);
    }
      where
        step_end : (r : Reply) → Step ≡ Ends r → ⊥
        step_end r z = cc

    behind_due : (k : List ℕ) → owed k ≡ true → IsBehind f old o k → IsBehind f new o k
    behind_due k e by =
        elim (cases_eq by.owner who) [
          | inl is ↦ (let was = pending_own f old new who task turn T by.command by.own (subst (λ p. IsPending f old p by.command by.own) is by.pending) in
              let plain : IsPlain c = subst IsPlain (sym was.0) by.plain in
              let touching : touches f c x k ≡ true = subst₂ (λ z u. touches f z u k ≡ true) (sym was.0) (sym was.1) by.touched in
              elim (still_pending was.2) [
                | inl pending ↦ record { owner = who; command = c; own = x; pending = pending; plain = plain; touched = touching; near = near_now who k (subst (λ p. Near p k) is by.near) }
                | inr done ↦ absurd (never_true (sym (was_due k e).1 ∙ done_touches k plain touching done))
              ])
          | inr ne ↦ record {
            owner = by.owner;
            command = by.command;
            own = by.own;
            plain = by.plain;
            touched = by.touched;
            near = near_now by.owner k by.near;
            pending = pending_after f old new who task turn T by.owner by.command by.own ne by.pending;
          }
        ]

    pub shifted : IsOnWay f new o shown owed
    shifted = record {
      behind = λ k e.
          (elim (cases_Bool ((new.mark o).ahead k)) [
            | inr never ↦ never
            | inl later ↦ elim (shift.fewer k later) [
              | inl before ↦ absurd (never_true (sym (way.behind k e) ∙ before))
              | inr beyond ↦ absurd (omega (arith, beyond, way.reached k e))
            ]
          ]);
      reached = λ k e. subst (λ u. home f k < u) (sym shift.reached) (way.reached k e);
      due = λ k e.
          (elim (way.due k (was_due k e).0) [
            | inl before ↦ inl before
            | inr rest ↦ elim rest [
              | inl ahead ↦ elim (shift.kept k ahead) [ inl later ↦ inr (inl later) | inr lost ↦ inr (inr (lost_due k e lost)) ]
              | inr behind ↦ inr (inr (behind_due k e behind))
            ]
          ]);
    }

  -- the walk of another opener
  pub others_way : (o : ℕ) → o ≢ who → WalkStands f new after_line o
  others_way o ne =
      let begun : after_line.begun o ≡ s.begun o = put_else s.begun who (task_left c n turn) o ne in
      let own : after_line.own o ≡ s.own o = put_else s.own who (line_own f c x n turn s.map) o ne in
      let shown_same : (k : List ℕ) → after_line.shown o k ≡ s.shown o k = λ k. ap (λ g. g k) (put_else s.shown who (shown_after f s who c turn (line_own f c x n turn s.map)) o ne) in
      let due_same : (k : List ℕ) → t.due o k ≡ s.due o k = λ k. ap (λ g. g k) (put_else s.due who (due_after f s who c turn (line_own f c x n turn s.map)) o ne) in
      let fresh : is_fresh f (after_line.begun o) (after_line.own o) (new.spot o) ≡ is_fresh f (s.begun o) (s.own o) (old.spot o) =
      ap (λ b. is_fresh f b (after_line.own o) (new.spot o)) begun ∙ (ap (λ y. is_fresh f (s.begun o) y (new.spot o)) own ∙ ap (is_fresh f (s.begun o) (s.own o)) (T.others_spot o ne)) in
      subst (λ b. WalkStandsBy b f new o (after_line.shown o) (after_line.due o)) (sym fresh) (by_fresh o ne shown_same due_same (is_fresh f (s.begun o) (s.own o) (old.spot o)) (P.walks o))
    where
      by_fresh : (o : ℕ) → o ≢ who → ((k : List ℕ) → after_line.shown o k ≡ s.shown o k) → ((k : List ℕ) → t.due o k ≡ s.due o k) → (b : Bool) → WalkStandsBy b f old o (s.shown o) (s.due o)
          → WalkStandsBy b f new o (after_line.shown o) (after_line.due o)
      by_fresh o ne shown_same due_same true none = λ k. shown_same k ∙ none k
      by_fresh o ne shown_same due_same false way =
          way_alike f new o (s.shown o) (after_line.shown o) (after_line.due o) (after_line.due o) shown_same (λ k e. e)
          (shifted o false (s.shown o) (s.due o) (after_line.due o) (T.others_walk o ne) ((λ e. absurd (never_true e)), (λ e. ne))
          (λ k e. (let parts = owed_parts f (touched c turn) t o k e in (sym (due_same k) ∙ parts.0, parts.1, parts.3))) way)
