-- The sequence number of the replay is the file's after a turn, but for a pending commit that brings one.
use Rattle.std.proofs.Common.{◌≡◌, ℕ, ◌+◌, List, [], Bool, true, false, cond, Option, Some, None, refl, sym, ◌∙◌, ap, subst, subst₂, inl, inr, ◌⊎◌, arith, ◌≢◌}
use Rattle.std.specs.Prelude.{◌&&◌}
use Rattle.std.proofs.lemmas.Bool.{cases_Bool, cases_eq}
use Rattle.tdb_space.specs.Form.{Form}
use Rattle.tdb_law.specs.Commands.{MapCommand, Command, Reply, Turn, is_done}
use Rattle.tdb_law.specs.Commands.GroupCommand.{Start, Commit, Prepare, Cancel}
use Rattle.tdb_law.specs.Commands.Command.{OnMap, OnLocks, Seqnum, OnGroup, OnWalk}
use Rattle.tdb_law.specs.Commands.Reply.{Done, Memory, Busy, Number}
use Rattle.tdb_law.specs.Commands.Turn.{Step, Blocked, Ends}
use Rattle.tdb_law.specs.Openers.{Own, Task, seen}
use Rattle.tdb_law.specs.MapCommands.{map_changes}
use Rattle.tdb_law.specs.Refusals.{Refusal, refusal, chain_byte}
use Rattle.tdb_law.specs.Rows.{is_changed}
use Rattle.tdb_law.specs.Outcomes.{touches_by, touches, commits}
use Rattle.tdb_law.specs.Counting.{number_seen}
use Rattle.tdb_law.specs.World.{State, IsPending, IsSound}
use Rattle.tdb_law.specs.Effects.{IsFree, IsFirstConflict, IsReady, Effect, Finds, task_left}
use Rattle.tdb_law.specs.Effects.Effect.{effect_waits, effect_goes_on, effect_changes, effect_answers, effect_shows, effect_starves, effect_is_full, effect_is_busy, effect_numbers, effect_finishes}
use Rattle.tdb_law.specs.Turned.{Turned, want}
use Rattle.tdb_law.specs.Replay.{Replay}
use Rattle.tdb_law.specs.Standing.{Stands}
use Rattle.tdb_law.proofs.Maps.{is_key-refl}
use Rattle.tdb_law.proofs.Sound.{own_kept}
use Rattle.tdb_law.proofs.Pending.{pending_touches, pending_before, pending_after, own_pending, pending_own, make_pending}
use Rattle.tdb_law.specs.Commands.MapCommand.{Fetch, Has, Delete, Store, Insert, Modify, Append, Wipe, Check}
use Rattle.tdb_law.specs.Commands.{is_done}
use Rattle.tdb_law.specs.Openers.{outside}
use Rattle.tdb_law.specs.MapCommands.{map_reads}
use Rattle.tdb_law.specs.Outcomes.{reads_by, reads}
use Rattle.tdb_law.specs.Counting.{raised, is_numbered, brings_by, brings, number_by, image_number_by, number_after, image_number_after}
use Rattle.tdb_law.specs.Turned.{number_next}
use Rattle.tdb_law.specs.Standing.{IsBringing}
use Rattle.tdb_law.proofs.Covered.{changed_late}
use Rattle.tdb_law.proofs.Sound.{sound_after, moves_reads}
use Rattle.tdb_law.proofs.Pending.{clash_read, pending_left, left_pending}
use Rattle.tdb_law.proofs.Shifting.{still_pending}
use Rattle.tdb_law.proofs.Tests.{never_true, and_both}

-- a commit that brings its number touches every key, and reads it
brings_touches_by : (q : Option Refusal) (c : Command) (x : Own) (k : List ℕ) → brings_by q c x ≡ true → touches_by q c x k ≡ true
brings_touches_by (Some q) c x k e = absurd (never_true e)
brings_touches_by None (OnMap c) x k e = absurd (never_true e)
brings_touches_by None (OnLocks c) x k e = absurd (never_true e)
brings_touches_by None Seqnum x k e = absurd (never_true e)
brings_touches_by None (OnGroup Start) x k e = absurd (never_true e)
brings_touches_by None (OnGroup Commit) x k e = (and_both _ _ e).0
brings_touches_by None (OnGroup Prepare) x k e = absurd (never_true e)
brings_touches_by None (OnGroup Cancel) x k e = absurd (never_true e)
brings_touches_by None (OnWalk c) x k e = absurd (never_true e)

brings_touches : (f : Form) (c : Command) (x : Own) (k : List ℕ) → brings f c x ≡ true → touches f c x k ≡ true
brings_touches f c x k e = brings_touches_by (refusal f c x) c x k e

-- a command after which the file's number is another has read a key; a commit that brings one gives its image's
own_key : (c : MapCommand) → map_changes c ≡ true → (k : List ℕ) × (map_reads c k ≡ true)
own_key (Fetch k) e = absurd (never_true e)
own_key (Has k) e = absurd (never_true e)
own_key (Delete k) e = (k, is_key-refl k)
own_key (Store k v) e = (k, is_key-refl k)
own_key (Insert k v) e = (k, is_key-refl k)
own_key (Modify k v) e = (k, is_key-refl k)
own_key (Append k v) e = (k, is_key-refl k)
own_key Wipe e = ([], refl)
own_key Check e = absurd (never_true e)

abbrev StillOrReads : (g : ℕ → ℕ → ℕ) → (List ℕ → Bool) → Type 0
StillOrReads g reading = ((q p : ℕ) → g q p ≡ q) ⊎ ((k : List ℕ) × (reading k ≡ true))

map_number : (c : MapCommand) (o z : Bool) → StillOrReads (λ q p. cond (o && map_changes c) (raised z q) q) (λ k. o && map_reads c k)
map_number c false z = inl (λ q p. refl)
map_number c true z =
    elim (cases_Bool (map_changes c)) [
      | inl e ↦ inr (own_key c e)
      | inr e ↦ inl (λ q p. rw e refl)
    ]

commit_number : (a b : Bool) → StillOrReads (λ q p. cond (a && b) p q) (λ k. a)
commit_number true b = inr ([], refl)
commit_number false b = inl (λ q p. refl)

number_still_by : (q : Option Refusal) (c : Command) (x : Own) → StillOrReads (number_by q c x) (reads_by q c x)
number_still_by (Some q) c x = inl (λ u p. refl)
number_still_by None (OnMap c) x = map_number c (outside x) x.options.seqnum
number_still_by None (OnLocks c) x = inl (λ u p. refl)
number_still_by None Seqnum x = inl (λ u p. refl)
number_still_by None (OnGroup Start) x = inl (λ u p. refl)
number_still_by None (OnGroup Commit) x = commit_number (commits x.txn) (is_numbered x.txn)
number_still_by None (OnGroup Prepare) x = inl (λ u p. refl)
number_still_by None (OnGroup Cancel) x = inl (λ u p. refl)
number_still_by None (OnWalk c) x = inl (λ u p. refl)

-- the number of an image depends on the file's only at a Start, which has read all
image_still_by : (q : Option Refusal) (c : Command) (x : Own) → ((u v p : ℕ) → image_number_by q c x u p ≡ image_number_by q c x v p) ⊎ ((k : List ℕ) × (reads_by q c x k ≡ true))
image_still_by (Some q) c x = inl (λ u v p. refl)
image_still_by None (OnMap c) x = inl (λ u v p. refl)
image_still_by None (OnLocks c) x = inl (λ u v p. refl)
image_still_by None Seqnum x = inl (λ u v p. refl)
image_still_by None (OnGroup Start) x = go (outside x)
  where
    go : (o : Bool) → ((u v p : ℕ) → cond o u p ≡ cond o v p) ⊎ ((k : List ℕ) × (o ≡ true))
    go true = inr ([], refl)
    go false = inl (λ u v p. refl)
image_still_by None (OnGroup Commit) x = inl (λ u v p. refl)
image_still_by None (OnGroup Prepare) x = inl (λ u v p. refl)
image_still_by None (OnGroup Cancel) x = inl (λ u v p. refl)
image_still_by None (OnWalk c) x = inl (λ u v p. refl)

brings_number_by : (q : Option Refusal) (c : Command) (x : Own) (u p : ℕ) → brings_by q c x ≡ true → number_by q c x u p ≡ p
brings_number_by (Some q) c x u p e = absurd (never_true e)
brings_number_by None (OnMap c) x u p e = absurd (never_true e)
brings_number_by None (OnLocks c) x u p e = absurd (never_true e)
brings_number_by None Seqnum x u p e = absurd (never_true e)
brings_number_by None (OnGroup Start) x u p e = absurd (never_true e)
brings_number_by None (OnGroup Commit) x u p e = rw e refl
brings_number_by None (OnGroup Prepare) x u p e = absurd (never_true e)
brings_number_by None (OnGroup Cancel) x u p e = absurd (never_true e)
brings_number_by None (OnWalk c) x u p e = absurd (never_true e)

brings_image_by : (q : Option Refusal) (c : Command) (x : Own) (u p : ℕ) → brings_by q c x ≡ true → image_number_by q c x u p ≡ p
brings_image_by (Some q) c x u p e = absurd (never_true e)
brings_image_by None (OnMap c) x u p e = absurd (never_true e)
brings_image_by None (OnLocks c) x u p e = absurd (never_true e)
brings_image_by None Seqnum x u p e = absurd (never_true e)
brings_image_by None (OnGroup Start) x u p e = absurd (never_true e)
brings_image_by None (OnGroup Commit) x u p e = refl
brings_image_by None (OnGroup Prepare) x u p e = absurd (never_true e)
brings_image_by None (OnGroup Cancel) x u p e = absurd (never_true e)
brings_image_by None (OnWalk c) x u p e = absurd (never_true e)

module _ (f : Form) (old new : State) (who : ℕ) (task : Task) (turn : Turn) (S : IsSound f old) (T : Turned f old who task turn new) (s : Replay) (P : Stands f old s) where
  abbrev c : Command
  c = task.command

  abbrev n : ℕ
  n = task.steps

  abbrev x : Own
  x = old.own who

  abbrev p : ℕ
  p = old.image_number who

  abbrev TheEffect : Type 0
  TheEffect = Effect f (IsFree old.table who (want f old who task)) (IsFirstConflict old.table who (want f old who task)) (Finds f (old.table who) (want f old who task) (seen x old.file))
      (number_seen x old.number (old.image_number who)) c n x old.file turn (new.own who) new.file

  -- a command that is done has had its look
  done_ready_by : (r : Reply) → turn ≡ Ends r → is_done r ≡ true → TheEffect → IsReady f c x n
  done_ready_by r e done (effect_waits o b e2 conflict not_yet file own) = cc
  done_ready_by r e done (effect_goes_on e2 free same file own) = cc
  done_ready_by r e done (effect_changes e2 free late not_yet made2 fine file own) = cc
  done_ready_by r e done (effect_answers r2 e2 free moving counting ready not_yet says file own) = ready
  done_ready_by r e done (effect_shows r2 e2 free moving found file own) = λ k reading. absurd (moves_reads f c x k moving reading)
  done_ready_by r e done (effect_starves e2 want_of not_yet file own) = absurd (never_true (sym (end_done Memory e2) ∙ done))
    where
      end_done : (z : Reply) → turn ≡ Ends z → is_done r ≡ is_done z
      end_done z e3 = cc
  done_ready_by r e done (effect_is_full len need e2 free filling ready not_yet fine file own) = ready
  done_ready_by r e done (effect_is_busy o b e2 conflict busy file own) = absurd (never_true (sym (end_done (Busy o b) e2) ∙ done))
    where
      end_done : (z : Reply) → turn ≡ Ends z → is_done r ≡ is_done z
      end_done z e3 = cc
  done_ready_by r e done (effect_numbers q e2 free counting same file own) = absurd (never_true (sym (end_done (Number q) e2) ∙ done))
    where
      end_done : (z : Reply) → turn ≡ Ends z → is_done r ≡ is_done z
      end_done z e3 = cc
  done_ready_by r e done (effect_finishes e2 free made2 file own) = λ k reading. changed_late f c x n made2

  done_ready : (r : Reply) → turn ≡ Ends r → is_done r ≡ true → IsReady f c x n
  done_ready r e done = done_ready_by r e done T.effect

  -- who has read a key meets nobody else's commit
  reader_alone : (o : ℕ) (d : Command) (y : Own) → o ≢ who → IsPending f old o d y → brings f d y ≡ true → IsReady f c x n → (k : List ℕ) → reads f c x k ≡ true → ⊥
  reader_alone o d y ne pend e ready k reading = clash_read f old S o d y pend who task T.mine ne ready k (brings_touches f d y k e) reading

  -- the opener's own pending commit that brings its number
  own_brings : (by : IsBringing f old) → by.owner ≡ who → (is_changed f c x n ≡ true) × (brings f c x ≡ true)
  own_brings by is =
      let was = pending_own f old new who task turn T by.command by.own (subst (λ o. IsPending f old o by.command by.own) is by.pending) in
      (was.2, subst₂ (λ z y. brings f z y ≡ true) (sym was.0) (sym was.1) by.brings)

  other_brings : (by : IsBringing f old) → by.owner ≢ who → IsBringing f new
  other_brings by ne = record { owner = by.owner; command = by.command; own = by.own; pending = pending_after f old new who task turn T by.owner by.command by.own ne by.pending; brings = by.brings }

  -- the numbers after the end of a command
  end_number : (r : Reply) → turn ≡ Ends r → (b : Bool) → is_done r ≡ b
      → (cond b (number_by (refusal f c x) c x s.number p) s.number ≡ cond b (number_by (refusal f c x) c x old.number p) old.number) ⊎ IsBringing f new
  end_number r e false not_done =
      elim P.number [
        | inl same ↦ inl same
        | inr by ↦ elim (cases_eq by.owner who) [
          | inr ne ↦ inr (other_brings by ne)
          | inl is ↦ absurd (never_done (own_brings by is).0)
        ]
      ]
    where
      reply_done : (z : Reply) → Ends r ≡ Ends z → is_done r ≡ is_done z
      reply_done z e2 = cc

      no_task : IsPending f new who c x → ⊥
      no_task pend = (pending_left f old new who task turn T c x pend).1 r e

      never_done : is_changed f c x n ≡ true → ⊥
      never_done made =
          elim (still_pending f old new who task turn S T s P made) [
            | inl pend ↦ no_task pend
            | inr done ↦ never_true (sym not_done ∙ reply_done Done (sym e ∙ done))
          ]
  end_number r e true done =
      elim P.number [
        | inl same ↦ inl (ap (λ q. number_by (refusal f c x) c x q p) same)
        | inr by ↦ elim (cases_eq by.owner who) [
          | inl is ↦ (let both = own_brings by is in inl (brings_number_by (refusal f c x) c x s.number p both.1 ∙ sym (brings_number_by (refusal f c x) c x old.number p both.1)))
          | inr ne ↦ inr (other_brings by ne)
        ]
      ]

  -- the file's number stays where another's commit is pending
  number_stays : (r : Reply) → turn ≡ Ends r → (o : ℕ) (d : Command) (y : Own) → o ≢ who → IsPending f old o d y → brings f d y ≡ true → (b : Bool) → is_done r ≡ b
      → cond b (number_by (refusal f c x) c x old.number p) old.number ≡ old.number
  number_stays r e o d y ne pend bring false not_done = refl
  number_stays r e o d y ne pend bring true done =
      elim (number_still_by (refusal f c x) c x) [
        | inl still ↦ still old.number p
        | inr reading ↦ absurd (reader_alone o d y ne pend bring (done_ready r e done) reading.0 reading.1)
      ]

  -- the number of the image
  image_same : (r : Reply) → turn ≡ Ends r → (b : Bool) → is_done r ≡ b
      → cond b (image_number_by (refusal f c x) c x s.number p) p ≡ cond b (image_number_by (refusal f c x) c x old.number p) p
  image_same r e false not_done = refl
  image_same r e true done =
      elim P.number [
        | inl same ↦ ap (λ q. image_number_by (refusal f c x) c x q p) same
        | inr by ↦ elim (cases_eq by.owner who) [
          | inl is ↦ (let both = own_brings by is in brings_image_by (refusal f c x) c x s.number p both.1 ∙ sym (brings_image_by (refusal f c x) c x old.number p both.1))
          | inr ne ↦ elim (image_still_by (refusal f c x) c x) [
            | inl still ↦ still s.number old.number p
            | inr reading ↦ absurd (reader_alone by.owner by.command by.own ne by.pending by.brings (done_ready r e done) reading.0 reading.1)
          ]
        ]
      ]

  same_p : s.image_number who ≡ p
  same_p = P.image_number who

  image_by : (u : Turn) → turn ≡ u → image_number_after f c x u s.number (s.image_number who) ≡ image_number_after f c x u old.number p
  image_by Step e = same_p
  image_by (Blocked o b) e = same_p
  image_by (Ends r) e = ap (λ v. cond (is_done r) (image_number_by (refusal f c x) c x s.number v) v) same_p ∙ image_same r e (is_done r) refl

  pub image_after : image_number_after f c x turn s.number (s.image_number who) ≡ new.image_number who
  image_after = image_by turn refl ∙ sym T.image_number

  -- a step, with or without the gate shut by it
  step_end : (r : Reply) → Step ≡ Ends r → ⊥
  step_end r e = cc

  step_own : turn ≡ Step → new.own who ≡ x
  step_own e = own_kept f old new who task turn S T (λ r end. step_end r (sym e ∙ end))

  step_pending : turn ≡ Step → is_changed f c x (n + 1) ≡ true → IsPending f new who c x
  step_pending e made = make_pending f old new who task turn T (n + 1) (T.leaves ∙ ap (task_left c n) e) (step_own e) made

  step_number : turn ≡ Step → (b : Bool) → brings f c x && is_changed f c x (n + 1) ≡ b → (s.number ≡ cond b p old.number) ⊎ IsBringing f new
  step_number e true both = (let parts = and_both _ _ both in inr (record { owner = who; command = c; own = x; pending = step_pending e parts.1; brings = parts.0 }))
  step_number e false never =
      elim P.number [
        | inl same ↦ inl same
        | inr by ↦ elim (cases_eq by.owner who) [
          | inr ne ↦ inr (other_brings by ne)
          | inl is ↦ (let both = own_brings by is in
              elim (still_pending f old new who task turn S T s P both.0) [
                | inl pend ↦ inr (record { owner = who; command = c; own = x; pending = pend; brings = both.1 })
                | inr done ↦ absurd (step_end Done (sym e ∙ done))
              ])
        ]
      ]

  number_by_turn : (u : Turn) → turn ≡ u → (number_after f c x u s.number (s.image_number who) ≡ number_next f c n x u old.number p) ⊎ IsBringing f new
  number_by_turn Step e = step_number e (brings f c x && is_changed f c x (n + 1)) refl
  number_by_turn (Blocked o b) e =
      elim P.number [
        | inl same ↦ inl same
        | inr by ↦ elim (cases_eq by.owner who) [
          | inr ne ↦ inr (other_brings by ne)
          | inl is ↦ (let both = own_brings by is in
              elim (still_pending f old new who task turn S T s P both.0) [
                | inl pend ↦ inr (record { owner = who; command = c; own = x; pending = pend; brings = both.1 })
                | inr done ↦ absurd (block_end Done (sym e ∙ done))
              ])
        ]
      ]
    where
      block_end : (r : Reply) → Blocked o b ≡ Ends r → ⊥
      block_end r e2 = cc
  number_by_turn (Ends r) e =
      elim (end_number r e (is_done r) refl) [
        | inl same ↦ inl (ap (λ v. cond (is_done r) (number_by (refusal f c x) c x s.number v) s.number) same_p ∙ same)
        | inr by ↦ inr by
      ]

  pub number_stands : (number_after f c x turn s.number (s.image_number who) ≡ new.number) ⊎ IsBringing f new
  number_stands =
      elim (number_by_turn turn refl) [
        | inl same ↦ inl (same ∙ sym T.number)
        | inr by ↦ inr by
      ]

  -- a commit that has shut its gate has its number in the file
  two_pending : (o : ℕ) (d : Command) (y : Own) (e : Command) (v : Own) → o ≢ who → IsPending f new o d y → brings f d y ≡ true → IsPending f new who e v → brings f e v ≡ true → ⊥
  two_pending o d y e v ne one one_brings two two_brings =
      let now = sound_after f old new who task turn S T in
      omega (arith, pending_touches f new now o d y one [] (brings_touches f d y [] one_brings), pending_touches f new now who e v two [] (brings_touches f e v [] two_brings), now.apart o who (chain_byte f []) ne)

  step_shut : turn ≡ Step → (o : ℕ) (d : Command) (y : Own) → o ≢ who → IsPending f new o d y → brings f d y ≡ true → (b : Bool) → brings f c x && is_changed f c x (n + 1) ≡ b → cond b p old.number ≡ old.number
  step_shut e o d y ne pend bring true both = (let parts = and_both _ _ both in absurd (two_pending o d y c x ne pend bring (step_pending e parts.1) parts.0))
  step_shut e o d y ne pend bring false never = refl

  other_shut : (u : Turn) → turn ≡ u → (o : ℕ) (d : Command) (y : Own) → o ≢ who → IsPending f new o d y → brings f d y ≡ true → number_next f c n x u old.number p ≡ old.number
  other_shut Step e o d y ne pend bring = step_shut e o d y ne pend bring _ refl
  other_shut (Blocked q b) e o d y ne pend bring = refl
  other_shut (Ends r) e o d y ne pend bring = number_stays r e o d y ne (pending_before f old new who task turn T o d y ne pend) bring (is_done r) refl

  own_shut : (u : Turn) → turn ≡ u → (d : Command) (y : Own) → IsPending f new who d y → brings f d y ≡ true → number_next f c n x u old.number p ≡ image_number_after f c x u old.number p
  own_shut Step e d y pend bring =
      let was = left_pending f old new who task turn T (n + 1) d y (T.leaves ∙ ap (task_left c n) e) (step_own e) pend in
      let mine : brings f c x ≡ true = subst₂ (λ z v. brings f z v ≡ true) (sym was.0) (sym was.1) bring in
      rw (mine, was.2) refl
  own_shut (Blocked o b) e d y pend bring =
      let was = left_pending f old new who task turn T n d y (T.leaves ∙ ap (task_left c n) e) (own_kept f old new who task turn S T (λ r end. block_end r (sym e ∙ end))) pend in
      P.shut who c x (own_pending f old new who task turn T was.2) (subst₂ (λ z v. brings f z v ≡ true) (sym was.0) (sym was.1) bring)
    where
      block_end : (r : Reply) → Blocked o b ≡ Ends r → ⊥
      block_end r e2 = cc
  own_shut (Ends r) e d y pend bring = absurd ((pending_left f old new who task turn T d y pend).1 r e)

  pub shut_after : (o : ℕ) (d : Command) (y : Own) → IsPending f new o d y → brings f d y ≡ true → new.number ≡ new.image_number o
  shut_after o d y pend bring =
      elim (cases_eq o who) [
        | inl is ↦ T.number ∙ (own_shut turn refl d y (subst (λ q. IsPending f new q d y) is pend) bring ∙ (sym T.image_number ∙ ap new.image_number (sym is)))
        | inr ne ↦ T.number ∙ (other_shut turn refl o d y ne pend bring ∙ (P.shut o d y (pending_before f old new who task turn T o d y ne pend) bring ∙ sym (T.others_number o ne)))
      ]
