-- The committed map stands for the file after a turn, and the opener is what the line makes of it.
use Rattle.std.proofs.Common.{◌≡◌, ℕ, ◌+◌, ◌≤◌, List, Bool, true, false, cond, nat_le, Option, Some, None, refl, sym, ◌∙◌, ap, subst, subst₂, inl, inr, ◌⊎◌, arith, ◌≢◌}
use Rattle.std.specs.Prelude.{◌&&◌}
use Rattle.std.specs.FinMap.{get}
use Rattle.std.proofs.lemmas.Bool.{cases_Bool, cases_eq, leb-false}
use Rattle.tdb_space.specs.Form.{Form}
use Rattle.tdb_law.specs.Commands.{Command, Reply, Turn, is_spare}
use Rattle.tdb_law.specs.Commands.GroupCommand.{Start, Commit, Prepare, Cancel}
use Rattle.tdb_law.specs.Commands.Command.{OnMap, OnLocks, Seqnum, OnGroup, OnWalk}
use Rattle.tdb_law.specs.Commands.Reply.{Done, Memory, Busy, Full, Number}
use Rattle.tdb_law.specs.Commands.Turn.{Step, Blocked, Ends}
use Rattle.tdb_law.specs.Openers.{Own, Txn, Map, Task, seen, image_or}
use Rattle.tdb_law.specs.Refusals.{Refusal, refusal}
use Rattle.tdb_law.specs.Rows.{look, is_changed, was_planned, commits_in}
use Rattle.tdb_law.specs.Outcomes.{commits, moves_by, moves, counts_by, counts, told, map_by, map_after, own_by, own_after, touches}
use Rattle.tdb_law.specs.Counting.{number_seen}
use Rattle.tdb_law.specs.World.{State, IsPending, IsSound}
use Rattle.tdb_law.specs.Effects.{IsFree, IsFirstConflict, IsReady, Effect, Finds, task_left}
use Rattle.tdb_law.specs.Effects.Effect.{effect_waits, effect_goes_on, effect_changes, effect_answers, effect_shows, effect_starves, effect_is_full, effect_is_busy, effect_numbers, effect_finishes}
use Rattle.tdb_law.specs.Turned.{Turned, want}
use Rattle.tdb_law.specs.Replay.{Replay, is_outer, ends_commit_by, map_told, line_map, line_own}
use Rattle.tdb_law.specs.Standing.{IsTouchedBy, MapStands, IsUntouched, Stands}
use Rattle.tdb_law.proofs.Local.{Agree, same_told, same_after, untouched, told_plain, same_own, changing}
use Rattle.tdb_law.proofs.Covered.{changed_late}
use Rattle.tdb_law.proofs.Sound.{own_kept, moves_reads}
use Rattle.tdb_law.proofs.Pending.{clash_read, apart_touch, apart_read, pending_before, pending_after, own_pending, pending_own, not_pending, pending_left, left_pending, make_pending}
use Rattle.tdb_law.proofs.Tests.{never_true}

-- a transaction that isn't committed though its Commit is done has the committed map in its image
unplanned : (a b : Bool) (p : Option ℕ) → a ≡ true → a && b && was_planned p ≡ false → (b ≡ false) ⊎ (p ≡ Some 0)
unplanned false b p e never = absurd (never_true e)
unplanned true false p e never = inl refl
unplanned true true None e never = absurd (never_true (sym never))
unplanned true true (Some n) e never = inr (let none : n ≡ 0 = omega (arith, leb-false 1 n never) in ap Some none)

commit_told : (o : Option Txn) (m : Map) → ((t : Txn) → o ≡ Some t → IsUntouched m t) → cond (is_outer o) (image_or o m) (cond (commits o) (image_or o m) m) ≡ cond (commits o) (image_or o m) m
commit_told None m still = refl
commit_told (Some t) m still =
    elim (cases_Bool (nat_le t.depth 1)) [
      | inr inner ↦ rw inner refl
      | inl outer ↦ elim (cases_Bool (commits_in t)) [
        | inl planned ↦ (let left : cond (nat_le t.depth 1) t.image (cond (commits_in t) t.image m) ≡ t.image = rw outer refl in
            let right : cond (commits_in t) t.image m ≡ t.image = rw planned refl in
            left ∙ sym right)
        | inr never ↦ (let alike : t.image ≡ m =
            elim (unplanned (nat_le t.depth 1) t.changed t.prepared outer never) [
              | inl unchanged ↦ (still t refl).image unchanged
              | inr prepared ↦ (still t refl).image ((still t refl).prepared prepared)
            ] in
            let left : cond (nat_le t.depth 1) t.image (cond (commits_in t) t.image m) ≡ t.image = rw outer refl in
            let right : cond (commits_in t) t.image m ≡ m = rw never refl in
            left ∙ (alike ∙ sym right))
      ]
    ]

told_map_by : (q : Option Refusal) (c : Command) (x : Own) (m : Map) → ((t : Txn) → x.txn ≡ Some t → IsUntouched m t) → cond (ends_commit_by q c x) (seen x m) (map_by q c x m) ≡ map_by q c x m
told_map_by (Some q) c x m still = refl
told_map_by None (OnMap c) x m still = refl
told_map_by None (OnLocks c) x m still = refl
told_map_by None Seqnum x m still = refl
told_map_by None (OnGroup Start) x m still = refl
told_map_by None (OnGroup Commit) x m still = commit_told x.txn m still
told_map_by None (OnGroup Prepare) x m still = refl
told_map_by None (OnGroup Cancel) x m still = refl
told_map_by None (OnWalk c) x m still = refl

-- a move and a count leave the map, and depend on none
moves_told_by : (q : Option Refusal) (c : Command) (x : Own) (m : Map) → moves_by q c x ≡ true → cond (ends_commit_by q c x) (seen x m) (map_by q c x m) ≡ m
moves_told_by (Some q) c x m e = absurd (never_true e)
moves_told_by None (OnMap c) x m e = absurd (never_true e)
moves_told_by None (OnLocks c) x m e = absurd (never_true e)
moves_told_by None Seqnum x m e = absurd (never_true e)
moves_told_by None (OnGroup c) x m e = absurd (never_true e)
moves_told_by None (OnWalk c) x m e = refl

counts_told_by : (q : Option Refusal) (c : Command) (x : Own) (m : Map) → counts_by q c ≡ true → cond (ends_commit_by q c x) (seen x m) (map_by q c x m) ≡ m
counts_told_by (Some q) c x m e = absurd (never_true e)
counts_told_by None (OnMap c) x m e = absurd (never_true e)
counts_told_by None (OnLocks c) x m e = absurd (never_true e)
counts_told_by None Seqnum x m e = refl
counts_told_by None (OnGroup c) x m e = absurd (never_true e)
counts_told_by None (OnWalk c) x m e = absurd (never_true e)

counts_own_by : (f : Form) (q : Option Refusal) (c : Command) (x : Own) (n : ℕ) (r : Reply) (m : Map) → counts_by q c ≡ true → own_by f q c x n r m ≡ x
counts_own_by f (Some q) c x n r m e = absurd (never_true e)
counts_own_by f None (OnMap c) x n r m e = absurd (never_true e)
counts_own_by f None (OnLocks c) x n r m e = absurd (never_true e)
counts_own_by f None Seqnum x n r m e = refl
counts_own_by f None (OnGroup c) x n r m e = absurd (never_true e)
counts_own_by f None (OnWalk c) x n r m e = absurd (never_true e)

module _ (f : Form) (c : Command) (x : Own) (m : Map) where
  pub told_map : ((t : Txn) → x.txn ≡ Some t → IsUntouched m t) → map_told f c x m ≡ map_after f c x m
  told_map still = told_map_by (refusal f c x) c x m still

  pub moves_told : moves f c x ≡ true → map_told f c x m ≡ m
  moves_told e = moves_told_by (refusal f c x) c x m e

  pub counts_told : counts f c x ≡ true → map_told f c x m ≡ m
  counts_told e = counts_told_by (refusal f c x) c x m e

  pub counts_own : (n : ℕ) (r : Reply) → counts f c x ≡ true → own_after f c x n r m ≡ x
  counts_own n r e = counts_own_by f (refusal f c x) c x n r m e

  -- the map after a reply that isn't spare
  pub plain_map : (r : Reply) → is_spare r ≡ false → line_map f c x (Ends r) m ≡ map_told f c x m
  plain_map r e = rw e refl

  pub plain_own : (n : ℕ) (r : Reply) → is_spare r ≡ false → line_own f c x n (Ends r) m ≡ own_after f c x n r m
  plain_own n r e = rw e refl

pub found_plain : (f : Form) (table want : ℕ → ℕ) (m : Map) (r : Reply) → Finds f table want m r → is_spare r ≡ false
found_plain f table want m r (Finds.finds_pair k v e there chain) = ap is_spare e
found_plain f table want m r (Finds.finds_end e) = ap is_spare e

module _ (f : Form) (old new : State) (who : ℕ) (task : Task) (turn : Turn) (S : IsSound f old) (T : Turned f old who task turn new) (s : Replay) (P : Stands f old s) where
  abbrev c : Command
  c = task.command

  abbrev n : ℕ
  n = task.steps

  abbrev x : Own
  x = old.own who

  abbrev m : Map
  m = s.map

  abbrev TheEffect : Type 0
  TheEffect = Effect f (IsFree old.table who (want f old who task)) (IsFirstConflict old.table who (want f old who task)) (Finds f (old.table who) (want f old who task) (seen x old.file))
      (number_seen x old.number (old.image_number who)) c n x old.file turn (new.own who) new.file

  still : (t : Txn) → x.txn ≡ Some t → IsUntouched m t
  still t e = P.untouched who t e

  -- the file and the committed map agree at what the opener reads
  pub agree : IsReady f c x n → is_changed f c x n ≡ false → Agree f c x old.file m
  agree ready not_yet k reading =
      elim (P.maps.each k) [
        | inl same ↦ same
        | inr by ↦ elim (cases_eq by.owner who) [
          | inl e ↦ absurd (not_pending f old new who task turn T by.command by.own not_yet (subst (λ o. IsPending f old o by.command by.own) e by.pending))
          | inr ne ↦ absurd (clash_read f old S by.owner by.command by.own by.pending who task T.mine ne ready k by.touched reading)
        ]
      ]

  -- where nobody's pending commands change, nor the file, the committed map stays
  maps_same : new.file ≡ old.file → ((d : Command) (y : Own) → IsPending f new who d y → IsPending f old who d y) → ((d : Command) (y : Own) → IsPending f old who d y → IsPending f new who d y) → MapStands f new m
  maps_same file forth_who back_who = record {
    replies = λ o d y p. P.maps.replies o d y (forth o d y p);
    pending = λ o d y p k touching. ap (λ z. get z k) file ∙ P.maps.pending o d y (forth o d y p) k touching;
    each = λ k.
        (elim (P.maps.each k) [
          | inl same ↦ inl (ap (λ z. get z k) file ∙ same)
          | inr by ↦ inr (record { owner = by.owner; command = by.command; own = by.own; pending = back by.owner by.command by.own by.pending; touched = by.touched })
        ]);
  }
    where
      forth : (o : ℕ) (d : Command) (y : Own) → IsPending f new o d y → IsPending f old o d y
      forth o d y p =
          elim (cases_eq o who) [
            | inl e ↦ subst (λ q. IsPending f old q d y) (sym e) (forth_who d y (subst (λ q. IsPending f new q d y) e p))
            | inr ne ↦ pending_before f old new who task turn T o d y ne p
          ]

      back : (o : ℕ) (d : Command) (y : Own) → IsPending f old o d y → IsPending f new o d y
      back o d y p =
          elim (cases_eq o who) [
            | inl e ↦ subst (λ q. IsPending f new q d y) (sym e) (back_who d y (subst (λ q. IsPending f old q d y) e p))
            | inr ne ↦ pending_after f old new who task turn T o d y ne p
          ]

  -- a turn that leaves the command with as much changed
  maps_on : (k : ℕ) → new.file ≡ old.file → new.task who ≡ Some (record { command = c; steps = k }) → is_changed f c x k ≡ is_changed f c x n → ((r : Reply) → turn ≡ Ends r → ⊥) → MapStands f new m
  maps_on k file left same on =
      maps_same file
      (λ d y p. (let was = left_pending f old new who task turn T k d y left (own_kept f old new who task turn S T on) p in
      subst₂ (λ e z. IsPending f old who e z) was.0 was.1 (own_pending f old new who task turn T (sym same ∙ was.2))))
      (λ d y p. (let was = pending_own f old new who task turn T d y p in
      subst₂ (λ e z. IsPending f new who e z) was.0 was.1 (make_pending f old new who task turn T k left (own_kept f old new who task turn S T on) (same ∙ was.2))))

  -- an end of a command that wasn't pending, by which the file stays
  maps_end : (r : Reply) → turn ≡ Ends r → new.file ≡ old.file → is_changed f c x n ≡ false → MapStands f new m
  maps_end r e file not_yet =
      maps_same file
      (λ d y p. absurd ((pending_left f old new who task turn T d y p).1 r e))
      (λ d y p. absurd (not_pending f old new who task turn T d y not_yet p))

  -- whoever is pending after an end is another
  other_then : (r : Reply) → turn ≡ Ends r → (o : ℕ) (d : Command) (y : Own) → IsPending f new o d y → o ≢ who
  other_then r e o d y p same = (pending_left f old new who task turn T d y (subst (λ q. IsPending f new q d y) same p)).1 r e

  -- a step that changes the file
  maps_made : turn ≡ Step → look f c x ≤ n → is_changed f c x n ≡ false → is_changed f c x (n + 1) ≡ true → told f c x old.file ≡ Done → new.file ≡ map_after f c x old.file → MapStands f new m
  maps_made e late not_yet made done file = record {
    replies = λ o d y p.
        (elim (cases_eq o who) [
          | inl same ↦ (let was = mine d y (subst (λ q. IsPending f new q d y) same p) in subst₂ (λ z u. told f z u m ≡ Done) was.0 was.1 (sym (same_told f c x old.file m agreed) ∙ done))
          | inr ne ↦ P.maps.replies o d y (pending_before f old new who task turn T o d y ne p)
        ]);
    pending = λ o d y p k touching.
        (elim (cases_eq o who) [
          | inl same ↦ (let was = mine d y (subst (λ q. IsPending f new q d y) same p) in
              let here : touches f c x k ≡ true = subst₂ (λ z u. touches f z u k ≡ true) (sym was.0) (sym was.1) touching in
              subst₂ (λ z u. get new.file k ≡ get (map_after f z u m) k) was.0 was.1 (ap (λ z. get z k) file ∙ same_after f c x old.file m agreed k here))
          | inr ne ↦ (let before = pending_before f old new who task turn T o d y ne p in
              ap (λ z. get z k) file ∙ (untouched f c x old.file k (apart_touch f old S o d y before who task T.mine ne ready k touching) ∙ P.maps.pending o d y before k touching))
        ]);
    each = λ k.
        (elim (cases_Bool (touches f c x k)) [
          | inl touching ↦ inr (record { owner = who; command = c; own = x; pending = make_pending f old new who task turn T (n + 1) left own made; touched = touching })
          | inr never ↦ (let same : get new.file k ≡ get old.file k = ap (λ z. get z k) file ∙ untouched f c x old.file k never in
              elim (P.maps.each k) [
                | inl alike ↦ inl (same ∙ alike)
                | inr by ↦ inr (record {
                  owner = by.owner;
                  command = by.command;
                  own = by.own;
                  touched = by.touched;
                  pending = pending_after f old new who task turn T by.owner by.command by.own
                      (λ is. not_pending f old new who task turn T by.command by.own not_yet (subst (λ q. IsPending f old q by.command by.own) is by.pending)) by.pending;
                })
              ])
        ]);
  }
    where
      ready : IsReady f c x n
      ready k reading = late

      agreed : Agree f c x old.file m
      agreed = agree ready not_yet

      left : new.task who ≡ Some (record { command = c; steps = n + 1 })
      left = T.leaves ∙ ap (task_left c n) e

      step_end : (r : Reply) → Step ≡ Ends r → ⊥
      step_end r end = cc

      own : new.own who ≡ x
      own = own_kept f old new who task turn S T (λ r end. step_end r (sym e ∙ end))

      mine : (d : Command) (y : Own) → IsPending f new who d y → (c ≡ d) × (x ≡ y) × (is_changed f c x (n + 1) ≡ true)
      mine d y p = left_pending f old new who task turn T (n + 1) d y left own p

  -- an end that tells a change: it was made before, or is made in this turn
  maps_told : (r : Reply) → turn ≡ Ends r → IsReady f c x n
      → ((k : List ℕ) → touches f c x k ≡ true → get new.file k ≡ get (map_after f c x m) k)
      → ((k : List ℕ) → touches f c x k ≡ false → get new.file k ≡ get old.file k)
      → MapStands f new (map_after f c x m)
  maps_told r e ready touched_there else_there = record {
    replies = λ o d y p. (let before = was o d y p in sym (same_told f d y m (map_after f c x m) (agree_other o d y p before)) ∙ P.maps.replies o d y before);
    pending = λ o d y p k touching.
        (let before = was o d y p in
        else_there k (apart_touch f old S o d y before who task T.mine (other_then r e o d y p) ready k touching)
        ∙ (P.maps.pending o d y before k touching ∙ same_after f d y m (map_after f c x m) (agree_other o d y p before) k touching));
    each = λ k.
        (elim (cases_Bool (touches f c x k)) [
          | inl touching ↦ inl (touched_there k touching)
          | inr never ↦ elim (P.maps.each k) [
            | inl alike ↦ inl (else_there k never ∙ (alike ∙ sym (untouched f c x m k never)))
            | inr by ↦ inr (record {
              owner = by.owner;
              command = by.command;
              own = by.own;
              touched = by.touched;
              pending = pending_after f old new who task turn T by.owner by.command by.own (λ is. never_own k never by is) by.pending;
            })
          ]
        ]);
  }
    where
      was : (o : ℕ) (d : Command) (y : Own) → IsPending f new o d y → IsPending f old o d y
      was o d y p = pending_before f old new who task turn T o d y (other_then r e o d y p) p

      agree_other : (o : ℕ) (d : Command) (y : Own) → IsPending f new o d y → IsPending f old o d y → Agree f d y m (map_after f c x m)
      agree_other o d y p before k reading = sym (untouched f c x m k (apart_read f old S o d y before who task T.mine (other_then r e o d y p) ready k reading))

      never_own : (k : List ℕ) → touches f c x k ≡ false → (by : IsTouchedBy f old k) → by.owner ≡ who → ⊥
      never_own k never by is =
          let own = pending_own f old new who task turn T by.command by.own (subst (λ q. IsPending f old q by.command by.own) is by.pending) in
          never_true (sym never ∙ subst₂ (λ z u. touches f z u k ≡ true) (sym own.0) (sym own.1) by.touched)

  -- the end of a command that was pending
  maps_finished : turn ≡ Ends Done → new.file ≡ old.file → is_changed f c x n ≡ true → MapStands f new (map_after f c x m)
  maps_finished e file made =
      maps_told Done e (λ k reading. changed_late f c x n made)
      (λ k touching. ap (λ z. get z k) file ∙ P.maps.pending who c x (own_pending f old new who task turn T made) k touching)
      (λ k never. ap (λ z. get z k) file)

  -- the end of one that wasn't
  maps_answered : (r : Reply) → turn ≡ Ends r → IsReady f c x n → is_changed f c x n ≡ false → new.file ≡ map_after f c x old.file → MapStands f new (map_after f c x m)
  maps_answered r e ready not_yet file =
      maps_told r e ready
      (λ k touching. ap (λ z. get z k) file ∙ same_after f c x old.file m (agree ready not_yet) k touching)
      (λ k never. ap (λ z. get z k) file ∙ untouched f c x old.file k never)

  at_turn : (u : Turn) → turn ≡ u → MapStands f new (line_map f c x u m) → MapStands f new (line_map f c x turn m)
  at_turn u e maps = subst (λ z. MapStands f new (line_map f c x z m)) (sym e) maps

  at_reply : (r : Reply) → turn ≡ Ends r → is_spare r ≡ false → MapStands f new (map_told f c x m) → MapStands f new (line_map f c x turn m)
  at_reply r e plain maps = at_turn (Ends r) e (subst (MapStands f new) (sym (plain_map f c x m r plain)) maps)

  step_ends : (r : Reply) → turn ≡ Step → turn ≡ Ends r → ⊥
  step_ends r e end = ends_step (sym e ∙ end)
    where
      ends_step : Step ≡ Ends r → ⊥
      ends_step z = cc

  block_ends : (o b : ℕ) (r : Reply) → turn ≡ Blocked o b → turn ≡ Ends r → ⊥
  block_ends o b r e end = ends_block (sym e ∙ end)
    where
      ends_block : Blocked o b ≡ Ends r → ⊥
      ends_block z = cc

  pub quiet_moves : moves f c x ≡ true → is_changed f c x n ≡ false
  quiet_moves moving = elim (cases_Bool (is_changed f c x n)) [ inl made ↦ absurd (never_true (sym ((changing f c x n made).moves) ∙ moving)) | inr never ↦ never ]

  pub quiet_counts : counts f c x ≡ true → is_changed f c x n ≡ false
  quiet_counts counting = elim (cases_Bool (is_changed f c x n)) [ inl made ↦ absurd (never_true (sym ((changing f c x n made).counts) ∙ counting)) | inr never ↦ never ]

  maps_by : TheEffect → MapStands f new (line_map f c x turn m)
  maps_by (effect_waits o b e conflict not_yet file own) =
      at_turn (Blocked o b) e (maps_on n file (T.leaves ∙ ap (task_left c n) e) refl (λ r end. block_ends o b r e end))
  maps_by (effect_goes_on e free same file own) =
      at_turn Step e (maps_on (n + 1) file (T.leaves ∙ ap (task_left c n) e) same (λ r end. step_ends r e end))
  maps_by (effect_changes e free late not_yet made done file own) = at_turn Step e (maps_made e late not_yet made done file)
  maps_by (effect_answers r e free moving counting ready not_yet says file own) =
      at_reply r e (ap is_spare says ∙ told_plain f c x old.file) (subst (MapStands f new) (sym (told_map f c x m still)) (maps_answered r e ready not_yet file))
  maps_by (effect_shows r e free moving found file own) =
      at_reply r e (found_plain f _ _ _ r found) (subst (MapStands f new) (sym (moves_told f c x m moving)) (maps_end r e file (quiet_moves moving)))
  maps_by (effect_starves e want_of not_yet file own) = at_turn (Ends Memory) e (maps_end Memory e file not_yet)
  maps_by (effect_is_full len need e free filling ready not_yet done file own) = at_turn (Ends (Full len need)) e (maps_end (Full len need) e file not_yet)
  maps_by (effect_is_busy o b e conflict busy file own) = at_turn (Ends (Busy o b)) e (maps_end (Busy o b) e file not_yet)
    where
      not_yet : is_changed f c x n ≡ false
      not_yet = elim (cases_Bool (is_changed f c x n)) [ inl made ↦ absurd (never_true (sym ((changing f c x n made).busies) ∙ busy)) | inr never ↦ never ]
  maps_by (effect_numbers q e free counting same file own) =
      at_reply (Number q) e refl (subst (MapStands f new) (sym (counts_told f c x m counting)) (maps_end (Number q) e file (quiet_counts counting)))
  maps_by (effect_finishes e free made file own) = at_reply Done e refl (subst (MapStands f new) (sym (told_map f c x m still)) (maps_finished e file made))

  -- the committed map after the line stands for the file after the turn
  pub maps_after : MapStands f new (line_map f c x turn m)
  maps_after = maps_by T.effect

  -- and the opener is the one after the line
  own_turn : (u : Turn) → turn ≡ u → new.own who ≡ line_own f c x n u m → new.own who ≡ line_own f c x n turn m
  own_turn u e own = own ∙ ap (λ z. line_own f c x n z m) (sym e)

  own_reply : (r : Reply) → turn ≡ Ends r → is_spare r ≡ false → new.own who ≡ own_after f c x n r m → new.own who ≡ line_own f c x n turn m
  own_reply r e plain own = own_turn (Ends r) e (own ∙ sym (plain_own f c x m n r plain))

  owns_by : TheEffect → new.own who ≡ line_own f c x n turn m
  owns_by (effect_waits o b e conflict not_yet file own) = own_turn (Blocked o b) e own
  owns_by (effect_goes_on e free same file own) = own_turn Step e own
  owns_by (effect_changes e free late not_yet made done file own) = own_turn Step e own
  owns_by (effect_answers r e free moving counting ready not_yet says file own) =
      own_reply r e (ap is_spare says ∙ told_plain f c x old.file) (own ∙ same_own f c x n r old.file m (agree ready not_yet))
  owns_by (effect_shows r e free moving found file own) =
      own_reply r e (found_plain f _ _ _ r found) (own ∙ same_own f c x n r old.file m (λ k reading. absurd (moves_reads f c x k moving reading)))
  owns_by (effect_starves e want_of not_yet file own) = own_turn (Ends Memory) e own
  owns_by (effect_is_full len need e free filling ready not_yet done file own) = own_turn (Ends (Full len need)) e own
  owns_by (effect_is_busy o b e conflict busy file own) = own_turn (Ends (Busy o b)) e own
  owns_by (effect_numbers q e free counting same file own) = own_reply (Number q) e refl (own ∙ sym (counts_own f c x m n (Number q) counting))
  owns_by (effect_finishes e free made file own) = own_reply Done e refl (own ∙ (changing f c x n made).own n Done old.file m)

  pub own_line : new.own who ≡ line_own f c x n turn m
  own_line = owns_by T.effect
