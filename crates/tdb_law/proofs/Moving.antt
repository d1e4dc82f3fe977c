-- The lists of the opener whose turn it is stand for its walk afterwards, and what the line tells of a move is so.
use Rattle.std.proofs.Common.{◌≡◌, ℕ, ◌<◌, List, Bool, true, false, not, cond, Option, Some, None, is_some, refl, sym, ◌∙◌, ap, subst, inl, inr, ◌⊎◌, arith}
use Rattle.std.specs.Prelude.{◌&&◌, ◌||◌}
use Rattle.std.proofs.lemmas.Bool.{cases_Bool, cases_eq}
use Rattle.tdb_space.specs.Form.{Form}
use Rattle.tdb_space.specs.Pairs.{home}
use Rattle.tdb_law.specs.Commands.{Command, Reply, Turn, is_spare, is_first}
use Rattle.tdb_law.specs.Commands.Reply.{End, Memory, Pair}
use Rattle.tdb_law.specs.Commands.Turn.{Step, Blocked, Ends}
use Rattle.tdb_law.specs.Openers.{Own, Task, is_key}
use Rattle.tdb_law.specs.Refusals.{refusal, has_cursor}
use Rattle.tdb_law.specs.Outcomes.{moves, own_after, touched, key_shown}
use Rattle.tdb_law.specs.World.{State, IsSound}
use Rattle.tdb_law.specs.Effects.{SpotLeft, task_left}
use Rattle.tdb_law.specs.Walks.{Lost, Shift, Moves, Arrives, Finishes, begins, Walked}
use Rattle.tdb_law.specs.Walks.Walked.{walk_steps, walk_rests, walk_ends, walk_arrives, walk_finishes, walk_halts, walk_fails}
use Rattle.tdb_law.specs.Turned.{Turned, want}
use Rattle.tdb_law.specs.Replay.{Replay, taken, shown_now, due_now, line_own, is_shown, shown_after, due_after}
use Rattle.tdb_law.specs.Standing.{IsOnWay, is_fresh, WalkStandsBy, WalkStands, Stands}
use Rattle.tdb_law.proofs.Maps.{is_key-refl, is_key-eq}
use Rattle.tdb_law.proofs.Mapped.{own_line}
use Rattle.tdb_law.specs.Commands.{is_spare}
use Rattle.tdb_law.proofs.Walking.{put_here, way_alike, owed_parts}
use Rattle.tdb_law.proofs.Shifting.{t, after_line, begun_here, shifted, others_way}
use Rattle.tdb_law.proofs.Beginning.{moved_cursor_by, spared_cursor_by, without_move, begins_clear, goes_way, owes, untaken}
use Rattle.tdb_law.proofs.Tests.{never_true, or_cases, or_first, or_second}

-- a walk that has ended, or is on its way, as its cursor says
cond_way : (f : Form) (w : State) (o : ℕ) (hc : Bool) (g : List ℕ → Bool) (owed due : List ℕ → Bool) → (hc ≡ true → IsOnWay f w o g owed) → ((k : List ℕ) → owed k ≡ true → cond hc (due k) false ≡ true)
    → IsOnWay f w o (λ k. cond hc (g k) false) owed
cond_way f w o true g owed due way parts = way refl
cond_way f w o false g owed due way parts = record {
  behind = λ k e. absurd (never_true e);
  reached = λ k e. absurd (never_true e);
  due = λ k e. absurd (never_true (parts k e));
}

cond_due : (hc : Bool) (b : Bool) → cond hc b false ≡ true → b ≡ true
cond_due true b e = e
cond_due false b e = absurd (never_true e)

module _ (f : Form) (old new : State) (who : ℕ) (task : Task) (turn : Turn) (S : IsSound f old) (T : Turned f old who task turn new) (s : Replay) (P : Stands f old s) where
  abbrev c : Command
  c = task.command

  abbrev n : ℕ
  n = task.steps

  abbrev x : Own
  x = old.own who

  abbrev begin : Bool
  begin = begins f c x (old.spot who)

  abbrev shown : List ℕ → Bool
  shown k = shown_now f s who c k

  abbrev due : List ℕ → Bool
  due k = due_now f s who c k

  abbrev z : Replay
  z = after_line f old new who task turn S T s P

  abbrev y : Turn → Own
  y u = line_own f c x n u s.map

  same_moves : moves f c (s.own who) ≡ moves f c x
  same_moves = ap (λ v. moves f c v) (P.owns who)

  shown_there : (k : List ℕ) (u : Turn) → turn ≡ u → z.shown who k ≡ shown_after f s who c u (y u) k
  shown_there k u e = ap (λ g. g k) (put_here s.shown who (shown_after f s who c turn (y turn)) who refl) ∙ ap (λ v. shown_after f s who c v (y v) k) e

  owed_there : (k : List ℕ) (u : Turn) → turn ≡ u → z.due who k ≡ true → (due_after f s who c u (y u) k ≡ true) × (touched c turn k ≡ false) × (taken f (t f old new who task turn S T s P) who k ≡ false)
  owed_there k u e owed =
      let parts = owed_parts f (touched c turn) (t f old new who task turn S T s P) who k owed in
      (sym (ap (λ g. g k) (put_here s.due who (due_after f s who c turn (y turn)) who refl) ∙ ap (λ v. due_after f s who c v (y v) k) e) ∙ parts.0, parts.1, parts.3)

  -- whether the walk is fresh afterwards
  fresh_there : (u : Turn) → turn ≡ u → is_fresh f (z.begun who) (z.own who) (new.spot who) ≡ is_fresh f (task_left c n u) (y u) (new.spot who)
  fresh_there u e =
      ap (λ b. is_fresh f b (z.own who) (new.spot who)) (begun_here f old new who task turn S T s P ∙ ap (task_left c n) e)
      ∙ ap (λ v. is_fresh f (task_left c n u) v (new.spot who)) (put_here s.own who (y turn) who refl ∙ ap y e)

  abbrev Way : Type 0
  Way = WalkStands f new z who

  by_fresh : (b : Bool) → is_fresh f (z.begun who) (z.own who) (new.spot who) ≡ b → WalkStandsBy b f new who (z.shown who) (z.due who) → Way
  by_fresh b e way = subst (λ v. WalkStandsBy v f new who (z.shown who) (z.due who)) (sym e) way

  -- a turn that goes on with the command, and shifts the walk
  shift_on : (u : Turn) → turn ≡ u → ((k : List ℕ) → shown_after f s who c u (y u) k ≡ shown k) → ((k : List ℕ) → due_after f s who c u (y u) k ≡ due k)
      → is_fresh f (task_left c n u) (y u) (new.spot who) ≡ begin → Shift f (Lost f c n x turn true (old.mark who)) (old.mark who) (new.mark who) → Way
  shift_on u e same_shown same_due fresh shift =
      elim (cases_Bool begin) [
        | inl first ↦ by_fresh true (fresh_there u e ∙ (fresh ∙ first)) (λ k. shown_there k u e ∙ (same_shown k ∙ begins_clear f old new who task turn S T s P first k))
        | inr later ↦ by_fresh false (fresh_there u e ∙ (fresh ∙ later))
            (way_alike f new who shown (z.shown who) (z.due who) (z.due who) (λ k. shown_there k u e ∙ same_shown k) (λ k owed. owed)
            (shifted f old new who task turn S T s P who true shown due (z.due who) shift ((λ b. refl), (λ b. absurd (never_true (sym b))))
            (λ k owed. (let parts = owed_there k u e owed in (sym (same_due k) ∙ parts.0, parts.1, parts.2))) (goes_way f old new who task turn S T s P later)))
      ]

  step_gone : turn ≡ Step → (new.spot who).gone ≡ (old.spot who).gone
  step_gone e = ap (λ v. v.gone) (subst (SpotLeft f (old.table who) (want f old who task) c n x (new.own who) (old.spot who) (old.view who) (new.spot who)) e T.leaves_spot)

  -- the end of a command: the walk is the cursor's
  ends_on : (r : Reply) → turn ≡ Ends r → (g : List ℕ → Bool) → ((k : List ℕ) → shown_after f s who c (Ends r) (y (Ends r)) k ≡ cond (has_cursor (y (Ends r))) (g k) false)
      → (has_cursor (y (Ends r)) ≡ true → IsOnWay f new who g (z.due who)) → Way
  ends_on r e g same way =
      by_fresh false (fresh_there (Ends r) e)
      (way_alike f new who (λ k. cond (has_cursor (y (Ends r))) (g k) false) (z.shown who) (z.due who) (z.due who) (λ k. shown_there k (Ends r) e ∙ same k) (λ k owed. owed)
      (cond_way f new who (has_cursor (y (Ends r))) g (z.due who) due way (λ k owed. (owed_there k (Ends r) e owed).0)))

  ends_due : (r : Reply) → turn ≡ Ends r → (k : List ℕ) → z.due who k ≡ true → due k ≡ true
  ends_due r e k owed = cond_due (has_cursor (y (Ends r))) (due k) (owed_there k (Ends r) e owed).0

  -- a move that isn't at its end
  module _ (moving : moves f c x ≡ true) (key : Option (List ℕ)) (M : Moves f old new who begin key) where
    moved_behind : (k : List ℕ) → shown k ≡ true → (new.mark who).ahead k ≡ false
    moved_behind k e =
        elim (cases_Bool begin) [
          | inl first ↦ absurd (never_true (sym (begins_clear f old new who task turn S T s P first k) ∙ e))
          | inr later ↦ elim (cases_Bool ((new.mark who).ahead k)) [
            | inr never ↦ never
            | inl ahead ↦ absurd (never_true (sym ((goes_way f old new who task turn S T s P later).behind k e) ∙ M.fewer later k ahead))
          ]
        ]

    moved_reached : (k : List ℕ) → shown k ≡ true → home f k < (new.mark who).reached
    moved_reached k e =
        elim (cases_Bool begin) [
          | inl first ↦ absurd (never_true (sym (begins_clear f old new who task turn S T s P first k) ∙ e))
          | inr later ↦ omega (arith, (goes_way f old new who task turn S T s P later).reached k e, M.further later)
        ]

    moved_due : (k : List ℕ) → due k ≡ true → (shown k ≡ true) ⊎ ((key ≡ Some k) ⊎ ((new.mark who).ahead k ≡ true))
    moved_due k owed =
        elim (owes f old new who task turn S T s P moving M.holds k owed) [
          | inl before ↦ inl before
          | inr must ↦ elim (M.kept k must) [
            | inl here ↦ inr (inl here)
            | inr rest ↦ elim rest [
              | inl ahead ↦ inr (inr ahead)
              | inr gone ↦ absurd (untaken f old new who task turn S T s P moving k owed gone)
            ]
          ]
        ]

  some_key : (k q : List ℕ) → ◌≡◌ {A = Option (List ℕ)} (Some k) (Some q) → k ≡ q
  some_key k q e = cc

  none_key : (q : List ℕ) → ◌≡◌ {A = Option (List ℕ)} None (Some q) → ⊥
  none_key q e = cc

  arrives : (k v : List ℕ) → turn ≡ Ends (Pair k v) → moves f c x ≡ true → Arrives f old new who begin k → Way
  arrives k v e moving A = ends_on (Pair k v) e g (λ q. refl) (λ cursor. way)
    where
      g : List ℕ → Bool
      g q = shown q || (moves f c (s.own who) && is_key k q)

      in_g : (q : List ℕ) → g q ≡ true → (shown q ≡ true) ⊎ (k ≡ q)
      in_g q shows = elim (or_cases (shown q) _ shows) [ inl before ↦ inl before | inr both ↦ inr (sym (is_key-eq k q (key_true q both))) ]
        where
          key_true : (q : List ℕ) → moves f c (s.own who) && is_key k q ≡ true → is_key k q ≡ true
          key_true q both = subst (λ b. b && is_key k q ≡ true) (same_moves ∙ moving) both

      here_g : (q : List ℕ) → k ≡ q → g q ≡ true
      here_g q same = or_second (shown q) _ (subst (λ b. b && is_key k q ≡ true) (sym (same_moves ∙ moving)) (subst (λ u. is_key k u ≡ true) same (is_key-refl k)))

      way : IsOnWay f new who g (z.due who)
      way = record {
        behind = λ q shows.
            (elim (in_g q shows) [
              | inl before ↦ moved_behind moving (Some k) A.moved q before
              | inr same ↦ subst (λ u. (new.mark who).ahead u ≡ false) same A.behind
            ]);
        reached = λ q shows.
            (elim (in_g q shows) [
              | inl before ↦ moved_reached moving (Some k) A.moved q before
              | inr same ↦ subst (λ u. home f u < (new.mark who).reached) same A.reached
            ]);
        due = λ q owed.
            (elim (moved_due moving (Some k) A.moved q (ends_due (Pair k v) e q owed)) [
              | inl before ↦ inl (or_first (shown q) _ before)
              | inr rest ↦ elim rest [ inl here ↦ inl (here_g q (some_key k q here)) | inr ahead ↦ inr (inl ahead) ]
            ]);
      }

  -- a move whose pair isn't one ends the walk
  no_cursor : (r : Reply) → turn ≡ Ends r → has_cursor (y (Ends r)) ≡ false → Way
  no_cursor r e none =
      by_fresh false (fresh_there (Ends r) e) (record {
        behind = λ k shows. absurd (never_true (sym (shown_there k (Ends r) e ∙ rw none refl) ∙ shows));
        reached = λ k shows. absurd (never_true (sym (shown_there k (Ends r) e ∙ rw none refl) ∙ shows));
        due = λ k owed. absurd (never_true (subst (λ b. cond b (due k) false ≡ true) none (owed_there k (Ends r) e owed).0));
      })

  halts : (o b : ℕ) → turn ≡ Blocked o b → moves f c x ≡ true → (new.spot who).gone ≡ true → Moves f old new who begin None → Way
  halts o b e moving gone M =
      by_fresh false (fresh_there (Blocked o b) e ∙ off) (way_alike f new who shown (z.shown who) (z.due who) (z.due who) (λ k. shown_there k (Blocked o b) e) (λ k owed. owed) (record {
        behind = moved_behind moving None M;
        reached = moved_reached moving None M;
        due = λ k owed.
            (elim (moved_due moving None M k (owed_there k (Blocked o b) e owed).0) [
              | inl before ↦ inl before
              | inr rest ↦ elim rest [ inl here ↦ absurd (none_key k here) | inr ahead ↦ inr (inl ahead) ]
            ]);
      }))
    where
      never_fresh : (p q : Bool) → p && (q && false) ≡ false
      never_fresh true true = refl
      never_fresh true false = refl
      never_fresh false q = refl

      off : begins f c x (new.spot who) ≡ false
      off = ap (λ h. is_first c && (moves f c x && not h)) gone ∙ never_fresh (is_first c) (moves f c x)

  ends_still : (r : Reply) → turn ≡ Ends r → moves f c x ≡ false → (is_some (new.own who).cursor ≡ true → Shift f (Lost f c n x turn true (old.mark who)) (old.mark who) (new.mark who)) → Way
  ends_still r e moving shift =
      ends_on r e shown same
      (λ cursor. shifted f old new who task turn S T s P who true shown due (z.due who) (shift (there cursor)) ((λ b. refl), (λ b. absurd (never_true (sym b))))
      (λ k owed. (let parts = owed_there k r_end e owed in (ends_due r e k owed, parts.1, parts.2)))
      (goes_way f old new who task turn S T s P (without_move (is_first c) (moves f c x) (not (old.spot who).gone) moving)))
    where
      r_end : Turn
      r_end = Ends r

      there : has_cursor (y (Ends r)) ≡ true → is_some (new.own who).cursor ≡ true
      there cursor = ap (λ v. is_some v.cursor) (own_line f old new who task turn S T s P ∙ ap y e) ∙ cursor

      or_none : (a b h : Bool) → b ≡ false → a || (b && h) ≡ a
      or_none true b h none = refl
      or_none false true h none = absurd (never_true (sym none))
      or_none false false h none = refl

      same : (k : List ℕ) → shown_after f s who c (Ends r) (y (Ends r)) k ≡ cond (has_cursor (y (Ends r))) (shown k) false
      same k = ap (λ b. cond (has_cursor (y (Ends r))) b false) (or_none (shown k) (moves f c (s.own who)) (is_shown (key_shown r) k) (same_moves ∙ moving))

  moved_none : (r : Reply) → is_spare r ≡ false → key_shown r ≡ None → moves f c x ≡ true → has_cursor (y (Ends r)) ≡ false
  moved_none r plain none moving =
      let there : y (Ends r) ≡ own_after f c x n r s.map = rw plain refl in
      ap (λ v. is_some v.cursor) there ∙ (ap is_some (moved_cursor_by f (refusal f c x) c x n r s.map moving) ∙ ap is_some none)

  walk_by : Walked f old new who c n turn → Way
  walk_by (walk_steps e shift) = shift_on Step e (λ k. refl) (λ k. refl) (ap (λ g. is_first c && (moves f c x && not g)) (step_gone e)) shift
  walk_by (walk_rests o b e gone shift) = shift_on (Blocked o b) e (λ k. refl) (λ k. refl) (ap (λ g. is_first c && (moves f c x && not g)) gone) shift
  walk_by (walk_ends r e moving shift) = ends_still r e moving shift
  walk_by (walk_arrives k v e moving A) = arrives k v e moving A
  walk_by (walk_finishes e moving F) = no_cursor End e (moved_none End refl refl moving)
  walk_by (walk_halts o b e moving gone outside M) = halts o b e moving gone M
  walk_by (walk_fails e moving) = no_cursor Memory e (ap is_some (spared_cursor_by (refusal f c x) c x moving))

  pub walks_after : (o : ℕ) → WalkStands f new z o
  walks_after o =
      elim (cases_eq o who) [
        | inl e ↦ subst (λ p. WalkStands f new z p) (sym e) (walk_by T.walks)
        | inr ne ↦ others_way f old new who task turn S T s P o ne
      ]

  -- a pair that a move shows hasn't been shown in its walk
  pub new_pair : (k : List ℕ) → Arrives f old new who begin k → shown k ≡ false
  new_pair k A =
      elim (cases_Bool begin) [
        | inl first ↦ begins_clear f old new who task turn S T s P first k
        | inr later ↦ elim (cases_Bool (shown k)) [
          | inr never ↦ never
          | inl before ↦ absurd (never_true (sym ((goes_way f old new who task turn S T s P later).behind k before) ∙ A.was later))
        ]
      ]

  -- where a move finds the end all that is owed was shown
  pub all_shown : moves f c x ≡ true → Finishes f old who begin → (k : List ℕ) → due k ≡ true → shown k ≡ true
  all_shown moving F k owed =
      elim (owes f old new who task turn S T s P moving F.holds k owed) [
        | inl before ↦ before
        | inr must ↦ absurd (untaken f old new who task turn S T s P moving k owed (F.nothing k must))
      ]
