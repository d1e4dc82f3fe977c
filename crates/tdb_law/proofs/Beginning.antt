-- The walk of the opener whose turn it is: it begins, goes on, arrives at a pair, or ends.
use Rattle.std.proofs.Common.{◌≡◌, ℕ, ◌+◌, ◌<◌, ◌≤◌, List, Bool, true, false, not, cond, Option, Some, None, is_none, is_some, refl, sym, ◌∙◌, ap, subst, subst₂, inl, inr, ◌⊎◌, arith, ◌≢◌}
use Rattle.std.specs.Prelude.{◌&&◌}
use Rattle.std.specs.FinMap.{insert}
use Rattle.std.proofs.lemmas.Bool.{cases_Bool, cases_eq}
use Rattle.tdb_space.specs.Form.{Form}
use Rattle.tdb_space.specs.Pairs.{home}
use Rattle.tdb_law.specs.Commands.{MapCommand, Command, Reply, Turn, is_first}
use Rattle.tdb_law.specs.Commands.GroupCommand.{Start, Commit, Prepare, Cancel}
use Rattle.tdb_law.specs.Commands.WalkCommand.{First, Next, EndWalk, Close}
use Rattle.tdb_law.specs.Commands.Command.{OnMap, OnLocks, Seqnum, OnGroup, OnWalk}
use Rattle.tdb_law.specs.Openers.{Own, Txn, Map, Task, seen, has, image_or, is_key}
use Rattle.tdb_law.specs.MapCommands.{after, map_touches, map_removes}
use Rattle.tdb_law.specs.Refusals.{Refusal, refusal, chain_byte}
use Rattle.tdb_law.specs.Rows.{is_changed, changed_by, commits_in, gate_shut, commit_changed, map_changed}
use Rattle.tdb_law.specs.Outcomes.{moves, map_by, map_after, touches_by, touches, key_shown, commits}
use Rattle.tdb_law.specs.Counting.{takes_by, takes, commit_takes, commit_writes}
use Rattle.tdb_law.specs.World.{State, IsPending, IsSound}
use Rattle.tdb_law.specs.Walks.{IsPlain, Due, Taken, begins}
use Rattle.tdb_law.specs.Turned.{Turned}
use Rattle.tdb_law.specs.Replay.{Replay, takes_begun, taken, starts, shown_now, due_now}
use Rattle.tdb_law.specs.Standing.{IsSame, IsBehind, IsOnWay, is_fresh, WalkStandsBy, Stands}
use Rattle.tdb_law.proofs.Maps.{get_put}
use Rattle.tdb_law.proofs.Pending.{pending_touches, not_pending}
use Rattle.tdb_law.proofs.Mapped.{quiet_moves}
use Rattle.tdb_law.specs.Commands.MapCommand.{Fetch, Has, Delete, Store, Insert, Modify, Append, Wipe, Check}
use Rattle.tdb_law.specs.Outcomes.{moves_by, own_by, own_spared}
use Rattle.std.proofs.lemmas.Bool.{leb-true, le-leb}
use Rattle.tdb_law.proofs.Walking.{found_taken, takes_none, way_alike}
use Rattle.tdb_law.proofs.Tests.{never_true, and_both, and_make, from_not, to_not}

with_gone : (a b g : Bool) → g ≡ false → a && (b && not g) ≡ a && b
with_gone false b g e = refl
with_gone true false g e = refl
with_gone true true g e = ap not e

pub without_move : (a b g : Bool) → b ≡ false → a && (b && g) ≡ false
without_move false b g e = refl
without_move true b g e = ap (λ z. z && g) e

-- a move leaves a cursor exactly after a pair, and none where it found no memory
pub moved_cursor_by : (f : Form) (q : Option Refusal) (c : Command) (x : Own) (n : ℕ) (r : Reply) (m : Map) → moves_by q c x ≡ true → (own_by f q c x n r m).cursor ≡ key_shown r
moved_cursor_by f (Some q) c x n r m e = absurd (never_true e)
moved_cursor_by f None (OnMap c) x n r m e = absurd (never_true e)
moved_cursor_by f None (OnLocks c) x n r m e = absurd (never_true e)
moved_cursor_by f None Seqnum x n r m e = absurd (never_true e)
moved_cursor_by f None (OnGroup c) x n r m e = absurd (never_true e)
moved_cursor_by f None (OnWalk First) x n r m e = refl
moved_cursor_by f None (OnWalk Next) x n r m e = refl
moved_cursor_by f None (OnWalk EndWalk) x n r m e = absurd (never_true e)
moved_cursor_by f None (OnWalk Close) x n r m e = absurd (never_true e)

pub spared_cursor_by : (q : Option Refusal) (c : Command) (x : Own) → moves_by q c x ≡ true → (own_spared c x).cursor ≡ None
spared_cursor_by (Some q) c x e = absurd (never_true e)
spared_cursor_by None (OnMap c) x e = absurd (never_true e)
spared_cursor_by None (OnLocks c) x e = absurd (never_true e)
spared_cursor_by None Seqnum x e = absurd (never_true e)
spared_cursor_by None (OnGroup c) x e = absurd (never_true e)
spared_cursor_by None (OnWalk First) x e = refl
spared_cursor_by None (OnWalk Next) x e = refl
spared_cursor_by None (OnWalk EndWalk) x e = absurd (never_true e)
spared_cursor_by None (OnWalk Close) x e = absurd (never_true e)

plain_still_by : (q : Option Refusal) (c : Command) (x : Own) → IsPlain c → moves_by q c x ≡ true → ⊥
plain_still_by (Some q) c x plain e = never_true e
plain_still_by None (OnMap c) x plain e = never_true e
plain_still_by None (OnLocks c) x plain e = plain
plain_still_by None Seqnum x plain e = plain
plain_still_by None (OnGroup c) x plain e = plain
plain_still_by None (OnWalk c) x plain e = plain

-- A key of the map stays in the file through a pending change, or the command takes it out.
kept_put : (m : Map) (key v k : List ℕ) → is_key key k ≡ true → has (insert m key v) k ≡ true
kept_put m key v k e = ap is_some (get_put m key v k) ∙ rw e refl

kept_insert : (b : Bool) (m : Map) (key v k : List ℕ) → is_key key k ≡ true → has m k ≡ true → has (cond b m (insert m key v)) k ≡ true
kept_insert true m key v k e there = there
kept_insert false m key v k e there = kept_put m key v k e

kept_modify : (b : Bool) (m : Map) (key v k : List ℕ) → is_key key k ≡ true → has m k ≡ true → has (cond b (insert m key v) m) k ≡ true
kept_modify true m key v k e there = kept_put m key v k e
kept_modify false m key v k e there = there

map_kept : (p : MapCommand) (m : Map) (k : List ℕ) (changed : Bool) → map_touches p k ≡ true → changed ≡ true → has m k ≡ true
    → (has (after p m) k ≡ true) ⊎ (changed && (map_removes p && map_touches p k) ≡ true)
map_kept (Fetch key) m k z e made there = absurd (never_true e)
map_kept (Has key) m k z e made there = absurd (never_true e)
map_kept (Delete key) m k z e made there = inr (and_make z _ made e)
map_kept (Store key v) m k z e made there = inl (kept_put m key v k e)
map_kept (Insert key v) m k z e made there = inl (kept_insert (has m key) m key v k e there)
map_kept (Modify key v) m k z e made there = inl (kept_modify (has m key) m key v k e there)
map_kept (Append key v) m k z e made there = inl (kept_put m key _ k e)
map_kept Wipe m k z e made there = inr (and_make z _ made refl)
map_kept Check m k z e made there = absurd (never_true e)

map_kept_in : (p : MapCommand) (o : Bool) (m : Map) (k : List ℕ) (n : ℕ) → o && map_touches p k ≡ true → o && map_changed p n ≡ true → has m k ≡ true
    → (has (cond o (after p m) m) k ≡ true) ⊎ (o && (map_changed p n && (map_removes p && map_touches p k)) ≡ true)
map_kept_in p true m k n e made there = map_kept p m k (map_changed p n) e made there
map_kept_in p false m k n e made there = absurd (never_true e)

shut_writes : (p : Option ℕ) (n : ℕ) → gate_shut p n ≡ true → commit_writes p n ≡ true
shut_writes None n e = le-leb 6 n (omega (arith, leb-true 8 n e))
shut_writes (Some steps) n e = le-leb 1 n (omega (arith, leb-true 3 n (and_both _ _ e).1))

commit_kept : (o : Option Txn) (m : Map) (k : List ℕ) (n : ℕ) → commits o ≡ true → commit_changed o n ≡ true → (has (cond (commits o) (image_or o m) m) k ≡ true) ⊎ (commit_takes o n k ≡ true)
commit_kept None m k n e made = absurd (never_true e)
commit_kept (Some z) m k n e made =
    elim (cases_Bool (has z.image k)) [
      | inl there ↦ (let same : cond (commits_in z) z.image m ≡ z.image = rw e refl in inl (ap (λ g. has g k) same ∙ there))
      | inr lacks ↦ inr (and_make _ _ (shut_writes z.prepared n (and_both _ _ made).1) (to_not _ lacks))
    ]

persist_by : (q : Option Refusal) (c : Command) (x : Own) (m : Map) (k : List ℕ) (n : ℕ) → touches_by q c x k ≡ true → changed_by q c x n ≡ true → has m k ≡ true
    → (has (map_by q c x m) k ≡ true) ⊎ (takes_by q c x n k ≡ true)
persist_by (Some q) c x m k n e made there = absurd (never_true e)
persist_by None (OnMap c) x m k n e made there = map_kept_in c _ m k n e made there
persist_by None (OnLocks c) x m k n e made there = absurd (never_true e)
persist_by None Seqnum x m k n e made there = absurd (never_true e)
persist_by None (OnGroup Start) x m k n e made there = absurd (never_true e)
persist_by None (OnGroup Commit) x m k n e made there = commit_kept x.txn m k n e made
persist_by None (OnGroup Prepare) x m k n e made there = absurd (never_true e)
persist_by None (OnGroup Cancel) x m k n e made there = absurd (never_true e)
persist_by None (OnWalk c) x m k n e made there = absurd (never_true e)

persist : (f : Form) (c : Command) (x : Own) (m : Map) (k : List ℕ) (n : ℕ) → touches f c x k ≡ true → is_changed f c x n ≡ true → has m k ≡ true
    → (has (map_after f c x m) k ≡ true) ⊎ (takes f c x n k ≡ true)
unfolding is_changed takes
persist f c x m k n e made there = persist_by (refusal f c x) c x m k n e made there

-- the map that an opener sees has a key of another such map
pub seen_has : (o : Option Txn) (m n : Map) (k : List ℕ) → (has m k ≡ true → has n k ≡ true) → has (image_or o m) k ≡ true → has (image_or o n) k ≡ true
seen_has None m n k to e = to e
seen_has (Some z) m n k to e = e

module _ (f : Form) (old new : State) (who : ℕ) (task : Task) (turn : Turn) (S : IsSound f old) (T : Turned f old who task turn new) (s : Replay) (P : Stands f old s) where
  abbrev c : Command
  c = task.command

  abbrev n : ℕ
  n = task.steps

  abbrev x : Own
  x = old.own who

  -- the turn begins a walk, or goes on to begin it
  abbrev begin : Bool
  begin = begins f c x (old.spot who)

  abbrev shown : List ℕ → Bool
  shown k = shown_now f s who c k

  abbrev due : List ℕ → Bool
  due k = due_now f s who c k

  abbrev fresh : Bool
  fresh = is_fresh f (s.begun who) (s.own who) (old.spot who)

  same_begun : IsSame (s.begun who) (Some task)
  same_begun = subst (IsSame (s.begun who)) T.mine (P.same who)

  by_begun : (b : Option Task) → s.begun who ≡ b → IsSame b (Some task) → ((starts f s who c ≡ begin) × (fresh ≡ false)) ⊎ ((starts f s who c ≡ false) × (fresh ≡ begin))
  by_begun None e same =
      let there : starts f s who c ≡ is_first c && moves f c x = ap (λ b. is_none b && (is_first c && moves f c (s.own who))) e ∙ ap (λ y. is_first c && moves f c y) (P.owns who) in
      inl (there ∙ sym (with_gone (is_first c) (moves f c x) (old.spot who).gone (P.gone who e)), ap (λ b. is_fresh f b (s.own who) (old.spot who)) e)
  by_begun (Some u) e same =
      inr (
        ap (λ b. is_none b && (is_first c && moves f c (s.own who))) e,
        ap (λ b. is_fresh f b (s.own who) (old.spot who)) e ∙ (ap (λ z. begins f z.command (s.own who) (old.spot who)) same ∙ ap (λ y. begins f c y (old.spot who)) (P.owns who)),
      )

  begun : ((starts f s who c ≡ begin) × (fresh ≡ false)) ⊎ ((starts f s who c ≡ false) × (fresh ≡ begin))
  begun = by_begun (s.begun who) refl same_begun

  not_started : (k : List ℕ) → starts f s who c ≡ false → (shown k ≡ s.shown who k) × (due k ≡ s.due who k)
  not_started k e = (rw e refl, rw e refl)

  -- a walk that begins has shown nothing, and owes what its opener sees and nobody takes
  pub begins_clear : begin ≡ true → (k : List ℕ) → shown k ≡ false
  begins_clear e k =
      elim begun [
        | inl first ↦ (let starting : starts f s who c ≡ true = first.0 ∙ e in rw starting refl)
        | inr later ↦ (not_started k later.0).0 ∙ subst (λ b. WalkStandsBy b f old who (s.shown who) (s.due who)) (later.1 ∙ e) (P.walks who) k
      ]

  begins_due : begin ≡ true → (k : List ℕ) → due k ≡ true → (has (seen x s.map) k ≡ true) × (taken f s who k ≡ false)
  begins_due e k owed =
      elim begun [
        | inl first ↦ (let starting : starts f s who c ≡ true = first.0 ∙ e in
            let both : has (seen (s.own who) s.map) k && not (taken f s who k) ≡ true = subst (λ b. cond b (has (seen (s.own who) s.map) k && not (taken f s who k)) (s.due who k) ≡ true) starting owed in
            let parts = and_both _ _ both in
            (subst (λ y. has (seen y s.map) k ≡ true) (P.owns who) parts.0, from_not _ parts.1))
        | inr later ↦ P.due who k (sym (not_started k later.0).1 ∙ owed)
      ]

  -- and nothing is owed that somebody takes
  owed_untaken : (k : List ℕ) → due k ≡ true → taken f s who k ≡ false
  owed_untaken k owed = elim (cases_Bool begin) [
    | inl e ↦ (begins_due e k owed).1
    | inr e ↦ (P.due who k (sym (not_started k (elim begun [ inl first ↦ first.0 ∙ e | inr later ↦ later.0 ])).1 ∙ owed)).1
  ]

  -- one that goes on is on its way
  pub goes_way : begin ≡ false → IsOnWay f old who shown due
  goes_way e =
      elim begun [
        | inl first ↦ alike (first.0 ∙ e) first.1
        | inr later ↦ alike later.0 (later.1 ∙ e)
      ]
    where
      alike : starts f s who c ≡ false → fresh ≡ false → IsOnWay f old who shown due
      alike starting off =
          way_alike f old who (s.shown who) shown (s.due who) due (λ k. (not_started k starting).0) (λ k owed. sym (not_started k starting).1 ∙ owed)
          (subst (λ b. WalkStandsBy b f old who (s.shown who) (s.due who)) off (P.walks who))

  -- another's command that takes a key takes it in the replay too
  begun_takes : (o : ℕ) (z : Task) (b : Option Task) → IsSame b (Some z) → (k : List ℕ) → takes f z.command (s.own o) z.steps k ≡ true → takes_begun f (s.own o) b k ≡ true
  begun_takes o z None same k e = absurd (never_true (sym (ap (λ m. takes f z.command (s.own o) m k) same ∙ takes_none f z.command (s.own o) k) ∙ e))
  begun_takes o z (Some u) same k e = subst (λ v. takes f v.command (s.own o) v.steps k ≡ true) (sym same) e

  task_taken : (o : ℕ) (z : Task) (k : List ℕ) → o ≢ who → old.task o ≡ Some z → takes f z.command (old.own o) z.steps k ≡ true → taken f s who k ≡ true
  task_taken o z k ne has_task e =
      let joined : o < s.joined = subst (λ m. o < m) (sym P.joined) (S.live_joined o (S.busy_there o z has_task)) in
      found_taken f s who o k joined ne (begun_takes o z (s.begun o) (subst (IsSame (s.begun o)) has_task (P.same o)) k (subst (λ y. takes f z.command y z.steps k ≡ true) (sym (P.owns o)) e))

  module _ (moving : moves f c x ≡ true) where
    not_own : (d : Command) (y : Own) → IsPending f old who d y → ⊥
    not_own d y p = not_pending f old new who task turn T d y (quiet_moves f old new who task turn S T s P moving) p

    -- what is owed and not taken out is in the file
    file_has : (k : List ℕ) → taken f s who k ≡ false → has s.map k ≡ true → has old.file k ≡ true
    file_has k untaken there =
        elim (P.maps.each k) [
          | inl same ↦ ap is_some same ∙ there
          | inr by ↦ elim (cases_eq by.owner who) [
            | inl is ↦ absurd (not_own by.command by.own (subst (λ o. IsPending f old o by.command by.own) is by.pending))
            | inr ne ↦ (let p = by.pending in
                elim (persist f by.command by.own s.map k p.task.steps by.touched p.made there) [
                  | inl stays ↦ ap is_some (P.maps.pending by.owner by.command by.own p k by.touched) ∙ stays
                  | inr takes_it ↦ absurd (never_true (sym untaken ∙ task_taken by.owner p.task k ne p.has_task (subst₂ (λ e y. takes f e y p.task.steps k ≡ true) (sym p.command) (sym p.owned) takes_it)))
                ])
          ]
        ]

    -- what is owed was shown, or must be come to
    pub owes : (begin ≡ false → (old.mark who).inside ≡ true → (k : List ℕ) → home f k + 1 ≡ (old.mark who).reached → 1 ≤ old.table who (chain_byte f k))
        → (k : List ℕ) → due k ≡ true → (shown k ≡ true) ⊎ Due old who begin k
    owes holds k owed =
        elim (cases_Bool begin) [
          | inl e ↦ (let parts = begins_due e k owed in
              let there : has (seen x old.file) k ≡ true = seen_has x.txn s.map old.file k (file_has k parts.1) parts.0 in
              inr (subst (λ b. Due old who b k) (sym e) there))
          | inr e ↦ (let way = goes_way e in
              elim (way.due k owed) [
                | inl before ↦ inl before
                | inr rest ↦ elim rest [
                  | inl ahead ↦ inr (subst (λ b. Due old who b k) (sym e) ahead)
                  | inr by ↦ absurd (behind_none e k by)
                ]
              ])
        ]
      where
        behind_none : begin ≡ false → (k : List ℕ) → IsBehind f old who k → ⊥
        behind_none e k by =
            elim by.near [
              | inl is ↦ not_own by.command by.own (subst (λ o. IsPending f old o by.command by.own) is by.pending)
              | inr both ↦ elim (cases_eq by.owner who) [
                | inl is ↦ not_own by.command by.own (subst (λ o. IsPending f old o by.command by.own) is by.pending)
                | inr ne ↦ omega (arith, holds e both.0 k both.1, pending_touches f old S by.owner by.command by.own by.pending k by.touched, S.apart by.owner who (chain_byte f k) ne)
              ]
            ]

    pub untaken : (k : List ℕ) → due k ≡ true → Taken f old who begin k → ⊥
    untaken k owed gone = let by = gone.2 in never_true (sym (owed_untaken k owed) ∙ task_taken gone.0 by.task k gone.1 by.has_task by.taken_out)
