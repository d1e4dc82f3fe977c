-- An image that nothing has changed, or whose Prepare found nothing, has the committed map, also after a turn.
use Rattle.std.proofs.Common.{◌≡◌, ℕ, ◌≤◌, List, Bool, true, false, cond, ◌==◌, Option, Some, None, is_none, is_some, refl, sym, ◌∙◌, ap, subst, inl, inr, arith, ◌≢◌}
use Rattle.std.specs.Prelude.{◌&&◌, ◌||◌}
use Rattle.std.specs.FinMap.{get}
use Rattle.std.proofs.lemmas.Bool.{cases_Bool, cases_eq}
use Rattle.tdb_space.specs.Form.{Form}
use Rattle.tdb_law.specs.Commands.{MapCommand, LockCommand, Command, Reply, Turn, is_spare, is_done}
use Rattle.tdb_law.specs.Commands.GroupCommand.{Start, Commit, Prepare, Cancel}
use Rattle.tdb_law.specs.Commands.WalkCommand.{First, Next, EndWalk, Close}
use Rattle.tdb_law.specs.Commands.Command.{OnMap, OnLocks, Seqnum, OnGroup, OnWalk}
use Rattle.tdb_law.specs.Commands.LockCommand.{ChainLock, ChainLockNb, ChainUnlock, LockAll, LockAllRead, UnlockAll}
use Rattle.tdb_law.specs.Commands.Reply.{Done, Number}
use Rattle.tdb_law.specs.Commands.Turn.{Step, Blocked, Ends}
use Rattle.tdb_law.specs.Openers.{Own, Txn, Map, Task, seen, has, image_or, is_key}
use Rattle.tdb_law.specs.MapCommands.{after, map_changes}
use Rattle.tdb_law.specs.Refusals.{Refusal, refusal, chain_byte}
use Rattle.tdb_law.specs.Rows.{commits_in}
use Rattle.tdb_law.specs.Outcomes.{map_by, map_after, own_after, touches, commits}
use Rattle.tdb_law.specs.Counting.{number_seen}
use Rattle.tdb_law.specs.World.{State, IsSound}
use Rattle.tdb_law.specs.Effects.{IsFree, IsFirstConflict, IsReady, Effect, Finds}
use Rattle.tdb_law.specs.Effects.Effect.{effect_waits, effect_goes_on, effect_changes, effect_answers, effect_shows, effect_starves, effect_is_full, effect_is_busy, effect_numbers, effect_finishes}
use Rattle.tdb_law.specs.Turned.{Turned, want}
use Rattle.tdb_law.specs.Replay.{Replay, line_own, line_map}
use Rattle.tdb_law.specs.Standing.{Stands}
use Rattle.tdb_law.proofs.Maps.{is_key-eq}
use Rattle.tdb_law.proofs.Mapped.{own_line}
use Rattle.std.specs.FinMap.{remove}
use Rattle.tdb_law.specs.Commands.MapCommand.{Fetch, Has, Delete, Store, Insert, Modify, Append, Wipe, Check}
use Rattle.tdb_law.specs.Commands.Reply.{KeyMissing, KeyThere}
use Rattle.std.specs.Prelude.{nat_lt, nat_le}
use Rattle.std.proofs.lemmas.Bool.{leb-true, le-leb, ltb-true, ltb-false}
use Rattle.tdb_law.specs.Openers.{ended}
use Rattle.tdb_law.specs.MapCommands.{reply}
use Rattle.tdb_law.specs.Refusals.{is_prepared}
use Rattle.tdb_law.specs.Rows.{plans_in}
use Rattle.tdb_law.specs.Ends.{IsRow, ends_by, prepare_ends, not_full}
use Rattle.tdb_law.specs.Outcomes.{own_by, own_left, own_prepared, own_cancelled, own_started, own_spared, own_locked, changed_txn}
use Rattle.tdb_law.specs.Held.{kept_by, kept, txn_held}
use Rattle.tdb_law.specs.Replay.{map_told}
use Rattle.tdb_law.specs.Standing.{IsUntouched}
use Rattle.tdb_law.proofs.Maps.{maps_equal, get_drop}
use Rattle.tdb_law.proofs.Local.{untouched, told_plain, reads_touched}
use Rattle.tdb_law.proofs.Covered.{changed_late, start_covers}
use Rattle.tdb_law.proofs.Pending.{touches_locked}
use Rattle.tdb_law.proofs.Mapped.{told_map, moves_told, counts_told, plain_map, found_plain}
use Rattle.tdb_law.proofs.Tests.{never_true}

some_txn : (t u : Txn) → ◌≡◌ {A = Option Txn} (Some t) (Some u) → t ≡ u
some_txn t u e = cc

none_txn : (u : Txn) → ◌≡◌ {A = Option Txn} None (Some u) → ⊥
none_txn u e = cc

-- a command that isn't done, or changes nothing, leaves the map
cond_done : (b : Bool) → is_done (cond b Done KeyMissing) ≡ false → b ≡ false
cond_done true e = absurd (never_true (sym e))
cond_done false e = refl

cond_there : (b : Bool) → is_done (cond b KeyThere Done) ≡ false → b ≡ true
cond_there true e = refl
cond_there false e = absurd (never_true (sym e))

lacks : (m : Map) (k : List ℕ) → has m k ≡ false → get m k ≡ None
lacks m k e = go (get m k) e
  where
    go : (o : Option (List ℕ)) → is_some o ≡ false → o ≡ None
    go None e2 = refl
    go (Some v) e2 = absurd (never_true (sym e2))

remove_none : (m : Map) (k : List ℕ) → has m k ≡ false → remove m k ≡ m
remove_none m k e = maps_equal (remove m k) m (λ q. get_drop m k q ∙ at q (is_key k q) refl)
  where
    at : (q : List ℕ) (b : Bool) → is_key k q ≡ b → cond b None (get m q) ≡ get m q
    at q true is = sym (subst (λ u. get m u ≡ None) (sym (is_key-eq k q is)) (lacks m k e))
    at q false is = refl

after_still : (p : MapCommand) (m : Map) → map_changes p && is_done (reply p m) ≡ false → after p m ≡ m
after_still (Fetch k) m e = refl
after_still (Has k) m e = refl
after_still (Delete k) m e = remove_none m k (cond_done (has m k) e)
after_still (Store k v) m e = absurd (never_true (sym e))
after_still (Insert k v) m e = rw (cond_there (has m k) e) refl
after_still (Modify k v) m e = rw (cond_done (has m k) e) refl
after_still (Append k v) m e = absurd (never_true (sym e))
after_still Wipe m e = absurd (never_true (sym e))
after_still Check m e = refl

-- a command on the map or a Prepare that isn't refused isn't asked of a prepared transaction
abbrev LetsIn : Bool → Option Refusal → Type 0
LetsIn b r = r ≡ None → b ≡ false

second_row : (a b : Bool) (q : Refusal) (rest : Option Refusal) (u : Refusal) → LetsIn b (cond a (Some q) (cond b (Some u) rest))
second_row true b q rest u e = cc
second_row false true q rest u e = cc
second_row false false q rest u e = refl

first_row : (b : Bool) (rest : Option Refusal) (u : Refusal) → LetsIn b (cond b (Some u) rest)
first_row true rest u e = cc
first_row false rest u e = refl

map_unprepared : (f : Form) (p : MapCommand) (x : Own) → LetsIn (is_prepared x.txn) (refusal f (OnMap p) x)
unfolding refusal
map_unprepared f (Fetch k) x = first_row (is_prepared x.txn) _ _
map_unprepared f (Has k) x = first_row (is_prepared x.txn) _ _
map_unprepared f (Delete k) x = second_row _ (is_prepared x.txn) _ _ _
map_unprepared f (Store k v) x = second_row _ (is_prepared x.txn) _ _ _
map_unprepared f (Insert k v) x = second_row _ (is_prepared x.txn) _ _ _
map_unprepared f (Modify k v) x = second_row _ (is_prepared x.txn) _ _ _
map_unprepared f (Append k v) x = second_row _ (is_prepared x.txn) _ _ _
map_unprepared f Wipe x = second_row _ (is_prepared x.txn) _ _ _
map_unprepared f Check x = first_row (is_prepared x.txn) _ _

prepare_unprepared : (f : Form) (x : Own) → LetsIn (is_prepared x.txn) (refusal f (OnGroup Prepare) x)
unfolding refusal
prepare_unprepared f x = second_row _ (is_prepared x.txn) _ _ _

abbrev Kept : Map → Option Txn → Type 0
Kept m o = (t : Txn) → o ≡ Some t → IsUntouched m t

none_prepared : (o : Option ℕ) → is_some o ≡ false → o ≡ Some 0 → ⊥
none_prepared None e p = cc
none_prepared (Some n) e p = never_true (sym e)

-- of a transaction with the same image, change and preparation
same_untouched : (m : Map) (t u : Txn) → u.image ≡ t.image → u.changed ≡ t.changed → u.prepared ≡ t.prepared → IsUntouched m t → IsUntouched m u
same_untouched m t u image changed prepared still = record {
  image = λ e. image ∙ still.image (sym changed ∙ e);
  prepared = λ e. changed ∙ still.prepared (sym prepared ∙ e);
}

or_parts2 : (a b : Bool) → a || b ≡ false → (a ≡ false) × (b ≡ false)
or_parts2 true b e = absurd (never_true (sym e))
or_parts2 false b e = (refl, e)

changed_kept : (p : MapCommand) (m : Map) (o : Option Txn) → is_prepared o ≡ false → Kept m o → Kept m (changed_txn p o)
changed_kept p m None free still u e = absurd (none_txn u e)
changed_kept p m (Some t) free still u e =
    subst (IsUntouched m) (some_txn _ u e) (record {
      image = λ same. (let parts = or_parts2 t.changed _ same in after_still p t.image parts.1 ∙ (still t refl).image parts.0);
      prepared = λ zero_steps. absurd (none_prepared t.prepared free zero_steps);
    })

locked_kept : (f : Form) (c : LockCommand) (x : Own) (m : Map) → Kept m x.txn → Kept m (own_locked f c x).txn
locked_kept f (ChainLock k) x m still = still
locked_kept f (ChainLockNb k) x m still = still
locked_kept f (ChainUnlock k) x m still = still
locked_kept f LockAll x m still = still
locked_kept f LockAllRead x m still = still
locked_kept f UnlockAll x m still = still

started_kept : (o : Option Txn) (x : Own) (m : Map) → Kept m o → Kept m (own_started o x m).txn
started_kept None x m still u e = subst (IsUntouched m) (some_txn _ u e) (record { image = λ same. refl; prepared = λ z. refl })
started_kept (Some t) x m still u e = subst (IsUntouched m) (some_txn _ u e) (same_untouched m t _ refl refl refl (still t refl))

ended_kept : (x : Own) (m : Map) → Kept m (ended x).txn
ended_kept x m u e = absurd (none_txn u e)

cond_kept : (b : Bool) (y z : Own) (m : Map) → (b ≡ true → Kept m y.txn) → (b ≡ false → Kept m z.txn) → Kept m (cond b y z).txn
cond_kept true y z m one two = one refl
cond_kept false y z m one two = two refl

-- of a Commit: an inner one leaves the transaction and the map
left_kept : (o : Option Txn) (x : Own) (m : Map) → x.txn ≡ o → Kept m o → Kept m (own_left o x).txn
left_kept None x m e still = subst (Kept m) (sym e) still
left_kept (Some t) x m e still =
    cond_kept (nat_lt 1 t.depth) _ (ended x) m
    (λ inner u e. subst (IsUntouched m) (some_txn _ u e) (same_untouched m t _ refl refl refl (still t refl)))
    (λ outer. ended_kept x m)

inner_commit : (t : Txn) → nat_lt 1 t.depth ≡ true → (m : Map) → cond (commits_in t) t.image m ≡ m
inner_commit t inner m =
    let deep : nat_le t.depth 1 ≡ false = not_outer (nat_le t.depth 1) refl in
    rw deep refl
  where
    not_outer : (b : Bool) → nat_le t.depth 1 ≡ b → nat_le t.depth 1 ≡ false
    not_outer true e = absurd (omega (arith, leb-true t.depth 1 e, ltb-true 1 t.depth inner))
    not_outer false e = e

commit_kept : (o : Option Txn) (x : Own) (m : Map) → x.txn ≡ o → Kept m o → Kept (cond (commits o) (image_or o m) m) (own_left o x).txn
commit_kept None x m e still = subst (Kept m) (sym e) still
commit_kept (Some t) x m e still =
    cond_kept (nat_lt 1 t.depth) _ (ended x) (cond (commits_in t) t.image m)
    (λ inner u e. subst (λ z. IsUntouched z u) (sym (inner_commit t inner m)) (subst (IsUntouched m) (some_txn _ u e) (same_untouched m t _ refl refl refl (still t refl))))
    (λ outer. ended_kept x _)

cancel_kept : (o : Option Txn) (x : Own) (m : Map) → x.txn ≡ o → Kept m o → Kept m (own_cancelled o x).txn
cancel_kept None x m e still = subst (Kept m) (sym e) still
cancel_kept (Some t) x m e still =
    cond_kept (nat_lt 1 t.depth) _ (ended x) m
    (λ inner u e. subst (IsUntouched m) (some_txn _ u e) (same_untouched m t _ refl refl refl (still t refl)))
    (λ outer. ended_kept x m)

-- a Prepare that didn't plan found nothing changed
unplanned_prepare : (t : Txn) → nat_lt 1 t.depth ≡ false → t.prepared ≡ None → plans_in t ≡ false → t.changed ≡ false
unplanned_prepare t outer fresh never = go (nat_le t.depth 1) t.changed refl (subst (λ p. nat_le t.depth 1 && t.changed && is_none p ≡ false) fresh never)
  where
    go : (a b : Bool) → nat_le t.depth 1 ≡ a → a && b && true ≡ false → b ≡ false
    go true true e z = absurd (never_true (sym z))
    go true false e z = refl
    go false b e z = absurd (never_true (sym e ∙ le-leb t.depth 1 (ltb-false 1 t.depth outer)))

prepared_none : (o : Option ℕ) → is_some o ≡ false → o ≡ None
prepared_none None e = refl
prepared_none (Some n) e = absurd (never_true (sym e))

prepare_kept : (o : Option Txn) (x : Own) (m : Map) (n : ℕ) → is_prepared o ≡ false → ((t : Txn) → o ≡ Some t → plans_in t ≡ true → n ≡ 0 → ⊥) → x.txn ≡ o → Kept m o → Kept m (own_prepared o x n).txn
prepare_kept None x m n free planned same still = λ u e. absurd (none_txn u (sym same ∙ e))
prepare_kept (Some t) x m n free planned same still =
    cond_kept (nat_lt 1 t.depth) x _ m
    (λ inner u e. still u (sym same ∙ e))
    (λ outer u e. subst (IsUntouched m) (some_txn _ u e) (record {
      image = (still t refl).image;
      prepared = λ zero_steps. by_plan outer (plans_in t) refl zero_steps;
    }))
  where
    some_steps : (a b : ℕ) → ◌≡◌ {A = Option ℕ} (Some a) (Some b) → a ≡ b
    some_steps a b e = cc

    by_plan : nat_lt 1 t.depth ≡ false → (b : Bool) → plans_in t ≡ b → Some (cond (plans_in t) n 0) ≡ Some 0 → t.changed ≡ false
    by_plan outer true e zero_steps = absurd (planned t refl e (some_steps n 0 (subst (λ b. Some (cond b n 0) ≡ Some 0) e zero_steps)))
    by_plan outer false e zero_steps = unplanned_prepare t outer (prepared_none t.prepared free) e

-- the row of a Prepare that plans has steps before its end
prepare_steps : (a : Bool) (n : ℕ) → n ≡ 0 → (n == 2) || (a && (n == 4)) ≡ true → ⊥
prepare_steps true n e z = never_true (subst (λ m. (m == 2) || (true && (m == 4)) ≡ true) e z)
prepare_steps false n e z = never_true (subst (λ m. (m == 2) || (false && (m == 4)) ≡ true) e z)

-- The opener's own transaction after a command that ended.
own_kept_by : (f : Form) (q : Option Refusal) (c : Command) (x : Own) (n : ℕ) (r : Reply) (m : Map) → ((p : MapCommand) → c ≡ OnMap p → q ≡ None → is_prepared x.txn ≡ false)
    → (c ≡ OnGroup Prepare → q ≡ None → (is_prepared x.txn ≡ false) × ((t : Txn) → x.txn ≡ Some t → plans_in t ≡ true → n ≡ 0 → ⊥))
    → Kept m x.txn → Kept (map_by q c x m) (own_by f q c x n r m).txn
own_kept_by f (Some q) (OnMap c) x n r m plain prep still = still
own_kept_by f (Some q) (OnLocks c) x n r m plain prep still = still
own_kept_by f (Some q) Seqnum x n r m plain prep still = still
own_kept_by f (Some q) (OnGroup Start) x n r m plain prep still = still
own_kept_by f (Some q) (OnGroup Commit) x n r m plain prep still = left_kept x.txn x m refl still
own_kept_by f (Some q) (OnGroup Prepare) x n r m plain prep still = left_kept x.txn x m refl still
own_kept_by f (Some q) (OnGroup Cancel) x n r m plain prep still = still
own_kept_by f (Some q) (OnWalk c) x n r m plain prep still = still
own_kept_by f None (OnMap c) x n r m plain prep still = in_it x.txn (plain c refl refl) still
  where
    in_it : (o : Option Txn) → is_prepared o ≡ false → Kept m o → Kept (cond (is_none o) (after c m) m) (changed_txn c o)
    in_it None free keeps = λ u e. absurd (none_txn u e)
    in_it (Some t) free keeps = changed_kept c m (Some t) free keeps
own_kept_by f None (OnLocks c) x n r m plain prep still = locked_kept f c x m still
own_kept_by f None Seqnum x n r m plain prep still = still
own_kept_by f None (OnGroup Start) x n r m plain prep still = started_kept x.txn x m still
own_kept_by f None (OnGroup Commit) x n r m plain prep still = commit_kept x.txn x m refl still
own_kept_by f None (OnGroup Prepare) x n r m plain prep still = let got = prep refl refl in prepare_kept x.txn x m n got.0 got.1 refl still
own_kept_by f None (OnGroup Cancel) x n r m plain prep still = cancel_kept x.txn x m refl still
own_kept_by f None (OnWalk First) x n r m plain prep still = still
own_kept_by f None (OnWalk Next) x n r m plain prep still = still
own_kept_by f None (OnWalk EndWalk) x n r m plain prep still = still
own_kept_by f None (OnWalk Close) x n r m plain prep still = ended_kept x m

spared_kept : (c : Command) (x : Own) (m : Map) → Kept m x.txn → Kept m (own_spared c x).txn
spared_kept (OnMap c) x m still = still
spared_kept (OnLocks c) x m still = still
spared_kept Seqnum x m still = still
spared_kept (OnGroup Start) x m still = still
spared_kept (OnGroup Commit) x m still = ended_kept x m
spared_kept (OnGroup Prepare) x m still = ended_kept x m
spared_kept (OnGroup Cancel) x m still = still
spared_kept (OnWalk First) x m still = still
spared_kept (OnWalk Next) x m still = still
spared_kept (OnWalk EndWalk) x m still = still
spared_kept (OnWalk Close) x m still = ended_kept x m

module _ (f : Form) (old new : State) (who : ℕ) (task : Task) (turn : Turn) (S : IsSound f old) (T : Turned f old who task turn new) (s : Replay) (P : Stands f old s) where
  abbrev c : Command
  c = task.command

  abbrev n : ℕ
  n = task.steps

  abbrev x : Own
  x = old.own who

  abbrev m : Map
  m = s.map

  abbrev TheEffect : Type 0
  TheEffect = Effect f (IsFree old.table who (want f old who task)) (IsFirstConflict old.table who (want f old who task)) (Finds f (old.table who) (want f old who task) (seen x old.file))
      (number_seen x old.number (old.image_number who)) c n x old.file turn (new.own who) new.file

  mine : Kept m x.txn
  mine t e = P.untouched who t e

  -- a Prepare's row
  row_end : (r : Reply) → turn ≡ Ends r → IsRow f c x n (Ends r)
  row_end r e = subst (IsRow f c x n) e T.row

  prepare_end : (r : Reply) → is_spare r ≡ false → turn ≡ Ends r → c ≡ OnGroup Prepare → refusal f c x ≡ None → (t : Txn) → x.txn ≡ Some t → plans_in t ≡ true → n ≡ 0 → ⊥
  prepare_end r plain e is free t has_txn planned none =
      elim (row_end r e) [
        | inl ends ↦ by_row (subst (λ q. ends_by q c x n r ≡ true) free ends)
        | inr memory ↦ never_true (sym plain ∙ ap is_spare memory.0)
      ]
    where
      go : (o : Option Txn) → o ≡ Some t → prepare_ends o n r ≡ true → ⊥
      go None e2 ends = none_txn t e2
      go (Some u) e2 ends =
          let same : u ≡ t = some_txn u t e2 in
          let p : plans_in u ≡ true = ap plans_in same ∙ planned in
          prepare_steps (not_full r) n none (subst (λ b. cond b ((n == 2) || (not_full r && (n == 4))) (n == 0) ≡ true) p ends)

      by_row : ends_by None c x n r ≡ true → ⊥
      by_row ends = go x.txn has_txn (subst (λ d. ends_by None d x n r ≡ true) is ends)

  plain_kept : (r : Reply) → turn ≡ Ends r → is_spare r ≡ false → Kept (map_after f c x m) (own_after f c x n r m).txn
  plain_kept r e plain =
      own_kept_by f (refusal f c x) c x n r m
      (λ p is free. map_unprepared f p x (subst (λ d. refusal f d x ≡ None) is free))
      (λ is free. (prepare_unprepared f x (subst (λ d. refusal f d x ≡ None) is free), prepare_end r plain e is free))
      mine

  own_untouched_by : (u : Turn) → turn ≡ u → Kept (line_map f c x u m) (line_own f c x n u m).txn
  own_untouched_by Step e = mine
  own_untouched_by (Blocked o b) e = mine
  own_untouched_by (Ends r) e = by_spare (is_spare r) refl
    where
      by_spare : (b : Bool) → is_spare r ≡ b → Kept (cond b m (map_told f c x m)) (cond b (own_spared c x) (own_after f c x n r m)).txn
      by_spare true spare = spared_kept c x m mine
      by_spare false plain = subst (λ g. Kept g (own_after f c x n r m).txn) (sym (told_map f c x m mine)) (plain_kept r e plain)

  -- who has a transaction reads every chain, so nobody else changes a key of the map
  reads_all : (o : ℕ) (z : Txn) (k : List ℕ) → (old.own o).txn ≡ Some z → 1 ≤ old.table o (chain_byte f k)
  reads_all o z k e =
      let there : kept f (old.own o) (old.spot o) (chain_byte f k) ≡ txn_held z (chain_byte f k) = ap (λ v. kept_by f v (old.own o) (old.spot o) (chain_byte f k)) e in
      let start = start_covers f S.chains 2 k (omega arith) in
      omega (arith, S.agrees o (chain_byte f k), there, start)

  no_touch : (o : ℕ) (z : Txn) → o ≢ who → (old.own o).txn ≡ Some z → IsReady f c x n → (k : List ℕ) → touches f c x k ≡ false
  no_touch o z ne e ready k =
      elim (cases_Bool (touches f c x k)) [
        | inr never ↦ never
        | inl touching ↦ absurd (omega (arith, reads_all o z k e, touches_locked f old S who task k T.mine touching (ready k (reads_touched f c x k touching)), S.apart o who (chain_byte f k) ne))
      ]

  same_map_then : ((k : List ℕ) → touches f c x k ≡ false) → map_told f c x m ≡ m
  same_map_then none = told_map f c x m mine ∙ maps_equal (map_after f c x m) m (λ k. untouched f c x m k (none k))

  plain_line : (r : Reply) → turn ≡ Ends r → is_spare r ≡ false → map_told f c x m ≡ m → line_map f c x turn m ≡ m
  plain_line r e plain same = ap (λ u. line_map f c x u m) e ∙ (plain_map f c x m r plain ∙ same)

  map_stays_by : (o : ℕ) (z : Txn) → o ≢ who → (old.own o).txn ≡ Some z → TheEffect → line_map f c x turn m ≡ m
  map_stays_by o z ne has_txn (effect_waits q b e conflict not_yet file own) = ap (λ u. line_map f c x u m) e
  map_stays_by o z ne has_txn (effect_goes_on e free same file own) = ap (λ u. line_map f c x u m) e
  map_stays_by o z ne has_txn (effect_changes e free late not_yet made done file own) = ap (λ u. line_map f c x u m) e
  map_stays_by o z ne has_txn (effect_answers r e free moving counting ready not_yet says file own) =
      plain_line r e (ap is_spare says ∙ told_plain f c x old.file) (same_map_then (no_touch o z ne has_txn ready))
  map_stays_by o z ne has_txn (effect_shows r e free moving found file own) = plain_line r e (found_plain f _ _ _ r found) (moves_told f c x m moving)
  map_stays_by o z ne has_txn (effect_starves e want_of not_yet file own) = ap (λ u. line_map f c x u m) e
  map_stays_by o z ne has_txn (effect_is_full len need e free filling ready not_yet done file own) = ap (λ u. line_map f c x u m) e
  map_stays_by o z ne has_txn (effect_is_busy q b e conflict busy file own) = ap (λ u. line_map f c x u m) e
  map_stays_by o z ne has_txn (effect_numbers q e free counting same file own) = plain_line (Number q) e refl (counts_told f c x m counting)
  map_stays_by o z ne has_txn (effect_finishes e free made file own) = plain_line Done e refl (same_map_then (no_touch o z ne has_txn (λ k reading. changed_late f c x n made)))

  pub untouched_after : (o : ℕ) (z : Txn) → (new.own o).txn ≡ Some z → IsUntouched (line_map f c x turn m) z
  untouched_after o z e =
      elim (cases_eq o who) [
        | inl is ↦ own_untouched_by turn refl z (ap (λ v. v.txn) (sym (own_line f old new who task turn S T s P)) ∙ subst (λ q. (new.own q).txn ≡ Some z) is e)
        | inr ne ↦ (let before : (old.own o).txn ≡ Some z = ap (λ v. v.txn) (sym (T.others_own o ne)) ∙ e in
            subst (λ g. IsUntouched g z) (sym (map_stays_by o z ne before T.effect)) (P.untouched o z before))
      ]
