-- What a command reads it has locked at its look, and what it touches it has locked for writing; and what is held at a
-- record's byte is held at each chain's.
use Rattle.std.proofs.Common.{◌≡◌, ℕ, ◌≤◌, max, List, [], ◌∷◌, Bool, true, false, cond, nat_lt, nat_le, ◌==◌, Option, Some, None, is_none, refl, sym, subst, inl, inr, ◌⊎◌, arith, zero-le, le_refl, le_trans}
use Rattle.std.specs.Prelude.{◌&&◌, if◌then◌else◌}
use Rattle.std.proofs.lemmas.Bool.{cases_lt, le-ltb, leb-true}
use Rattle.tdb_space.specs.Form.{Form, data_start}
use Rattle.tdb_law.specs.Commands.MapCommand.{Fetch, Has, Delete, Store, Insert, Modify, Append, Wipe, Check}
use Rattle.tdb_law.specs.Commands.{MapCommand, LockCommand, WalkCommand, Command}
use Rattle.tdb_law.specs.Commands.GroupCommand.{Start, Commit, Prepare, Cancel}
use Rattle.tdb_law.specs.Commands.WalkCommand.{First, Next, EndWalk, Close}
use Rattle.tdb_law.specs.Commands.Command.{OnMap, OnLocks, Seqnum, OnGroup, OnWalk}
use Rattle.tdb_law.specs.Commands.LockCommand.{ChainLock, ChainLockNb, ChainUnlock, LockAll, LockAllRead, UnlockAll}
use Rattle.tdb_law.specs.Openers.{Own, Txn, AllLock, Spot, Task, outside}
use Rattle.tdb_law.specs.MapCommands.{map_reads, map_touches}
use Rattle.tdb_law.specs.Refusals.{Refusal, refusal, chain_byte}
use Rattle.tdb_law.specs.Rows.{Lock, lock, lock_all, lock_free, lock_chain, start_locks, commit_locks, map_locks, lock_locks, walk_locks, plan_locks, group_locks, locks_by, locks, was_planned, plans_in, plan_look, look_by, look, map_changed, commit_changed, gate_shut, changed_by, is_changed}
use Rattle.tdb_law.specs.Outcomes.{commits, reads_by, reads, touches_by, touches}
use Rattle.tdb_law.specs.Held.{locked, all_held, explicit_held, prepared_held, txn_held, stand_held, kept_by, kept, is_gone, held, task_held, holding}
use Rattle.tdb_law.specs.World.{HasFewChains}
use Rattle.tdb_law.proofs.Maps.{is_key-eq}
use Rattle.tdb_law.proofs.Locks.{first_locked, rest_locked, locked_none, chain_covered, all_covered, chain_place, IsWide, locked_wide}

-- a commit's locks cover every chain once the first is taken
pub commit_covers : (f : Form) → HasFewChains f → (z : Bool) (n : ℕ) (k : List ℕ) → 1 ≤ n → 2 ≤ locked (commit_locks z) n (chain_byte f k)
commit_covers f chains z n k le = first_locked (lock_all 0 2) (lock 1 0 1 2 ∷ (if z then lock 1 48 49 2 ∷ [] else [])) n (chain_byte f k) le (all_covered f chains 0 k 2)

pub start_covers : (f : Form) → HasFewChains f → (n : ℕ) (k : List ℕ) → 2 ≤ n → 1 ≤ locked start_locks n (chain_byte f k)
start_covers f chains n k le = le_trans (first_locked (lock_all 1 1) [] n (chain_byte f k) le (all_covered f chains 1 k 1)) (rest_locked (lock 0 8 9 2) (lock_all 1 1 ∷ []) n (chain_byte f k))

-- the chain of the key that a command reads is its own key's
own_chain : (f : Form) (s : ℕ) (ls : List Lock) (n : ℕ) (key k : List ℕ) (e : ℕ) → 1 ≤ n → k ≡ key → s ≤ locked (lock_chain f 0 key s ∷ ls) n (chain_byte f k)
own_chain f s ls n key k e le same = subst (λ q. s ≤ locked (lock_chain f 0 key s ∷ ls) n (chain_byte f q)) (sym same) (first_locked (lock_chain f 0 key s) ls n (chain_byte f key) le (chain_covered f 0 key s))

map_covers : (f : Form) → HasFewChains f → (c : MapCommand) (n : ℕ) (k : List ℕ) → 1 ≤ n → map_reads c k ≡ true → 1 ≤ locked (map_locks f c) n (chain_byte f k)
map_covers f chains (Fetch key) n k le e = own_chain f 1 [] n key k 0 le (is_key-eq key k e)
map_covers f chains (Has key) n k le e = own_chain f 1 [] n key k 0 le (is_key-eq key k e)
map_covers f chains (Delete key) n k le e = le_trans (omega arith) (own_chain f 2 (lock_free 2 2 ∷ []) n key k 0 le (is_key-eq key k e))
map_covers f chains (Store key v) n k le e = le_trans (omega arith) (own_chain f 2 (lock_free 2 2 ∷ []) n key k 0 le (is_key-eq key k e))
map_covers f chains (Insert key v) n k le e = le_trans (omega arith) (own_chain f 2 (lock_free 2 2 ∷ []) n key k 0 le (is_key-eq key k e))
map_covers f chains (Modify key v) n k le e = le_trans (omega arith) (own_chain f 2 (lock_free 2 2 ∷ []) n key k 0 le (is_key-eq key k e))
map_covers f chains (Append key v) n k le e = le_trans (omega arith) (own_chain f 2 (lock_free 2 2 ∷ []) n key k 0 le (is_key-eq key k e))
map_covers f chains Wipe n k le e = le_trans (omega arith) (first_locked (lock_all 0 2) (lock_free 1 2 ∷ []) n (chain_byte f k) le (all_covered f chains 0 k 2))
map_covers f chains Check n k le e = first_locked (lock_all 0 1) (lock_free 1 1 ∷ []) n (chain_byte f k) le (all_covered f chains 0 k 1)

map_covers_touched : (f : Form) → HasFewChains f → (c : MapCommand) (n : ℕ) (k : List ℕ) → 1 ≤ n → map_touches c k ≡ true → 2 ≤ locked (map_locks f c) n (chain_byte f k)
map_covers_touched f chains (Fetch key) n k le e = cc
map_covers_touched f chains (Has key) n k le e = cc
map_covers_touched f chains (Delete key) n k le e = own_chain f 2 (lock_free 2 2 ∷ []) n key k 0 le (is_key-eq key k e)
map_covers_touched f chains (Store key v) n k le e = own_chain f 2 (lock_free 2 2 ∷ []) n key k 0 le (is_key-eq key k e)
map_covers_touched f chains (Insert key v) n k le e = own_chain f 2 (lock_free 2 2 ∷ []) n key k 0 le (is_key-eq key k e)
map_covers_touched f chains (Modify key v) n k le e = own_chain f 2 (lock_free 2 2 ∷ []) n key k 0 le (is_key-eq key k e)
map_covers_touched f chains (Append key v) n k le e = own_chain f 2 (lock_free 2 2 ∷ []) n key k 0 le (is_key-eq key k e)
map_covers_touched f chains Wipe n k le e = first_locked (lock_all 0 2) (lock_free 1 2 ∷ []) n (chain_byte f k) le (all_covered f chains 0 k 2)
map_covers_touched f chains Check n k le e = cc

-- what a command holds, by its refusal
abbrev pub held_by : Form → Option Refusal → Command → Own → Spot → ℕ → ℕ → ℕ
held_by f q c x a n b = if is_gone c a then 0 else locked (locks_by f q c x a.purging) n b

map_in : (f : Form) → HasFewChains f → (s : ℕ) (c : MapCommand) (o : Bool) (z : Bool) (n : ℕ) (k : List ℕ) → (1 ≤ n → z ≡ true → s ≤ locked (map_locks f c) n (chain_byte f k))
    → o && z ≡ true → cond o 1 0 ≤ n → s ≤ locked (cond o (map_locks f c) []) n (chain_byte f k)
map_in f chains s c true z n k covers e le = covers le e
map_in f chains s c false z n k covers e le = cc

cc_le : (m n : ℕ) → false ≡ true → m ≤ n
cc_le m n e = cc

start_in : (f : Form) → HasFewChains f → (o : Option Txn) (n : ℕ) (k : List ℕ) → is_none o ≡ true → cond (is_none o) 2 0 ≤ n → 1 ≤ locked (group_locks Start o) n (chain_byte f k)
start_in f chains None n k e le = start_covers f chains n k le
start_in f chains (Some t) n k e le = cc_le _ _ e

-- a commit that changes the file plans it and has its locks, or its Prepare had them
planned_in : (f : Form) → HasFewChains f → (t : Txn) (a b : Bool) (p : Option ℕ) (n : ℕ) (k : List ℕ) → a && b && was_planned p ≡ true → cond (a && b && is_none p) 1 0 ≤ n
    → 2 ≤ max (locked (cond (a && b && is_none p) (commit_locks t.numbered) []) n (chain_byte f k)) (prepared_held t p (chain_byte f k))
planned_in f chains t false b p n k e le = cc_le _ _ e
planned_in f chains t true false p n k e le = cc_le _ _ e
planned_in f chains t true true None n k e le = let got = commit_covers f chains t.numbered n k le in omega arith
planned_in f chains t true true (Some steps) n k e le = let got = commit_covers f chains t.numbered steps k (leb-true 1 steps e) in omega arith

commit_covered : (f : Form) → HasFewChains f → (o : Option Txn) (x : Own) (a : Spot) (n : ℕ) (k : List ℕ) → commits o ≡ true → plan_look o ≤ n
    → 2 ≤ max (locked (plan_locks o) n (chain_byte f k)) (kept_by f o x a (chain_byte f k))
commit_covered f chains None x a n k e le = cc_le _ _ e
commit_covered f chains (Some t) x a n k e le = let got = planned_in f chains t (nat_le t.depth 1) t.changed t.prepared n k e le in omega arith

touched_held_by : (f : Form) → HasFewChains f → (q : Option Refusal) (c : Command) (x : Own) (a : Spot) (n : ℕ) (k : List ℕ) → touches_by q c x k ≡ true → look_by q c x ≤ n
    → 2 ≤ max (held_by f q c x a n (chain_byte f k)) (kept f x a (chain_byte f k))
touched_held_by f chains (Some q) c x a n k e le = cc_le _ _ e
touched_held_by f chains None (OnMap c) x a n k e le = let got = map_in f chains 2 c (outside x) (map_touches c k) n k (map_covers_touched f chains c n k) e le in omega arith
touched_held_by f chains None (OnLocks c) x a n k e le = cc_le _ _ e
touched_held_by f chains None Seqnum x a n k e le = cc_le _ _ e
touched_held_by f chains None (OnGroup Start) x a n k e le = cc_le _ _ e
touched_held_by f chains None (OnGroup Commit) x a n k e le = commit_covered f chains x.txn x a n k e le
touched_held_by f chains None (OnGroup Prepare) x a n k e le = cc_le _ _ e
touched_held_by f chains None (OnGroup Cancel) x a n k e le = cc_le _ _ e
touched_held_by f chains None (OnWalk c) x a n k e le = cc_le _ _ e

read_held_by : (f : Form) → HasFewChains f → (q : Option Refusal) (c : Command) (x : Own) (a : Spot) (n : ℕ) (k : List ℕ) → reads_by q c x k ≡ true → look_by q c x ≤ n
    → 1 ≤ max (held_by f q c x a n (chain_byte f k)) (kept f x a (chain_byte f k))
read_held_by f chains (Some q) c x a n k e le = cc_le _ _ e
read_held_by f chains None (OnMap c) x a n k e le = let got = map_in f chains 1 c (outside x) (map_reads c k) n k (map_covers f chains c n k) e le in omega arith
read_held_by f chains None (OnLocks c) x a n k e le = cc_le _ _ e
read_held_by f chains None Seqnum x a n k e le = cc_le _ _ e
read_held_by f chains None (OnGroup Start) x a n k e le = let got = start_in f chains x.txn n k e le in omega arith
read_held_by f chains None (OnGroup Commit) x a n k e le = let got = commit_covered f chains x.txn x a n k e le in omega arith
read_held_by f chains None (OnGroup Prepare) x a n k e le = cc_le _ _ e
read_held_by f chains None (OnGroup Cancel) x a n k e le = cc_le _ _ e
read_held_by f chains None (OnWalk c) x a n k e le = cc_le _ _ e

-- a change comes after the look
fills_late : (c : MapCommand) (z : Bool) (n : ℕ) → cond z (nat_le 5 n) (map_changed c n) ≡ true → z ≡ true → 1 ≤ n
fills_late c z n e t = omega (arith, leb-true 5 n (subst (λ b. cond b (nat_le 5 n) (map_changed c n) ≡ true) t e))

map_late : (c : MapCommand) (n : ℕ) → map_changed c n ≡ true → 1 ≤ n
map_late (Fetch k) n e = cc_le _ _ e
map_late (Has k) n e = cc_le _ _ e
map_late (Delete k) n e = omega (arith, leb-true 4 n e)
map_late (Store k v) n e = omega (arith, leb-true 5 n e)
map_late (Insert k v) n e = omega (arith, leb-true 5 n e)
map_late (Modify k v) n e = omega (arith, leb-true 5 n e)
map_late (Append k v) n e = omega (arith, leb-true 5 n e)
map_late Wipe n e = omega (arith, leb-true 3 n e)
map_late Check n e = cc_le _ _ e

map_late_in : (c : MapCommand) (o : Bool) (n : ℕ) → o && map_changed c n ≡ true → cond o 1 0 ≤ n
map_late_in c true n e = map_late c n e
map_late_in c false n e = zero-le

gate_late : (a b : Bool) (p : Option ℕ) (n : ℕ) → (a && b && was_planned p) && gate_shut p n ≡ true → cond (a && b && is_none p) 1 0 ≤ n
gate_late false b p n e = zero-le
gate_late true false p n e = zero-le
gate_late true true None n e = omega (arith, leb-true 8 n e)
gate_late true true (Some steps) n e = zero-le

commit_late : (o : Option Txn) (n : ℕ) → commit_changed o n ≡ true → plan_look o ≤ n
commit_late None n e = zero-le
commit_late (Some t) n e = gate_late (nat_le t.depth 1) t.changed t.prepared n e

changed_late_by : (q : Option Refusal) (c : Command) (x : Own) (n : ℕ) → changed_by q c x n ≡ true → look_by q c x ≤ n
changed_late_by (Some q) c x n e = zero-le
changed_late_by None (OnMap c) x n e = map_late_in c (outside x) n e
changed_late_by None (OnLocks c) x n e = zero-le
changed_late_by None Seqnum x n e = zero-le
changed_late_by None (OnGroup Start) x n e = cc_le _ _ e
changed_late_by None (OnGroup Commit) x n e = commit_late x.txn n e
changed_late_by None (OnGroup Prepare) x n e = zero-le
changed_late_by None (OnGroup Cancel) x n e = zero-le
changed_late_by None (OnWalk c) x n e = zero-le

module _ (f : Form) (chains : HasFewChains f) (c : Command) (x : Own) (a : Spot) (n : ℕ) where
  pub touched_held : (k : List ℕ) → touches f c x k ≡ true → look f c x ≤ n → 2 ≤ max (held f c x a n (chain_byte f k)) (kept f x a (chain_byte f k))
  unfolding held
  touched_held k e le = touched_held_by f chains (refusal f c x) c x a n k e le

  pub read_held : (k : List ℕ) → reads f c x k ≡ true → look f c x ≤ n → 1 ≤ max (held f c x a n (chain_byte f k)) (kept f x a (chain_byte f k))
  unfolding held
  read_held k e le = read_held_by f chains (refusal f c x) c x a n k e le

pub changed_late : (f : Form) (c : Command) (x : Own) (n : ℕ) → is_changed f c x n ≡ true → look f c x ≤ n
unfolding is_changed
changed_late f c x n e = changed_late_by (refusal f c x) c x n e

gone_none : (z : Bool) (ls : List Lock) (b : ℕ) → cond z 0 (locked ls 0 b) ≡ 0
gone_none true ls b = refl
gone_none false ls b = locked_none ls b

pub none_held : (f : Form) (c : Command) (x : Own) (a : Spot) (b : ℕ) → held f c x a 0 b ≡ 0
unfolding held
none_held f c x a b = gone_none (is_gone c a) (locks f c x a.purging) b

-- The locks of every row are wide.
module _ (f : Form) (chains : HasFewChains f) where
  low_chain : (turn : ℕ) (k : List ℕ) (s : ℕ) → (lock_chain f turn k s).end ≤ data_start f
  low_chain turn k s = omega (arith, (chain_place f chains k).below)

  low_free : 165 ≤ data_start f
  low_free = omega arith

  low_number : 49 ≤ data_start f
  low_number = omega arith

  pub start_wide : IsWide f start_locks
  start_wide = (inl (omega arith), (inr (le_refl _, le_refl _), tt))

  pub commit_wide : (z : Bool) → IsWide f (commit_locks z)
  commit_wide true = (inr (le_refl _, le_refl _), (inl (omega arith), (inl (omega arith), tt)))
  commit_wide false = (inr (le_refl _, le_refl _), (inl (omega arith), tt))

  map_wide : (c : MapCommand) → IsWide f (map_locks f c)
  map_wide (Fetch k) = (inl (low_chain 0 k 1), tt)
  map_wide (Has k) = (inl (low_chain 0 k 1), tt)
  map_wide (Delete k) = (inl (low_chain 0 k 2), (inl low_free, tt))
  map_wide (Store k v) = (inl (low_chain 0 k 2), (inl low_free, tt))
  map_wide (Insert k v) = (inl (low_chain 0 k 2), (inl low_free, tt))
  map_wide (Modify k v) = (inl (low_chain 0 k 2), (inl low_free, tt))
  map_wide (Append k v) = (inl (low_chain 0 k 2), (inl low_free, tt))
  map_wide Wipe = (inr (le_refl _, le_refl _), (inl low_free, tt))
  map_wide Check = (inr (le_refl _, le_refl _), (inl low_free, tt))

  lock_wide : (c : LockCommand) → IsWide f (lock_locks f c)
  lock_wide (ChainLock k) = (inl (low_chain 0 k 2), tt)
  lock_wide (ChainLockNb k) = (inl (low_chain 0 k 2), tt)
  lock_wide (ChainUnlock k) = tt
  lock_wide LockAll = (inr (le_refl _, le_refl _), tt)
  lock_wide LockAllRead = (inr (le_refl _, le_refl _), tt)
  lock_wide UnlockAll = tt

  walk_wide : (w : WalkCommand) (cursor : Option (List ℕ)) (z : Bool) → IsWide f (walk_locks f w cursor z)
  walk_wide w None z = tt
  walk_wide First (Some k) false = tt
  walk_wide Next (Some k) false = (inl (low_chain 0 k 1), tt)
  walk_wide EndWalk (Some k) false = tt
  walk_wide Close (Some k) false = tt
  walk_wide First (Some k) true = (inl (low_chain 0 k 2), (inl low_free, tt))
  walk_wide Next (Some k) true = (inl (low_chain 0 k 2), (inl low_free, tt))
  walk_wide EndWalk (Some k) true = (inl (low_chain 0 k 2), (inl low_free, tt))
  walk_wide Close (Some k) true = (inl (low_chain 0 k 2), (inl low_free, tt))

  plan_wide : (o : Option Txn) → IsWide f (plan_locks o)
  plan_wide None = tt
  plan_wide (Some t) = go (plans_in t)
    where
      go : (z : Bool) → IsWide f (cond z (commit_locks t.numbered) [])
      go true = commit_wide t.numbered
      go false = tt

  begun_wide : (o : Option Txn) → IsWide f (group_locks Start o)
  begun_wide None = start_wide
  begun_wide (Some t) = tt

  cond_wide : (z : Bool) (ls : List Lock) → IsWide f ls → IsWide f (cond z ls [])
  cond_wide true ls wide = wide
  cond_wide false ls wide = tt

  wide_by : (q : Option Refusal) (c : Command) (x : Own) (z : Bool) → IsWide f (locks_by f q c x z)
  wide_by (Some q) c x z = tt
  wide_by None (OnMap c) x z = cond_wide (outside x) _ (map_wide c)
  wide_by None (OnLocks c) x z = cond_wide (outside x) _ (lock_wide c)
  wide_by None Seqnum x z = cond_wide (outside x) _ (inl low_number, tt)
  wide_by None (OnGroup Start) x z = begun_wide x.txn
  wide_by None (OnGroup Commit) x z = plan_wide x.txn
  wide_by None (OnGroup Prepare) x z = plan_wide x.txn
  wide_by None (OnGroup Cancel) x z = tt
  wide_by None (OnWalk c) x z = cond_wide (outside x) _ (walk_wide c x.cursor z)

  gone_wide : (z : Bool) (u v : ℕ) → u ≤ v → cond z 0 u ≤ cond z 0 v
  gone_wide true u v le = zero-le
  gone_wide false u v le = le

  -- what a command holds at a record's byte it holds at every chain's
  pub held_wide : (c : Command) (x : Own) (a : Spot) (n b : ℕ) (k : List ℕ) → data_start f ≤ b → held f c x a n b ≤ held f c x a n (chain_byte f k)
  unfolding held
  held_wide c x a n b k high = gone_wide (is_gone c a) _ _ (locked_wide f chains (locks f c x a.purging) n b k high (wide_by (refusal f c x) c x a.purging))

  all_wide : (o : Option AllLock) (b : ℕ) (k : List ℕ) → data_start f ≤ b → all_held o b ≤ all_held o (chain_byte f k)
  all_wide None b k high = zero-le
  all_wide (Some a) b k high = locked_wide f chains (lock_all 0 a.strength ∷ []) 1 b k high (inr (le_refl _, le_refl _), tt)

  prepared_wide : (t : Txn) (o : Option ℕ) (b : ℕ) (k : List ℕ) → data_start f ≤ b → prepared_held t o b ≤ prepared_held t o (chain_byte f k)
  prepared_wide t None b k high = zero-le
  prepared_wide t (Some n) b k high = locked_wide f chains (commit_locks t.numbered) n b k high (commit_wide t.numbered)

  txn_wide : (t : Txn) (b : ℕ) (k : List ℕ) → data_start f ≤ b → txn_held t b ≤ txn_held t (chain_byte f k)
  txn_wide t b k high = omega (arith, locked_wide f chains start_locks 2 b k high start_wide, prepared_wide t t.prepared b k high)

  pub stand_one : (o : Option ℕ) (b : ℕ) → stand_held o b ≤ 1
  stand_one None b = zero-le
  stand_one (Some place) b = go (place == b)
    where
      go : (z : Bool) → cond z 1 0 ≤ 1
      go true = le_refl 1
      go false = zero-le

  kept_wide_in : (o : Option Txn) (x : Own) (a : Spot) (b : ℕ) (k : List ℕ) → data_start f ≤ b → 2 ≤ kept_by f o x a b → 2 ≤ kept_by f o x a (chain_byte f k)
  kept_wide_in None x a b k high two =
      let low : nat_lt b (data_start f) ≡ false = le-ltb b (data_start f) high in
      let none : explicit_held f x b ≡ all_held x.all b = rw low (omega arith) in
      omega (arith, none, all_wide x.all b k high, stand_one a.stands b)
  kept_wide_in (Some t) x a b k high two = omega (arith, txn_wide t b k high)

  -- what an opener holds for writing at a record's byte it holds for writing at every chain's
  task_wide : (x : Own) (a : Spot) (task : Option Task) (b : ℕ) (k : List ℕ) → data_start f ≤ b → task_held f x a task b ≤ task_held f x a task (chain_byte f k)
  task_wide x a None b k high = zero-le
  task_wide x a (Some t) b k high = held_wide t.command x a t.steps b k high

  either_two : (u v : ℕ) → 2 ≤ max u v → (2 ≤ u) ⊎ (2 ≤ v)
  either_two u v two = elim (cases_lt u 2) [ inl less ↦ inr (omega arith) | inr more ↦ inl more ]

  pub holding_wide : (x : Own) (a : Spot) (task : Option Task) (b : ℕ) (k : List ℕ) → data_start f ≤ b → 2 ≤ holding f x a task b → 2 ≤ holding f x a task (chain_byte f k)
  holding_wide x a task b k high two =
      elim (either_two (task_held f x a task b) (kept f x a b) two) [
        | inl by_task ↦ omega (arith, by_task, task_wide x a task b k high)
        | inr by_kept ↦ (let got = kept_wide_in x.txn x a b k high by_kept in omega (arith, got))
      ]
