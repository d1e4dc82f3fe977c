-- What an opener keeps after a command it held before, or wanted in the last turn; only the record of a new pair comes
-- besides.
use Rattle.std.proofs.Common.{◌≡◌, ℕ, ◌+◌, ◌-◌, ◌<◌, ◌≤◌, max, List, [], ◌∷◌, Bool, true, false, cond, nat_lt, nat_le, ◌==◌, Option, Some, None, is_none, unwrap_or, refl, sym, ◌∙◌, ap, subst, inl, inr, ◌⊎◌, arith, zero-le, le_refl}
use Rattle.std.specs.Prelude.{◌&&◌}
use Rattle.std.specs.FinMap.{get, insert, remove, empty, get-insert, get-remove, get-empty}
use Rattle.std.specs.Ordering.{nat_cmp}
use Rattle.std.specs.Cmp.{nat_cmp_total, unsigned_tied}
use Rattle.std.proofs.lemmas.Bool.{cases_Bool, cases_eq, ne_eqb, eq-eqb, leb-false, ltb-true, lt-ltb}
use Rattle.tdb_space.specs.Form.{Form, data_start}
use Rattle.tdb_law.specs.Commands.{MapCommand, LockCommand, Command, Reply}
use Rattle.tdb_law.specs.Commands.GroupCommand.{Start, Commit, Prepare, Cancel}
use Rattle.tdb_law.specs.Commands.WalkCommand.{First, Next, EndWalk, Close}
use Rattle.tdb_law.specs.Commands.Command.{OnMap, OnLocks, Seqnum, OnGroup, OnWalk}
use Rattle.tdb_law.specs.Commands.LockCommand.{ChainLock, ChainLockNb, ChainUnlock, LockAll, LockAllRead, UnlockAll}
use Rattle.tdb_law.specs.Commands.Reply.{Pair}
use Rattle.tdb_law.specs.Openers.{Own, Txn, Map, Counts, AllLock, Spot, ended, closed, opened, count_at, count_more, count_less, all_more, all_less}
use Rattle.tdb_law.specs.Refusals.{Refusal, refusal, chain_byte}
use Rattle.tdb_law.specs.Rows.{lock_all, lock_chain, start_locks, commit_locks, lock_locks, plan_locks, group_locks, locks_by, locks, plans_in, look_by}
use Rattle.tdb_law.specs.Outcomes.{reads_by, changed_txn, own_locked, own_started, own_left, own_prepared, own_cancelled, own_walked, own_by, own_after, own_spared}
use Rattle.tdb_law.specs.Held.{locked, locked_next, all_held, explicit_held, txn_held, stand_held, kept_by, kept, is_gone, held}
use Rattle.tdb_law.specs.Effects.{Stays, IsReady}
use Rattle.tdb_law.specs.Effects.Stays.{stands_nowhere, stands_still, stands_on}
use Rattle.tdb_law.proofs.Locks.{first_locked, locked_none, locked_grows, locked_reached, chain_covered}
use Rattle.tdb_law.proofs.Covered.{held_by}

-- what an opener keeps but for the record of its cursor
abbrev pub base_by : Form → Option Txn → Own → ℕ → ℕ
base_by f None x b = explicit_held f x b
base_by f (Some t) x b = txn_held t b

abbrev pub base : Form → Own → ℕ → ℕ
base f x b = base_by f x.txn x b

abbrev two_if : Bool → ℕ
two_if z = cond z 2 0

no_count : (z : Bool) → two_if (z && false) ≡ 0
no_count true = refl
no_count false = refl

count_weaker : (z p q : Bool) → (p ≡ true → q ≡ true) → cond (z && p) 2 0 ≤ cond (z && q) 2 0
count_weaker false p q h = le_refl 0
count_weaker true false q h = zero-le
count_weaker true true q h = let e : q ≡ true = h refl in rw e (le_refl 2)

at_most_two : (z : Bool) → cond z 2 0 ≤ 2
at_most_two true = le_refl 2
at_most_two false = zero-le

-- the counts after one is put
count_put : (m : Counts) (byte v b : ℕ) → get (insert m byte v) b ≡ cond (b == byte) (Some v) (get m b)
count_put m byte v b = get-insert nat_cmp_total m byte v b ∙ ap (λ z. cond z (Some v) (get m b)) (unsigned_tied b byte)

count_drop : (m : Counts) (byte b : ℕ) → get (remove m byte) b ≡ cond (b == byte) None (get m b)
count_drop m byte b = get-remove nat_cmp_total m byte b ∙ ap (λ z. cond z None (get m b)) (unsigned_tied b byte)

count_of : Option ℕ → ℕ
count_of o = unwrap_or o 0

less_else : (z : Bool) (m : Counts) (byte v b : ℕ) → (b ≡ byte → ⊥) → get (cond z (remove m byte) (insert m byte v)) b ≡ get m b
less_else true m byte v b ne = count_drop m byte b ∙ rw (ne_eqb b byte ne) refl
less_else false m byte v b ne = count_put m byte v b ∙ rw (ne_eqb b byte ne) refl

less_here : (z : Bool) (m : Counts) (byte v b : ℕ) → b ≡ byte → z ≡ true → get (cond z (remove m byte) (insert m byte v)) b ≡ None
less_here true m byte v b e t = count_drop m byte b ∙ rw (eq-eqb b byte e) refl
less_here false m byte v b e t = cc

cc_lt : (m : ℕ) → nat_lt 0 0 ≡ true → nat_lt 0 m ≡ true
cc_lt m e = absurd (omega (arith, ltb-true 0 0 e))

less_counts : (x : Own) (byte b : ℕ) → nat_lt 0 (count_at (count_less x byte) b) ≡ true → nat_lt 0 (count_at x b) ≡ true
less_counts x byte b e =
    elim (cases_eq b byte) [
      | inl same ↦ elim (cases_Bool (nat_le (count_at x byte) 1)) [
        | inl few ↦ (let none : count_at (count_less x byte) b ≡ 0 = ap (λ o. unwrap_or o 0) (less_here (nat_le (count_at x byte) 1) x.counts byte (count_at x byte - 1) b same few) in
            cc_lt (count_at x b) (subst (λ u. nat_lt 0 u ≡ true) none e))
        | inr many ↦ lt-ltb 0 (count_at x b) (subst (λ u. 0 < count_at x u) (sym same) (omega (arith, leb-false (count_at x byte) 1 many)))
      ]
      | inr apart ↦ subst (λ u. nat_lt 0 u ≡ true) (ap (λ o. unwrap_or o 0) (less_else (nat_le (count_at x byte) 1) x.counts byte (count_at x byte - 1) b apart)) e
    ]

more_else : (x : Own) (byte b : ℕ) → (b ≡ byte → ⊥) → count_at (count_more x byte) b ≡ count_at x b
more_else x byte b ne =
    let same : get (insert x.counts byte (count_at x byte + 1)) b ≡ get x.counts b = count_put x.counts byte (count_at x byte + 1) b ∙ rw (ne_eqb b byte ne) refl in
    ap (λ o. unwrap_or o 0) same

module _ (f : Form) (n b : ℕ) where
  -- who ends a transaction, or closes, keeps nothing
  ended_base : (x : Own) → base f (ended x) b ≤ 0
  ended_base x = let e : get (empty {X = ℕ} {R = nat_cmp}) b ≡ None = get-empty nat_cmp b in rw (e, no_count (nat_lt b (data_start f))) (le_refl 0)

  pub closed_base : (x : Own) → base f (closed x) b ≤ 0
  closed_base x = let e : get (empty {X = ℕ} {R = nat_cmp}) b ≡ None = get-empty nat_cmp b in rw (e, no_count (nat_lt b (data_start f))) (le_refl 0)

  pub opened_base : (x : Own) → base f (opened x) b ≤ 0
  opened_base x = let e : get (empty {X = ℕ} {R = nat_cmp}) b ≡ None = get-empty nat_cmp b in rw (e, no_count (nat_lt b (data_start f))) (le_refl 0)

  cond_base : (z : Bool) (u v : Own) (most : ℕ) → base f u b ≤ most → base f v b ≤ most → base f (cond z u v) b ≤ most
  cond_base true u v most p q = p
  cond_base false u v most p q = q

  map_base : (c : MapCommand) (o p : Option Txn) (x : Own) → base_by f (changed_txn c o) (record x { txn = p }) b ≤ base_by f o x b
  map_base c None p x = le_refl _
  map_base c (Some t) p x = le_refl _

  cursor_base : (o : Option Txn) (k : Option (List ℕ)) (x : Own) → base_by f o (record x { cursor = k }) b ≤ base_by f o x b
  cursor_base None k x = le_refl _
  cursor_base (Some t) k x = le_refl _

  -- a lock command adds what its turn wants
  chain_added : (k : List ℕ) (x : Own) → explicit_held f (count_more x (chain_byte f k)) b
      ≤ max (max (locked (lock_chain f 0 k 2 ∷ []) n b) (explicit_held f x b)) (locked_next (lock_chain f 0 k 2 ∷ []) n b)
  chain_added k x =
      elim (cases_eq b (chain_byte f k)) [
        | inl same ↦ (let reached = locked_reached (lock_chain f 0 k 2 ∷ []) n b in
            let here : 2 ≤ locked (lock_chain f 0 k 2 ∷ []) 1 b = subst (λ u. 2 ≤ locked (lock_chain f 0 k 2 ∷ []) 1 u) (sym same) (first_locked (lock_chain f 0 k 2) [] 1 (chain_byte f k) (le_refl 1) (chain_covered f 0 k 2)) in
            omega (arith, reached, here, at_most_two (nat_lt b (data_start f) && nat_lt 0 (count_at (count_more x (chain_byte f k)) b))))
        | inr apart ↦ (let e : count_at (count_more x (chain_byte f k)) b ≡ count_at x b = more_else x (chain_byte f k) b apart in
            let same : explicit_held f (count_more x (chain_byte f k)) b ≡ explicit_held f x b = ap (λ u. max (cond (nat_lt b (data_start f) && nat_lt 0 u) 2 0) (all_held x.all b)) e in
            omega (arith, same))
      ]

  all_added : (o : Option AllLock) (s : ℕ) → all_held (Some (all_more o s)) b ≤ max (max (locked (lock_all 0 s ∷ []) n b) (all_held o b)) (locked_next (lock_all 0 s ∷ []) n b)
  all_added None s = omega (arith, locked_reached (lock_all 0 s ∷ []) n b)
  all_added (Some a) s = omega arith

  less_cond : (z : Bool) (a : AllLock) → all_held (cond z None (Some (record a { count = a.count - 1 }))) b ≤ all_held (Some a) b
  less_cond true a = zero-le
  less_cond false a = le_refl _

  all_fewer : (o : Option AllLock) → all_held (all_less o) b ≤ all_held o b
  all_fewer None = le_refl 0
  all_fewer (Some a) = less_cond (nat_le a.count 1) a

  -- inside a transaction explicit locks are only counted
  lock_base : (c : LockCommand) (o : Option Txn) (x : Own)
      → base_by f o (own_locked f c x) b ≤ max (max (locked (cond (is_none o) (lock_locks f c) []) n b) (base_by f o x b)) (locked_next (cond (is_none o) (lock_locks f c) []) n b)
  lock_base c (Some t) x = omega arith
  lock_base (ChainLock k) None x = chain_added k x
  lock_base (ChainLockNb k) None x = chain_added k x
  lock_base (ChainUnlock k) None x =
      let fewer = count_weaker (nat_lt b (data_start f)) (nat_lt 0 (count_at (count_less x (chain_byte f k)) b)) (nat_lt 0 (count_at x b)) (less_counts x (chain_byte f k) b) in
      omega (arith, fewer)
  lock_base LockAll None x = omega (arith, all_added x.all 2)
  lock_base LockAllRead None x = omega (arith, all_added x.all 1)
  lock_base UnlockAll None x = omega (arith, all_fewer x.all)

  own_locked_txn : (c : LockCommand) (x : Own) → (own_locked f c x).txn ≡ x.txn
  own_locked_txn (ChainLock k) x = refl
  own_locked_txn (ChainLockNb k) x = refl
  own_locked_txn (ChainUnlock k) x = refl
  own_locked_txn LockAll x = refl
  own_locked_txn LockAllRead x = refl
  own_locked_txn UnlockAll x = refl

  start_base : (o : Option Txn) (x : Own) (m : Map) → (is_none o ≡ true → cond (is_none o) 2 0 ≤ n)
      → base f (own_started o x m) b ≤ max (locked (group_locks Start o) n b) (base_by f o x b)
  start_base None x m ready = omega (arith, locked_grows start_locks 2 n b (ready refl))
  start_base (Some t) x m ready = omega arith

  left_base : (o : Option Txn) (x : Own) → x.txn ≡ o → base f (own_left o x) b ≤ base_by f o x b
  left_base None x e = (let same : base f x b ≡ base_by f None x b = ap (λ p. base_by f p x b) e in omega (arith, same))
  left_base (Some t) x e = cond_base (nat_lt 1 t.depth) (record x { txn = Some (record t { depth = t.depth - 1 }) }) (ended x) (txn_held t b) (le_refl _) (omega (arith, ended_base x))

  cancel_base : (o : Option Txn) (x : Own) → x.txn ≡ o → base f (own_cancelled o x) b ≤ base_by f o x b
  cancel_base None x e = (let same : base f x b ≡ base_by f None x b = ap (λ p. base_by f p x b) e in omega (arith, same))
  cancel_base (Some t) x e = cond_base (nat_lt 1 t.depth) (record x { txn = Some (record t { depth = t.depth - 1; doomed = true }) }) (ended x) (txn_held t b) (le_refl _) (omega (arith, ended_base x))

  planned_base : (z : Bool) (t : Txn) → locked (commit_locks t.numbered) (cond z n 0) b ≤ locked (cond z (commit_locks t.numbered) []) n b
  planned_base true t = le_refl _
  planned_base false t = omega (arith, locked_none (commit_locks t.numbered) b)

  prepare_base : (o : Option Txn) (x : Own) → x.txn ≡ o → base f (own_prepared o x n) b ≤ max (locked (plan_locks o) n b) (base_by f o x b)
  prepare_base None x e = (let same : base f x b ≡ base_by f None x b = ap (λ p. base_by f p x b) e in omega (arith, same))
  prepare_base (Some t) x e =
      let same : base f x b ≡ base_by f (Some t) x b = ap (λ p. base_by f p x b) e in
      cond_base (nat_lt 1 t.depth) x (record x { txn = Some (record t { prepared = Some (cond (plans_in t) n 0) }) }) (max (locked (plan_locks (Some t)) n b) (txn_held t b))
      (omega (arith, same)) (omega (arith, planned_base (plans_in t) t))

  -- what is kept after a command, but for its record, was held or is wanted
  own_base_by : (q : Option Refusal) (c : Command) (x : Own) (a : Spot) (r : Reply) (m : Map) → (reads_by q c x [] ≡ true → look_by q c x ≤ n)
      → base f (own_by f q c x n r m) b ≤ max (max (held_by f q c x a n b) (base f x b)) (cond (is_gone c a) 0 (locked_next (locks_by f q c x a.purging) n b))
  own_base_by (Some q) (OnMap c) x a r m ready = omega arith
  own_base_by (Some q) (OnLocks c) x a r m ready = omega arith
  own_base_by (Some q) Seqnum x a r m ready = omega arith
  own_base_by (Some q) (OnGroup Start) x a r m ready = omega arith
  own_base_by (Some q) (OnGroup Commit) x a r m ready = omega (arith, left_base x.txn x refl)
  own_base_by (Some q) (OnGroup Prepare) x a r m ready = omega (arith, left_base x.txn x refl)
  own_base_by (Some q) (OnGroup Cancel) x a r m ready = omega arith
  own_base_by (Some q) (OnWalk c) x a r m ready = omega arith
  own_base_by None (OnMap c) x a r m ready = omega (arith, map_base c x.txn (changed_txn c x.txn) x)
  own_base_by None (OnLocks c) x a r m ready =
      let same : base f (own_locked f c x) b ≡ base_by f x.txn (own_locked f c x) b = ap (λ p. base_by f p (own_locked f c x) b) (own_locked_txn c x) in
      omega (arith, same, lock_base c x.txn x)
  own_base_by None Seqnum x a r m ready = omega arith
  own_base_by None (OnGroup Start) x a r m ready = omega (arith, start_base x.txn x m ready)
  own_base_by None (OnGroup Commit) x a r m ready = omega (arith, left_base x.txn x refl)
  own_base_by None (OnGroup Prepare) x a r m ready = omega (arith, prepare_base x.txn x refl)
  own_base_by None (OnGroup Cancel) x a r m ready = omega (arith, cancel_base x.txn x refl)
  own_base_by None (OnWalk First) x a r m ready = omega (arith, cursor_base x.txn (own_walked First x r).cursor x)
  own_base_by None (OnWalk Next) x a r m ready = omega (arith, cursor_base x.txn (own_walked Next x r).cursor x)
  own_base_by None (OnWalk EndWalk) x a r m ready = omega (arith, cursor_base x.txn None x)
  own_base_by None (OnWalk Close) x a r m ready = omega (arith, closed_base x)

  pub spared_base : (c : Command) (x : Own) → base f (own_spared c x) b ≤ base f x b
  spared_base (OnMap c) x = le_refl _
  spared_base (OnLocks c) x = le_refl _
  spared_base Seqnum x = le_refl _
  spared_base (OnGroup Start) x = le_refl _
  spared_base (OnGroup Commit) x = omega (arith, ended_base x)
  spared_base (OnGroup Prepare) x = omega (arith, ended_base x)
  spared_base (OnGroup Cancel) x = le_refl _
  spared_base (OnWalk First) x = cursor_base x.txn None x
  spared_base (OnWalk Next) x = cursor_base x.txn None x
  spared_base (OnWalk EndWalk) x = le_refl _
  spared_base (OnWalk Close) x = omega (arith, closed_base x)

  pub own_base : (c : Command) (x : Own) (a : Spot) (r : Reply) (m : Map) → IsReady f c x n
      → base f (own_after f c x n r m) b ≤ max (max (held f c x a n b) (base f x b)) (cond (is_gone c a) 0 (locked_next (locks f c x a.purging) n b))
  unfolding held
  own_base c x a r m ready = own_base_by (refusal f c x) c x a r m (ready [])

  -- what is kept is the base and the record
  kept_split : (o : Option Txn) (x : Own) (a : Spot) → kept_by f o x a b ≤ max (base_by f o x b) (stand_held a.stands b)
  kept_split None x a = le_refl _
  kept_split (Some t) x a = omega arith

  pub base_kept : (o : Option Txn) (x : Own) (a : Spot) → base_by f o x b ≤ kept_by f o x a b
  base_kept None x a = omega arith
  base_kept (Some t) x a = le_refl _

-- the byte is that of the record of a pair that the turn has shown, whose chain it has locked or wants
pub record OnRecord (f : Form) (table want : ℕ → ℕ) (y : Own) (z : Spot) (byte : ℕ) : Type 0 where
  pub key : List ℕ
  pub high : data_start f ≤ byte
  pub most : kept f y z byte ≤ max (base f y byte) 1
  pub chain : 1 ≤ max (table (chain_byte f key)) (want (chain_byte f key))

-- a reply that is no pair leaves no new record
pub stays_plain : (f : Form) (table want : ℕ → ℕ) (x y : Own) (a z : Spot) (r : Reply) (byte : ℕ) → ((k v : List ℕ) → r ≡ Pair k v → ⊥) → Stays f table want x y a z r
    → kept f y z byte ≤ max (base f y byte) (kept f x a byte)
stays_plain f table want x y a z r byte no_pair (stands_nowhere off) =
    let split = kept_split f 0 byte y.txn y z in
    let zero_there : stand_held z.stands byte ≡ 0 = ap (λ o. stand_held o byte) off in
    omega (arith, split, zero_there)
stays_plain f table want x y a z r byte no_pair (stands_still out y_out cursor stood) =
    let split = kept_split f 0 byte y.txn y z in
    let same : stand_held z.stands byte ≡ stand_held a.stands byte = ap (λ o. stand_held o byte) stood in
    let before : kept f x a byte ≡ max (explicit_held f x byte) (stand_held a.stands byte) = ap (λ o. kept_by f o x a byte) out in
    omega (arith, split, same, before)
stays_plain f table want x y a z r byte no_pair (stands_on k v place pair out own stood high chain) = absurd (no_pair k v pair)

pub stays_most : (f : Form) (table want : ℕ → ℕ) (x y : Own) (a z : Spot) (r : Reply) (byte : ℕ) → Stays f table want x y a z r
    → (kept f y z byte ≤ max (base f y byte) (kept f x a byte)) ⊎ OnRecord f table want y z byte
stays_most f table want x y a z r byte (stands_nowhere off) =
    let split = kept_split f 0 byte y.txn y z in
    let zero_there : stand_held z.stands byte ≡ 0 = ap (λ o. stand_held o byte) off in
    inl (omega (arith, split, zero_there))
stays_most f table want x y a z r byte (stands_still out y_out cursor stood) =
    let split = kept_split f 0 byte y.txn y z in
    let same : stand_held z.stands byte ≡ stand_held a.stands byte = ap (λ o. stand_held o byte) stood in
    let before : kept f x a byte ≡ max (explicit_held f x byte) (stand_held a.stands byte) = ap (λ o. kept_by f o x a byte) out in
    inl (omega (arith, split, same, before))
stays_most f table want x y a z r byte (stands_on k v place pair out own stood high chain) =
    let split = kept_split f 0 byte y.txn y z in
    let same : stand_held z.stands byte ≡ cond (place == byte) 1 0 = ap (λ o. stand_held o byte) stood in
    elim (cases_eq place byte) [
      | inl here ↦ (let one : stand_held z.stands byte ≡ 1 = same ∙ rw (eq-eqb place byte here) refl in
          inr (record { key = k; high = omega (arith, high, here); most = omega (arith, split, one); chain = chain }))
      | inr apart ↦ (let none : stand_held z.stands byte ≡ 0 = same ∙ rw (ne_eqb place byte apart) refl in inl (omega (arith, split, none)))
    ]
