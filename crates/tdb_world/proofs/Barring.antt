-- When the one aside stands in the way of the sequence number: it holds the lock byte from the step on that takes it,
-- through a commit or a prepare of a transaction whose changes count.
use Rattle.std.proofs.Common.{◌≡◌, ℕ, ◌+◌, ◌≤◌, max, [], Bool, true, false, nat_le, nat_lt, ◌-◌, Option, Some, None, refl, sym, ◌∙◌, ap, subst, arith, le_refl}
use Rattle.std.specs.Prelude.{if◌then◌else◌}
use Rattle.std.proofs.Math.Bool.{and-false}
use Rattle.std.proofs.lemmas.Bool.{leb-true}
use Rattle.tdb_space.specs.Form.{Form}
use Rattle.tdb_law.specs.Commands.{Command, LockCommand, Turn, Reply}
use Rattle.tdb_law.specs.Commands.LockCommand.{ChainLock, ChainLockNb, ChainUnlock, LockAll, LockAllRead, UnlockAll}
use Rattle.tdb_law.specs.Commands.WalkCommand.{First, Next, EndWalk, Close}
use Rattle.tdb_law.specs.Commands.GroupCommand.{Start, Commit, Prepare, Cancel}
use Rattle.tdb_law.specs.Commands.Command.{OnMap, OnLocks, Seqnum, OnGroup, OnWalk}
use Rattle.tdb_law.specs.Commands.Turn.{Step}
use Rattle.tdb_law.specs.Effects.{Effect}
use Rattle.tdb_law.specs.Effects.Effect.{effect_waits, effect_goes_on, effect_changes, effect_answers, effect_shows, effect_starves, effect_is_full, effect_is_busy, effect_numbers, effect_finishes}
use Rattle.tdb_law.specs.Held.{held, holding, is_gone, kept, locked, prepared_held, txn_held}
use Rattle.tdb_law.specs.Openers.{Map, Own, Task, Txn, ended, nowhere}
use Rattle.tdb_law.specs.Commands.Reply.{Done}
use Rattle.tdb_law.specs.Outcomes.{changed_txn, own_by, own_left, own_locked, own_refused, own_spared}
use Rattle.tdb_law.specs.Refusals.{Refusal, refusal}
use Rattle.tdb_law.specs.Rows.{changed_by, commit_locks, commits_in, gate_shut, is_changed, locks_by, locks, plans_in}
use Rattle.tdb_law.proofs.Locks.{locked_grows}
use Rattle.tdb_law.proofs.Tests.{and_both}
use Rattle.tdb_txn_owner.specs.Ends.{task_of}

-- where changes don't count a commit doesn't lock the byte, and from its second step on it does where they do
uncounted : (n : ℕ) → locked (commit_locks false) n 48 ≡ 0
uncounted n = rw (and-false (nat_lt 0 n), and-false (nat_lt 1 n)) (omega arith)

counted : (n m : ℕ) → n ≤ m → 2 ≤ locked (commit_locks true) n 48 → 2 ≤ locked (commit_locks true) m 48
counted n m le two = let more = locked_grows (commit_locks true) n m 48 le in omega (arith, two, more)

module _ (f : Form) (x : Own) (t : Txn) (has : x.txn ≡ Some t) where
  -- what is kept by a transaction
  kept_is : kept f x nowhere 48 ≡ txn_held t 48
  kept_is = rw has refl

  module _ (uncounting : t.numbered ≡ false) where
    prepared_none : (prepared : Option ℕ) → prepared_held t prepared 48 ≡ 0
    prepared_none None = refl
    prepared_none (Some steps) = rw uncounting (uncounted steps)

    kept_none : kept f x nowhere 48 ≡ 0
    kept_none = kept_is ∙ (let none = prepared_none t.prepared in omega (arith, none))

    planned_none : (z : Bool) (n : ℕ) → locked (if z then commit_locks t.numbered else []) n 48 ≡ 0
    planned_none true n = rw uncounting (uncounted n)
    planned_none false n = refl

    row_none : (q : Option Refusal) (c : Command) (n : ℕ) → locked (locks_by f q c x false) n 48 ≡ 0
    row_none (Some q) c n = refl
    row_none None (OnMap c) n = rw has refl
    row_none None (OnLocks c) n = rw has refl
    row_none None Seqnum n = rw has refl
    row_none None (OnGroup Start) n = rw has refl
    row_none None (OnGroup Commit) n = rw has (planned_none (plans_in t) n)
    row_none None (OnGroup Prepare) n = rw has (planned_none (plans_in t) n)
    row_none None (OnGroup Cancel) n = refl
    row_none None (OnWalk w) n = rw has refl

    gone_none : (z : Bool) (c : Command) (n : ℕ) → (if z then 0 else locked (locks f c x false) n 48) ≡ 0
    gone_none true c n = refl
    gone_none false c n = row_none (refusal f c x) c n

    -- an opener whose changes don't count doesn't hold the byte
    pub bars_none : (task : Option Task) → holding f x nowhere task 48 ≡ 0
    unfolding held
    bars_none None = let none = kept_none in omega (arith, none)
    bars_none (Some task) = let none = kept_none in let row = gone_none (is_gone task.command nowhere) task.command task.steps in omega (arith, none, row)

  module _ (counting : t.numbered ≡ true) where
    -- it does once its transaction is prepared
    prepared_kept : (steps : ℕ) → t.prepared ≡ Some steps → 2 ≤ steps → 2 ≤ kept f x nowhere 48
    prepared_kept steps is le =
        let all : prepared_held t t.prepared 48 ≡ locked (commit_locks true) steps 48 = rw (is, counting) refl in
        let two = counted 2 steps le (omega arith) in
        let whole = kept_is in
        omega (arith, all, two, whole)

    pub prepared_bars : (steps : ℕ) → t.prepared ≡ Some steps → 2 ≤ steps → 2 ≤ holding f x nowhere None 48
    prepared_bars steps is le = let two = prepared_kept steps is le in omega (arith, two)

    -- and once it has shut its gate
    shut_kept : (m : ℕ) (prepared : Option ℕ) → t.prepared ≡ prepared → commits_in t ≡ true → gate_shut prepared m ≡ true → 2 ≤ max (locked (locks_by f None (OnGroup Commit) x false) m 48) (kept f x nowhere 48)
    shut_kept m None is commits shut =
        let plans : plans_in t ≡ true = rw is (rw is at commits) in
        let row : locked (locks_by f None (OnGroup Commit) x false) m 48 ≡ locked (commit_locks true) m 48 = rw (has, plans, counting) refl in
        let late = leb-true 8 m shut in
        let two = counted 8 m late (omega arith) in
        omega (arith, row, two)
    shut_kept m (Some steps) is commits shut =
        let late = leb-true 4 steps (and_both (nat_le 4 steps) (nat_le 3 m) shut).0 in
        let two = prepared_kept steps is (omega (arith, late)) in
        omega (arith, two)

    shut_by : (m : ℕ) (q : Option Refusal) → changed_by q (OnGroup Commit) x m ≡ true → 2 ≤ max (locked (locks_by f q (OnGroup Commit) x false) m 48) (kept f x nowhere 48)
    shut_by m (Some q) made = absurd (cc made)
    shut_by m None made =
        let both = and_both (commits_in t) (gate_shut t.prepared m) (rw has at made) in
        shut_kept m t.prepared refl both.0 both.1

    pub shut_bars : (m : ℕ) → is_changed f (OnGroup Commit) x m ≡ true → 2 ≤ holding f x nowhere (Some (task_of (OnGroup Commit) m)) 48
    unfolding is_changed held
    shut_bars m made = shut_by m (refusal f (OnGroup Commit) x) made

-- a step more holds no less
grown : (z : Bool) (a b : ℕ) → a ≤ b → (if z then 0 else a) ≤ (if z then 0 else b)
grown true a b le = le_refl 0
grown false a b le = le

pub step_bars : (f : Form) (x : Own) (c : Command) (n : ℕ) → holding f x nowhere (Some (task_of c n)) 48 ≤ holding f x nowhere (Some (task_of c (n + 1))) 48
unfolding held
step_bars f x c n =
    let more = grown (is_gone c nowhere) (locked (locks f c x false) n 48) (locked (locks f c x false) (n + 1) 48) (locked_grows (locks f c x false) n (n + 1) 48 (omega arith)) in
    omega (arith, more)

-- by a step the opener stays as it is
pub step_own : {f : Form} {free : Type 0} {conflict : ℕ → ℕ → Type 0} {finds : Reply → Type 0} {number n : ℕ} {c : Command} {x y : Own} {m mm : Map} (turn : Turn)
    → turn ≡ Step → Effect f free conflict finds number c n x m turn y mm → y ≡ x
step_own turn e (effect_waits o b is first un map own) = own
step_own turn e (effect_goes_on is free un map own) = own
step_own turn e (effect_changes is free late un made told map own) = own
step_own turn e (effect_answers r is free still un ready unmade says map own) = absurd (cc)
step_own turn e (effect_shows r is free moving found map own) = absurd (cc)
step_own turn e (effect_starves is may un map own) = absurd (cc)
step_own turn e (effect_is_full len need is free may ready un told map own) = absurd (cc)
step_own turn e (effect_is_busy o b is first may map own) = absurd (cc)
step_own turn e (effect_numbers q is free may same map own) = absurd (cc)
step_own turn e (effect_finishes is free made map own) = absurd (cc)

-- A transaction that stays goes on to count its changes, or not to.
abbrev CountsAs : Bool → Option Txn → Type 0
CountsAs b o = (t : Txn) → o ≡ Some t → t.numbered ≡ b

module _ (f : Form) (x : Own) (t : Txn) (has : x.txn ≡ Some t) where
  same : CountsAs t.numbered x.txn
  same u is = cc

  with_txn : (v : Txn) → v.numbered ≡ t.numbered → CountsAs t.numbered (Some v)
  with_txn v counts u is = cc

  without : CountsAs t.numbered None
  without u is = absurd (cc)

  by_txn : (o : Option Txn) → o ≡ x.txn → CountsAs t.numbered o
  by_txn o alike u is = cc

  left_counts : (z : Bool) → CountsAs t.numbered (if z then record x { txn = Some (record t { depth = t.depth - 1 }) } else ended x).txn
  left_counts true = with_txn (record t { depth = t.depth - 1 }) refl
  left_counts false = without

  left : CountsAs t.numbered (own_left x.txn x).txn
  left = rw has (left_counts (nat_lt 1 t.depth))

  cancelled_counts : (z : Bool) → CountsAs t.numbered (if z then record x { txn = Some (record t { depth = t.depth - 1; doomed = true }) } else ended x).txn
  cancelled_counts true = with_txn (record t { depth = t.depth - 1; doomed = true }) refl
  cancelled_counts false = without

  prepared_counts : (z : Bool) (n : ℕ) → CountsAs t.numbered (if z then record x { txn = Some t } else record x { txn = Some (record t { prepared = Some n }) }).txn
  prepared_counts true n = with_txn t refl
  prepared_counts false n = with_txn (record t { prepared = Some n }) refl

  refused : (c : Command) → CountsAs t.numbered (own_refused c x).txn
  refused (OnMap c) = same
  refused (OnLocks c) = same
  refused Seqnum = same
  refused (OnGroup Start) = same
  refused (OnGroup Commit) = left
  refused (OnGroup Prepare) = left
  refused (OnGroup Cancel) = same
  refused (OnWalk w) = same

  spared : (c : Command) → CountsAs t.numbered (own_spared c x).txn
  spared (OnMap c) = same
  spared (OnLocks c) = same
  spared Seqnum = same
  spared (OnGroup Start) = same
  spared (OnGroup Commit) = without
  spared (OnGroup Prepare) = without
  spared (OnGroup Cancel) = same
  spared (OnWalk First) = same
  spared (OnWalk Next) = same
  spared (OnWalk EndWalk) = same
  spared (OnWalk Close) = without

  locking : (c : LockCommand) → (own_locked f c x).txn ≡ x.txn
  locking (ChainLock k) = refl
  locking (ChainLockNb k) = refl
  locking (ChainUnlock k) = refl
  locking LockAll = refl
  locking LockAllRead = refl
  locking UnlockAll = refl

  done : (q : Option Refusal) (c : Command) (n : ℕ) (r : Reply) (m : Map) → CountsAs t.numbered (own_by f q c x n r m).txn
  done (Some q) c n r m = refused c
  done None (OnMap c) n r m = λ u is. cc (ap (changed_txn c) has)
  done None (OnLocks c) n r m = by_txn (own_locked f c x).txn (locking c)
  done None Seqnum n r m = same
  done None (OnGroup Start) n r m = rw has (with_txn (record t { depth = t.depth + 1 }) refl)
  done None (OnGroup Commit) n r m = left
  done None (OnGroup Prepare) n r m = rw has (prepared_counts (nat_lt 1 t.depth) (if plans_in t then n else 0))
  done None (OnGroup Cancel) n r m = rw has (cancelled_counts (nat_lt 1 t.depth))
  done None (OnWalk First) n r m = same
  done None (OnWalk Next) n r m = same
  done None (OnWalk EndWalk) n r m = same
  done None (OnWalk Close) n r m = without

  pub turn_counts : {free : Type 0} {conflict : ℕ → ℕ → Type 0} {finds : Reply → Type 0} {number n : ℕ} {c : Command} {y : Own} {m mm : Map} (turn : Turn)
      → Effect f free conflict finds number c n x m turn y mm → CountsAs t.numbered y.txn
  turn_counts turn (effect_waits o b is first un map own) = subst (λ (z : Own). CountsAs t.numbered z.txn) (sym own) same
  turn_counts turn (effect_goes_on is free un map own) = subst (λ (z : Own). CountsAs t.numbered z.txn) (sym own) same
  turn_counts turn (effect_changes is free late un made told map own) = subst (λ (z : Own). CountsAs t.numbered z.txn) (sym own) same
  turn_counts {n = n} {c = c} {m = m} turn (effect_answers r is free still un ready unmade says map own) = subst (λ (z : Own). CountsAs t.numbered z.txn) (sym own) (done (refusal f c x) c n r m)
  turn_counts {n = n} {c = c} {m = m} turn (effect_shows r is free moving found map own) = subst (λ (z : Own). CountsAs t.numbered z.txn) (sym own) (done (refusal f c x) c n r m)
  turn_counts {c = c} turn (effect_starves is may un map own) = subst (λ (z : Own). CountsAs t.numbered z.txn) (sym own) (spared c)
  turn_counts {c = c} turn (effect_is_full len need is free may ready un told map own) = subst (λ (z : Own). CountsAs t.numbered z.txn) (sym own) (spared c)
  turn_counts {c = c} turn (effect_is_busy o b is first may map own) = subst (λ (z : Own). CountsAs t.numbered z.txn) (sym own) (spared c)
  turn_counts turn (effect_numbers q is free may also map own) = subst (λ (z : Own). CountsAs t.numbered z.txn) (sym own) same
  turn_counts {n = n} {c = c} {m = m} turn (effect_finishes is free made map own) = subst (λ (z : Own). CountsAs t.numbered z.txn) (sym own) (done (refusal f c x) c n Done m)
