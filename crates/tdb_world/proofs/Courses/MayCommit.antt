-- An opener whose transaction is prepared may commit it: it is the outer one, isn't doomed, and no lock was taken in
-- it.
use Rattle.std.proofs.Common.{◌≡◌, ℕ, [], ◌∷◌, Bool, true, false, not, nat_lt, Option, Some, None, is_some, refl, sym, ◌∙◌, ap, subst}
use Rattle.std.specs.Prelude.{◌&&◌, if◌then◌else◌}
use Rattle.std.proofs.lemmas.Bool.{false≢true}
use Rattle.tdb_space.specs.Form.{Form}
use Rattle.tdb_law.specs.Commands.{Command, LockCommand, MapCommand, Reply, Turn, WalkCommand}
use Rattle.tdb_law.specs.Commands.MapCommand.{Fetch, Has, Delete, Store, Insert, Modify, Append, Wipe, Check}
use Rattle.tdb_law.specs.Commands.LockCommand.{ChainLock, ChainLockNb, ChainUnlock, LockAll, LockAllRead, UnlockAll}
use Rattle.tdb_law.specs.Commands.GroupCommand.{Start, Commit, Prepare, Cancel}
use Rattle.tdb_law.specs.Commands.WalkCommand.{First, Next, EndWalk, Close}
use Rattle.tdb_law.specs.Commands.Command.{OnMap, OnLocks, Seqnum, OnGroup, OnWalk}
use Rattle.tdb_law.specs.Effects.{Effect}
use Rattle.tdb_law.specs.Effects.Effect.{effect_waits, effect_goes_on, effect_changes, effect_answers, effect_shows, effect_starves, effect_is_full, effect_is_busy, effect_numbers, effect_finishes}
use Rattle.tdb_law.specs.Openers.{Map, Own, Txn, explicit_locks, outside}
use Rattle.tdb_law.specs.Outcomes.{changed_txn, own_by, own_cancelled, own_left, own_locked, own_prepared, own_refused, own_spared, own_started, own_walked}
use Rattle.tdb_law.specs.Refusals.Refusal.{IsPrepared, NoneOpen}
use Rattle.tdb_law.specs.Refusals.{Refusal, commit_refusals, first_that_applies, is_doomed, is_nested, is_prepared, refusal}

-- of a row that forbids nothing the test doesn't hold, and what follows forbids nothing
passes : (b : Bool) (r : Refusal) (o : Option Refusal) → (if b then Some r else o) ≡ None → (b ≡ false) × (o ≡ None)
passes true r o e = absurd (cc e)
passes false r o e = (refl, e)

pub record MayCommit (x : Own) : Type 0 where
  pub outer : is_nested x.txn ≡ false
  pub whole : is_doomed x.txn ≡ false
  pub unlocked : nat_lt 0 (explicit_locks x) ≡ false

-- where it is prepared
abbrev pub IfPrepared : Own → Type 0
IfPrepared x = is_prepared x.txn ≡ true → MayCommit x

inside : (o : Option Txn) → is_prepared o ≡ true → is_some o ≡ true
inside None e = absurd (false≢true e)
inside (Some t) e = refl

outside_not : (o : Option Txn) → is_prepared o ≡ true → (x : Own) → x.txn ≡ o → outside x ≡ false
outside_not None e x is = absurd (false≢true e)
outside_not (Some t) e x is = rw is refl

-- its Commit isn't refused
pub commit_granted : (f : Form) (x : Own) → IfPrepared x → is_prepared x.txn ≡ true → refusal f (OnGroup Commit) x ≡ None
unfolding refusal
commit_granted f x I e =
    let M = I e in
    let inner = outside_not x.txn e x refl in
    rw (inner, M.whole, M.outer, M.unlocked) refl

-- who has no transaction, or one that isn't prepared
unprepared : (x : Own) → is_prepared x.txn ≡ false → IfPrepared x
unprepared x none e = absurd (false≢true (sym none ∙ e))

module _ (f : Form) (x : Own) (m : Map) (I : IfPrepared x) where
  -- a command that a prepared transaction doesn't take
  map_taken : (c : MapCommand) → refusal f (OnMap c) x ≡ None → is_prepared x.txn ≡ false
  unfolding refusal
  map_taken (Fetch k) e = (passes _ _ _ e).0
  map_taken (Has k) e = (passes _ _ _ e).0
  map_taken (Delete k) e = (passes _ _ _ (passes _ _ _ e).1).0
  map_taken (Store k v) e = (passes _ _ _ (passes _ _ _ e).1).0
  map_taken (Insert k v) e = (passes _ _ _ (passes _ _ _ e).1).0
  map_taken (Modify k v) e = (passes _ _ _ (passes _ _ _ e).1).0
  map_taken (Append k v) e = (passes _ _ _ (passes _ _ _ e).1).0
  map_taken Wipe e = (passes _ _ _ (passes _ _ _ e).1).0
  map_taken Check e = (passes _ _ _ e).0

  lock_taken : (c : LockCommand) → refusal f (OnLocks c) x ≡ None → is_prepared x.txn ≡ false
  unfolding refusal
  lock_taken (ChainLock k) e = (passes _ _ _ e).0
  lock_taken (ChainLockNb k) e = (passes _ _ _ e).0
  lock_taken (ChainUnlock k) e = (passes _ _ _ e).0
  lock_taken LockAll e = (passes _ _ _ e).0
  lock_taken LockAllRead e = (passes _ _ _ e).0
  lock_taken UnlockAll e = (passes _ _ _ e).0

  start_taken : refusal f (OnGroup Start) x ≡ None → is_prepared x.txn ≡ false
  unfolding refusal
  start_taken e = (passes _ _ _ (passes _ _ _ e).1).0

  -- the transaction after a change in it, and an explicit lock
  changed_same : (c : MapCommand) (o : Option Txn) → is_prepared (changed_txn c o) ≡ is_prepared o
  changed_same c None = refl
  changed_same c (Some t) = refl

  locked_same : (c : LockCommand) → is_prepared (own_locked f c x).txn ≡ is_prepared x.txn
  locked_same (ChainLock k) = refl
  locked_same (ChainLockNb k) = refl
  locked_same (ChainUnlock k) = refl
  locked_same LockAll = refl
  locked_same LockAllRead = refl
  locked_same UnlockAll = refl

  started_same : (o : Option Txn) → is_prepared o ≡ false → is_prepared (own_started o x m).txn ≡ false
  started_same None e = refl
  started_same (Some t) e = e

  -- a prepared transaction has none within it
  never_nested : (t : Txn) → x.txn ≡ Some t → nat_lt 1 t.depth ≡ true → is_some t.prepared ≡ true → ⊥
  never_nested t has deep prepared =
      let M = I (ap is_prepared has ∙ prepared) in
      false≢true (sym M.outer ∙ (ap is_nested has ∙ deep))

  left_so : (o : Option Txn) → x.txn ≡ o → IfPrepared (own_left o x)
  left_so None has = I
  left_so (Some t) has = by_depth (nat_lt 1 t.depth) refl
    where
      by_depth : (b : Bool) → nat_lt 1 t.depth ≡ b → IfPrepared (own_left (Some t) x)
      by_depth true deep = rw deep (λ e. absurd (never_nested t has deep e))
      by_depth false deep = rw deep (λ e. absurd (false≢true e))

  cancelled_so : (o : Option Txn) → x.txn ≡ o → IfPrepared (own_cancelled o x)
  cancelled_so None has = I
  cancelled_so (Some t) has = by_depth (nat_lt 1 t.depth) refl
    where
      by_depth : (b : Bool) → nat_lt 1 t.depth ≡ b → IfPrepared (own_cancelled (Some t) x)
      by_depth true deep = rw deep (λ e. absurd (never_nested t has deep e))
      by_depth false deep = rw deep (λ e. absurd (false≢true e))

  -- a Prepare that isn't refused
  prepares : is_nested x.txn ≡ false → refusal f (OnGroup Prepare) x ≡ None → MayCommit x
  unfolding refusal
  prepares outer e =
      let second = passes (outside x) NoneOpen (first_that_applies ((is_prepared x.txn, IsPrepared) ∷ (if is_nested x.txn then [] else commit_refusals x))) e in
      let third = passes (is_prepared x.txn) IsPrepared (first_that_applies (if is_nested x.txn then [] else commit_refusals x)) second.1 in
      let rest = subst (λ b. first_that_applies (if b then [] else commit_refusals x) ≡ None) outer third.1 in
      let doomed = passes _ _ _ (passes _ _ _ rest).1 in
      let locked = subst (λ b. (not b && nat_lt 0 (explicit_locks x)) ≡ false) outer (passes _ _ _ doomed.1).0 in
      record { outer = outer; whole = doomed.0; unlocked = locked }

  prepared_so : (o : Option Txn) (n : ℕ) → x.txn ≡ o → refusal f (OnGroup Prepare) x ≡ None → IfPrepared (own_prepared o x n)
  prepared_so None n has e = I
  prepared_so (Some t) n has e = by_depth (nat_lt 1 t.depth) refl
    where
      by_depth : (b : Bool) → nat_lt 1 t.depth ≡ b → IfPrepared (own_prepared (Some t) x n)
      by_depth true deep = rw deep I
      by_depth false deep = rw deep (λ is. let M = prepares (ap is_nested has ∙ deep) e in record { outer = deep; whole = sym (ap is_doomed has) ∙ M.whole; unlocked = M.unlocked })

  walked_so : (c : WalkCommand) (r : Reply) → IfPrepared (own_walked c x r)
  walked_so First r = λ e. let M = I e in record { outer = M.outer; whole = M.whole; unlocked = M.unlocked }
  walked_so Next r = λ e. let M = I e in record { outer = M.outer; whole = M.whole; unlocked = M.unlocked }
  walked_so EndWalk r = λ e. let M = I e in record { outer = M.outer; whole = M.whole; unlocked = M.unlocked }
  walked_so Close r = λ e. absurd (false≢true e)

  refused_so : (c : Command) → IfPrepared (own_refused c x)
  refused_so (OnMap c) = I
  refused_so (OnLocks c) = I
  refused_so Seqnum = I
  refused_so (OnGroup Start) = I
  refused_so (OnGroup Commit) = left_so x.txn refl
  refused_so (OnGroup Prepare) = left_so x.txn refl
  refused_so (OnGroup Cancel) = I
  refused_so (OnWalk c) = I

  spared_so : (c : Command) → IfPrepared (own_spared c x)
  spared_so (OnMap c) = I
  spared_so (OnLocks c) = I
  spared_so Seqnum = I
  spared_so (OnGroup Start) = I
  spared_so (OnGroup Commit) = λ e. absurd (false≢true e)
  spared_so (OnGroup Prepare) = λ e. absurd (false≢true e)
  spared_so (OnGroup Cancel) = I
  spared_so (OnWalk First) = λ e. let M = I e in record { outer = M.outer; whole = M.whole; unlocked = M.unlocked }
  spared_so (OnWalk Next) = λ e. let M = I e in record { outer = M.outer; whole = M.whole; unlocked = M.unlocked }
  spared_so (OnWalk EndWalk) = I
  spared_so (OnWalk Close) = λ e. absurd (false≢true e)

  after_so : (q : Option Refusal) (c : Command) (n : ℕ) (r : Reply) → refusal f c x ≡ q → IfPrepared (own_by f q c x n r m)
  after_so (Some q) c n r e = refused_so c
  after_so None (OnMap c) n r e = unprepared (record x { txn = changed_txn c x.txn }) (changed_same c x.txn ∙ map_taken c e)
  after_so None (OnLocks c) n r e = unprepared (own_locked f c x) (locked_same c ∙ lock_taken c e)
  after_so None Seqnum n r e = I
  after_so None (OnGroup Start) n r e = unprepared (own_started x.txn x m) (started_same x.txn (start_taken e))
  after_so None (OnGroup Commit) n r e = left_so x.txn refl
  after_so None (OnGroup Prepare) n r e = prepared_so x.txn n refl e
  after_so None (OnGroup Cancel) n r e = cancelled_so x.txn refl
  after_so None (OnWalk c) n r e = walked_so c r

  -- after a turn
  pub turn_so : {free : Type 0} {conflict : ℕ → ℕ → Type 0} {finds : Reply → Type 0} {number : ℕ} {mm : Map} (c : Command) (n : ℕ) (turn : Turn) (y : Own)
      → Effect f free conflict finds number c n x m turn y mm → IfPrepared y
  turn_so c n turn y (effect_waits o b is first un map own) = subst IfPrepared (sym own) I
  turn_so c n turn y (effect_goes_on is free un map own) = subst IfPrepared (sym own) I
  turn_so c n turn y (effect_changes is free late un made told map own) = subst IfPrepared (sym own) I
  turn_so c n turn y (effect_answers r is free still un ready unmade says map own) = subst IfPrepared (sym own) (after_so (refusal f c x) c n r refl)
  turn_so c n turn y (effect_shows r is free moving found map own) = subst IfPrepared (sym own) (after_so (refusal f c x) c n r refl)
  turn_so c n turn y (effect_starves is may un map own) = subst IfPrepared (sym own) (spared_so c)
  turn_so c n turn y (effect_is_full len need is free may ready un told map own) = subst IfPrepared (sym own) (spared_so c)
  turn_so c n turn y (effect_is_busy o b is first may map own) = subst IfPrepared (sym own) (spared_so c)
  turn_so c n turn y (effect_numbers q is free may same map own) = subst IfPrepared (sym own) I
  turn_so c n turn y (effect_finishes is free made map own) = subst IfPrepared (sym own) (after_so (refusal f c x) c n Reply.Done refl)
