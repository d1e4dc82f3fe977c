-- The commands on explicit locks inside a transaction, in the words of the law.
use Rattle.std.proofs.Common.{◌≡◌, ◌≢◌, ℕ, ◌+◌, ◌*◌, ◌-◌, ◌^◌, ◌<◌, ◌≤◌, List, Bool, true, false, cond, ◌==◌, nat_le, Option, None, Some, is_some, unwrap_or, refl, sym, ◌∙◌, ap, subst, inl, inr, arith}
use Rattle.std.specs.Prelude.{◌&&◌, if◌then◌else◌}
use Rattle.std.proofs.lemmas.Bool.{cases_eq, eq-eqb, ne_eqb}
use Rattle.std.proofs.lemmas.Bool.Decides.{nat_tests}
use Rattle.std.specs.Cmp.{nat_cmp_total}
use Rattle.std.specs.Ordering.{nat_cmp, eq_by_cmp}
use Rattle.std.specs.FinMap.{get, insert, remove, get-insert, get-remove}
use Rattle.tdb_space.specs.Form.{Form}
use Rattle.tdb_space.specs.Pairs.{home}
use Rattle.tdb_locks.specs.HeldLocks.{HeldLocks, Raises, Lowers, SetsAll, count_of}
use Rattle.tdb_locks.specs.declared.kind.Kind.{Kind}
use Rattle.tdb_locks.specs.declared.kind.Kind.TheVariants.{Read, Write}
use Rattle.tdb_law.specs.Commands.{LockCommand}
use Rattle.tdb_law.specs.Commands.LockCommand.{ChainLock, ChainLockNb, ChainUnlock, LockAll, LockAllRead, UnlockAll}
use Rattle.tdb_law.specs.Commands.Command.{OnLocks}
use Rattle.tdb_law.specs.Commands.Reply.{Done, Memory, NotLocked}
use Rattle.tdb_law.specs.Openers.{Own, Txn, AllLock, Counts, Spot, count_at, count_more, count_less, all_more, all_less}
use Rattle.tdb_law.specs.Refusals.{Refusal, refusal, chain_byte}
use Rattle.tdb_law.specs.Refusals.Refusal.{LocksStand, NothingLocked}
use Rattle.tdb_law.specs.Rows.{is_changed, changed_by, locks_by}
use Rattle.tdb_law.specs.Outcomes.{own_locked}
use Rattle.tdb_law.specs.Ends.{ends_by, lock_starves, starves_by}
use Rattle.tdb_law.specs.Held.{kept}
use Rattle.tdb_law.specs.Effects.Effect.{effect_starves}
use Rattle.tdb_steps.specs.LockRows.{strength_of}
use Rattle.tdb_txn_turns.specs.InsideTxn.Counted.{IsInside, all_lock, lock_all_of, one_less, one_more, IsCounted, CountsInside}
use Rattle.tdb_txn_turns.specs.InsideTxn.Turns.{TurnsInside}
use Rattle.tdb_txn_turns.proofs.InsideTxn.Inside.{answered, inside_of}
use Rattle.tdb_txn_turns.proofs.InsideTxn.Nested.{refuses_inside}

apart : (b q : ℕ) → b ≢ q → eq_by_cmp nat_cmp b q ≡ false
apart b q differs = grind (arith, nat_tests)

tied : (b q : ℕ) → b ≡ q → eq_by_cmp nat_cmp b q ≡ true
tied b q same = grind (arith, nat_tests)

get_same : (m : Counts) (k n b : ℕ) → b ≡ k → get (insert m k n) b ≡ Some n
get_same m k n b same = get-insert nat_cmp_total m k n b ∙ ap (λ t. cond t (Some n) (get m b)) (tied b k same)

get_other : (m : Counts) (k n b : ℕ) → b ≢ k → get (insert m k n) b ≡ get m b
get_other m k n b differs = get-insert nat_cmp_total m k n b ∙ ap (λ t. cond t (Some n) (get m b)) (apart b k differs)

out_same : (m : Counts) (k b : ℕ) → b ≡ k → get (remove m k) b ≡ None
out_same m k b same = get-remove nat_cmp_total m k b ∙ ap (λ t. cond t None (get m b)) (tied b k same)

out_other : (m : Counts) (k b : ℕ) → b ≢ k → get (remove m k) b ≡ get m b
out_other m k b differs = get-remove nat_cmp_total m k b ∙ ap (λ t. cond t None (get m b)) (apart b k differs)

some_is : (n m : ℕ) → ◌≡◌ {A = Option ℕ} (Some n) (Some m) → n ≡ m
some_is n m e = cc

none_some : (n : ℕ) → ◌≡◌ {A = Option ℕ} None (Some n) → ⊥
none_some n e = cc e

-- the counts of a map with another count at one chain
module _ (x : Own) (old new : HeldLocks) (chain : ℕ) (C : IsCounted old x) (others : (other : ℕ) → other ≢ chain → count_of new other ≡ count_of old other) (all : new.all ≡ old.all) where
  abbrev byte : ℕ
  byte = 168 + 4 * chain

  pub counts_put : (n : ℕ) → 0 < n → count_of new chain ≡ n → IsCounted new (record x { counts = insert x.counts byte n })
  counts_put n some is = record { chains = chains; some = present; only = only; all = C.all ∙ ap all_lock (sym all) }
    where
      chains : (c : ℕ) → unwrap_or (get (insert x.counts byte n) (168 + 4 * c)) 0 ≡ count_of new c
      chains c = elim (cases_eq c chain) [
        | inl same ↦ ap (λ o. unwrap_or o 0) (get_same x.counts byte n (168 + 4 * c) (ap (λ i. 168 + 4 * i) same)) ∙ sym is ∙ ap (count_of new) (sym same)
        | inr differs ↦ ap (λ o. unwrap_or o 0) (get_other x.counts byte n (168 + 4 * c) (λ e. differs (omega (arith, e)))) ∙ C.chains c ∙ sym (others c differs)
      ]

      present : (b m : ℕ) → get (insert x.counts byte n) b ≡ Some m → 0 < m
      present b m e = elim (cases_eq b byte) [
        | inl same ↦ let here = some_is n m (sym (get_same x.counts byte n b same) ∙ e) in omega (arith, some, here)
        | inr differs ↦ C.some b m (sym (get_other x.counts byte n b differs) ∙ e)
      ]

      only : (b : ℕ) → ((c : ℕ) → b ≢ 168 + 4 * c) → get (insert x.counts byte n) b ≡ None
      only b none = get_other x.counts byte n b (none chain) ∙ C.only b none

  pub counts_out : count_of new chain ≡ 0 → IsCounted new (record x { counts = remove x.counts byte })
  counts_out is = record { chains = chains; some = present; only = only; all = C.all ∙ ap all_lock (sym all) }
    where
      chains : (c : ℕ) → unwrap_or (get (remove x.counts byte) (168 + 4 * c)) 0 ≡ count_of new c
      chains c = elim (cases_eq c chain) [
        | inl same ↦ ap (λ o. unwrap_or o 0) (out_same x.counts byte (168 + 4 * c) (ap (λ i. 168 + 4 * i) same)) ∙ sym is ∙ ap (count_of new) (sym same)
        | inr differs ↦ ap (λ o. unwrap_or o 0) (out_other x.counts byte (168 + 4 * c) (λ e. differs (omega (arith, e)))) ∙ C.chains c ∙ sym (others c differs)
      ]

      present : (b m : ℕ) → get (remove x.counts byte) b ≡ Some m → 0 < m
      present b m e = elim (cases_eq b byte) [
        | inl same ↦ absurd (none_some m (sym (out_same x.counts byte b same) ∙ e))
        | inr differs ↦ C.some b m (sym (out_other x.counts byte b differs) ∙ e)
      ]

      only : (b : ℕ) → ((c : ℕ) → b ≢ 168 + 4 * c) → get (remove x.counts byte) b ≡ None
      only b none = out_other x.counts byte b (none chain) ∙ C.only b none

-- one more, and one less
raised_counts : (x : Own) (old new : HeldLocks) (chain : ℕ) → IsCounted old x → Raises old new chain → count_of old chain < 2 ^ 32 - 1 → IsCounted new (count_more x (168 + 4 * chain))
raised_counts x old new chain C R room =
    let now = C.chains chain in
    counts_put x old new chain C R.others R.all (count_at x (168 + 4 * chain) + 1) (omega arith) (let up = R.raised in omega (arith, now, up, room))

lowered_counts : (x : Own) (old new : HeldLocks) (chain : ℕ) → IsCounted old x → Lowers old new chain → IsCounted new (count_less x (168 + 4 * chain))
lowered_counts x old new chain C L = at (nat_le (count_at x (168 + 4 * chain)) 1) refl
  where
    at : (b : Bool) → nat_le (count_at x (168 + 4 * chain)) 1 ≡ b
        → IsCounted new (record x { counts = if b then remove x.counts (168 + 4 * chain) else insert x.counts (168 + 4 * chain) (count_at x (168 + 4 * chain) - 1) })
    at true e =
        let last : count_at x (168 + 4 * chain) ≤ 1 = grind (arith, nat_tests) in
        counts_out x old new chain C L.others L.all (let now = C.chains chain in let down = L.lowered in omega (arith, last, now, down))
    at false e =
        let more : 1 < count_at x (168 + 4 * chain) = grind (arith, nat_tests) in
        counts_put x old new chain C L.others L.all (count_at x (168 + 4 * chain) - 1) (omega (arith, more)) (let now = C.chains chain in let down = L.lowered in omega (arith, more, now, down))

-- the same counts
same_counts : (x : Own) (old new : HeldLocks) → new ≡ old → IsCounted old x → IsCounted new x
same_counts x old new same C = subst (λ h. IsCounted h x) (sym same) C

-- and another lock of all records
set_counts : (x : Own) (old new : HeldLocks) (all : Option AllLock) → IsCounted old x → new.chains ≡ old.chains → all ≡ all_lock new.all → IsCounted new (record x { all = all })
set_counts x old new all C same is = record {
  chains = λ c. C.chains c ∙ ap (λ cs. count_of (record old { chains = cs }) c) (sym same);
  some = C.some;
  only = C.only;
  all = is;
}

never : (b z : Bool) → ◌≡◌ {A = Option Refusal} (if b && false && z then Some LocksStand else None) None
never true z = refl
never false z = refl

module _ (f : Form) (x : Own) (t : Txn) (I : IsInside x t) where
  kept_locked : (k : LockCommand) (a z : Spot) (b : ℕ) → kept f (own_locked f k x) z b ≡ kept f x a b
  kept_locked (ChainLock key) a z b = rw I.has refl
  kept_locked (ChainLockNb key) a z b = rw I.has refl
  kept_locked (ChainUnlock key) a z b = rw I.has refl
  kept_locked LockAll a z b = rw I.has refl
  kept_locked LockAllRead a z b = rw I.has refl
  kept_locked UnlockAll a z b = rw I.has refl

  locked_inside : (k : LockCommand) (n p : ℕ) → refusal f (OnLocks k) x ≡ None → TurnsInside f x (own_locked f k x) (OnLocks k) n p p Done
  locked_inside k n p R =
      answered f x (own_locked f k x) (OnLocks k) None R Done
      (record {
        ends = refl;
        unlocked = λ purging. rw I.has refl;
        unmoved = refl;
        uncounted = refl;
        looks = refl;
        unchanged = refl;
        told = λ m. refl;
        map = λ m. refl;
        own = λ m. refl;
        number = λ n p. refl;
        image_number = λ n p. refl;
        within = rw I.has refl;
      }) n p (kept_locked k)

  none_changed : (k : LockCommand) → refusal f (OnLocks k) x ≡ None → is_changed f (OnLocks k) x 0 ≡ false
  unfolding is_changed
  none_changed k R = ap (λ q. changed_by q (OnLocks k) x 0) R

  starved_inside : (k : LockCommand) (n p : ℕ) → lock_starves k ≡ true → refusal f (OnLocks k) x ≡ None → TurnsInside f x x (OnLocks k) n p p Memory
  starved_inside k n p starves R =
      inside_of f x x (OnLocks k) (λ purging. ap (λ q. locks_by f q (OnLocks k) x purging) R ∙ rw I.has refl) (rw I.has refl) n p p Memory (ap (λ q. ends_by q (OnLocks k) x 0 Memory) R)
      (λ table who want file free reads. effect_starves refl (ap (λ q. starves_by q (OnLocks k) x) R ∙ starves) (none_changed k R) refl refl)
      (λ a z b. rw I.has refl) refl refl

  -- what is refused
  chain_granted : (key : List ℕ) → refusal f (OnLocks (ChainLock key)) x ≡ None
  unfolding refusal
  chain_granted key = rw (I.has, I.unprepared) refl

  chain_nb_granted : (key : List ℕ) → refusal f (OnLocks (ChainLockNb key)) x ≡ None
  unfolding refusal
  chain_nb_granted key = rw (I.has, I.unprepared) refl

  all_granted : (kind : Kind) → refusal f (OnLocks (lock_all_of kind)) x ≡ None
  unfolding refusal
  all_granted Read = rw (I.has, I.unprepared) refl
  all_granted Write = rw (I.has, I.unprepared) refl

  unchain_refused : (key : List ℕ) (b : Bool) → (count_at x (chain_byte f key) == 0) ≡ b → refusal f (OnLocks (ChainUnlock key)) x ≡ (if b then Some NothingLocked else None)
  unfolding refusal
  unchain_refused key b e = rw (I.has, I.unprepared, e) refl

  unlock_refused : (all : Option AllLock) → x.all ≡ all → refusal f (OnLocks UnlockAll) x ≡ (if is_some all then None else Some NothingLocked)
  unfolding refusal
  unlock_refused None e = rw (I.has, I.unprepared, e) refl
  unlock_refused (Some a) e = rw (I.has, I.unprepared, e) (never (a.count == 1) _)

  -- a command that finds no memory, or isn't granted
  starved_counts : (k : LockCommand) (old new : HeldLocks) → lock_starves k ≡ true → refusal f (OnLocks k) x ≡ None → IsCounted old x → new ≡ old → CountsInside f x k new Memory
  starved_counts k old new starves R C same = record { turned = λ n p. starved_inside k n p starves R; counts = same_counts x old new same C }

  refused_counts : (k : LockCommand) (held : HeldLocks) → refusal f (OnLocks k) x ≡ Some NothingLocked → IsCounted held x → CountsInside f x k held NotLocked
  refused_counts k held R C = record { turned = λ n p. refuses_inside f x t (OnLocks k) NothingLocked n p I.has (λ e. e) R; counts = C }

  module _ (key : List ℕ) (old new : HeldLocks) (chain : ℕ) (at : home f key ≡ chain) (C : IsCounted old x) where
    here : count_at x (chain_byte f key) ≡ count_of old chain
    here = C.chains (home f key) ∙ ap (count_of old) at

    pub chain_starves : new ≡ old → CountsInside f x (ChainLock key) new Memory
    chain_starves same = starved_counts (ChainLock key) old new refl (chain_granted key) C same

    pub chain_nb_starves : new ≡ old → CountsInside f x (ChainLockNb key) new Memory
    chain_nb_starves same = starved_counts (ChainLockNb key) old new refl (chain_nb_granted key) C same

    module _ (R : Raises old new chain) (room : count_of old chain < 2 ^ 32 - 1) where
      raised : IsCounted new (count_more x (chain_byte f key))
      raised = subst (λ c. IsCounted new (count_more x (168 + 4 * c))) (sym at) (raised_counts x old new chain C R room)

      pub chain_counts : CountsInside f x (ChainLock key) new Done
      chain_counts = record { turned = λ n p. locked_inside (ChainLock key) n p (chain_granted key); counts = raised }

      pub chain_nb_counts : CountsInside f x (ChainLockNb key) new Done
      chain_nb_counts = record { turned = λ n p. locked_inside (ChainLockNb key) n p (chain_nb_granted key); counts = raised }

    pub unchain_refuses : count_of old chain ≡ 0 → CountsInside f x (ChainUnlock key) old NotLocked
    unchain_refuses none = refused_counts (ChainUnlock key) old (unchain_refused key true (eq-eqb (count_at x (chain_byte f key)) 0 (here ∙ none))) C

    pub unchain_counts : Lowers old new chain → (count_of old chain ≡ 0 → ⊥) → CountsInside f x (ChainUnlock key) new Done
    unchain_counts L some = record {
      turned = λ n p. locked_inside (ChainUnlock key) n p (unchain_refused key false (ne_eqb (count_at x (chain_byte f key)) 0 (λ e. some (sym here ∙ e))));
      counts = subst (λ c. IsCounted new (count_less x (168 + 4 * c))) (sym at) (lowered_counts x old new chain C L);
    }

  module _ (old new : HeldLocks) (C : IsCounted old x) where
    all_starving : (kind : Kind) → lock_starves (lock_all_of kind) ≡ true
    all_starving Read = refl
    all_starving Write = refl

    pub all_starves : (kind : Kind) → new ≡ old → CountsInside f x (lock_all_of kind) new Memory
    all_starves kind same = starved_counts (lock_all_of kind) old new (all_starving kind) (all_granted kind) C same

    more_lock : (all : Option (Kind × ℕ)) (kind : Kind) → Some (all_more (all_lock all) (strength_of kind)) ≡ all_lock (Some (one_more all kind))
    more_lock None kind = refl
    more_lock (Some a) kind = refl

    more_now : (kind : Kind) → new.all ≡ Some (one_more old.all kind) → Some (all_more x.all (strength_of kind)) ≡ all_lock new.all
    more_now kind is = ap (λ a. Some (all_more a (strength_of kind))) C.all ∙ more_lock old.all kind ∙ ap all_lock (sym is)

    more_counts : (kind : Kind) → new.chains ≡ old.chains → new.all ≡ Some (one_more old.all kind) → IsCounted new (own_locked f (lock_all_of kind) x)
    more_counts Read same is = set_counts x old new (Some (all_more x.all 1)) C same (more_now Read is)
    more_counts Write same is = set_counts x old new (Some (all_more x.all 2)) C same (more_now Write is)

    pub all_counts : (kind : Kind) → SetsAll old new (Some (one_more old.all kind)) → CountsInside f x (lock_all_of kind) new Done
    all_counts kind S = record { turned = λ n p. locked_inside (lock_all_of kind) n p (all_granted kind); counts = more_counts kind S.chains S.now }

    pub unlock_refuses : old.all ≡ None → CountsInside f x UnlockAll old NotLocked
    unlock_refuses none = refused_counts UnlockAll old (unlock_refused None (C.all ∙ ap all_lock none)) C

    less_lock : (a : Kind × ℕ) → all_less (all_lock (Some a)) ≡ all_lock (one_less a)
    less_lock a = go (nat_le a.1 1)
      where
        go : (b : Bool) → (if b then None else Some (record { strength = strength_of a.0; count = a.1 - 1 })) ≡ all_lock (if b then None else Some (a.0, a.1 - 1))
        go true = refl
        go false = refl

    pub unlock_counts : (a : Kind × ℕ) → old.all ≡ Some a → SetsAll old new (one_less a) → CountsInside f x UnlockAll new Done
    unlock_counts a was S = record {
      turned = λ n p. locked_inside UnlockAll n p (unlock_refused (all_lock (Some a)) (C.all ∙ ap all_lock was));
      counts = set_counts x old new (all_less x.all) C S.chains (ap all_less (C.all ∙ ap all_lock was) ∙ less_lock a ∙ ap all_lock (sym S.now));
    }
