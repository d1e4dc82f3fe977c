-- An opener's explicit locks are as many as its counts tell.
use Rattle.std.proofs.Common.{◌≡◌, ℕ, ◌+◌, ◌*◌, ◌<◌, Option, Some, None, unwrap_or, sum, refl, sym, ◌∙◌, ap, inl, inr}
use Rattle.std.proofs.lemmas.Bool.{lt-ltb}
use Rattle.std.specs.Map.{values_of}
use Rattle.std.specs.FinMap.{get, values}
use Rattle.tdb_locks.specs.HeldLocks.{HeldLocks, AreCounts, count_of, count_of_all, total_of}
use Rattle.tdb_locks.specs.declared.kind.Kind.{Kind}
use Rattle.tdb_law.specs.Openers.{Own, all_count, explicit_locks}
use Rattle.tdb_txn_turns.specs.InsideTxn.Counted.{all_lock, IsCounted}
use Rattle.tdb_commands.specs.Counts.{counts_of}
use Rattle.tdb_commands.proofs.Counts.{alike_counts, chain_or_none, got, no_chain, none_of, some_if, some_of, sum_counted}

same_all : (all : Option (Kind × ℕ)) → all_count (all_lock all) ≡ count_of_all all
same_all None = refl
same_all (Some all) = refl

module _ (held : HeldLocks) (x : Own) (A : AreCounts held.chains) (C : IsCounted held x) where
  entry : (o : Option ℕ) (n : ℕ) → unwrap_or o 0 ≡ n → ((m : ℕ) → o ≡ Some m → 0 < m) → o ≡ some_if n
  entry None n is some = none_of 0 refl ∙ ap some_if is
  entry (Some m) n is some = some_of m (lt-ltb 0 m (some m refl)) ∙ ap some_if is

  same_counts : x.counts ≡ counts_of held.chains
  same_counts = alike_counts x.counts (counts_of held.chains) at
    where
      at : (b : ℕ) → get x.counts b ≡ get (counts_of held.chains) b
      at b = elim (chain_or_none b) [
        | inl w ↦
            ap (get x.counts) w.1 ∙ entry (get x.counts (168 + 4 * w.0)) (count_of held w.0) (C.chains w.0) (C.some (168 + 4 * w.0))
            ∙ sym (got held.chains A.in_order w.0) ∙ ap (get (counts_of held.chains)) (sym w.1)
        | inr none ↦ C.only b none ∙ sym (no_chain held.chains b none)
      ]

  -- so many locks are counted
  pub total_counted : explicit_locks x ≡ total_of held
  total_counted =
      ap (λ m. sum (values m) + all_count x.all) same_counts ∙ ap (λ n. n + all_count x.all) (sum_counted held.chains A.in_order)
      ∙ ap (λ a. sum (values_of held.chains) + all_count a) C.all ∙ ap (λ n. sum (values_of held.chains) + n) (same_all held.all)
