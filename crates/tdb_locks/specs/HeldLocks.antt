-- The locks that an opener has taken explicitly, as contracts see them.
use Rattle.std.specs.Prelude.{◌≡◌, ◌≢◌, ◌<◌, ◌+◌, ◌-◌, ◌^◌, [], All, List, None, Option, Some, min, sum, unwrap_or, ℕ}
use Rattle.std.specs.Map.{keys_of, lookup, values_of}
use Rattle.std.specs.BTreeMap.{is_at}
use Rattle.std.specs.Ordering.{nat_cmp}
use Rattle.std.specs.List.Sorted.{IsStrictlySortedBy}
use Rattle.tdb_locks.specs.declared.kind.Kind.{Kind}

-- how many times each chain is held, by chain, and all records: with which kind and how many times
pub record HeldLocks : Type 0 where
  pub chains : List (ℕ × ℕ)
  pub all : Option (Kind × ℕ)

-- the locks of an opener that holds none
abbrev pub nothing_held : HeldLocks
nothing_held = record { chains = []; all = None }

-- the count of the chain in a list of chains with their counts
abbrev pub count_in : List (ℕ × ℕ) → ℕ → ℕ
count_in chains chain = unwrap_or (lookup (is_at (nat_cmp chain)) chains) 0

-- how many times the chain is held
abbrev pub count_of : HeldLocks → ℕ → ℕ
count_of held chain = count_in held.chains chain

-- how many times all records are held
abbrev pub count_of_all : Option (Kind × ℕ) → ℕ
count_of_all None = 0
count_of_all (Some all) = all.1

-- the sum of all counts
abbrev pub total_of : HeldLocks → ℕ
total_of held = sum (values_of held.chains) + count_of_all held.all

-- the chain is held once more, or as often as before where its count can't rise; the total rises with it, and all else
-- stays
pub record Raises (old new : HeldLocks) (chain : ℕ) : Type 0 where
  pub raised : count_of new chain ≡ min (count_of old chain + 1) (2 ^ 32 - 1)
  pub total : total_of new + count_of old chain ≡ total_of old + count_of new chain
  pub others : (other : ℕ) → other ≢ chain → count_of new other ≡ count_of old other
  pub all : new.all ≡ old.all

-- the chain is held once less; the total falls with it, and all else stays
pub record Lowers (old new : HeldLocks) (chain : ℕ) : Type 0 where
  pub lowered : count_of new chain + 1 ≡ count_of old chain
  pub total : total_of new + 1 ≡ total_of old
  pub others : (other : ℕ) → other ≢ chain → count_of new other ≡ count_of old other
  pub all : new.all ≡ old.all

-- all records are held as told, and each chain as before
pub record SetsAll (old new : HeldLocks) (all : Option (Kind × ℕ)) : Type 0 where
  pub now : new.all ≡ all
  pub chains : new.chains ≡ old.chains

-- the counts are of chains in order, and each chain and each count is below 2 ^ 32
pub record AreCounts (chains : List (ℕ × ℕ)) : Type 0 where
  pub in_order : IsStrictlySortedBy nat_cmp (keys_of chains)
  pub keys : All (λ chain. chain < 2 ^ 32) (keys_of chains)
  pub counts : All (λ count. count < 2 ^ 32) (values_of chains)

-- the count of this chain is the new one, and the sum has changed by that much; each other count stays
pub record SetsCount (old new : List (ℕ × ℕ)) (chain count : ℕ) : Type 0 where
  pub now : count_in new chain ≡ count
  pub sum : sum (values_of new) + count_in old chain ≡ sum (values_of old) + count
  pub others : (other : ℕ) → other ≢ chain → count_in new other ≡ count_in old other
