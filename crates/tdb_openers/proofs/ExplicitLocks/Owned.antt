-- What the law's table of refusals asks of an opener, by its explicit locks.
use Rattle.std.proofs.Common.{◌≡◌, ℕ, ◌+◌, ◌*◌, Bool, Option, Some, None, is_some, nat_lt, sum, refl, ◌∙◌, ap}
use Rattle.std.specs.Prelude.{if◌then◌else◌}
use Rattle.std.specs.Map.{values_of}
use Rattle.tdb_locks.specs.HeldLocks.{HeldLocks, AreCounts, count_of, count_of_all}
use Rattle.tdb_locks.specs.declared.kind.Kind.{Kind}
use Rattle.tdb_locks.specs.declared.kind.Kind.TheVariants.{Read, Write}
use Rattle.tdb_law.specs.Openers.{chain_locks, all_count, count_at}
use Rattle.tdb_law.specs.Refusals.{has_chains, has_all}
use Rattle.tdb_law.specs.Refusals as Law
use Rattle.tdb_commands.specs.declared.options.Options.{Options}
use Rattle.tdb_openers.specs.Openers.{AtRest, own_with, all_of}
use Rattle.tdb_openers.specs.Given.{held_count, holds_chains, reads_records}
use Rattle.tdb_commands.proofs.Counts.{counted, sum_counted}

same_all : (all : Option (Kind × ℕ)) → all_count (all_of all) ≡ count_of_all all
same_all None = refl
same_all (Some all) = refl

pub has_read : (all : Option (Kind × ℕ)) → has_all (all_of all) 1 ≡ reads_records all
has_read None = refl
has_read (Some (Read, count)) = refl
has_read (Some (Write, count)) = refl

module _ (options : Options) (live : Bool) (held : HeldLocks) (rest : AtRest) (counts : AreCounts held.chains) where
  pub own_chains : chain_locks (own_with options live held rest) ≡ sum (values_of held.chains)
  own_chains = sum_counted held.chains counts.in_order

  pub own_has : has_chains (own_with options live held rest) ≡ holds_chains held
  own_has = ap (λ n. nat_lt 0 n) own_chains

  pub own_count : (chain : ℕ) → count_at (own_with options live held rest) (168 + 4 * chain) ≡ count_of held chain
  own_count chain = counted held.chains counts.in_order chain

  pub own_total : Law.held_count (own_with options live held rest) ≡ held_count held (is_some rest.shown)
  own_total = ap (λ n. n + all_count (all_of held.all) + (if is_some rest.shown then 1 else 0)) own_chains ∙ ap (λ n. sum (values_of held.chains) + n + (if is_some rest.shown then 1 else 0)) (same_all held.all)
