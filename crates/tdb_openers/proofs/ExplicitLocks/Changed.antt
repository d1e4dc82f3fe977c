-- An opener after a count is raised or lowered, or all records are locked otherwise, in the law's words.
use Rattle.std.proofs.Common.{◌≡◌, ℕ, ◌+◌, ◌*◌, ◌-◌, ◌^◌, ◌<◌, ◌≤◌, Bool, true, false, Option, nat_le, refl, arith}
use Rattle.std.specs.Prelude.{if◌then◌else◌}
use Rattle.std.proofs.lemmas.Bool.Decides.{nat_tests}
use Rattle.std.specs.FinMap.{insert, remove}
use Rattle.tdb_locks.specs.HeldLocks.{HeldLocks, AreCounts, Raises, Lowers, SetsAll, count_of}
use Rattle.tdb_locks.specs.declared.kind.Kind.{Kind}
use Rattle.tdb_law.specs.Openers.{Own, Counts, count_at, count_more, count_less}
use Rattle.tdb_commands.specs.declared.options.Options.{Options}
use Rattle.tdb_openers.specs.Openers.{AtRest, own_with, all_of}
use Rattle.tdb_commands.proofs.Counts.{counts_put, counts_out, counts_same}
use Rattle.tdb_commands.specs.Counts.{counts_of}
use Rattle.tdb_openers.proofs.ExplicitLocks.Owned.{own_count}

module _ (options : Options) (live : Bool) (old new : HeldLocks) (rest : AtRest) (counts : AreCounts old.chains) (counts_after : AreCounts new.chains) where
  abbrev x : Own
  x = own_with options live old rest

  abbrev y : Own
  y = own_with options live new rest

  -- equal counts and an equal lock of all records are equal openers
  with_counts : (m : Counts) → counts_of new.chains ≡ m → new.all ≡ old.all → y ≡ record x { counts = m }
  with_counts m e same = λ i. record x { counts = e i; all = all_of (same i) }

  pub own_raised : (chain : ℕ) → Raises old new chain → count_of old chain < 2 ^ 32 - 1 → y ≡ count_more x (168 + 4 * chain)
  own_raised chain R room =
      let n : count_of new chain ≡ count_at x (168 + 4 * chain) + 1 = let a = own_count options live old rest counts chain in let r = R.raised in omega (arith, a, r, room) in
      with_counts _ (counts_put old.chains new.chains counts counts_after chain R.others (count_at x (168 + 4 * chain) + 1) (omega arith) n) R.all

  pub own_lowered : (chain : ℕ) → Lowers old new chain → y ≡ count_less x (168 + 4 * chain)
  own_lowered chain L = at (nat_le (count_at x (168 + 4 * chain)) 1) refl
    where
      a : count_at x (168 + 4 * chain) ≡ count_of old chain
      a = own_count options live old rest counts chain

      at : (t : Bool) → nat_le (count_at x (168 + 4 * chain)) 1 ≡ t → y ≡ record x { counts = if t then remove x.counts (168 + 4 * chain) else insert x.counts (168 + 4 * chain) (count_at x (168 + 4 * chain) - 1) }
      at true e =
          let low : count_at x (168 + 4 * chain) ≤ 1 = grind (arith, nat_tests) in
          let l = L.lowered in
          with_counts _ (counts_out old.chains new.chains counts counts_after chain L.others (omega (arith, l, a, low))) L.all
      at false e =
          let high : 1 < count_at x (168 + 4 * chain) = grind (arith, nat_tests) in
          let l = L.lowered in
          with_counts _ (counts_put old.chains new.chains counts counts_after chain L.others (count_at x (168 + 4 * chain) - 1) (omega (arith, high)) (omega (arith, l, a, high))) L.all

  pub own_same : ((chain : ℕ) → count_of new chain ≡ count_of old chain) → new.all ≡ old.all → y ≡ x
  own_same alike same = with_counts x.counts (counts_same old.chains new.chains counts counts_after alike) same

-- all records are held otherwise
pub own_set : (options : Options) (live : Bool) (old new : HeldLocks) (rest : AtRest) (all : Option (Kind × ℕ)) → SetsAll old new all → own_with options live new rest ≡ record (own_with options live old rest) { all = all_of all }
own_set options live old new rest all S = λ i. record (own_with options live old rest) { counts = counts_of (S.chains i); all = all_of (S.now i) }
