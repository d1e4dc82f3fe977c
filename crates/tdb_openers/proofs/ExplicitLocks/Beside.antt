-- What an opener keeps beside a command, at the bytes of a lock of its row.
use Rattle.std.proofs.Common.{◌≡◌, ℕ, ◌+◌, ◌*◌, ◌<◌, ◌≤◌, max, Bool, true, false, Option, Some, None, is_some, nat_lt, sum, unwrap_or, refl, ◌∙◌, ap, inl, inr, arith, zero-le}
use Rattle.std.specs.Prelude.{◌&&◌, ◌||◌, if◌then◌else◌}
use Rattle.std.specs.Map.{values_of}
use Rattle.std.specs.BTreeMap.{is_at}
use Rattle.std.specs.Ordering.{nat_cmp}
use Rattle.std.proofs.lemmas.Bool.{ltb-true, false_from_ne_true}
use Rattle.std.proofs.lemmas.Bool.Decides.{nat_tests}
use Rattle.std.proofs.lemmas.Map.Steps.{lookup-le-sum}
use Rattle.tdb_space.specs.Form.{Form, data_start}
use Rattle.tdb_locks.specs.HeldLocks.{HeldLocks, AreCounts, count_of}
use Rattle.tdb_locks.specs.declared.kind.Kind.{Kind}
use Rattle.tdb_locks.specs.declared.kind.Kind.TheVariants.{Read, Write}
use Rattle.tdb_law.specs.Openers.{Own, count_at}
use Rattle.tdb_law.specs.Rows.{lock_all, all_end}
use Rattle.tdb_law.specs.Held.{covers, all_held, stand_held, kept}
use Rattle.tdb_law.specs.World.{HasFewChains}
use Rattle.tdb_law.proofs.Locks.{covers_within, within_covers}
use Rattle.tdb_law.proofs.Tests.{or_cases}
use Rattle.tdb_steps.specs.LockRows.{strength_of, covers_all}
use Rattle.tdb_steps.specs.Holdings.{KeptBeside}
use Rattle.tdb_steps.specs.declared.rows.Region.TheVariants.{Chain, FreeList, AllRecords}
use Rattle.tdb_commands.specs.declared.options.Options.{Options}
use Rattle.tdb_openers.specs.Openers.{AtRest, own_with, all_of}
use Rattle.tdb_openers.specs.Given.{holds_chains, reads_records}
use Rattle.tdb_openers.specs.Turning.{StandsWell, resting}
use Rattle.tdb_openers.proofs.Walks.Rests.{stand_most, stand_below, stand_nowhere}
use Rattle.tdb_commands.proofs.Counts.{no_chain, chain_or_none}
use Rattle.tdb_openers.proofs.ExplicitLocks.Owned.{own_count}
use Rattle.tdb_openers.proofs.ExplicitLocks.Keeping.{counts_keep, kept_is, counted_kept, none_keep, counts_most}

pub all_here : (k : Kind) (count b : ℕ) → 168 ≤ b → b < all_end → all_held (all_of (Some (k, count))) b ≡ strength_of k
all_here k count b low high = let over : covers (lock_all 0 (strength_of k)) b ≡ true = covers_within (lock_all 0 (strength_of k)) b low high in rw over (omega arith)

-- a lock of all records keeps nothing below them
pub all_below : (all : Option (Kind × ℕ)) (b : ℕ) → b < 168 → all_held (all_of all) b ≡ 0
all_below None b low = refl
all_below (Some all) b low = let bare : covers (lock_all 0 (strength_of all.0)) b ≡ false = false_from_ne_true (covers (lock_all 0 (strength_of all.0)) b) (λ e. let parts = within_covers (lock_all 0 (strength_of all.0)) b e in omega (arith, low, parts.0)) in rw bare refl

-- nor past the last lock byte
pub all_past : (all : Option (Kind × ℕ)) (b : ℕ) → all_end ≤ b → all_held (all_of all) b ≡ 0
all_past None b high = refl
all_past (Some all) b high = let bare : covers (lock_all 0 (strength_of all.0)) b ≡ false = false_from_ne_true (covers (lock_all 0 (strength_of all.0)) b) (λ e. let parts = within_covers (lock_all 0 (strength_of all.0)) b e in omega (arith, high, parts.1)) in rw bare refl

-- and no more than for writing
pub all_most : (all : Option (Kind × ℕ)) (b : ℕ) → all_held (all_of all) b ≤ 2
all_most None b = zero-le
all_most (Some all) b = at (covers (lock_all 0 (strength_of all.0)) b)
  where
    strong : (k : Kind) → strength_of k ≤ 2
    strong Read = omega arith
    strong Write = omega arith

    at : (t : Bool) → max (if t then strength_of all.0 else 0) 0 ≤ 2
    at true = let s = strong all.0 in omega (arith, s)
    at false = omega arith

-- a lock of all records that covers a kind keeps that much
all_covers : (all : Option (Kind × ℕ)) (kind : Kind) (b : ℕ) → covers_all all kind ≡ true → 168 ≤ b → b < all_end → strength_of kind ≤ all_held (all_of all) b
all_covers None kind b e low high = absurd (cc e)
all_covers (Some (Write, count)) Read b e low high = let s = all_here Write count b low high in omega (arith, s)
all_covers (Some (Write, count)) Write b e low high = let s = all_here Write count b low high in omega (arith, s)
all_covers (Some (Read, count)) Read b e low high = let s = all_here Read count b low high in omega (arith, s)
all_covers (Some (Read, count)) Write b e low high = absurd (cc e)

-- one that doesn't is none, where for writing it isn't one for reading
pub all_bare : (all : Option (Kind × ℕ)) (kind : Kind) → covers_all all kind ≡ false → (kind ≡ Write → reads_records all ≡ false) → all ≡ None
all_bare None kind e apart = refl
all_bare (Some (Write, count)) kind e apart = absurd (cc e)
all_bare (Some (Read, count)) Read e apart = absurd (cc e)
all_bare (Some (Read, count)) Write e apart = absurd (let never = apart refl in cc never)

nothing : (all : Option (Kind × ℕ)) (b : ℕ) → all ≡ None → all_held (all_of all) b ≡ 0
nothing all b e = ap (λ o. all_held (all_of o) b) e

pub not_first : (a b : Bool) → a || b ≡ false → a ≡ false
not_first true b e = e
not_first false b e = refl

pub not_second : (a b : Bool) → a || b ≡ false → b ≡ false
not_second true b e = absurd (cc e)
not_second false b e = e

zero_of : (n : ℕ) → nat_lt 0 n ≡ false → n ≡ 0
zero_of n e = grind (arith, nat_tests)

-- who holds no chain has no count
pub no_counts : (held : HeldLocks) → holds_chains held ≡ false → (chain : ℕ) → count_of held chain ≡ 0
no_counts held none chain = let less = lookup-le-sum (is_at (nat_cmp chain)) held.chains in let total = zero_of (sum (values_of held.chains)) none in omega (arith, less, total)

module _ (f : Form) (few : HasFewChains f) (options : Options) (live : Bool) (held : HeldLocks) (rest : AtRest) (counts : AreCounts held.chains) (K : StandsWell f rest.shown rest.stands) where
  abbrev pub own : Own
  own = own_with options live held rest

  -- who holds no chain has no count at any byte
  pub no_counts_at : holds_chains held ≡ false → (b : ℕ) → count_at own b ≡ 0
  no_counts_at none b = elim (chain_or_none b) [
    | inl w ↦ ap (count_at own) w.1 ∙ own_count options live held rest counts w.0 ∙ no_counts held none w.0
    | inr other ↦ ap (λ o. unwrap_or o 0) (no_chain held.chains b other)
  ]

  bare_byte : (b : ℕ) → count_at own b ≡ 0 → all_held (all_of held.all) b ≡ 0 → stand_held rest.stands b ≡ 0 → kept f own (resting rest) b ≡ 0
  bare_byte b none zero_all off = let whole = kept_is f own (resting rest) refl b in let bare = ap (λ n. counts_keep f n b) none ∙ none_keep f b in omega (arith, whole, bare, zero_all, off)

  all_kept : (b : ℕ) → all_held (all_of held.all) b ≤ kept f own (resting rest) b
  all_kept b = let whole = kept_is f own (resting rest) refl b in omega (arith, whole)

  -- nothing is kept more strongly than for writing
  pub kept_most : (b : ℕ) → kept f own (resting rest) b ≤ 2
  kept_most b = let whole = kept_is f own (resting rest) refl b in let c = counts_most (nat_lt b (data_start f) && nat_lt 0 (count_at own b)) in let a = all_most held.all b in let one = stand_most rest.stands b in omega (arith, whole, c, a, one)

  -- who holds no chain and has no cursor keeps what its lock of all records keeps
  pub all_alone : holds_chains held ≡ false → is_some rest.shown ≡ false → (b : ℕ) → kept f own (resting rest) b ≡ all_held (all_of held.all) b
  all_alone none without b =
      let whole = kept_is f own (resting rest) refl b in
      let bare = ap (λ n. counts_keep f n b) (no_counts_at none b) ∙ none_keep f b in
      let off = ap (λ o. stand_held o b) (stand_nowhere f rest.shown rest.stands K without) in
      omega (arith, whole, bare, off)

  -- a chain
  pub beside_chain : (turn chain : ℕ) (kind : Kind) → chain < f.chains → (kind ≡ Write → reads_records held.all ≡ false) → KeptBeside held (kept f own (resting rest)) (record { turn = turn; region = Chain chain; kind = kind })
  beside_chain turn chain kind there apart = record { covered = over; bare = bare }
    where
      at_chain : (b : ℕ) → 168 + 4 * chain ≤ b → b < 168 + 4 * chain + 1 → b ≡ 168 + 4 * chain
      at_chain b low high = omega arith

      strong : strength_of kind ≤ 2
      strong = elim kind as (λ k. strength_of k ≤ 2) [ Read ↦ omega arith | Write ↦ omega arith ]

      over : nat_lt 0 (count_of held chain) || covers_all held.all kind ≡ true → (b : ℕ) → 168 + 4 * chain ≤ b → b < 168 + 4 * chain + 1 → strength_of kind ≤ kept f own (resting rest) b
      over e b low high = elim (or_cases (nat_lt 0 (count_of held chain)) (covers_all held.all kind) e) [
        | inl some ↦
            let here : 0 < count_at own (168 + 4 * chain) = let n = own_count options live held rest counts chain in let m = ltb-true 0 (count_of held chain) some in omega (arith, n, m) in
            let two = counted_kept f own (resting rest) refl (168 + 4 * chain) (omega (arith, there)) here in
            let same : kept f own (resting rest) b ≡ kept f own (resting rest) (168 + 4 * chain) = ap (kept f own (resting rest)) (at_chain b low high) in
            omega (arith, two, same, strong)
        | inr all ↦
            let more = all_covers held.all kind b all (omega (arith, low)) (omega (arith, high, there, few.few)) in
            let least = all_kept b in
            omega (arith, more, least)
      ]

      bare : nat_lt 0 (count_of held chain) || covers_all held.all kind ≡ false → (b : ℕ) → 168 + 4 * chain ≤ b → b < 168 + 4 * chain + 1 → kept f own (resting rest) b ≡ 0
      bare e b low high =
          bare_byte b
          (ap (count_at own) (at_chain b low high) ∙ own_count options live held rest counts chain ∙ zero_of (count_of held chain) (not_first (nat_lt 0 (count_of held chain)) (covers_all held.all kind) e))
          (nothing held.all b (all_bare held.all kind (not_second (nat_lt 0 (count_of held chain)) (covers_all held.all kind) e) apart))
          (stand_below f rest.shown rest.stands b K (omega (arith, there, high)))

  -- the free list
  pub below_bare : (b : ℕ) → b < 168 → kept f own (resting rest) b ≡ 0
  below_bare b low = bare_byte b (ap (λ o. unwrap_or o 0) (no_chain held.chains b (λ c e. omega (arith, low, e)))) (all_below held.all b low) (stand_below f rest.shown rest.stands b K (omega (arith, low)))

  pub beside_free : (turn : ℕ) (kind : Kind) → KeptBeside held (kept f own (resting rest)) (record { turn = turn; region = FreeList; kind = kind })
  beside_free turn kind = record { covered = λ e. absurd (cc e); bare = λ e b low high. below_bare b (omega (arith, high)) }

  -- all records
  pub beside_all : (turn : ℕ) (kind : Kind) → (kind ≡ Write → reads_records held.all ≡ false) → (covers_all held.all kind ≡ false → (holds_chains held ≡ false) × (is_some rest.shown ≡ false))
      → KeptBeside held (kept f own (resting rest)) (record { turn = turn; region = AllRecords; kind = kind })
  beside_all turn kind apart alone = record {
    covered = λ e b low high. let more = all_covers held.all kind b e low high in let least = all_kept b in omega (arith, more, least);
    bare = λ e b low high. bare_byte b (no_counts_at (alone e).0 b) (nothing held.all b (all_bare held.all kind e apart)) (ap (λ o. stand_held o b) (stand_nowhere f rest.shown rest.stands K (alone e).1));
  }
