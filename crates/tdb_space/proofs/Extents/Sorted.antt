-- Extents in the order of their offsets: where each ends before the next begins no byte is held twice, and where one
-- reaches into the next, a byte is.
use Rattle.std.proofs.Common.{◌≡◌, ℕ, ◌+◌, ◌<◌, ◌≤◌, List, [], ◌∷◌, ◌++◌, sum_by, refl, sym, ◌∙◌, ap, arith}
use Rattle.std.specs.List.Sorted.{IsPermutation}
use Rattle.std.proofs.lemmas.List.Sums.{sum_by-cons}
use Rattle.std.proofs.lemmas.List.Sorted.{sum_by-IsPermutation}
use Rattle.tdb_space.specs.Extents.{Extent, times, once}
use Rattle.tdb_space.proofs.Extents.Counts.{where_is, once_in, times-append}
use Rattle.tdb_space.proofs.Extents.Counts.Lies.{lies, below, above}

-- the count is a sum over the extents, so their order doesn't matter
times_sum : (es : List Extent) (i : ℕ) → times es i ≡ sum_by (λ e. once e i) es
times_sum [] i = refl
times_sum (e ∷ es) i = ap (λ n. once e i + n) (times_sum es i) ∙ sym (sum_by-cons (λ g. once g i) e es)

pub times_permuted : (es fs : List Extent) (i : ℕ) → IsPermutation es fs → times fs i ≡ times es i
times_permuted es fs i p = times_sum fs i ∙ sum_by-IsPermutation (λ e. once e i) es fs p ∙ sym (times_sum es i)

-- the first of these begins at an offset or behind it
abbrev pub BeginsFrom : ℕ → List Extent → Type 0
BeginsFrom n [] = Unit {0}
BeginsFrom n (e ∷ es) = n ≤ e.0

-- each of these ends where the next begins or before it
abbrev pub InOrder : List Extent → Type 0
InOrder [] = Unit {0}
InOrder (e ∷ es) = BeginsFrom (e.0 + e.1) es × InOrder es

-- no byte is held below where they begin
in_order_below : (n : ℕ) (es : List Extent) (i : ℕ) → BeginsFrom n es → InOrder es → i < n → times es i ≡ 0
in_order_below n [] i begins ordered low = refl
in_order_below n (e ∷ es) i begins ordered low =
    elim (where_is e i) [
      | lies high _ _ ↦ absurd (omega (arith, high, begins, low))
      | below under none ↦ omega (arith, none, in_order_below (e.0 + e.1) es i ordered.0 ordered.1 (omega (arith, under)))
      | above over none ↦ absurd (omega (arith, over, begins, low))
    ]

-- none twice
pub in_order_once : (es : List Extent) (i : ℕ) → InOrder es → times es i ≤ 1
in_order_once [] i ordered = omega arith
in_order_once (e ∷ es) i ordered =
    elim (where_is e i) [
      | lies high low one ↦ omega (arith, one, in_order_below (e.0 + e.1) es i ordered.0 ordered.1 low)
      | below _ none ↦ omega (arith, none, in_order_once es i ordered.1)
      | above _ none ↦ omega (arith, none, in_order_once es i ordered.1)
    ]

-- an extent that reaches into the next holds its first byte too
pub overlap_found : (es : List Extent) (e g : Extent) (fs : List Extent) → e.0 ≤ g.0 → g.0 < e.0 + e.1 → 0 < g.1 → 2 ≤ times (es ++ e ∷ g ∷ fs) g.0
overlap_found es e g fs from to some = omega (arith, times-append es (e ∷ g ∷ fs) g.0, once_in e g.0 from to, once_in g g.0 (omega arith) (omega arith))
