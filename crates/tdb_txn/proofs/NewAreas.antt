-- The content of runs in order is not much longer than the file that they lie in.
use Rattle.std.proofs.Common.{ℕ, ◌+◌, ◌-◌, ◌*◌, ◌≤◌, ◌<◌, ◌^◌, List, [], ◌∷◌, zero, suc, arith}
use Rattle.tdb_space.specs.Extents.{Extent, times}
use Rattle.tdb_space.specs.Planned.{content_length}
use Rattle.tdb_space.specs.Runs.{ChangedRuns, InOrder}
use Rattle.tdb_space.proofs.Extents.Counts.{once_in}
use Rattle.tdb_txn.specs.EndBelow.{EndBelow}

content_from : (from limit : ℕ) (es : List Extent) → from ≤ limit + 1 → InOrder from es → EndBelow limit es → content_length es + 9 * from ≤ 13 + 9 * limit
content_from from limit [] low order ends = omega (arith, low)
content_from from limit (e ∷ es) low order ends =
    let end : e.0 + e.1 ≤ limit = ends 0 e (omega arith) in
    let rest = content_from (e.0 + e.1 + 1) limit es (omega (arith, end)) order.2 (λ k d inside. ends (suc k) d (omega (arith, inside))) in
    omega (arith, rest, order.0, order.1)

pub content_short : (limit : ℕ) (es : List Extent) → limit < 2 ^ 32 → InOrder 0 es → EndBelow limit es → content_length es < 2 ^ 40
content_short limit es short order ends = omega (arith, content_from 0 limit es (omega arith) order ends, short)

-- extents that hold no byte from a length on end there or before
ends_low : (old from : ℕ) (es : List Extent) → InOrder from es → ((i : ℕ) → 1 ≤ times es i → i < old) → EndBelow old es
ends_low old from [] order low k d inside = absurd (omega (arith, inside))
ends_low old from (e ∷ es) order low zero d inside =
    let last = once_in e (e.0 + e.1 - 1) (omega (arith, order.1)) (omega (arith, order.1)) in
    let under = low (e.0 + e.1 - 1) (omega (arith, last)) in
    omega (arith, under, order.1)
ends_low old from (e ∷ es) order low (suc k) d inside = ends_low old (e.0 + e.1 + 1) es order.2 (λ i held. low i (omega (arith, held))) k d (omega (arith, inside))

-- so do the runs of the bytes that change below it
pub runs_end : (a b : List ℕ) (old : ℕ) (skip : Extent) (es : List Extent) → ChangedRuns a b old skip es → EndBelow old es
runs_end a b old skip es R = ends_low old 0 es R.in_order (λ i held. let near = R.near i held in omega (arith, near.to, near.changed_last.low))
