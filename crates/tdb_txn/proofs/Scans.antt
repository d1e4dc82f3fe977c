-- The runs that are found while the bytes are looked at one after the other.
use Rattle.std.proofs.Common.{◌≡◌, ◌∙◌, ℕ, zero, suc, ◌+◌, ◌-◌, ◌<◌, ◌≤◌, ◌⊎◌, List, [], ◌∷◌, ◌++◌, refl, ap, subst, inl, inr, arith, add-zero}
use Rattle.std.proofs.lemmas.Bool.{cases_lt}
use Rattle.tdb_space.specs.Extents.{Extent, once, times}
use Rattle.tdb_space.specs.Runs.{Near, InOrder, IsRuns}
use Rattle.tdb_space.proofs.Extents.Counts.{times-append, once_in, once_lies}
use Rattle.tdb_txn.specs.EndBelow.{EndBelow}
use Rattle.tdb_txn.specs.Found.{Scanned}

-- a place that counts is near itself
near_self : (C : ℕ → Type 0) (i : ℕ) → C i → Near C i
near_self C i here = record { first = i; last = i; from = omega arith; to = omega arith; close = omega arith; changed_first = here; changed_last = here }

-- the place before the next one
before_next : (n : ℕ) → n ≡ n + 1 - 1
before_next n = omega arith

-- nothing was looked at
pub scan_start : (C : ℕ → Type 0) → Scanned C [] 0 0 0
scan_start C = record {
  order = tt;
  ends = omega arith;
  below = omega arith;
  before = λ i held. absurd (omega (arith, held));
  last = λ some. absurd (omega (arith, some));
  near = λ i held. absurd (omega (arith, held));
  near_open = λ i from to. absurd (omega (arith, to));
  all = λ i near low. absurd (omega (arith, low));
  none = λ same. refl;
}

-- no byte up to another place counts
pub scan_skip : (C : ℕ → Type 0) (done : List Extent) (from to n m : ℕ) → n ≤ m → ((i : ℕ) → n ≤ i → i < m → C i → ⊥) → Scanned C done from to n → Scanned C done from to m
scan_skip C done from to n m up none s = record {
  order = s.order;
  ends = s.ends;
  below = omega (arith, s.below, up);
  before = s.before;
  last = s.last;
  near = s.near;
  near_open = s.near_open;
  all = λ i near low. elim (cases_lt near.last n) [ inl under ↦ s.all i near under | inr over ↦ absurd (none near.last over low near.changed_last) ];
  none = s.none;
}

-- before the place at which a scan stands, each byte that counts is in what was found
found_low : (C : ℕ → Type 0) (done : List Extent) (from to n i : ℕ) → Scanned C done from to n → C i → i < n → (1 ≤ times done i) ⊎ ((from ≤ i) × (i < to))
found_low C done from to n i s here low = s.all i (record { first = i; last = i; from = omega arith; to = omega arith; close = omega arith; changed_first = here; changed_last = here }) low

-- the first byte that counts
pub scan_first : (C : ℕ → Type 0) (done : List Extent) (from to n : ℕ) → from ≡ to → C n → Scanned C done from to n → Scanned C done n (n + 1) (n + 1)
scan_first C done from to n same here s =
    let empty : done ≡ [] = s.none same in
    let held_not : (i : ℕ) → times done i ≡ 0 = λ i. ap (λ es. times es i) empty in
    record {
      order = s.order;
      ends = omega arith;
      below = omega arith;
      before = λ i held. absurd (omega (arith, held, held_not i));
      last = λ some. (here, subst C (before_next n) here);
      near = s.near;
      near_open = λ i low high. (let same : n ≡ i = omega (arith, low, high) in subst (Near C) same (near_self C n here));
      all = λ i near low. (let first : n ≤ near.first = (elim (cases_lt near.first n) [
        | inl under ↦ elim (found_low C done from to n near.first s near.changed_first under) [
          | inl held ↦ absurd (omega (arith, held, held_not near.first))
          | inr within ↦ absurd (omega (arith, within.0, within.1, same))
        ]
        | inr over ↦ over
      ]) in inr (omega (arith, first, near.from), omega (arith, low, near.to)));
      none = λ equal. empty;
    }

-- a byte that counts near the run that may go on
pub scan_more : (C : ℕ → Type 0) (done : List Extent) (from to n : ℕ) → from < to → n ≤ to + 8 → C n → Scanned C done from to n → Scanned C done from (n + 1) (n + 1)
scan_more C done from to n some close here s = record {
  order = s.order;
  ends = omega (arith, some, s.below);
  below = omega arith;
  before = s.before;
  last = λ more. ((s.last some).0, subst C (before_next n) here);
  near = s.near;
  near_open = λ i low high. elim (cases_lt i to) [
    | inl under ↦ s.near_open i low under
    | inr over ↦ record {
      first = to - 1;
      last = n;
      from = omega (arith, over);
      to = omega (arith, high);
      close = omega (arith, close, some);
      changed_first = (s.last some).1;
      changed_last = here;
    }
  ];
  all = λ i near low. elim (cases_lt near.last n) [
    | inl under ↦ elim (s.all i near under) [ inl held ↦ inl held | inr within ↦ inr (within.0, omega (arith, within.1, s.below)) ]
    | inr over ↦ elim (cases_lt i from) [
      | inl before ↦ elim (found_low C done from to n near.first s near.changed_first (omega (arith, near.from, before, some, s.below))) [
        | inl held ↦ absurd (omega (arith, s.before near.first held, over, near.close, some, s.below))
        | inr within ↦ absurd (omega (arith, within.0, near.from, before))
      ]
      | inr behind ↦ inr (behind, omega (arith, near.to, low))
    ]
  ];
  none = λ equal. absurd (omega (arith, equal, some, s.below));
}

-- extents in order, and one more behind them
order_more : (at from n : ℕ) (es : List Extent) → at ≤ from → 1 ≤ n → InOrder at es → ((i : ℕ) → 1 ≤ times es i → i + 10 ≤ from) → InOrder at (es ++ (from, n) ∷ [])
order_more at from n [] low some order before = (low, some, tt)
order_more at from n (e ∷ es) low some order before =
    let last : once e (e.0 + e.1 - 1) ≡ 1 = once_in e (e.0 + e.1 - 1) (omega (arith, order.1)) (omega (arith, order.1)) in
    let end : e.0 + e.1 - 1 + 10 ≤ from = before (e.0 + e.1 - 1) (omega (arith, last)) in
    (order.0, order.1, order_more (e.0 + e.1 + 1) from n es (omega (arith, end)) some order.2 (λ i held. before i (omega (arith, held))))

-- one extent more holds its bytes
times_end : (es : List Extent) (from to i : ℕ) → from ≤ to → times (es ++ (from, to - from) ∷ []) i ≡ times es i + once (from, to - from) i
times_end es from to i up = times-append es ((from, to - from) ∷ []) i ∙ ap (λ n. times es i + n) (add-zero (once (from, to - from) i))

in_open : (from to i : ℕ) → from ≤ to → 1 ≤ once (from, to - from) i → (from ≤ i) × (i < to)
in_open from to i up held = (let lies = once_lies (from, to - from) i held in (lies.0, omega (arith, lies.1, up)))

open_in : (from to i : ℕ) → from ≤ i → i < to → once (from, to - from) i ≡ 1
open_in from to i low high = once_in (from, to - from) i low (omega (arith, low, high))

-- the runs with the one that may go on
closed_order : (C : ℕ → Type 0) (done : List Extent) (from to n : ℕ) → from < to → Scanned C done from to n → InOrder 0 (done ++ (from, to - from) ∷ [])
closed_order C done from to n some s = order_more 0 from (to - from) done (omega arith) (omega (arith, some)) s.order s.before

closed_in : (C : ℕ → Type 0) (done : List Extent) (from to n i : ℕ) → Scanned C done from to n → 1 ≤ times (done ++ (from, to - from) ∷ []) i
    → (1 ≤ times done i) ⊎ ((from ≤ i) × (i < to))
closed_in C done from to n i s held = elim (cases_lt 0 (times done i)) [
  | inl done_held ↦ inl done_held
  | inr free ↦ inr (in_open from to i s.ends (omega (arith, held, free, times_end done from to i s.ends)))
]

in_closed : (C : ℕ → Type 0) (done : List Extent) (from to n i : ℕ) → Scanned C done from to n → (1 ≤ times done i) ⊎ ((from ≤ i) × (i < to))
    → 1 ≤ times (done ++ (from, to - from) ∷ []) i
in_closed C done from to n i s held = elim held [
  | inl done_held ↦ omega (arith, done_held, times_end done from to i s.ends)
  | inr within ↦ omega (arith, open_in from to i within.0 within.1, times_end done from to i s.ends)
]

closed_near : (C : ℕ → Type 0) (done : List Extent) (from to n i : ℕ) → Scanned C done from to n → 1 ≤ times (done ++ (from, to - from) ∷ []) i → Near C i
closed_near C done from to n i s held = elim (closed_in C done from to n i s held) [ inl done_held ↦ s.near i done_held | inr within ↦ s.near_open i within.0 within.1 ]

-- a byte that counts too far behind the run that might have gone on
pub scan_next : (C : ℕ → Type 0) (done : List Extent) (from to n : ℕ) → from < to → to + 9 ≤ n → C n → Scanned C done from to n
    → Scanned C (done ++ (from, to - from) ∷ []) n (n + 1) (n + 1)
scan_next C done from to n some far here s = record {
  order = closed_order C done from to n some s;
  ends = omega arith;
  below = omega arith;
  before = λ i held. elim (closed_in C done from to n i s held) [
    | inl done_held ↦ omega (arith, s.before i done_held, some, far)
    | inr within ↦ omega (arith, within.1, far)
  ];
  last = λ more. (here, subst C (before_next n) here);
  near = λ i held. closed_near C done from to n i s held;
  near_open = λ i low high. (let same : n ≡ i = omega (arith, low, high) in subst (Near C) same (near_self C n here));
  all = λ i near low. elim (cases_lt near.last n) [
    | inl under ↦ inl (in_closed C done from to n i s (s.all i near under))
    | inr over ↦ elim (cases_lt i n) [
      | inl before ↦ elim (found_low C done from to n near.first s near.changed_first (omega (arith, near.from, before))) [
        | inl held ↦ absurd (omega (arith, s.before near.first held, over, near.close, some, far))
        | inr within ↦ absurd (omega (arith, within.1, over, near.close, far))
      ]
      | inr behind ↦ inr (behind, omega (arith, near.to, low))
    ]
  ];
  none = λ equal. absurd (omega (arith, equal));
}

-- all that counts was looked at, and a run may be left
pub scan_end : (C : ℕ → Type 0) (done : List Extent) (from to n : ℕ) → from < to → ((i : ℕ) → C i → i < n) → Scanned C done from to n
    → IsRuns C (done ++ (from, to - from) ∷ [])
scan_end C done from to n some low s = record {
  in_order = closed_order C done from to n some s;
  near = λ i held. closed_near C done from to n i s held;
  all = λ i near. in_closed C done from to n i s (s.all i near (low near.last near.changed_last));
}

-- or nothing was found
pub scan_none : (C : ℕ → Type 0) (done : List Extent) (from to n : ℕ) → to ≤ from → ((i : ℕ) → C i → i < n) → Scanned C done from to n → IsRuns C done
scan_none C done from to n none low s = record {
  in_order = s.order;
  near = s.near;
  all = λ i near. elim (s.all i near (low near.last near.changed_last)) [ inl held ↦ held | inr within ↦ absurd (omega (arith, none, within.0, within.1)) ];
}

-- runs that end below a place, and one more
pub ends_more : (es : List Extent) (n m : ℕ) (e : Extent) → EndBelow n es → n ≤ m → e.0 + e.1 ≤ m → EndBelow m (es ++ e ∷ [])
ends_more [] n m e ends up here zero d low = here
ends_more [] n m e ends up here (suc k) d low = absurd (omega (arith, low))
ends_more (f ∷ fs) n m e ends up here zero d low = omega (arith, ends 0 d (omega arith), up)
ends_more (f ∷ fs) n m e ends up here (suc k) d low = ends_more fs n m e (λ j c lower. ends (suc j) c (omega (arith, lower))) up here k d (omega (arith, low))

-- the place may be a later one
pub ends_later : (es : List Extent) (n m : ℕ) → EndBelow n es → n ≤ m → EndBelow m es
ends_later es n m ends up k d low = omega (arith, ends k d low, up)
